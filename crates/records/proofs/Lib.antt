pub mod HeadTests
pub mod Following
pub mod WriteTests
pub mod RoundTrip
pub mod Told
