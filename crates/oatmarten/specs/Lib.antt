pub mod Flattening
pub mod LineCalls
pub mod GridCalls
pub mod WalkCalls
pub mod SightCalls
pub mod RecordCalls
pub mod BrickCalls
pub mod Revision
