-- Signed numbers small enough that the sum and the difference of two of them fit 32 bits. Assumes nothing.
use Rattle.std.specs.Prelude.{◌^◌, ◌<◌, ℤ}
use Rattle.std.specs.Int.Signed.{mag}

-- from -2^30 to 2^30 - 1
pub record Small (z : ℤ) : Type 0 where
  pub small : mag z < 2 ^ 30
