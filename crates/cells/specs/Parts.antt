-- Where a returned part of a lent slice lies. Assumes nothing.
use Rattle.std.specs.Prelude.{ℕ, ◌+◌, ◌≡◌, List}
use Rattle.std.specs.Borrow.{Bor}

-- in the same memory, so many bytes further on
pub record StartsAt (start : ℕ) (whole part : Bor (List ℕ)) : Type 0 where
  pub block : part.ref_ptr.0 ≡ whole.ref_ptr.0
  pub offset : part.ref_ptr.1 ≡ whole.ref_ptr.1 + start
