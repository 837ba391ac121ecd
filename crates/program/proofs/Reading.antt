-- What is read for a frame, the four bytes of the length and then what it announces, is its own frame. Assumes nothing.
use mathlib.Core.Path.{◌≡◌, sym, ap, ◌∙◌}
use mathlib.Core.Bool.{false}
use mathlib.Core.List.{List, ◌++◌}
use Prim.Native.Nat.{ℕ, ◌+◌, ◌≤◌}
use native.Mathlib.Omega.{arith}
use lib.Dec.{ltb}
use lib.ListN.{length, take, length-append, length-take}
use lib.Seq.{take_all}
use Rattle.std.specs.Counts.{IsPrefixLen}
use Rattle.records.specs.Heads.{length_field, announced}
use Rattle.records.proofs.Following.{same_announced}
use Rattle.program.specs.Program.{beyond, frame_length, frame}
use Rattle.program.proofs.Frames.{beyond_is, front_announces}

-- so many bytes are there
pub counted : (r : ℕ) (l : List ℕ) → r ≤ length l → IsPrefixLen r l
counted r l h = (h, simp length-take (omega arith))

-- what is no longer than its frame
own_frame : (most : ℕ) (w : List ℕ) → length w ≤ frame_length most w → frame most w ≡ w
own_frame most w h = take_all (frame_length most w) w h

-- at most the four bytes
pub short_frame : (most r : ℕ) (l : List ℕ) → r ≤ length_field → frame most (take r l) ≡ take r l
unfolding frame_length
short_frame most r l h = let long = length-take r l in own_frame most (take r l) (omega arith)

module _ (most : ℕ) (b z rest l : List ℕ) (m : ℕ) (four : length_field ≤ length b) (within : beyond most (take length_field b) ≡ false)
    (some : m ≤ length z) (all : length z ≤ announced b) (is : l ≡ take length_field b ++ (z ++ rest)) where
  long : length l ≡ length_field + length (z ++ rest)
  long = ap length is ∙ length-append (take length_field b) (z ++ rest) ∙ ap (λ i. i + length (z ++ rest)) (simp length-take (omega arith))

  -- four bytes, and so many of those that they announce
  pub full_counted : IsPrefixLen (length_field + m) l
  full_counted = counted (length_field + m) l (omega (arith, long, length-append z rest))

  front : length_field ≤ length (take length_field b)
  front = simp length-take (omega arith)

  announces : announced (take (length_field + m) l) ≡ announced (take length_field b)
  announces =
      front_announces (length_field + m) l (omega arith) (omega (arith, long)) ∙ ap announced is ∙ same_announced (take length_field b) (z ++ rest) front

  pub full_frame : frame most (take (length_field + m) l) ≡ take (length_field + m) l
  unfolding frame_length
  full_frame =
      let there : length_field ≤ length (take (length_field + m) l) = omega (arith, full_counted.1) in
      let short : beyond most (take (length_field + m) l) ≡ false =
      beyond_is most (take (length_field + m) l) there ∙ ap (ltb most) announces ∙ sym (beyond_is most (take length_field b) front) ∙ within in
      let same : announced (take (length_field + m) l) ≡ announced b = announces ∙ front_announces length_field b (omega arith) four in
      own_frame most (take (length_field + m) l) (rw short (omega (arith, full_counted.1)))
