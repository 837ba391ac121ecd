-- Big-endian numbers: read back from their bytes, and bytes from their numbers. Assumes nothing.
use mathlib.Core.Path.{◌≡◌, sym, ap, ap₂, ◌∙◌}
use mathlib.Core.List.{List, [], ◌∷◌, ◌++◌}
use Prim.Native.Nat.{ℕ, suc, ◌+◌, ◌*◌, ◌/◌, ◌%◌, ◌≤◌, ◌<◌}
use native.Mathlib.Numerals.{add-one}
use native.Mathlib.Omega.{arith}
use lib.ListN.{length, get_or, take, drop}
use lib.Seq.{drop-cons, take-add, drop-drop}
use Rattle.buffers.specs.Numbers.{two_at, four_at, two, four, AllBytes}

pub two_read : (v : ℕ) → v / 256 * 256 + v % 256 ≡ v
two_read v = omega arith

pub four_read : (v : ℕ) → (v / 65536 / 256 * 256 + v / 65536 % 256) * 65536 + (v % 65536 / 256 * 256 + v % 65536 % 256) ≡ v
four_read v = omega arith

module _ (s : List ℕ) (bytes : AllBytes s) where
  small : (i : ℕ) → two_at s i < 65536
  small i = omega (arith, bytes.byte i, bytes.byte (i + 1))

  -- two bytes are those of their number
  pub two_back : (i : ℕ) → i + 2 ≤ length s → take 2 (drop i s) ≡ two (two_at s i)
  two_back i h =
      let upper : get_or s i 0 ≡ two_at s i / 256 = omega (arith, bytes.byte (i + 1)) in
      let lower : get_or s (i + 1) 0 ≡ two_at s i % 256 = omega (arith, bytes.byte (i + 1)) in
      ap (take 2) (drop-cons s i 0 (omega arith) ∙ ap (λ l. get_or s i 0 ∷ l) (drop-cons s (suc i) 0 (omega arith)))
      ∙ ap (λ j. get_or s i 0 ∷ get_or s j 0 ∷ []) (sym (add-one i))
      ∙ ap₂ (λ a b. a ∷ b ∷ []) upper lower

  -- the bytes of two neighbouring parts
  pub joined : (i a b : ℕ) → take (a + b) (drop i s) ≡ take a (drop i s) ++ take b (drop (i + a) s)
  joined i a b = take-add a b (drop i s) ∙ ap (λ l. take a (drop i s) ++ take b l) (drop-drop a i s)

  pub four_back : (i : ℕ) → i + 4 ≤ length s → take 4 (drop i s) ≡ four (four_at s i)
  four_back i h =
      let upper : two_at s i ≡ four_at s i / 65536 = omega (arith, small (i + 2)) in
      let lower : two_at s (i + 2) ≡ four_at s i % 65536 = omega (arith, small (i + 2)) in
      joined i 2 2
      ∙ ap₂ (λ a b. a ++ b) (two_back i (omega arith) ∙ ap two upper) (two_back (i + 2) (omega arith) ∙ ap two lower)
