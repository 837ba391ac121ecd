-- Laws of pieces in a lent slice: one after another, they are one piece. Assumes nothing.
use mathlib.Core.Path.{◌≡◌, sym, ap, ap₂, ◌∙◌}
use mathlib.Core.List.{List, [], ◌∷◌, ◌++◌, append_assoc}
use Prim.Native.Nat.{ℕ, ◌+◌, ◌-◌, ◌≤◌, ◌<◌}
use native.Mathlib.Numerals.{add-one}
use native.Mathlib.Nat.{zero-add}
use native.Mathlib.Omega.{arith}
use lib.ListN.{length, set, take, drop, length-append, length-take}
use lib.Seq.{set_split, take_at, drop-drop, drop-append-add}
use borrow.Rule.Slice.PartMut.{put_mid}
use Rattle.buffers.specs.Over.{over}

-- at the front
pub over_front : (p s : List ℕ) → over 0 p s ≡ p ++ drop (length p) s
unfolding over
over_front p s = ap (λ k. p ++ drop k s) (zero-add (length p))

-- a store is a piece of one byte
pub set_over : (s : List ℕ) (at b : ℕ) → at < length s → set s at b ≡ over at (b ∷ []) s
unfolding over
set_over s at b h = set_split s at b h ∙ ap (λ k. take at s ++ b ∷ drop k s) (sym (add-one at))

-- a part lent from at on and filled from its front
pub lent_over : (s p : List ℕ) (at : ℕ) (m : List ℕ) → m ≡ p → put_mid at (at + length p - at) s m ≡ over at p s
unfolding over
lent_over s p at m e =
    let long : at + length p - at ≡ length p = omega arith in
    ap₂ (λ x n. take at s ++ (x ++ drop n (drop at s))) e long ∙ ap (λ x. take at s ++ (p ++ x)) (drop-drop (length p) at s)

module _ (at : ℕ) (p s : List ℕ) (fits : at + length p ≤ length s) where
  front_length : length (take at s ++ p) ≡ at + length p
  front_length = simp (length-append, length-take) (omega arith)

  front_is : over at p s ≡ (take at s ++ p) ++ drop (at + length p) s
  unfolding over
  front_is = sym (append_assoc (take at s) p (drop (at + length p) s))

  -- a piece right behind another
  pub over_over : (b : ℕ) (q : List ℕ) → b ≡ at + length p → over b q (over at p s) ≡ over at (p ++ q) s
  unfolding over
  over_over b q e =
      let F = take at s ++ p in
      let D = drop (at + length p) s in
      let all : at + length p + length q ≡ at + length (p ++ q) = omega (arith, length-append p q) in
      let past : drop (b + length q) (F ++ D) ≡ drop (at + length (p ++ q)) s =
      ap (λ k. drop (k + length q) (F ++ D)) (e ∙ sym front_length) ∙ drop-append-add F D (length q) ∙ drop-drop (length q) (at + length p) s
      ∙ ap (λ k. drop k s) all in
      ap (λ l. take b l ++ (q ++ drop (b + length q) l)) front_is
      ∙ ap₂ (λ x y. x ++ (q ++ y)) (take_at F D b (front_length ∙ sym e)) past
      ∙ append_assoc (take at s) p (q ++ drop (at + length (p ++ q)) s)
      ∙ ap (λ l. take at s ++ l) (sym (append_assoc p q (drop (at + length (p ++ q)) s)))

-- two stores, one right behind the other
pub then_over : (at : ℕ) (p q s : List ℕ) {b : ℕ} {m l : List ℕ} → at + length p ≤ length s → m ≡ over at p s → b ≡ at + length p
    → l ≡ over b q m → l ≡ over at (p ++ q) s
then_over at p q s {b} fits first e second = second ∙ ap (over b q) first ∙ over_over at p s fits b q e
