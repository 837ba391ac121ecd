-- The steps of the adaptive walk by the cells of the 26-line: a long step from one to the next where the byte is 0, else from number to number.
-- Assumes nothing.
use mathlib.Core.Path.{◌≡◌, refl, sym, ap, ap₂, ◌∙◌}
use mathlib.Core.Logic.{⊎_elim}
use mathlib.Core.Bool.{true, false, cond}
use mathlib.Core.List.{List}
use mathlib.Core.Option.{some}
use Prim.Native.Nat.{ℕ, zero, suc, ◌+◌, ◌≤◌, ◌<◌}
use native.Mathlib.Omega.{arith, both_ways}
use native.Mathlib.Nat.{eq-or-lt_of_le}
use native.Mathlib.Numerals.{add-one}
use Rattle.cells.specs.declared.Cell.{Cell}
use Rattle.cells.specs.declared.Counts.{Counts}
use Rattle.lines.specs.Preference.{Preference}
use Rattle.lines.specs.Lines.{differences, longest, six_cell, cell_26, number_26}
use Rattle.lines.proofs.Steps.{lt_or_ge}
use Rattle.lines.proofs.Centres.{grows_26}
use Rattle.lines.proofs.Cells.{six_different, six_at_26}
use Rattle.grids.specs.Grid.{byte_of, clear}
use Rattle.walks.specs.Walks.{number_of, count_26}
use Rattle.walks.proofs.Find.{found}
use Rattle.walks.specs.Numbers.{last_number, go_by, go}
use Rattle.walks.proofs.Numbers.{Way, face, long, way}

module _ (p q : Cell) where
  -- a later cell of the 26-line has a greater number
  pub rises_26 : (i j : ℕ) → i < j → j ≤ longest (differences p q) → number_26 p q i < number_26 p q j
  rises_26 i zero lt le = absurd (omega arith)
  rises_26 i (suc j) lt le =
      let up : number_26 p q j < number_26 p q (suc j) = rw add-one at (grows_26 (differences p q) j (omega arith)) in
      ⊎_elim (λ e. rw e up) (λ k. omega (arith, rises_26 i j k (omega arith))) (eq-or-lt_of_le {n = i} {m = j} (omega arith))

  -- so its number tells the cell
  pub one_26 : (i j : ℕ) → i ≤ longest (differences p q) → j ≤ longest (differences p q) → number_26 p q i ≡ number_26 p q j → i ≡ j
  one_26 i j li lj e =
      ⊎_elim (λ k. absurd (omega (arith, rises_26 i j k lj)))
      (λ k. ⊎_elim (λ m. absurd (omega (arith, rises_26 j i m li))) (λ m. both_ways i j m k) (lt_or_ge j i))
      (lt_or_ge i j)

  -- a cell of the 26-line is found at its number
  pub found_at : (r : Preference) (m : ℕ) → m ≤ longest (differences p q) → number_of (cell_26 p q) (count_26 p q) (six_cell r p q (number_26 p q m)) ≡ some m
  found_at r m le =
      found (cell_26 p q) (count_26 p q) m (six_cell r p q (number_26 p q m))
      (λ i j a b e. one_26 i j (omega arith) (omega arith)
      (six_different r p q (number_26 p q i) (number_26 p q j)
      (sym (six_at_26 r p q i (omega arith)) ∙ e ∙ six_at_26 r p q j (omega arith))))
      (omega arith) (sym (six_at_26 r p q m le))

module _ (r : Preference) (n : Counts) (l : List ℕ) (p q : Cell) where
  -- from a clear cell of the 26-line, which is not the last, a long step
  pub go_long : (m : ℕ) → m < longest (differences p q) → clear (byte_of n l (six_cell r p q (number_26 p q m))) ≡ true →
      go r n l p q (number_26 p q m) ≡ number_26 p q (m + 1)
  go_long m lt h = ap₂ (λ b o. cond b (go_by r n l p q (number_26 p q m) o) (suc (number_26 p q m))) h (found_at p q r m (omega arith))

  -- from a cell that is not clear, one face
  pub go_face : (s : ℕ) → clear (byte_of n l (six_cell r p q s)) ≡ false → go r n l p q s ≡ suc s
  go_face s h = ap (λ b. cond b (go_by r n l p q s (number_of (cell_26 p q) (count_26 p q) (six_cell r p q s))) (suc s)) h

  -- and from a number between two cells of the 26-line
  pub go_between : (m s : ℕ) → m < longest (differences p q) → number_26 p q m < s → s < number_26 p q (m + 1) → s < last_number p q → go r n l p q s ≡ suc s
  go_between m s lt lo hi most = by (way r n l p q s most)
    where
      by : {t : ℕ} → Way r n l p q s t → t ≡ suc s
      by face = refl
      by (long k e h) =
          ⊎_elim
          (λ le. absurd (⊎_elim (λ same. omega (arith, h.number, ap (number_26 p q) same))
          (λ less. omega (arith, h.number, rises_26 p q k m less (omega arith))) (eq-or-lt_of_le {n = k} {m = m} (omega arith))))
          (λ ge. absurd (⊎_elim (λ same. omega (arith, h.number, ap (number_26 p q) same))
          (λ more. omega (arith, h.number, rises_26 p q (m + 1) k more (omega (arith, h.below)))) (eq-or-lt_of_le {n = m + 1} {m = k} (omega arith))))
          (lt_or_ge k (m + 1))
