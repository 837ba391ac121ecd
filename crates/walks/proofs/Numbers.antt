-- The walks over the numbers of the 6-line's cells: the working form, equal to the definition by cells. Assumes nothing.
use mathlib.Core.Path.{◌≡◌, refl, sym, ap, ◌∙◌, subst}
use mathlib.Core.Logic.{◌≢◌}
use mathlib.Core.Bool.{Bool, true, false, cond, ◌||◌}
use mathlib.Core.List.{List, [], ◌∷◌}
use mathlib.Core.Option.{Option, none, some}
use Prim.Native.Nat.{ℕ, zero, suc, ◌+◌, ◌≤◌, ◌<◌}
use native.Mathlib.Omega.{arith}
use native.Mathlib.Numerals.{add-one}
use native.Mathlib.Decide.{dec_lt}
use lib.Dec.{eqb}
use lib.ListN.{length}
use borrow.Author.Tests.{eq-eqb, ne_eqb}
use Rattle.cells.specs.declared.Cell.{Cell}
use Rattle.cells.specs.declared.Counts.{Counts}
use Rattle.cells.specs.Tabulate.{tabulate}
use Rattle.cells.specs.Touching.{Touches}
use Rattle.cells.proofs.Tabulate.{tabulate_length, tabulate_first}
use Rattle.lines.specs.Steps.{X, Y, Z}
use Rattle.lines.specs.Preference.{Preference}
use Rattle.lines.specs.Lines.{differences, longest, six_cell, cell_26, number_26}
use Rattle.lines.proofs.Centres.{within_26, grows_26}
use Rattle.lines.proofs.Cells.{six_start, six_end, six_different, six_at_26, end_26, skipped_touches}
use Rattle.grids.specs.Grid.{byte_of, clear}
use Rattle.walks.specs.declared.Walker.{Walker}
use Rattle.walks.specs.declared.Walker.TheVariants.{Plain, Adaptive}
use Rattle.walks.specs.Walks.{Conduct, is_cell, number_of, six_count, count_26, after, long_or_plain, next_plain, next_adaptive, hit_at}
use Rattle.walks.specs.Walks.{walk, next_cell, walk_of}
use Rattle.walks.specs.Answers.{last_of}
use Rattle.walks.proofs.Find.{found, found_is, same_is_cell, other_is_not}
use Rattle.walks.specs.Numbers.{stop, ends, visits, stands, Rises, last_number, go_by, go, hits_at, step, end_of, reads_of}
use Rattle.walks.proofs.Runs.{not_stopped, by_one}

module _ (r : Preference) (p q : Cell) where
  abbrev f : ℕ → Cell
  f = six_cell r p q

  abbrev N : ℕ
  N = last_number p q

  -- a cell of the line is the one of its number alone
  is_numbered : (w : Cell) (m : ℕ) → f m ≡ w → (s : ℕ) → is_cell (f s) w ≡ eqb s m
  is_numbered w m is s =
      elim (dec_lt s m) [
        | yes lt ↦ differs (λ e. omega arith)
        | no ge ↦ elim (dec_lt m s) [ yes gt ↦ differs (λ e. omega arith) | no le ↦ same (omega arith) ]
      ]
    where
      differs : (s ≡ m → ⊥) → is_cell (f s) w ≡ eqb s m
      differs ne = other_is_not (f s) w (λ e. ne (six_different r p q s m (e ∙ sym is))) ∙ sym (ne_eqb s m ne)

      same : s ≡ m → is_cell (f s) w ≡ eqb s m
      same e = same_is_cell (f s) w (ap f e ∙ is) ∙ sym (eq-eqb s m e)

  -- P is the first and Q is the last
  pub is_p : (s : ℕ) → is_cell (f s) p ≡ eqb s 0
  is_p = is_numbered p 0 (six_start r p q)

  is_q : (s : ℕ) → is_cell (f s) q ≡ eqb s N
  is_q = is_numbered q N (six_end r p q)

  pub six_found : (s : ℕ) → s ≤ N → number_of f (six_count p q) (f s) ≡ some s
  six_found s le = found f (six_count p q) s (f s) (λ i j a b. six_different r p q i j) (omega arith) refl

  pub plain_next : (s : ℕ) → s < N → next_plain r p q (f s) ≡ f (suc s)
  unfolding next_plain
  plain_next s lt = ap (after f (f s)) (six_found s (omega arith)) ∙ ap f (add-one s)

  -- a cell of the 6-line that is found in the 26-line is not its last, and its number is known
  pub record Found26 (s m : ℕ) : Type 0 where
    pub below : m < longest (differences p q)
    pub number : s ≡ number_26 p q m
    pub cell : f s ≡ cell_26 p q m

  pub found_26 : (s m : ℕ) → s < N → number_of (cell_26 p q) (count_26 p q) (f s) ≡ some m → Found26 s m
  found_26 s m lt h =
      let (below, is) = found_is (cell_26 p q) (count_26 p q) (f s) m h in
      let le : m ≤ longest (differences p q) = omega arith in
      let e : s ≡ number_26 p q m = six_different r p q s (number_26 p q m) (is ∙ six_at_26 r p q m le) in
      let ne : m ≢ longest (differences p q) = λ k. omega
      (arith, six_different r p q s N (is ∙ ap (cell_26 p q) k ∙ end_26 p q ∙ sym (six_end r p q))) in
      record { below = omega arith; number = e; cell = is }

module _ (r : Preference) (n : Counts) (l : List ℕ) (p q : Cell) where
  -- the ways of a step: to the next number, or a long step
  pub data Way (s : ℕ) : ℕ → Type 0 where
    face : Way s (suc s)
    long : (m : ℕ) → clear (byte_of n l (six_cell r p q s)) ≡ true → Found26 r p q s m → Way s (number_26 p q (m + 1))

  pub way : (s : ℕ) → s < last_number p q → Way s (go r n l p q s)
  way s lt = by (clear (byte_of n l (six_cell r p q s))) refl (number_of (cell_26 p q) (count_26 p q) (six_cell r p q s)) refl
    where
      by :
          (t : Bool) → clear (byte_of n l (six_cell r p q s)) ≡ t → (o : Option ℕ) → number_of (cell_26 p q) (count_26 p q) (six_cell r p q s) ≡ o →
          Way s (cond t (go_by r n l p q s o) (suc s))
      by false e o h = face
      by true e none h = face
      by true e (some m) h = long m e (found_26 r p q s m lt h)

  pub go_rises : Rises (last_number p q) (go r n l p q)
  go_rises = record { up = λ s lt. up lt (way s lt); most = λ s lt. most lt (way s lt) }
    where
      up : {s t : ℕ} → s < last_number p q → Way s t → s < t
      up lt face = omega arith
      up lt (long m e h) = omega (arith, h.number, grows_26 (differences p q) m h.below)

      most : {s t : ℕ} → s < last_number p q → Way s t → t ≤ last_number p q
      most lt face = omega arith
      most lt (long m e h) =
          let w = within_26 (differences p q) (m + 1) (omega (arith, h.below)) in
          omega (arith, w X, w Y, w Z)

  -- what a step passes over shares a face or an edge with a clear cell that it left
  pub skipped : (s t : ℕ) → s < last_number p q → s < t → t < go r n l p q s →
      (clear (byte_of n l (six_cell r p q s)) ≡ true) × Touches 2 (six_cell r p q s) (six_cell r p q t)
  skipped s t lt lo hi = over (way s lt) lo hi
    where
      over : {u : ℕ} → Way s u → s < t → t < u →
          (clear (byte_of n l (six_cell r p q s)) ≡ true) × Touches 2 (six_cell r p q s) (six_cell r p q t)
      over face lo hi = absurd (omega arith)
      over (long m e h) lo hi = (e, rw h.cell (skipped_touches r p q m t h.below (omega (arith, h.number)) hi))

  pub adaptive_next : (s : ℕ) → s < last_number p q → next_adaptive r n l p q (six_cell r p q s) ≡ six_cell r p q (go r n l p q s)
  unfolding next_adaptive
  adaptive_next s lt = by (clear (byte_of n l (six_cell r p q s))) (number_of (cell_26 p q) (count_26 p q) (six_cell r p q s)) refl
    where
      by :
          (t : Bool) (o : Option ℕ) → number_of (cell_26 p q) (count_26 p q) (six_cell r p q s) ≡ o →
          cond t (long_or_plain r p q (six_cell r p q s) o) (next_plain r p q (six_cell r p q s)) ≡ six_cell r p q
          (cond t (go_by r n l p q s o) (suc s))
      by false o h = plain_next r p q s lt
      by true none h = plain_next r p q s lt
      by true (some m) h = six_at_26 r p q (m + 1) (omega (arith, (found_26 r p q s m lt h).below))

-- ---- a walk by cells is a walk by numbers

module _ (how : Conduct) (n : Counts) (l : List ℕ) (p q : Cell) (next : Cell → Cell) (g : ℕ → ℕ) (rises : Rises (last_number p q) g)
    (steps : (s : ℕ) → s < last_number p q → next (six_cell how.preference p q s) ≡ six_cell how.preference p q (g s)) where
  abbrev F : ℕ → Cell
  F = six_cell how.preference p q

  abbrev stops : ℕ → Bool
  stops s = stop (hits_at how n l p q) (last_number p q) s

  -- its cells, and its last cell
  pub record Followed (s fuel : ℕ) : Type 0 where
    pub cells : walk (hit_at how n l p) next q fuel (F s) ≡ tabulate (λ m. F (stands g s m)) (visits (hits_at how n l p q) (last_number p q) g fuel s)
    pub last : (c : Cell) → last_of c (walk (hit_at how n l p) next q fuel (F s)) ≡ F (ends (hits_at how n l p q) (last_number p q) g fuel s)

  pub followed : (fuel s : ℕ) → s ≤ last_number p q → last_number p q < s + fuel → Followed s fuel
  unfolding walk visits ends stands
  followed zero s le enough = absurd (omega arith)
  followed (suc fuel) s le enough =
      let e : (hit_at how n l p (F s) || is_cell (F s) q) ≡ stops s = ap (λ b. hits_at how n l p q s || b) (is_q how.preference p q s) in
      let r = turn (stops s) refl (λ lt. followed fuel (g s) (rises.most s lt) (omega (arith, rises.up s lt))) in
      record {
        cells = subst (λ t. F s ∷ cond t [] (walk (hit_at how n l p) next q fuel (next (F s))) ≡ tabulate (λ m. F (stands g s m)) (suc
            (cond (stops s) 0 (visits (hits_at how n l p q) (last_number p q) g fuel (g s))))) (sym e) r.0;
        last = λ c. subst (λ t. last_of (F s) (cond t [] (walk (hit_at how n l p) next q fuel (next (F s)))) ≡ F
            (cond (stops s) s (ends (hits_at how n l p q) (last_number p q) g fuel (g s)))) (sym e) r.1;
      }
    where
      turn :
          (u : Bool) → stops s ≡ u → (s < last_number p q → Followed (g s) fuel) →
          (F s ∷ cond u [] (walk (hit_at how n l p) next q fuel (next (F s))) ≡ tabulate (λ m. F (stands g s m)) (suc
          (cond u 0 (visits (hits_at how n l p q) (last_number p q) g fuel (g s))))) ×
          (last_of (F s) (cond u [] (walk (hit_at how n l p) next q fuel (next (F s)))) ≡ F
          (cond u s (ends (hits_at how n l p q) (last_number p q) g fuel (g s))))
      turn true h ih = (refl, refl)
      turn false h ih =
          let ne : s ≢ last_number p q = (not_stopped (hits_at how n l p q s) s (last_number p q) h).1 in
          let lt : s < last_number p q = omega arith in
          let r = ih lt in (
            ap (λ cells. F s ∷ cells) (ap (walk (hit_at how n l p) next q fuel) (steps s lt) ∙ r.cells) ∙ sym (tabulate_first (λ m. F (stands g s m)) (visits (hits_at how n l p q) (last_number p q) g fuel (g s))),
            ap (λ w. last_of (F s) (walk (hit_at how n l p) next q fuel w)) (steps s lt) ∙ r.last (F s),
          )

  -- the whole walk, from P on
  whole : Followed 0 (six_count p q)
  whole = followed (six_count p q) 0 (omega arith) (omega arith)

  pub whole_cells : walk (hit_at how n l p) next q (six_count p q) p ≡ tabulate (λ m. F (stands g 0 m))
      (visits (hits_at how n l p q) (last_number p q) g (six_count p q) 0)
  whole_cells = ap (walk (hit_at how n l p) next q (six_count p q)) (sym (six_start how.preference p q)) ∙ whole.cells

  pub whole_last : (c : Cell) → last_of c (walk (hit_at how n l p) next q (six_count p q) p) ≡ F
      (ends (hits_at how n l p q) (last_number p q) g (six_count p q) 0)
  whole_last c = ap (λ w. last_of c (walk (hit_at how n l p) next q (six_count p q) w)) (sym (six_start how.preference p q)) ∙ whole.last c

-- each walk goes by its own step from number to number: the number where it ends, and its reads
module _ (r : Preference) (n : Counts) (l : List ℕ) (p q : Cell) where
  pub step_rises : (k : Walker) → Rises (last_number p q) (step r n l p q k)
  step_rises Plain = by_one (last_number p q)
  step_rises Adaptive = go_rises r n l p q

  step_next : (k : Walker) (s : ℕ) → s < last_number p q → next_cell k r n l p q (six_cell r p q s) ≡ six_cell r p q (step r n l p q k s)
  step_next Plain = plain_next r p q
  step_next Adaptive = adaptive_next r n l p q

module _ (how : Conduct) (n : Counts) (l : List ℕ) (p q : Cell) where
  -- its cells are those of the numbers on which it stands
  pub walk_cells : (k : Walker) →
      walk_of k how n l p q ≡ tabulate (λ m. six_cell how.preference p q (stands (step how.preference n l p q k) 0 m)) (reads_of how n l p q k)
  unfolding walk_of
  walk_cells k = whole_cells how n l p q (next_cell k how.preference n l p q) (step how.preference n l p q k)
      (step_rises how.preference n l p q k) (step_next how.preference n l p q k)

  pub walk_length : (k : Walker) → length (walk_of k how n l p q) ≡ reads_of how n l p q k
  walk_length k = ap length (walk_cells k) ∙ tabulate_length _ (reads_of how n l p q k)

  pub walk_last : (k : Walker) (c : Cell) → last_of c (walk_of k how n l p q) ≡ six_cell how.preference p q (end_of how n l p q k)
  unfolding walk_of
  walk_last k = whole_last how n l p q (next_cell k how.preference n l p q) (step how.preference n l p q k)
      (step_rises how.preference n l p q k) (step_next how.preference n l p q k)
