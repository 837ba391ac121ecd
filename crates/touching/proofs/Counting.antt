-- Cells counted tie by tie, by the values alone. Assumes nothing.
use mathlib.Core.Path.{◌≡◌, refl, sym, ap, ◌∙◌, subst}
use mathlib.Core.List.{List}
use Prim.Native.Nat.{ℕ, ◌+◌, ◌≤◌, ◌<◌}
use native.Mathlib.Omega.{arith}
use lib.ListN.{length, length-append}
use Rattle.lines.specs.declared.Tie.{Tie}
use Rattle.lines.specs.declared.Tripod.{Tripod}
use Rattle.lines.specs.Steps.{Axis, X, Y, Z, Steps, at, total}
use Rattle.lines.specs.Preference.{y_z_x}
use Rattle.lines.specs.Decisions.{values, doubled, moved_values}
use Rattle.lines.specs.Touching.{tie_steps, next_tie, ways, Visit, visits_by, visits_from, visits}
use Rattle.lines.proofs.Steps.{bump, bump_within}
use Rattle.lines.proofs.Merge.{Within}
use Rattle.lines.proofs.Centres.{centres_good}
use Rattle.lines.proofs.Counted.{count_most}
use Rattle.lines.proofs.Signs.{step_moves}
use Rattle.lines.proofs.Ways.{at_even}
use Rattle.tripod.specs.Tripod.{SmallTripod, NextTie}
use Rattle.tripod.proofs.Laws.{place_small, doubled_small}
use Rattle.touching.specs.declared.list.Past.{Past}
use Rattle.touching.specs.Passing.{CanTie, tie_size}
use Rattle.touching.specs.Listing.{course_of, CanCount, Counted}
use Rattle.touching.proofs.Group.{tie_counts, tie_steps_from, can_map}
use Rattle.touching.proofs.Passage.{AtTie, at_start, at_next, at_end}

module _ (D : Steps) where
  -- the values of a place
  abbrev pub ValuesAt : Steps → Tripod → Type 0
  ValuesAt t e = Within D t × (e ≡ values D t)

  pub values_step : (t : Steps) (e : Tripod) (n : Axis) → ValuesAt t e → t n < D n → ValuesAt (bump t n) (moved_values (doubled D) n e)
  values_step t e n h lt = (bump_within D t n lt h.0, ap (moved_values (doubled D) n) h.1 ∙ sym (step_moves D t n))

  -- so many cells counted, and the others still to come
  abbrev pub Left : ℕ → List Visit → Type 0
  Left count rest = count + length rest ≡ length (visits (course_of D))

  abbrev pub Counting : Tripod → ℕ → ℕ → Type 0
  Counting e m count = AtTie D ValuesAt (moved_values (doubled D)) values_step (Left count) e m

  pub counting_start : Counting (values D (at 0 0 0)) 0 1
  unfolding visits
  counting_start = at_start D ValuesAt (moved_values (doubled D)) values_step (Left 1) _ (none, refl) (omega arith)
    where
      none : (a : Axis) → at 0 0 0 a ≤ D a
      none a = omega (arith, at_even 0 a)

  -- how many cells and faces there can be
  pub left_most : (count : ℕ) (rest : List Visit) → Left count rest → ((a : Axis) → D a ≤ 16383) → count ≤ 114682
  left_most count rest h short = omega (arith, h, count_most (course_of D) (centres_good y_z_x D), short X, short Y, short Z)

  module _ (e : Tripod) (m count : ℕ) (h : Counting e m count) where
    pub faces_most : m ≤ total D
    faces_most = omega (arith, h.made, h.full.within X, h.full.within Y, h.full.within Z)

    pub cells_most : ((a : Axis) → D a ≤ 16383) → count ≤ 114682
    cells_most = left_most count (visits_from (course_of D) h.ties h.t) h.rest

    module _ (lt : m < total D) where
      less : total h.t < total D
      less = omega (arith, h.made)

      -- the tie that is found is the one that comes next
      found : (tie : Tie) → NextTie e tie → tie ≡ next_tie (course_of D) h.t
      found tie next = next.comes_first D h.t h.full.within less h.belongs.1

      pub counting_can : ((a : Axis) → D a ≤ 16383) → CanCount (doubled D) e
      counting_can short =
          record {
            small = doubled_small D short;
            fits = λ tie next.
                subst (λ u. CanTie SmallTripod (moved_values (doubled D)) u e) (sym (found tie next))
                (can_map (moved_values (doubled D)) (λ u b. subst SmallTripod (sym b.1.1) (place_small D b.0 short b.1.0))
                (next_tie (course_of D) h.t) e
                (tie_steps_from D ValuesAt (moved_values (doubled D)) values_step (course_of D) (centres_good y_z_x D) refl h.t e h.belongs
                h.full.within less));
          }

      pub counting_next : (r : Past Tripod) → Counted (doubled D) e r → Counting r.behind (m + r.faces) (count + r.cells)
      counting_next r c =
          let is = found c.tie c.next in
          let size : length (visits_by h.t (tie_steps (course_of D) h.t) ways) ≡ r.cells =
          (tie_counts (course_of D) (centres_good y_z_x D) h.t h.full.within less).0 ∙ ap tie_size (sym is) ∙ sym c.cells in
          rw (c.values, c.faces)
          (at_next D ValuesAt (moved_values (doubled D)) values_step (Left count) (Left (count + r.cells)) e m h lt c.tie is
          (λ more k. omega (arith, k, length-append (visits_by h.t (tie_steps (course_of D) h.t) ways) more)))

    pub counting_end : total D ≤ m → count ≡ length (visits (course_of D))
    counting_end le = omega (arith, at_end D ValuesAt (moved_values (doubled D)) values_step (Left count) e m h le)
