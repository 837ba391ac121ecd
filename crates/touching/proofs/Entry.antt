-- The place of a hit: of the crossings last made on each axis, the last in the order x, z, y is the one on the first axis, in the order y, z, x, among the
-- steps of the tie that lead to the cell. Assumes nothing.
use mathlib.Core.Path.{◌≡◌, refl, sym, ap, ◌∙◌}
use mathlib.Core.Logic.{◌⊎◌, inl, inr}
use mathlib.Core.Bool.{Bool, true, false, cond}
use Prim.Native.Nat.{ℕ, ◌+◌, ◌-◌, ◌*◌, ◌≤◌, ◌<◌}
use native.Mathlib.Omega.{arith}
use lib.Dec.{ltb}
use borrow.Author.Tests.{ltb-false, ne_eqb}
use Rattle.cells.specs.declared.Cell.{Cell}
use Rattle.cells.specs.declared.Face.TheVariants as Face
use Rattle.lines.specs.declared.Order.TheVariants.{Xzy}
use Rattle.lines.specs.Steps.{Axis, X, Y, Z, Steps, total, same}
use Rattle.lines.specs.Crossings.{Course, LastMade}
use Rattle.lines.specs.Preference.{prefers, x_z_y_rank, y_z_x_rank, y_z_x}
use Rattle.lines.specs.Lines.{differences, face_along, centres}
use Rattle.lines.specs.Touching.{Visit, visited, first_axis, crossings, visit_upper}
use Rattle.lines.proofs.Steps.{lt_or_ge}
use Rattle.lines.proofs.Fractions.{Before, ahead, true_before}
use Rattle.lines.proofs.Centres.{centres_good}
use Rattle.lines.proofs.Ways.{further_on, total_further, first_has}
use Rattle.lines.proofs.Touching.{Leading, tie_leads, tie_most}
use Rattle.lines.proofs.Visits.{Visiting, not_start, reached_upper, reached_lower}
use Rattle.places.specs.Entered.{numerator, last_axis, place_along, place_at_p, entered}
use Rattle.places.proofs.Entering.{last_axis_is}
use Rattle.touching.specs.Touching.{visit_place}

-- of two axes among some steps, the first of them is later in the order x, z, y
first_later : (s : Steps) (b : Axis) → 0 < s b → same (first_axis s) b ≡ 0 → ahead (x_z_y_rank b) (x_z_y_rank (first_axis s)) ≡ 1
first_later s b some other = go (ltb 0 (s Y)) (ltb 0 (s Z)) refl refl b some other
  where
    go : (y z : Bool) → ltb 0 (s Y) ≡ y → ltb 0 (s Z) ≡ z → (b : Axis) → 0 < s b → same (cond y Y (cond z Z X)) b ≡ 0 →
        ahead (x_z_y_rank b) (x_z_y_rank (cond y Y (cond z Z X))) ≡ 1
    go true z e f X h o = refl
    go true z e f Z h o = refl
    go true z e f Y h o = absurd (omega arith)
    go false true e f X h o = refl
    go false true e f Y h o = absurd (omega (arith, ltb-false 0 (s Y) e))
    go false true e f Z h o = absurd (omega arith)
    go false false e f X h o = absurd (omega arith)
    go false false e f Y h o = absurd (omega (arith, ltb-false 0 (s Y) e))
    go false false e f Z h o = absurd (omega (arith, ltb-false 0 (s Z) f))

-- an axis before the first of some steps has none of them
not_among : (s : Steps) (b : Axis) → y_z_x_rank b < y_z_x_rank (first_axis s) → s b ≡ 0
not_among s b before = go (ltb 0 (s Y)) (ltb 0 (s Z)) refl refl b before
  where
    go : (y z : Bool) → ltb 0 (s Y) ≡ y → ltb 0 (s Z) ≡ z → (b : Axis) → y_z_x_rank b < y_z_x_rank (cond y Y (cond z Z X)) → s b ≡ 0
    go true z e f b lt = absurd (omega arith)
    go false true e f Y lt = omega (arith, ltb-false 0 (s Y) e)
    go false true e f Z lt = absurd (omega arith)
    go false true e f X lt = absurd (omega arith)
    go false false e f Y lt = omega (arith, ltb-false 0 (s Y) e)
    go false false e f Z lt = omega (arith, ltb-false 0 (s Z) f)
    go false false e f X lt = absurd (omega arith)

module _ (p q : Cell) (u : Steps) (v : Visit) (h : Visiting (crossings p q) (centres_good y_z_x (differences p q)) u v) where
  abbrev D : Steps
  D = differences p q

  abbrev last : Axis
  last = first_axis v.by

  abbrev order : Course
  order = centres (prefers Xzy) D

  leads : Leading (crossings p q) v.from last
  leads = tie_leads (crossings p q) v.from last (omega (arith, first_has v.by h.some, h.among last))

  pub at_last : visited v last ≡ v.from last + 1
  at_last = omega (arith, further_on v.from v.by last, first_has v.by h.some, h.among last, tie_most (crossings p q) v.from last)

  -- the crossing that leads to the cell, on that axis, is the last made
  last_made : LastMade order (visited v) last
  unfolding Before
  last_made = record { some = omega (arith, at_last); last = λ b other some. true_before order b last _ _ (before b other some (lt_or_ge 0 (v.by b))) }
    where
      here_is : visited v last - 1 ≡ v.from last
      here_is = omega (arith, at_last)

      before : (b : Axis) → same last b ≡ 0 → 0 < visited v b → (0 < v.by b) ⊎ (v.by b ≤ 0) → Before order b (visited v b - 1) last (visited v last - 1)
      before b other some (inl in_tie) =
          let is : visited v b - 1 ≡ v.from b =
          omega (arith, further_on v.from v.by b, h.among b, tie_most (crossings p q) v.from b) in
          let le = (tie_leads (crossings p q) v.from b (omega (arith, h.among b))).first last leads.has in
          rw (is, here_is, first_later v.by b in_tie other) (omega arith)
      before b other some (inr out) =
          let is : visited v b ≡ v.from b = omega (arith, further_on v.from v.by b) in
          let lt = h.full.order b last (v.from b - 1) (v.from last) (omega arith) (omega arith) leads.has in
          rw (is, here_is) (omega arith)

  pub entered_visit : entered p q Xzy D (visited v) ≡ visit_place p q v
  unfolding entered visit_place
  entered_visit =
      ap (λ b. cond b place_at_p (place_along p q D (visited v) (last_axis Xzy D (visited v))))
      (ne_eqb (total (visited v)) 0 (λ e. omega (arith, total_further v.from v.by, h.some)))
      ∙ ap (place_along p q D (visited v)) (last_axis_is Xzy D (visited v) last last_made)
      ∙ (λ i. record {
        num = num i;
        den = sym (reached_lower (crossings p q) (centres_good y_z_x D) h) i;
        face = sym (ap (λ b. cond b Face.None (face_along p q last)) (not_start (crossings p q) (centres_good y_z_x D) h)) i;
      })
    where
      num : numerator (visited v last) ≡ visit_upper (crossings p q) v
      num = ap numerator at_last ∙ odd (v.from last) ∙ sym (reached_upper (crossings p q) (centres_good y_z_x D) h)
        where
          odd : (i : ℕ) → numerator (i + 1) ≡ 1 + 2 * i
          odd i = omega arith

  -- of the axes whose last crossing lies there, it is the first in the order y, z, x
  pub earlier_axes : (b : Axis) → y_z_x_rank b < y_z_x_rank last →
      (visited v b ≡ 0) ⊎ ((2 * visited v b - 1) * (2 * D last) < (1 + 2 * v.from last) * (2 * D b))
  earlier_axes b before = by (lt_or_ge 0 (visited v b))
    where
      out : v.by b ≡ 0
      out = not_among v.by b before

      is : visited v b ≡ v.from b
      is = omega (arith, further_on v.from v.by b, out)

      odd : (i : ℕ) → 0 < i → 2 * i - 1 ≡ 1 + 2 * (i - 1)
      odd i some = omega arith

      by : (0 < visited v b) ⊎ (visited v b ≤ 0) → (visited v b ≡ 0) ⊎ ((2 * visited v b - 1) * (2 * D last) < (1 + 2 * v.from last) * (2 * D b))
      by (inr none) = inl (omega arith)
      by (inl some) =
          inr (rw (odd (visited v b) some, is) (h.full.order b last (v.from b - 1) (v.from last) (omega (arith, is)) (omega arith) leads.has))
