-- The place of a hit: the fractions at which the 6-line enters its cells never fall, and across the face lies the cell before. Assumes nothing.
use mathlib.Core.Path.{◌≡◌, refl, sym, ap, ◌∙◌, subst}
use mathlib.Core.Bool.{Bool, true, false, cond}
use mathlib.Core.Logic.{◌⊎◌, inl, inr, ⊎_elim}
use Prim.Native.Nat.{ℕ, zero, suc, ◌+◌, ◌-◌, ◌*◌, ◌≤◌, ◌<◌}
use native.Mathlib.Omega.{arith}
use native.Mathlib.Nat.{eq-or-lt_of_le}
use lib.Signed.{le_z}
use Rattle.cells.specs.declared.Cell.{Cell}
use Rattle.cells.specs.declared.Face.{Face}
use Rattle.cells.specs.Faces.{back_across}
use Rattle.cells.specs.Touching.{on}
use Rattle.lines.specs.Steps.{Axis, Steps, total}
use Rattle.lines.specs.Crossings.{Course, next, place}
use Rattle.lines.specs.Preference.{Preference}
use Rattle.lines.specs.Lines.{differences, centres, six_cell}
use Rattle.lines.proofs.Steps.{same_self}
use Rattle.lines.proofs.Merge.{OnLine, Next, Choice, fewer_is_below}
use Rattle.lines.proofs.Fractions.{Before, laws, place_on, place_suc, place_total, next_rule}
use Rattle.lines.proofs.Centres.{centres_good}
use Rattle.lines.proofs.Cells.{six_is, six_back, steps_made}
use Rattle.walks.specs.Answers.{entered_at}

-- how many faces are named: 0 or 1
faces : Face → ℕ
faces Face.None = 0
faces (Face.Plus a) = 1
faces (Face.Minus a) = 1

module _ (r : Preference) (p q : Cell) where
  abbrev D : Steps
  D = differences p q

  abbrev C : Course
  C = centres r D

  -- the axis along which cell suc s is entered
  abbrev pub enters : ℕ → Axis
  enters s = next C (place C s)

  one_more : (s : ℕ) → place C (suc s) (enters s) ≡ place C s (enters s) + 1
  one_more s = ap (λ t. t (enters s)) (place_suc C s) ∙ ap (λ k. place C s (enters s) + k) (same_self (enters s))

  -- the two numbers are those of the crossing
  pub num_is : (s : ℕ) → (entered_at r p q (suc s)).num ≡ 1 + 2 * place C s (enters s)
  num_is s = omega (arith, one_more s)

  -- a crossing made before another lies at no greater fraction
  earlier : (s t : ℕ) → s < t → t < total D → (1 + 2 * place C s (enters s)) * (2 * D (enters t)) ≤ (1 + 2 * place C t (enters t)) * (2 * D (enters s))
  unfolding OnLine Before Choice Next
  earlier s t lt most =
      let (on-s, in-s) = place_on C (centres_good r D) (suc s) (omega arith) in
      let (on-t, in-t) = place_on C (centres_good r D) t (omega arith) in
      let below = fewer_is_below D (Before C) (laws C (centres_good r D)) (place C (suc s)) (place C t) in-s in-t on-s on-t
      (omega (arith, place_total C (suc s), place_total C t)) (enters s) in
      let real = (next_rule C (centres_good r D) (place C t) in-t (omega (arith, place_total C t))).0 in
      omega (arith, on-t (enters s) (enters t) (place C s (enters s)) (place C t (enters t)) (omega (arith, one_more s)) (omega arith) real)

  pub never_falls : (s t : ℕ) → s ≤ t → t ≤ total D → (entered_at r p q s).num * (entered_at r p q t).den ≤ (entered_at r p q t).num * (entered_at r p q s).den
  never_falls zero t le most = omega arith
  never_falls (suc s) zero le most = absurd (omega arith)
  never_falls (suc s) (suc t) le most =
      ⊎_elim
      (λ e. subst (λ k. (entered_at r p q (suc s)).num * (entered_at r p q (suc k)).den
      ≤ (entered_at r p q (suc k)).num * (entered_at r p q (suc s)).den) e (omega arith))
      (λ lt. rw (num_is s, num_is t) (earlier s t lt (omega arith)))
      (eq-or-lt_of_le {n = s} {m = t} (omega arith))

  -- ---- the face

  -- it is that of the axis along which the cell is entered
  pub face_is : (s : ℕ) → ((entered_at r p q (suc s)).face ≡ Face.Plus (enters s)) ⊎ ((entered_at r p q (suc s)).face ≡ Face.Minus (enters s))
  face_is s = by (le_z (on p (enters s)) (on q (enters s)))
    where
      by : (b : Bool) → (cond b (Face.Plus (enters s)) (Face.Minus (enters s)) ≡ Face.Plus (enters s))
          ⊎ (cond b (Face.Plus (enters s)) (Face.Minus (enters s)) ≡ Face.Minus (enters s))
      by true = inl refl
      by false = inr refl

  -- so there is one
  pub some_face : (s : ℕ) → (entered_at r p q (suc s)).face ≡ Face.None → ⊥
  unfolding faces
  some_face s e =
      ⊎_elim (λ f. let z : ◌≡◌ {A = ℕ} 1 0 = ap faces (sym f ∙ e) in omega arith) (λ f. let z : ◌≡◌ {A = ℕ} 1 0 = ap faces (sym f ∙ e) in omega arith)
      (face_is s)

  -- one step back across it stands the cell before
  pub face_leads_back : (s : ℕ) → back_across (entered_at r p q (suc s)).face (six_cell r p q (suc s)) ≡ six_cell r p q s
  face_leads_back = six_back r p q

  -- the place's upper number, by the cell's steps from P
  pub num_made : (s : ℕ) → (entered_at r p q (suc s)).num ≡ 2 * differences p (six_cell r p q (suc s)) (enters s) - 1
  num_made s = ap (λ t. 2 * t (enters s) - 1) (sym (ap (differences p) (six_is r p q (suc s)) ∙ steps_made p q (place C (suc s))))
