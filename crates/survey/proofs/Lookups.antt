-- The two lookups: the cell that is found where the verdict v on the quotients q is fine; and what an answer that is a cell tells.
-- Assumes nothing.
use Rattle.std.specs.Prelude.{Ok, Err}
use Prim.Native.Nat.{ℕ}
use native.Mathlib.Omega.{arith}
use mathlib.Core.Path.{◌≡◌, refl, sym, ap, ap₂, ◌∙◌}
use Rattle.cells.specs.declared.Cell.{Cell}
use Rattle.cells.specs.declared.Counts.{Counts}
use Rattle.cells.specs.declared.End.{End}
use Rattle.cells.specs.declared.End.TheVariants.{P}
use Rattle.cells.specs.declared.Refusal.{Refusal}
use Rattle.cells.specs.Checks.{Verdict, ◌then◌, by_verdict}
use Rattle.survey.specs.declared.Placement.{Placement}
use Rattle.survey.specs.declared.Point.{Point}
use Rattle.survey.specs.Search.{AllInside}
use Rattle.survey.specs.Survey.{count_check, placement_check, PlacedGrid, quotients, point_check, cell_at, look_up, cell_of}
use Rattle.cells.proofs.Checks.{each_fine, by_fine}
use Rattle.survey.proofs.Survey.{point_inside}

module _ (e : End) (n : Counts) (at : Placement) (p : Point) where
  look_up_is : look_up e n at p ≡ by_verdict Err (Ok (cell_at n (quotients at p))) (point_check e n p (quotients at p))
  unfolding look_up
  look_up_is = refl

  verdict_is : {q : Point} {v w : Verdict} → q ≡ quotients at p → v ≡ point_check e n p q → v ≡ w → point_check e n p (quotients at p) ≡ w
  verdict_is hq hv h = ap (point_check e n p) (sym hq) ∙ sym hv ∙ h

  pub lookup_found : {q : Point} {v : Verdict} {c : Cell} → q ≡ quotients at p → v ≡ point_check e n p q → v ≡ Ok tt → c ≡ cell_at n q →
      look_up e n at p ≡ Ok c
  lookup_found hq hv h hc =
      look_up_is ∙ ap (by_verdict Err (Ok (cell_at n (quotients at p)))) (verdict_is hq hv h) ∙
      ap (λ q. Ok (cell_at n q)) (sym hq) ∙ ap Ok (sym hc)

module _ (n : Counts) (at : Placement) (p : Point) where
  cell_of_is : cell_of n at p ≡ by_verdict Err (look_up P n at p) (count_check n then placement_check at)
  unfolding cell_of
  cell_of_is = refl

-- ---- an answer that is a cell

-- a cell is no refusal
pub no_refusal : (c : Cell) (r : Refusal) → ¬ (Err r ≡ Ok c)
no_refusal c r h = let z : ◌≡◌ {A = ℕ} 0 1 = cc in omega arith

-- the quotients lie inside, and the cell is the one that has them
pub look_given : (e : End) (n : Counts) (at : Placement) (p : Point) (c : Cell) → PlacedGrid n at → look_up e n at p ≡ Ok c →
    AllInside n (quotients at p) × (c ≡ cell_at n (quotients at p))
look_given e n at p c tested h =
    let (fine, same) = by_fine Err _ _ (no_refusal c) (sym (look_up_is e n at p) ∙ h) in
    (point_inside e n at p tested fine, cc)

-- all tests are passed too
pub cell_given : (n : Counts) (at : Placement) (p : Point) (c : Cell) → cell_of n at p ≡ Ok c →
    PlacedGrid n at × AllInside n (quotients at p) × (c ≡ cell_at n (quotients at p))
cell_given n at p c h =
    let (tests, looked) = by_fine Err _ _ (no_refusal c) (sym (cell_of_is n at p) ∙ h) in
    let (counts, placed) = each_fine _ _ tests in
    let tested : PlacedGrid n at = record { counts = counts; placed = placed } in
    let (inside, same) = look_given P n at p c tested looked in
    (tested, inside, same)

pub cell_found : (n : Counts) (at : Placement) (p : Point) → PlacedGrid n at → point_check P n p (quotients at p) ≡ Ok tt →
    cell_of n at p ≡ Ok (cell_at n (quotients at p))
cell_found n at p t h =
    cell_of_is n at p ∙ ap (by_verdict Err (look_up P n at p)) (ap₂ (λ u v. u then v) t.counts t.placed) ∙ lookup_found P n at p refl refl h refl
