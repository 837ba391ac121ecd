-- The spot of a place: a step along an axis leads to the spot of the next place, and every sum on the way fits. Assumes nothing.
use mathlib.Core.Path.{◌≡◌, sym, ap, ap₂, ◌∙◌}
use mathlib.Core.Bool.{Bool, true, false, cond}
use Prim.Native.Nat.{ℕ, ◌+◌, ◌≤◌}
use native.Mathlib.Omega.{arith}
use native.Mathlib.Nat.{add-zero}
use lib.IntN.{ℤ, pos, negsuc, ◌+ℤ◌, ◌-ℤ◌}
use lib.Signed.{le_z}
use Rattle.cells.specs.declared.Cell.{Cell}
use Rattle.cells.specs.Touching.{on}
use Rattle.cells.specs.Small.{Small}
use Rattle.cells.proofs.Signed.{up, dn, same_number, one_sided, sum_is, diff_is}
use Rattle.cells.proofs.Machine.{parts_small}
use Rattle.lines.specs.Steps.{Axis, X, Y, Z, Steps}
use Rattle.lines.specs.Towards.{towards}
use Rattle.lines.specs.Lines.{differences, cell_of, in_limit, InLimit}
use Rattle.lines.specs.declared.Order.{Order}
use Rattle.lines.specs.Decisions.{moved_values}
use Rattle.lines.proofs.Steps.{bump}
use Rattle.lines.proofs.Cells.{limited_difference}
use Rattle.lines.proofs.Signs.{lowered_moves}
use Rattle.tripod.proofs.Laws.{limit_parts, lowered_small, doubled_small}
use Rattle.lists.specs.declared.six.SixWay.{SixWay}
use Rattle.lists.specs.declared.six.SixSpot.{SixSpot}
use Rattle.lists.specs.Kept.{unit, heading, stepped_cell, SixWayOf, SixSpotAt, crossed_six, CanCrossSix}

-- ---- one axis

-- one step more
pub towards_next : (p q : ℤ) (i : ℕ) → towards p q i +ℤ unit p q ≡ towards p q (i + 1)
towards_next p q i = go (le_z p q)
  where
    go : (t : Bool) → cond t (p +ℤ pos i) (p -ℤ pos i) +ℤ cond t (pos 1) (negsuc 0) ≡ cond t (p +ℤ pos (i + 1)) (p -ℤ pos (i + 1))
    go true = same_number _ _ (omega (arith, sum_is (p +ℤ pos i) (pos 1), sum_is p (pos i), sum_is p (pos (i + 1))))
    go false = same_number _ _ (omega (arith, sum_is (p -ℤ pos i) (negsuc 0), diff_is p (pos i), diff_is p (pos (i + 1))))

towards_kept : (p q : ℤ) (i : ℕ) → towards p q i ≡ towards p q (i + 0)
towards_kept p q i = ap (towards p q) (sym (add-zero i))

-- a coordinate of the way from p may be added to
pub towards_small : (p q : ℤ) (i : ℕ) → in_limit p ≡ true → i ≤ 16383 → Small (towards p q i)
towards_small p q i limit h = go (le_z p q)
  where
    parts : (dn p ≤ 8192 + up p) × (up p ≤ 8191 + dn p)
    parts = limit_parts p limit

    go : (t : Bool) → Small (cond t (p +ℤ pos i) (p -ℤ pos i))
    go true =
        let s = sum_is p (pos i) in
        let o = one_sided (p +ℤ pos i) in
        parts_small (p +ℤ pos i) (omega (arith, parts)) (omega (arith, parts))
    go false =
        let s = diff_is p (pos i) in
        let o = one_sided (p -ℤ pos i) in
        parts_small (p -ℤ pos i) (omega (arith, parts)) (omega (arith, parts))

pub unit_small : (p q : ℤ) → Small (unit p q)
unit_small p q = go (le_z p q)
  where
    go : (t : Bool) → Small (cond t (pos 1) (negsuc 0))
    go true = record { small = omega arith }
    go false = record { small = omega arith }

-- ---- a step

stepped_on : (p q : Cell) (t : Steps) (n : Axis) → stepped_cell (heading p q) n (cell_of p q t) ≡ cell_of p q (bump t n)
stepped_on p q t X = λ i. record { x = towards_next p.x q.x (t X) i; y = towards_kept p.y q.y (t Y) i; z = towards_kept p.z q.z (t Z) i }
stepped_on p q t Y = λ i. record { x = towards_kept p.x q.x (t X) i; y = towards_next p.y q.y (t Y) i; z = towards_kept p.z q.z (t Z) i }
stepped_on p q t Z = λ i. record { x = towards_kept p.x q.x (t X) i; y = towards_kept p.y q.y (t Y) i; z = towards_next p.z q.z (t Z) i }

module _ (o : Order) (p q : Cell) (w : SixWay) (way : SixWayOf p q w) where
  -- across a face along n lies the spot of the place one step further
  pub spot_crossed : (t : Steps) (s : SixSpot) (n : Axis) → SixSpotAt o p q t s → SixSpotAt o p q (bump t n) (crossed_six w n s)
  spot_crossed t s n h =
      record {
        cell = ap₂ (λ d c. stepped_cell d n c) way.towards h.cell ∙ stepped_on p q t n;
        value = ap₂ (λ d e. moved_values d n e) way.twice h.value ∙ sym (lowered_moves o (differences p q) t n);
      }

  -- at a place of a line within the limit every sum of a step fits
  pub can_cross : InLimit p → InLimit q → (t : Steps) (s : SixSpot) → ((a : Axis) → t a ≤ differences p q a) → SixSpotAt o p q t s → CanCrossSix s w
  can_cross hp hq t s le h =
      record {
        cells = rw (h.cell, way.towards) (record {
          x = coordinate X;
          y = coordinate Y;
          z = coordinate Z;
          hx = unit_small p.x q.x;
          hy = unit_small p.y q.y;
          hz = unit_small p.z q.z;
        });
        values = rw h.value (lowered_small (differences p q) t (limited_difference p q hp hq) le o);
        twice = rw way.twice (doubled_small (differences p q) (limited_difference p q hp hq));
      }
    where
      coordinate : (a : Axis) → Small (towards (on p a) (on q a) (t a))
      coordinate a = towards_small (on p a) (on q a) (t a) (hp.limit a) (omega (arith, le a, limited_difference p q hp hq a))
