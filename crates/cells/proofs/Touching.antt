-- Touching over its number k: more touch at a greater one, and none beyond 3; as a test it is touching. Assumes nothing.
use mathlib.Core.Path.{◌≡◌, refl}
use mathlib.Core.Logic.{◌↔◌}
use mathlib.Core.Bool.{Bool, true, false, ◌&&◌}
use Prim.Native.Nat.{ℕ, ◌≤◌}
use native.Mathlib.Omega.{arith}
use lib.Dec.{leb}
use borrow.Author.Tests.{leb-true, le-leb}
use Rattle.cells.specs.declared.Axis.{Axis}
use Rattle.cells.specs.declared.Axis.TheVariants.{X, Y, Z}
use Rattle.cells.specs.declared.Cell.{Cell}
use Rattle.cells.specs.Touching.{on, apart, Touches, touching}

-- both tests hold
pub and_both : (s t : Bool) → (s && t) ≡ true → (s ≡ true) × (t ≡ true)
and_both true true h = (refl, refl)
and_both true false h = (refl, h)
and_both false t h = (h, absurd (let z : ◌≡◌ {A = ℕ} 0 1 = cc in omega arith))

-- who touches within j axes does so within k
pub touches_within : {j k : ℕ} {c d : Cell} → j ≤ k → Touches j c d → Touches k c d
touches_within le t = record { by_one = t.by_one; differing = t.differing; within = omega (arith, t.within) }

-- and there are but three
pub touches_at_3 : {k : ℕ} {c d : Cell} → Touches k c d → Touches 3 c d
touches_at_3 {k} {c} {d} t =
    record {
      by_one = t.by_one;
      differing = t.differing;
      within = omega arith;
    }

pub touching_iff : (k : ℕ) (c d : Cell) → (touching k c d ≡ true) ↔ Touches k c d
touching_iff k c d = (told, says)
  where
    told : touching k c d ≡ true → Touches k c d
    told h =
        let (near, far) = and_both _ _ h in
        let (xy, z) = and_both _ _ near in
        let (x, y) = and_both _ _ xy in
        let (some, most) = and_both _ _ far in
        record { by_one = by_one x y z; differing = leb-true _ _ some; within = leb-true _ _ most }
      where
        by_one : leb (apart c.x d.x) 1 ≡ true → leb (apart c.y d.y) 1 ≡ true → leb (apart c.z d.z) 1 ≡ true → (a : Axis) →
            apart (on c a) (on d a) ≤ 1
        by_one x y z X = leb-true _ _ x
        by_one x y z Y = leb-true _ _ y
        by_one x y z Z = leb-true _ _ z

    says : Touches k c d → touching k c d ≡ true
    says t =
        simp (le-leb _ _ (t.by_one X), le-leb _ _ (t.by_one Y), le-leb _ _ (t.by_one Z), le-leb _ _ t.differing, le-leb _ _ t.within)
