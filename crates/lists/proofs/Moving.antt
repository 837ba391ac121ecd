-- A coordinate of a 26-line goes on its own: what is due says whether the next cell moves it, for any difference D and any longest one M. The three
-- of them are the cell. Assumes nothing.
use mathlib.Core.Path.{◌≡◌, sym, ap, ap₂, ◌∙◌}
use mathlib.Core.Bool.{Bool, true, false, cond}
use Prim.Native.Nat.{ℕ, ◌+◌, ◌*◌, ◌≤◌, ◌<◌}
use native.Mathlib.Omega.{arith}
use lib.IntN.{ℤ, pos, ◌+ℤ◌, ◌-ℤ◌}
use lib.Signed.{le_z}
use Rattle.cells.specs.declared.Cell.{Cell}
use Rattle.cells.specs.Touching.{on, apart}
use Rattle.cells.specs.Small.{Small}
use Rattle.cells.proofs.Signed.{same_number, one_sided, sum_is, diff_is, le_z_true, le_z_false}
use Rattle.cells.proofs.Machine.{parts_small, nat_small}
use Rattle.lines.specs.Steps.{Axis, X, Y, Z, Steps}
use Rattle.lines.specs.Preference.{y_z_x}
use Rattle.lines.specs.Towards.{towards}
use Rattle.lines.specs.Lines.{differences, longest, moved_26, cell_26, in_limit, InLimit}
use Rattle.lines.proofs.Cells.{is_26, limited_difference}
use Rattle.lines.proofs.Centres.{longest_most, moved_start, moved_within, moves_iff, else_stays, moved_near}
use Rattle.lines.proofs.Towards.{towards_start}
use Rattle.lists.specs.declared.twenty_six.Pace.{Pace}
use Rattle.lists.specs.declared.twenty_six.Coordinate.{Coordinate}
use Rattle.cells.specs.declared.Each.{Each}
use Rattle.lists.specs.Kept.{unit, pace, first_of, next_of, CanMove, paces, firsts, nexts, CanMoves, cell_at}
use Rattle.lists.proofs.Line.{towards_next, towards_small, unit_small}

-- what is due at cell m: the way to cell m + 1, 2(m+1)D over 2M, less the middle of the cells moved and the next, (2k+1)M over 2M
abbrev pub due_26 : (M D m : ℕ) → ℤ
due_26 M D m = pos (2 * (m + 1) * D) -ℤ pos ((2 * moved_26 M D m + 1) * M)

-- the coordinate of cell m
pub record OnPace (p q : ℤ) (M m : ℕ) (c : Coordinate) : Type 0 where
  pub at : c.at ≡ towards p q (moved_26 M (apart p q) m)
  pub due : c.due ≡ due_26 M (apart p q) m

-- ---- one difference

module _ (M D m : ℕ) (fits : D ≤ M) (lt : m < M) where
  abbrev k : ℕ
  k = moved_26 M D m

  -- at least 0: the next cell moves
  due_moves : le_z (pos 0) (due_26 M D m) ≡ true → moved_26 M D (m + 1) ≡ k + 1
  due_moves h = (moves_iff M D fits (omega arith) m).1
      (omega (arith, le_z_true (pos 0) (due_26 M D m) h, diff_is (pos (2 * (m + 1) * D)) (pos ((2 * k + 1) * M))))

  due_stays : le_z (pos 0) (due_26 M D m) ≡ false → moved_26 M D (m + 1) ≡ k
  due_stays h = else_stays M D fits (omega arith) m (omega (arith, le_z_false (pos 0) (due_26 M D m) h, diff_is (pos (2 * (m + 1) * D)) (pos ((2 * k + 1) * M))))

  -- what is due then
  due_gone : moved_26 M D (m + 1) ≡ k + 1 → due_26 M D m +ℤ (pos (2 * D) -ℤ pos (2 * M)) ≡ due_26 M D (m + 1)
  due_gone e =
      rw e
      (same_number _ _
      (omega (
        arith,
        sum_is (due_26 M D m) (pos (2 * D) -ℤ pos (2 * M)),
        diff_is (pos (2 * D)) (pos (2 * M)),
        diff_is (pos (2 * (m + 1) * D)) (pos ((2 * k + 1) * M)),
        diff_is (pos (2 * (m + 1 + 1) * D)) (pos ((2 * (k + 1) + 1) * M)),
      )))

  due_kept : moved_26 M D (m + 1) ≡ k → due_26 M D m +ℤ pos (2 * D) ≡ due_26 M D (m + 1)
  due_kept e =
      rw e
      (same_number _ _
      (omega (
        arith,
        sum_is (due_26 M D m) (pos (2 * D)),
        diff_is (pos (2 * (m + 1) * D)) (pos ((2 * k + 1) * M)),
        diff_is (pos (2 * (m + 1 + 1) * D)) (pos ((2 * k + 1) * M)),
      )))

  -- it lies from 2D - 2M to 2D - 1
  due_small : M ≤ 16383 → Small (due_26 M D m)
  due_small short =
      let (lo, hi) = moved_near M D fits (omega arith) m in
      let d = diff_is (pos (2 * (m + 1) * D)) (pos ((2 * k + 1) * M)) in
      let o = one_sided (due_26 M D m) in
      parts_small (due_26 M D m) (omega arith) (omega arith)

-- ---- one coordinate

module _ (p q : ℤ) (M : ℕ) (fits : apart p q ≤ M) where
  abbrev D : ℕ
  D = apart p q

  abbrev K : Pace
  K = pace p q D M

  pub first_on : OnPace p q M 0 (first_of p D M)
  first_on =
      let z = moved_start M D in
      let a : 2 * D ≡ 2 * (0 + 1) * D = omega arith in
      let b : M ≡ (2 * moved_26 M D 0 + 1) * M = rw z (omega arith) in
      record {
        at = sym (ap (towards p q) z ∙ towards_start p q);
        due = ap₂ (λ u v. pos u -ℤ pos v) a b;
      }

  pub next_on : (m : ℕ) (c : Coordinate) → m < M → OnPace p q M m c → OnPace p q M (m + 1) (next_of K c)
  next_on m c lt h = go (le_z (pos 0) c.due) (ap (le_z (pos 0)) (sym h.due))
    where
      go :
          (t : Bool) → le_z (pos 0) (due_26 M D m) ≡ t →
          OnPace p q M (m + 1) (cond t (record { at = c.at +ℤ K.by; due = c.due +ℤ K.go }) (record { at = c.at; due = c.due +ℤ K.stay }))
      go true t =
          let e = due_moves M D m fits lt t in
          record {
            at = ap (λ z. z +ℤ unit p q) h.at ∙ towards_next p q (moved_26 M D m) ∙ ap (towards p q) (sym e);
            due = ap (λ z. z +ℤ K.go) h.due ∙ due_gone M D m fits lt e;
          }
      go false t =
          let e = due_stays M D m fits lt t in
          record {
            at = h.at ∙ ap (towards p q) (sym e);
            due = ap (λ z. z +ℤ K.stay) h.due ∙ due_kept M D m fits lt e;
          }

  -- every sum of a move fits
  pub can_move : (m : ℕ) (c : Coordinate) → in_limit p ≡ true → M ≤ 16383 → m < M → OnPace p q M m c → CanMove c K
  can_move m c limit short lt h =
      record {
        at = rw h.at (towards_small p q (moved_26 M D m) limit (omega (arith, moved_within M D m (omega arith))));
        due = rw h.due (due_small M D m fits lt short);
        by = unit_small p q;
        stay = nat_small (2 * D) (omega arith);
        go =
            let d = diff_is (pos (2 * D)) (pos (2 * M)) in
            let o = one_sided (pos (2 * D) -ℤ pos (2 * M)) in
            parts_small (pos (2 * D) -ℤ pos (2 * M)) (omega arith) (omega arith);
      }

-- ---- the three

-- the coordinates of cell m of the 26-line from p to q
pub record Paced (p q : Cell) (m : ℕ) (c : Each Coordinate) : Type 0 where
  pub x : OnPace p.x q.x (longest (differences p q)) m c.x
  pub y : OnPace p.y q.y (longest (differences p q)) m c.y
  pub z : OnPace p.z q.z (longest (differences p q)) m c.z

module _ (p q : Cell) where
  abbrev E : Steps
  E = differences p q

  -- they are its cell
  pub paced_cell : (m : ℕ) (c : Each Coordinate) → Paced p q m c → cell_at c ≡ cell_26 p q m
  paced_cell m c h = (λ i. record { x = h.x.at i; y = h.y.at i; z = h.z.at i }) ∙ sym (is_26 y_z_x p q m)

  pub paced_first : Paced p q 0 (firsts p E)
  paced_first = record { x = start X; y = start Y; z = start Z }
    where
      start : (a : Axis) → OnPace (on p a) (on q a) (longest E) 0 (first_of (on p a) (E a) (longest E))
      start a = first_on (on p a) (on q a) (longest E) (longest_most E a)

  module _ (m : ℕ) (c : Each Coordinate) (lt : m < longest E) (h : Paced p q m c) where
    pub paced_next : Paced p q (m + 1) (nexts (paces p q E) c)
    paced_next = record { x = turn X c.x h.x; y = turn Y c.y h.y; z = turn Z c.z h.z }
      where
        turn : (a : Axis) (c : Coordinate) → OnPace (on p a) (on q a) (longest E) m c →
            OnPace (on p a) (on q a) (longest E) (m + 1) (next_of (pace (on p a) (on q a) (E a) (longest E)) c)
        turn a c o = next_on (on p a) (on q a) (longest E) (longest_most E a) m c lt o

    pub paced_moves : InLimit p → InLimit q → CanMoves c (paces p q E)
    paced_moves hp hq = record { x = moves X c.x h.x; y = moves Y c.y h.y; z = moves Z c.z h.z }
      where
        moves : (a : Axis) (c : Coordinate) → OnPace (on p a) (on q a) (longest E) m c → CanMove c (pace (on p a) (on q a) (E a) (longest E))
        moves a c o =
            let l = limited_difference p q hp hq in
            can_move (on p a) (on q a) (longest E) (longest_most E a) m c (hp.limit a) (omega (arith, l X, l Y, l Z)) lt o
