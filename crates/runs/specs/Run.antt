-- Clear runs of the 26-line: what the code keeps along them, and what its steps ask and promise. No promise to users rests
-- on this file. Assumes nothing.
use Rattle.std.specs.Prelude.{ℕ, ◌-◌, ◌≤◌, ◌<◌, ◌≡◌, cond, List, ℤ, pos, ◌+ℤ◌, ◌-ℤ◌, length}
use Rattle.std.specs.Int.Signed.{le_z}
use Rattle.cells.specs.Small.{Small}
use Rattle.lines.specs.declared.Doubled.{Doubled}
use Rattle.lines.specs.Steps.{Axis, X, Y, Z, Steps}
use Rattle.lines.specs.Lines.{differences, cell_of, longest, place_26, cell_26}
use Rattle.lines.specs.Decisions.{decision}
use Rattle.tripod.specs.Tripod.{SmallDoubled}
use Rattle.grids.specs.Grid.{byte_of, byte_index}
use Rattle.routes.specs.declared.Route.{Route}
use Rattle.routes.specs.declared.Spot.{Spot}
use Rattle.routes.specs.Route.{stride_on, byte_there, Planned}
use Rattle.runs.specs.declared.Triple.{Triple}
use Rattle.runs.specs.declared.Side.{Side}
use Rattle.runs.specs.declared.RunRoute.{RunRoute}
use Rattle.runs.specs.declared.RunSpot.{RunSpot}
use Rattle.runs.specs.declared.Run.{Run}

-- ---- the axes, the longest first

-- the two others, the longest being u
abbrev pub v_of : Axis → Axis
v_of X = Y
v_of Y = Z
v_of Z = Y

abbrev pub w_of : Axis → Axis
w_of X = Z
w_of Y = X
w_of Z = X

-- ---- what stays the same

-- what a long step adds: along u and v to what v moves, along w to what w moves
abbrev pub sides : (su sv sw u2 v2 w2 : ℤ) → RunRoute
sides su sv sw u2 v2 w2 =
    record {
      v = record { stay = record { at = su; due = v2; wv = pos 0 }; go = record { at = su +ℤ sv; due = v2 -ℤ u2; wv = pos 0 -ℤ w2 } };
      w = record { stay = record { at = pos 0; due = w2; wv = pos 0 }; go = record { at = sw; due = w2 -ℤ u2; wv = v2 } };
    }

-- twice the difference along an axis
abbrev pub twice_on : Doubled → Axis → ℤ
twice_on d X = d.a2
twice_on d Y = d.b2
twice_on d Z = d.c2

-- by the numbers of each axis, the longest being u
abbrev pub sides_by : (Axis → ℤ) → (Axis → ℤ) → Axis → RunRoute
sides_by stride twice u = sides (stride u) (stride (v_of u)) (stride (w_of u)) (twice u) (twice (v_of u)) (twice (w_of u))

-- of a route
abbrev pub run_route : Route → Axis → RunRoute
run_route k u = sides_by (stride_on k.strides) (twice_on k.twice) u

-- ---- a cell of a run

-- what is due on axis b, the longest being u: e_ub + B
abbrev pub due_on : Steps → Steps → Axis → Axis → ℤ
due_on D t u b = decision D t u b +ℤ pos (D b)

-- a spot's numbers, from those of the tripod
abbrev pub run_spot : Axis → Steps → Spot → RunSpot
run_spot X D s = record { at = s.at; v = s.e.xy +ℤ pos (D Y); w = s.e.xz +ℤ pos (D Z); wv = s.e.zy }
run_spot Y D s = record { at = s.at; v = pos (D Z) -ℤ s.e.zy; w = pos (D X) -ℤ s.e.xy; wv = s.e.xz }
run_spot Z D s = record { at = s.at; v = s.e.zy +ℤ pos (D Y); w = pos (D X) -ℤ s.e.xz; wv = s.e.xy }

-- and back
abbrev pub spot_back : Axis → Steps → RunSpot → Spot
spot_back X D s = record { at = s.at; e = record { xy = s.v -ℤ pos (D Y); xz = s.w -ℤ pos (D Z); zy = s.wv } }
spot_back Y D s = record { at = s.at; e = record { xy = pos (D X) -ℤ s.w; xz = s.wv; zy = pos (D Z) -ℤ s.v } }
spot_back Z D s = record { at = s.at; e = record { xy = s.wv; xz = pos (D X) -ℤ s.w; zy = s.v -ℤ pos (D Y) } }

-- ---- the long step

-- an axis moves where what is due on it is at least 0
abbrev pub by_sign : (e go stay : ℤ) → ℤ
by_sign e go stay = cond (le_z (pos 0) e) go stay

-- what a shorter axis does to its three numbers
abbrev pub moved_by : Side → Triple → Triple
moved_by k t =
    record {
      at = t.at +ℤ by_sign t.due k.go.at k.stay.at;
      due = t.due +ℤ by_sign t.due k.go.due k.stay.due;
      wv = t.wv +ℤ by_sign t.due k.go.wv k.stay.wv;
    }

-- the three of v
abbrev pub of_v : RunSpot → Triple
of_v s = record { at = s.at; due = s.v; wv = s.wv }

-- those of w, once v has moved
abbrev pub of_w : RunRoute → RunSpot → Triple
of_w k s = record { at = (moved_by k.v (of_v s)).at; due = s.w; wv = (moved_by k.v (of_v s)).wv }

abbrev pub long_step : RunRoute → RunSpot → RunSpot
long_step k s =
    record {
      at = (moved_by k.w (of_w k s)).at;
      v = (moved_by k.v (of_v s)).due;
      w = (moved_by k.w (of_w k s)).due;
      wv = (moved_by k.w (of_w k s)).wv;
    }

-- ---- what is asked: every sum fits

pub record SmallRoute (k : Route) : Type 0 where
  pub x : Small k.strides.x
  pub y : Small k.strides.y
  pub z : Small k.strides.z
  pub twice : SmallDoubled k.twice

pub record SmallDue (s : RunSpot) : Type 0 where
  pub v : Small s.v
  pub w : Small s.w

pub record SmallTriple (t : Triple) : Type 0 where
  pub at : Small t.at
  pub due : Small t.due
  pub wv : Small t.wv

pub record CanMove (k : Side) (t : Triple) : Type 0 where
  pub stay : SmallTriple k.stay
  pub go : SmallTriple k.go
  pub from : SmallTriple t

pub record CanStep (k : RunRoute) (s : RunSpot) : Type 0 where
  pub v : CanMove k.v (of_v s)
  pub w : CanMove k.w (of_w k s)

-- ---- a run

-- the place of the byte of 26-line cell m
abbrev pub index_26 : Route → ℕ → ℕ
index_26 k m = byte_index k.n (cell_of k.p k.q (place_26 (differences k.p k.q) m))

-- the number of the 26-line's cell from which so many long steps are left
abbrev pub cell_left : Route → ℕ → ℕ
cell_left k left = longest (differences k.p k.q) - left

-- 26-line cell m of a route whose longest axis is u
abbrev pub run_cell : Route → Axis → ℕ → RunSpot
run_cell k u m =
    let D : Steps = differences k.p k.q in
    let t : Steps = place_26 D m in
    record { at = pos (index_26 k m); v = due_on D t u (v_of u); w = due_on D t u (w_of u); wv = decision D t (w_of u) (v_of u) }

-- a run of a route through a grid, with so many long steps left
pub record Running (cells : List ℕ) (h : RunRoute) (start : RunSpot) (left : ℕ) (k : Route) (u : Axis) : Type 0 where
  pub plan : Planned (length cells) k
  pub long : differences k.p k.q u ≡ longest (differences k.p k.q)
  pub route : h ≡ run_route k u
  pub most : left ≤ longest (differences k.p k.q)
  pub at : start ≡ run_cell k u (cell_left k left)

-- it is one of some route, and starts at a clear cell that is not the last
pub record CanRun (cells : List ℕ) (h : RunRoute) (start : RunSpot) (left : ℕ) : Type 0 where
  pub k : Route
  pub u : Axis
  pub running : Running cells h start left k u
  pub some : 0 < left
  pub clear : byte_there cells start.at ≡ 0

-- the bytes of 26-line cells m to e - 1 are 0
abbrev pub ClearTo : List ℕ → Route → ℕ → ℕ → Type 0
ClearTo cells k m e = (j : ℕ) → m ≤ j → j < e → byte_of k.n cells (cell_26 k.p k.q j) ≡ 0

-- and whichever it is, it went on over clear cells alone
pub record Ran (cells : List ℕ) (h : RunRoute) (start : RunSpot) (left : ℕ) (r : Run) : Type 0 where
  pub fewer : r.left < left
  pub leads :
      (k : Route) (u : Axis) → Running cells h start left k u →
      (r.spot ≡ run_cell k u (cell_left k r.left)) × ClearTo cells k (cell_left k left) (cell_left k r.left)
