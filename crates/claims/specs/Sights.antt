-- What is claimed of the sight call, by its contract: for either start mode and rule, every grid, placement, camera and ball. Assumes nothing.
use Rattle.std.specs.Prelude.{Ok, Err, Result, ℕ, ◌≡◌, true, false, List, length}
use Rattle.cells.specs.declared.Cell as cell
use Rattle.cells.specs.declared.Counts.{Counts}
use Rattle.cells.specs.declared.Axis.TheVariants.{Y}
use Rattle.cells.specs.declared.End.TheVariants.{P, Q}
use Rattle.cells.specs.declared.Face.{Face}
use Rattle.cells.specs.declared.Manner.{Manner}
use Rattle.cells.specs.declared.Refusal.{Refusal}
use Rattle.cells.specs.declared.Rule.TheVariants.{One, Two}
use Rattle.cells.specs.declared.Start.{Start}
use Rattle.cells.specs.declared.Start.TheVariants.{Tested}
use Rattle.cells.specs.Manners.{usual}
use Rattle.lines.specs.Segment.{Share, InOpen}
use Rattle.grids.specs.Grid.{shape, byte_of, solid}
use Rattle.grids.specs.Marks.{complete}
use Rattle.walks.specs.declared.Walker.TheVariants.{Adaptive}
use Rattle.walks.specs.declared.Hit.{Hit}
use Rattle.walks.specs.declared.FirstHit.{FirstHit}
use Rattle.walks.specs.Answers.{Finds}
use Rattle.survey.specs.declared.Placement.{Placement}
use Rattle.survey.specs.declared.Point.{Point}
use Rattle.survey.specs.Survey.{placement_check, look_up}
use Rattle.sight.specs.declared.Block.{Block}
use Rattle.sight.specs.declared.Sight.{Sight}
use Rattle.sight.specs.declared.Sight.TheVariants.{Clear, Blocked, Refused}
use Rattle.sight.specs.Sight.{share_of, sight_of, Sees}
use Rattle.claims.specs.Points.{metres, one_metre, point}
use Rattle.claims.specs.Example.{example_counts, marked_cells}
use Rattle.claims.specs.Starred.{halves}

module _ (how : Manner) (n : Counts) (l : List ℕ) (at : Placement) where
  -- 1. One answer for each input.
  pub record SeenOnce (camera ball : Point) : Type 0 where
    pub once : (r s : Sight) → Sees how n l at camera ball r → Sees how n l at camera ball s → r ≡ s

  -- 2. Where both points have a cell, blocked or clear is what the adaptive first-hit call says of the two cells.
  pub record AsTheWalk (camera ball : Point) : Type 0 where
    pub same : (c b : cell.Cell) (r : Sight) (h : Result FirstHit Refusal) → shape n (length l) ≡ Ok tt → placement_check at ≡ Ok tt →
        look_up P n at camera ≡ Ok c → look_up Q n at ball ≡ Ok b → Sees how n l at camera ball r →
        Finds Adaptive how n l c b h → r ≡ sight_of h

  -- camera and ball have cells, and no cell whose open inside the segment between their centres meets is solid, the camera's own excepted exactly
  -- where it is not tested
  pub record OpenWay (camera ball : Point) : Type 0 where
    pub from : cell.Cell
    pub to : cell.Cell
    pub from_is : look_up P n at camera ≡ Ok from
    pub to_is : look_up Q n at ball ≡ Ok to
    pub free : (m d : ℕ) (c : cell.Cell) → Share m d → InOpen from to m d c → (c ≡ from → how.start ≡ Tested) → solid (byte_of n l c) ≡ false

-- 3. Nothing in the way: marks complete at k and the sight clear (Shells: from 2 on).
pub record NothingInSight (k : ℕ) (how : Manner) (n : Counts) (l : List ℕ) (at : Placement) (camera ball : Point) : Type 0 where
  pub open_way : complete k n l ≡ true → Sees how n l at camera ball Clear → OpenWay how n l at camera ball

module _ (how : Manner) (n : Counts) (l : List ℕ) (at : Placement) where
  -- 4. Where the camera's point has no cell, its refusal is the answer; so the answer does not depend on the ball, whatever else is refused.
  pub record CameraFirst (camera : Point) : Type 0 where
    pub refusal : (r : Refusal) → shape n (length l) ≡ Ok tt → placement_check at ≡ Ok tt → look_up P n at camera ≡ Err r →
        (ball : Point) (s : Sight) →
        Sees how n l at camera ball s → s ≡ Refused r
    pub any_ball : (r : Refusal) → look_up P n at camera ≡ Err r → (ball other : Point) (s t : Sight) →
        Sees how n l at camera ball s → Sees how n l at camera other t → s ≡ t

  -- 5. A blocked sight is the adaptive hit between the cells of camera and ball: its cell, code, reads and entry face, and its place as a share.
  pub record BlockedBy (camera ball : Point) (b : Block) : Type 0 where
    pub from : cell.Cell
    pub to : cell.Cell
    pub hit : Hit
    pub from_is : look_up P n at camera ≡ Ok from
    pub to_is : look_up Q n at ball ≡ Ok to
    pub found : Finds Adaptive how n l from to (Ok (FirstHit.Hit hit))
    pub same_cell : b.cell ≡ hit.cell
    pub same_code : b.code ≡ hit.code
    pub same_reads : b.reads ≡ hit.reads
    pub same_face : b.face ≡ hit.place.face
    pub its_share : b.share ≡ share_of hit.place.num hit.place.den

  pub record BlockedAsHit (camera ball : Point) : Type 0 where
    pub as_hit : (b : Block) → Sees how n l at camera ball (Blocked b) → BlockedBy camera ball b

  -- 6. A sight knows its points by their lookups alone: points that are looked up alike are seen alike.
  pub record SeenAlike (camera ball camera' ball' : Point) : Type 0 where
    pub alike : look_up P n at camera ≡ look_up P n at camera' → look_up Q n at ball ≡ look_up Q n at ball' → (s : Sight) →
        Sees how n l at camera ball s → Sees how n l at camera' ball' s

-- ---- the far corner and wrong answers, on the program's venue with its marks: a camera and a ball in the middles of (0,0,0) and (3,1,0)

abbrev pub SeenThere : Manner → Sight → Type 0
SeenThere how =
    Sees how example_counts marked_cells one_metre (point (halves 1) (halves 1) (halves 1))
    (point (halves 7) (halves 3) (halves 1))

-- the same there exchanged: rule 2 meets the solid cell, rule 1 passes it
abbrev pub SeenBack : Manner → Sight → Type 0
SeenBack how =
    Sees how example_counts marked_cells one_metre (point (halves 7) (halves 3) (halves 1))
    (point (halves 1) (halves 1) (halves 1))

-- and from the solid cell itself, (1,1,0): a camera in its housing
abbrev pub Housed : Manner → Sight → Type 0
Housed how =
    Sees how example_counts marked_cells one_metre (point (halves 3) (halves 3) (halves 1))
    (point (halves 7) (halves 3) (halves 1))

-- the ball in the far corner of the box, (4, 2, 1), and the camera there: on the far walls of x, y and z
abbrev pub BallOnWalls : Manner → Sight → Type 0
BallOnWalls how =
    Sees how example_counts marked_cells one_metre (point (halves 1) (halves 1) (halves 1)) (point (metres 4) (metres 2) (metres 1))

abbrev pub CameraOnWalls : Manner → Sight → Type 0
CameraOnWalls how =
    Sees how example_counts marked_cells one_metre (point (metres 4) (metres 2) (metres 1)) (point (halves 1) (halves 1) (halves 1))

-- 7. The far corner is seen as the middle of its cell, (3,1,0), in every manner.
pub record FarCorner : Type 0 where
  pub ball : (how : Manner) (s : Sight) → BallOnWalls how s → SeenThere how s
  pub camera : (how : Manner) (s : Sight) → CameraOnWalls how s → SeenBack how s

pub record WrongSights : Type 0 where
  pub clear_always : (how : Manner) → SeenThere how Clear → ⊥
  pub refuses_always : (how : Manner) (r : Refusal) → SeenThere how (Refused r) → ⊥
  -- the line comes in by +y
  pub other_face : (how : Manner) (b : Block) → (b.face ≡ Face.Plus Y → ⊥) → SeenThere how (Blocked b) → ⊥
  -- the default blocks a camera by its own housing; the tested start does not
  pub own_housing : (b : Block) → Housed usual (Blocked b) → ⊥
  pub housing_passed : (how : Manner) → how.start ≡ Tested → Housed how Clear → ⊥
  -- rule 2 is taken for rule 1, and rule 1 for rule 2
  pub rule_ignored : (start : Start) → SeenBack (record { start = start; rule = Two }) Clear → ⊥
  pub always_rule_2 : (start : Start) (b : Block) → SeenBack (record { start = start; rule = One }) (Blocked b) → ⊥
  -- a point on the far walls is refused
  pub ball_refused : (how : Manner) (r : Refusal) → BallOnWalls how (Refused r) → ⊥
  pub camera_refused : (how : Manner) (r : Refusal) → CameraOnWalls how (Refused r) → ⊥
