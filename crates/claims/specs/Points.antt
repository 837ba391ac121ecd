-- What is claimed of a surveyed point's cell (SCOPE, S), for every counts, placement and point. Assumes nothing.
use Rattle.std.specs.Prelude.{Ok, Err, Result, ℕ, ◌+◌, ◌-◌, ◌^◌, ◌≤◌, ◌<◌, ◌≡◌, true, false, ◌↔◌, ◌⊎◌, List, [], ◌∷◌, ℤ, pos, negsuc, Float}
use Rattle.cells.specs.declared.Cell.{Cell}
use Rattle.std.proofs.Common.{inl, inr}
use Rattle.std.specs.Float.{nan, inf, fin, binary64}
use Rattle.std.specs.Float.Ieee.{div, neg, lt, le, is_nan, to_unsigned, of_bits, to_bits}
use Rattle.std.specs.Float.Ieee.Exact.{HasValue}
use Rattle.std.specs.Float.Ieee.Scale.{finite}
use Rattle.cells.specs.declared.Axis.TheVariants.{X, Y, Z}
use Rattle.cells.specs.declared.Cell as cell
use Rattle.cells.specs.declared.Counts.{Counts}
use Rattle.cells.specs.declared.End.{End}
use Rattle.cells.specs.declared.End.TheVariants.{P}
use Rattle.cells.specs.declared.Refusal.{Refusal}
use Rattle.cells.specs.declared.Part.{Part}
use Rattle.cells.specs.declared.Part.TheVariants.{OriginX, Edge}
use Rattle.cells.specs.declared.Axis.{Axis}
use Rattle.cells.specs.Refusals.{Told, at_axis, at_part, at_end}
use Rattle.survey.specs.declared.Placement.{Placement}
use Rattle.survey.specs.declared.Point.{Point}
use Rattle.survey.specs.Quotient.{as_f64, outside, in_cell, on_far_face, Has}
use Rattle.sight.specs.Sight.{share_of}
use Rattle.survey.specs.Survey.{PlacedGrid, quotients, look_up, cell_of, LooksUp, told_lookup}
use Rattle.claims.specs.Example.{counts}
use Rattle.claims.specs.Tables.{EachRow}

-- 1. One answer for each input.
pub record OneAnswer (n : Counts) (at : Placement) (p : Point) : Type 0 where
  pub alone : (r s : Result Cell Refusal) → LooksUp n at p r → LooksUp n at p s → r ≡ s

-- 2. On one axis: the coordinate z is a whole number below the count whose cell has q: z ≤ q < z+1, or q equals the count and z is the last.
pub record Coordinate (count : ℕ) (q : Float) (z : ℤ) : Type 0 where
  pub number : ℕ
  pub same : z ≡ pos number
  pub below : number < count
  pub has : Has count q number

-- there is one exactly where 0 ≤ q ≤ count, and no other; below the count it is q's whole part, with z ≤ q < z+1, and at the count it is the last
pub record OneCoordinate (count : ℕ) (q : Float) : Type 0 where
  pub exists : 0 < count → count ≤ 1024 → ((z : ℤ) × Coordinate count q z) ↔ ((le (as_f64 0) q ≡ true) × (le q (as_f64 count) ≡ true))
  pub only : (y z : ℤ) → count ≤ 1024 → Coordinate count q y → Coordinate count q z → y ≡ z
  pub there : (z : ℤ) → lt q (as_f64 count) ≡ true → (h : Coordinate count q z) → in_cell q h.number ≡ true
  pub part : (z : ℤ) → count ≤ 1024 → lt q (as_f64 count) ≡ true → Coordinate count q z → z ≡ pos (to_unsigned 32 q)
  pub last : (z : ℤ) → count ≤ 1024 → on_far_face count q ≡ true → Coordinate count q z → z ≡ pos (count - 1)

-- no two whole numbers below 2^53 have k ≤ q < k+1; and one below 2^32 that has it is q's whole part
pub record OnlyOne (q : Float) : Type 0 where
  pub only : (k m : ℕ) → k < 2 ^ 53 → m < 2 ^ 53 → in_cell q k ≡ true → in_cell q m ≡ true → m ≡ k
  pub part : (k : ℕ) → k < 2 ^ 32 → in_cell q k ≡ true → to_unsigned 32 q ≡ k

-- on the three axes
pub record InItsCell (n : Counts) (q : Point) (c : cell.Cell) : Type 0 where
  pub x : Coordinate n.nx q.x c.x
  pub y : Coordinate n.ny q.y c.y
  pub z : Coordinate n.nz q.z c.z

-- all three surveyed values are finite
pub record Finite (p : Point) : Type 0 where
  pub x : finite p.x ≡ true
  pub y : finite p.y ≡ true
  pub z : finite p.z ≡ true
  -- no more is asked

-- 3. An answer that is a cell is the one that has the point's quotients; and where there is such a cell, it is the answer. Of the call, and of
-- the lookups that a sight makes, of the camera as P and of the ball as Q.
pub record TheCell (n : Counts) (at : Placement) (p : Point) : Type 0 where
  pub given : (c : cell.Cell) → LooksUp n at p (Ok c) → PlacedGrid n at × InItsCell n (quotients at p) c
  pub found : (c : cell.Cell) → PlacedGrid n at → Finite p → InItsCell n (quotients at p) c → LooksUp n at p (Ok c)
  pub end_given : (e : End) (c : cell.Cell) → PlacedGrid n at → look_up e n at p ≡ Ok c → InItsCell n (quotients at p) c
  pub end_found : (e : End) (c : cell.Cell) → PlacedGrid n at → Finite p → InItsCell n (quotients at p) c → look_up e n at p ≡ Ok c

-- 4. With counts and placement that pass their tests and finite values, no quotient is NaN; and a quotient is outside, below 0 or above the count,
-- exactly when it has no coordinate.
pub record Outside (n : Counts) (at : Placement) (p : Point) : Type 0 where
  pub numbers : PlacedGrid n at → Finite p →
      (is_nan (quotients at p).x ≡ false) × (is_nan (quotients at p).y ≡ false) × (is_nan (quotients at p).z ≡ false)
  pub exactly : (count : ℕ) (q : Float) → 0 < count → count ≤ 1024 → is_nan q ≡ false → (outside count q ≡ true) ↔ ((z : ℤ) → ¬ (Coordinate count q z))

-- 5. Every whole number up to 2^53 is made f64 exactly: its value is the number over 1. All counts and all numbers of 32 bits are among them.
pub record Exact (k : ℕ) : Type 0 where
  pub value : k ≤ 2 ^ 53 → HasValue (as_f64 k) false k 1

-- 6. Examples of the share of the way, the quotient rounded once: 1 over 2 is 0.5, 1 over 3 and 3 over 10 the f64 nearest to them (3 times the f64
-- nearest to a tenth is another one), 0 over 1 is 0.
pub record Shares : Type 0 where
  pub half : to_bits binary64 (share_of 1 2) ≡ 0x3fe0_0000_0000_0000
  pub third : to_bits binary64 (share_of 1 3) ≡ 0x3fd5_5555_5555_5555
  pub three_tenths : to_bits binary64 (share_of 3 10) ≡ 0x3fd3_3333_3333_3333
  pub start : share_of 0 1 ≡ as_f64 0

-- ---- worked examples, as one table

-- k metres, and the f64 nearest to k tenths of a metre
abbrev pub metres : ℕ → Float
metres k = as_f64 k

abbrev pub tenths : ℕ → Float
tenths k = div binary64 (as_f64 k) (as_f64 10)

-- the least f64 above 0
abbrev pub smallest : Float
smallest = fin false 1 (negsuc 1073)

-- the f64 next to k metres, by its bits: above it, and below
abbrev pub next_above : ℕ → Float
next_above k = of_bits binary64 (to_bits binary64 (metres k) + 1)

abbrev pub next_below : ℕ → Float
next_below k = of_bits binary64 (to_bits binary64 (metres k) - 1)

-- the three counts alike
abbrev pub cube : ℕ → Counts
cube k = record { nx = k; ny = k; nz = k }

-- the origin's three values alike, and the edge
abbrev pub placement : Float → Float → Placement
placement o edge = record { ox = o; oy = o; oz = o; edge = edge }

-- origin 0, and cells of one metre
abbrev pub one_metre : Placement
one_metre = placement (metres 0) (metres 1)

abbrev pub point : (x y z : Float) → Point
point x y z = record { x = x; y = y; z = z }

-- what an answer says: the cell (x, y, z), or a refusal
abbrev pub cell_is : (x y z : ℕ) → Told ⊎ cell.Cell
cell_is x y z = inr (record { x = pos x; y = pos y; z = pos z })

abbrev pub refused : Told → Told ⊎ cell.Cell
refused = inl

abbrev pub count_refused : Axis → Told ⊎ cell.Cell
count_refused a = refused (at_axis 2 a)

abbrev pub placement_refused : Part → Told ⊎ cell.Cell
placement_refused p = refused (at_part 7 p)

-- a row: counts, placement, point, and what the answer says
pub data Row : Type 0 where
  row : Counts → Placement → Point → Told ⊎ cell.Cell → Row

-- what a row claims
abbrev pub Holds : Row → Type 0
Holds (row n at p says) = told_lookup (cell_of n at p) ≡ says

-- every row of a table holds
abbrev pub Every : List Row → Type 0
Every = EachRow Holds

-- the far walls of cubes of 1, 3 and 1,024 cells a side: the count itself and the f64 below it are the last cell's, the one above is refused 9, on each axis
abbrev pub wall_rows : List Row
wall_rows =
    row (cube 1) one_metre (point (next_below 1) (metres 1) (metres 1)) (cell_is 0 0 0)
    ∷ row (cube 1) one_metre (point (metres 1) (next_below 1) (next_below 1)) (cell_is 0 0 0)
    ∷ row (cube 1) one_metre (point (next_above 1) (metres 1) (metres 1)) (refused (at_end 9 P X))
    ∷ row (cube 1) one_metre (point (metres 1) (next_above 1) (metres 1)) (refused (at_end 9 P Y))
    ∷ row (cube 1) one_metre (point (metres 1) (metres 1) (next_above 1)) (refused (at_end 9 P Z))
    ∷ row (cube 3) one_metre (point (next_below 3) (metres 3) (metres 3)) (cell_is 2 2 2)
    ∷ row (cube 3) one_metre (point (metres 3) (next_below 3) (next_below 3)) (cell_is 2 2 2)
    ∷ row (cube 3) one_metre (point (next_above 3) (metres 3) (metres 3)) (refused (at_end 9 P X))
    ∷ row (cube 3) one_metre (point (metres 3) (next_above 3) (metres 3)) (refused (at_end 9 P Y))
    ∷ row (cube 3) one_metre (point (metres 3) (metres 3) (next_above 3)) (refused (at_end 9 P Z))
    ∷ row (cube 1024) one_metre (point (next_below 1024) (metres 1024) (metres 1024)) (cell_is 1023 1023 1023)
    ∷ row (cube 1024) one_metre (point (metres 1024) (next_below 1024) (next_below 1024)) (cell_is 1023 1023 1023)
    ∷ row (cube 1024) one_metre (point (next_above 1024) (metres 1024) (metres 1024)) (refused (at_end 9 P X))
    ∷ row (cube 1024) one_metre (point (metres 1024) (next_above 1024) (metres 1024)) (refused (at_end 9 P Y))
    ∷ row (cube 1024) one_metre (point (metres 1024) (metres 1024) (next_above 1024)) (refused (at_end 9 P Z))
    -- one wall alone, each
    ∷ row (cube 4) one_metre (point (metres 4) (metres 0) (metres 0)) (cell_is 3 0 0)
    ∷ row (cube 4) one_metre (point (metres 0) (metres 4) (metres 0)) (cell_is 0 3 0)
    ∷ row (cube 4) one_metre (point (metres 0) (metres 0) (metres 4)) (cell_is 0 0 3)
    -- the rounded q decides. Of the f64 nearest to these tenths, (0.9 - 0.1) / 0.2 is less than 4 and rounds to it, (1.1 - 0.1) / 0.2 is more than 5 and rounds
    -- to it; and (0.9 - 0.3) / 0.2 is 3, and rounds to more
    ∷ row (counts 4 5 3) (placement (tenths 1) (tenths 2)) (point (tenths 9) (tenths 11) (tenths 7)) (cell_is 3 4 2)
    ∷ row (counts 3 4 1) (placement (tenths 3) (tenths 2)) (point (tenths 9) (tenths 3) (tenths 3)) (refused (at_end 9 P X))
    -- the wall of x is passed, so that y is what is refused
    ∷ row (cube 4) one_metre (point (metres 4) nan (metres 9)) (refused (at_end 8 P Y))
    ∷ []

-- accepted: 1.5 m at an edge of 1 m; 1,024 cells; minus zero; (0.7 - 0.1) / 0.2, which rounds to less than 3; a quotient that rounds to minus zero.
-- Refused: below 0, above the count, an infinite quotient (9); NaN and an infinity (8), x before y; edges 0.0, NaN, infinite, -1 and an origin
-- NaN (7); counts 0 and 1,025 (2), before 7.
abbrev pub table : List Row
table =
    row (cube 4) one_metre (point (tenths 15) (metres 0) (tenths 39)) (cell_is 1 0 3)
    ∷ row (cube 1024) one_metre (point (metres 1023) (metres 1) (metres 512)) (cell_is 1023 1 512)
    ∷ row (cube 4) one_metre (point (neg (metres 0)) (metres 1) (metres 2)) (cell_is 0 1 2)
    ∷ row (cube 4) (placement (tenths 1) (tenths 2)) (point (tenths 7) (tenths 1) (tenths 3)) (cell_is 2 0 0)
    ∷ row (cube 4) (placement (metres 0) (metres 4)) (point (neg smallest) (metres 5) (metres 15)) (cell_is 0 1 3)
    ∷ row (cube 4) one_metre (point (neg smallest) (metres 0) (metres 0)) (refused (at_end 9 P X))
    ∷ row (cube 4) one_metre (point (metres 0) (metres 5) (metres 0)) (refused (at_end 9 P Y))
    ∷ row (cube 4) (placement (metres 0) smallest) (point (metres 0) (metres 1) (metres 0)) (refused (at_end 9 P Y))
    ∷ row (cube 4) one_metre (point (metres 0) nan (metres 0)) (refused (at_end 8 P Y))
    ∷ row (cube 4) one_metre (point (inf true) nan nan) (refused (at_end 8 P X))
    ∷ row (cube 4) one_metre (point (metres 9) nan nan) (refused (at_end 9 P X))
    ∷ row (cube 4) (placement (metres 0) (metres 0)) (point nan nan nan) (placement_refused Edge)
    ∷ row (cube 4) (placement (metres 0) nan) (point (metres 0) (metres 0) (metres 0)) (placement_refused Edge)
    ∷ row (cube 4) (placement (metres 0) (inf false)) (point (metres 0) (metres 0) (metres 0)) (placement_refused Edge)
    ∷ row (cube 4) (placement (metres 0) (neg (metres 1))) (point (metres 0) (metres 0) (metres 0)) (placement_refused Edge)
    ∷ row (cube 4) (placement nan nan) (point (metres 0) (metres 0) (metres 0)) (placement_refused OriginX)
    ∷ row (cube 0) (placement nan nan) (point nan nan nan) (count_refused X)
    ∷ row (cube 1025) one_metre (point (metres 0) (metres 0) (metres 0)) (count_refused X)
    ∷ wall_rows

-- ---- wrong answers that the contract rules out

-- "always cell 0", and "refused always", at 1.5 m of 4 cells
abbrev pub FoundThere : Result Cell Refusal → Type 0
FoundThere = LooksUp (cube 4) one_metre (point (tenths 15) (metres 0) (metres 0))

-- on the far wall of x, 4 m of 4 cells; and the next f64 behind it
abbrev pub FoundOnWall : Result Cell Refusal → Type 0
FoundOnWall = LooksUp (cube 4) one_metre (point (metres 4) (metres 0) (metres 0))

abbrev pub FoundBehind : Result Cell Refusal → Type 0
FoundBehind = LooksUp (cube 4) one_metre (point (next_above 4) (metres 0) (metres 0))

pub record Refuted : Type 0 where
  pub always_first_cell : FoundThere (Ok (record { x = pos 0; y = pos 0; z = pos 0 })) → ⊥
  pub refuses_always : (r : Refusal) → FoundThere (Err r) → ⊥
  -- the far wall refused; given to the first cell, or to the cell behind the last; a cell behind it
  pub wall_refused : (r : Refusal) → FoundOnWall (Err r) → ⊥
  pub wall_to_another : (c : cell.Cell) → (c ≡ record { x = pos 3; y = pos 0; z = pos 0 } → ⊥) → FoundOnWall (Ok c) → ⊥
  pub behind_accepted : (c : cell.Cell) → FoundBehind (Ok c) → ⊥
