-- Each call's verdict on its inputs says what the call's row of tests says: each of its tests means its condition. Assumes nothing.
use Rattle.std.specs.Prelude.{Ok}
use Prim.Native.Nat.{ℕ, ◌+◌, ◌-◌, ◌*◌, ◌<◌}
use native.Mathlib.Nat.{lt_of_not-le}
use native.Mathlib.Omega.{arith}
use mathlib.Core.Path.{◌≡◌, refl, ap, ◌∙◌}
use mathlib.Core.Bool.{Bool, true, false, cond, not, ◌&&◌, ◌||◌, false≢true}
use mathlib.Core.List.{List}
use mathlib.Core.Logic.Iff
use mathlib.Core.Logic.{◌↔◌, ◌⊎◌, inl, inr, ⊎_elim}
use lib.Dec.{eqb}
use lib.IntN.{ℤ, pos, neg_ℤ}
use lib.Signed.{◌<ℤ◌, ◌≤ℤ◌}
use lib.ListN.{length, get_or}
use lib.Ieee.{Float, lt}
use lib.Ieee.Scale.{finite}
use borrow.Author.Tests.{eqb-true, eqb-false}
use Rattle.cells.specs.declared.Axis.{Axis}
use Rattle.cells.specs.declared.Axis.TheVariants.{X, Y, Z}
use Rattle.cells.specs.declared.Cell as cell
use Rattle.cells.specs.declared.Counts.{Counts}
use Rattle.cells.specs.declared.End.{End}
use Rattle.cells.specs.declared.End.TheVariants.{P, Q}
use Rattle.cells.specs.declared.Part.TheVariants.{OriginX, OriginY, OriginZ, Edge}
use Rattle.cells.specs.declared.Refusal.TheVariants as Refusal
use Rattle.cells.specs.Checks.{Verdict, refuse_when, ◌then◌}
use Rattle.cells.specs.Refusals.{alone}
use Rattle.cells.specs.Tests.{Tests, ◌gives◌}
use Rattle.cells.specs.Manners.{names_rule, rule_check}
use Rattle.cells.proofs.Conditions.{ltb_means, eqb_means, zero_means, not_eqb_means, lt_z_means, le_z_means, le_z_fails, not_means, or_means, not_and_means}
use Rattle.cells.proofs.Signed.{le_lt_z}
use Rattle.cells.proofs.Tests.{Judges, when, ◌next◌, next_if, next_fine}
use Rattle.lines.specs.Lines.{in_limit}
use Rattle.lists.specs.Lists.{end_check, ends_check, list_check}
use Rattle.grids.specs.Grid.{bad_count, size, count_check, shape, layer_check}
use Rattle.grids.specs.Inside.{off_axis, grid_check, walk_check}
use Rattle.cells.proofs.Touching.{and_both}
use Rattle.grids.specs.Marks.{any}
use Rattle.grids.proofs.Any.{any_some, any_which}
use Rattle.bricks.specs.Bricks.{bricks, mask_at}
use Rattle.bricks.specs.Builds.{bricks_check}
use Rattle.refills.specs.Boxes.{corner}
use Rattle.refills.specs.Refills.{holds_named, ones_in, crossed, box_check, differs, differs_in, stale, stale_check}
use Rattle.survey.specs.declared.Placement.{Placement}
use Rattle.survey.specs.declared.Point.{Point}
use Rattle.survey.specs.Quotient.{as_f64, quotient}
use Rattle.survey.specs.Survey.{placement_check, value_check, quotients, point_check}
use Rattle.buffers.specs.Numbers.{four_at}
use Rattle.records.specs.Heads.{whole_check}
use Rattle.records.specs.Venues.{venue_version, venue_head, venue_check}
use Rattle.records.specs.Pairs.{pair_version, pair_length, rule_byte, pair_check}
use Rattle.records.specs.Writing.{write_check}
use Rattle.claims.specs.Kept.{HoldsNamed}
use Rattle.claims.proofs.Kept.{holds_is, is_holds}
use Rattle.claims.specs.Refused.{bricks_tests, corner_tests, Disagrees, box_tests, set_tests, limit_tests, ends_tests, list_tests, count_tests, shape_tests, layer_tests, grid_tests, walk_tests, placement_tests, value_tests, point_tests, whole_tests, version_test, counts_in, venue_tests, pair_tests, write_tests, rule_test}

-- ---- line lists

beyond_limit : (z : ℤ) → (not (in_limit z) ≡ true) ↔ ((z <ℤ neg_ℤ (pos 8192)) ⊎ (pos 8191 <ℤ z))
beyond_limit z = not_and_means (le_z_fails _ z) (le_z_fails z _)

limit_judged : (e : End) (c : cell.Cell) → Judges (limit_tests e c) (end_check e c)
limit_judged e c = when (beyond_limit c.x) (Refusal.Limit e X) next when (beyond_limit c.y) (Refusal.Limit e Y) next when (beyond_limit c.z)
    (Refusal.Limit e Z)

pub list_judged : {tests : Tests} {first : Verdict} → Judges tests first → (cells room : ℕ) → Judges (list_tests tests cells room) (list_check first cells room)
list_judged judged cells room = judged next when (ltb_means room (3 * cells)) Refusal.Room

pub ends_judged : (p q : cell.Cell) → Judges (ends_tests p q) (ends_check p q)
ends_judged p q = limit_judged P p next limit_judged Q q

-- ---- grids

count_means : (n : ℕ) → (bad_count n ≡ true) ↔ ((n < 1) ⊎ (1024 < n))
count_means n = or_means (zero_means n) (ltb_means 1024 n)

pub counts_judged : (n : Counts) → Judges (count_tests n) (count_check n)
unfolding count_check
counts_judged n = when (count_means n.nx) (Refusal.Count X) next when (count_means n.ny) (Refusal.Count Y) next when (count_means n.nz)
    (Refusal.Count Z)

pub shape_judged : (n : Counts) (bytes : ℕ) → Judges (shape_tests n bytes) (shape n bytes)
unfolding shape
shape_judged n bytes = counts_judged n next when (not_eqb_means bytes (size n)) Refusal.Bytes

-- a layer's z, and a coordinate of an end
off_means : (v : ℤ) (count : ℕ) → (off_axis v count ≡ true) ↔ ((v <ℤ pos 0) ⊎ (pos count ≤ℤ v))
off_means v count = or_means (lt_z_means v (pos 0)) (le_z_means (pos count) v)

pub layer_judged : (n : Counts) (bytes : ℕ) (z : ℤ) → Judges (layer_tests n bytes z) (layer_check n bytes z)
unfolding layer_check
layer_judged n bytes z = shape_judged n bytes next when (off_means z n.nz) Refusal.Layer

grid_judged : (e : End) (n : Counts) (c : cell.Cell) → Judges (grid_tests e n c) (grid_check e n c)
grid_judged e n c =
    when (off_means c.x n.nx) (Refusal.OffGrid e X) next
    when (off_means c.y n.ny) (Refusal.OffGrid e Y) next
    when (off_means c.z n.nz) (Refusal.OffGrid e Z)

pub walk_judged : (n : Counts) (bytes : ℕ) (p q : cell.Cell) → Judges (walk_tests n bytes p q) (walk_check n bytes p q)
unfolding walk_check
walk_judged n bytes p q = shape_judged n bytes next grid_judged P n p next grid_judged Q n q

-- ---- solid counts

pub bricks_judged : (n : Counts) (bytes lent : ℕ) → Judges (bricks_tests n bytes lent) (bricks_check n bytes lent)
unfolding bricks_check
bricks_judged n bytes lent = shape_judged n bytes next when (ltb_means lent (size (bricks n))) Refusal.Room

crossed_means : (low high : cell.Cell) → (crossed low high ≡ true) ↔ ((high.x <ℤ low.x) ⊎ ((high.y <ℤ low.y) ⊎ (high.z <ℤ low.z)))
crossed_means low high = or_means (lt_z_means high.x low.x) (or_means (lt_z_means high.y low.y) (lt_z_means high.z low.z))

corners_judged : (n : Counts) (bytes lent : ℕ) (low high : cell.Cell) → Judges (corner_tests n bytes lent low high) (box_check n bytes lent low high)
unfolding box_check
corners_judged n bytes lent low high =
    bricks_judged n bytes lent next grid_judged P n low next grid_judged Q n high next when (crossed_means low high) Refusal.Corners

-- a mask that differs, in a brick that holds a cell of the box
module _ (n : Counts) (l m : List ℕ) (low high : cell.Cell) (fine : box_check n (length l) (length m) low high ≡ Ok tt) where
  abbrev holds : ℕ → Bool
  holds k = holds_named n (corner low) (corner high) k

  differs_means :
      (differs_in n (corner low) (corner high) l m ≡ true) ↔ ((k : ℕ) × HoldsNamed n low high k × (¬ (get_or m k 0 ≡ mask_at n l k)))
  unfolding differs_in
  differs_means = (down, up)
    where
      down : any (λ k. holds k && differs n l m k) (size (bricks n)) ≡ true → (k : ℕ) × HoldsNamed n low high k × (¬ (get_or m k 0 ≡ mask_at n l k))
      down e =
          let (k, _, t) = any_which (λ k. holds k && differs n l m k) (size (bricks n)) e in
          let (named, wrong) = and_both (holds k) _ t in
          (k, is_holds n (length l) (length m) low high fine k named, (not_eqb_means (get_or m k 0) (mask_at n l k)).0 wrong)

      up : (k : ℕ) × HoldsNamed n low high k × (¬ (get_or m k 0 ≡ mask_at n l k)) → any (λ k. holds k && differs n l m k) (size (bricks n)) ≡ true
      up (k, there, wrong) =
          let (named, lt) = holds_is n (length l) (length m) low high fine k there in
          any_some (λ k. holds k && differs n l m k) (size (bricks n)) k lt (rw named ((not_eqb_means (get_or m k 0) (mask_at n l k)).1 wrong))

  stale_judged : (total : ℕ) → Judges (Disagrees n l m total low high gives alone 13) (stale_check n (corner low) (corner high) l m total)
  unfolding stale
  stale_judged total =
      when (or_means differs_means (or_means (ltb_means total (ones_in n (corner low) (corner high) m)) (ltb_means (size n) total))) Refusal.Stale

pub box_judged :
    (n : Counts) (l m : List ℕ) (total : ℕ) (low high : cell.Cell) →
    Judges (box_tests n l m total low high) (box_check n (length l) (length m) low high then stale_check n (corner low) (corner high) l m total)
box_judged n l m total low high =
    next_fine (corners_judged n (length l) (length m) low high) (λ fine. stale_judged n l m low high fine total)

-- a box of one cell: what is tested of its high corner was tested of its low one
module _ (n : Counts) (bytes lent : ℕ) (c : cell.Cell) where
  twice : (bx by bz w : Bool) → w ≡ false →
      ((refuse_when bx (Refusal.OffGrid P X) then refuse_when by (Refusal.OffGrid P Y) then refuse_when bz (Refusal.OffGrid P Z)) then
      (refuse_when bx (Refusal.OffGrid Q X) then refuse_when by (Refusal.OffGrid Q Y) then refuse_when bz (Refusal.OffGrid Q Z)) then
      refuse_when w Refusal.Corners)
      ≡ (refuse_when bx (Refusal.OffGrid P X) then refuse_when by (Refusal.OffGrid P Y) then refuse_when bz (Refusal.OffGrid P Z))
  twice true by bz w e = refl
  twice false true bz w e = refl
  twice false false true w e = refl
  twice false false false w e = rw e refl

  uncrossed : crossed c c ≡ false
  uncrossed =
      rw (le_lt_z c.x c.x (omega arith), le_lt_z c.y c.y (omega arith), le_lt_z c.z c.z (omega arith)) refl

  pub one_corner : box_check n bytes lent c c ≡ (bricks_check n bytes lent then grid_check P n c)
  unfolding box_check
  one_corner =
      ap (λ (v : Verdict). bricks_check n bytes lent then v) (twice (off_axis c.x n.nx) (off_axis c.y n.ny) (off_axis c.z
      n.nz) _ uncrossed)

pub set_judged :
    (n : Counts) (l m : List ℕ) (total : ℕ) (c : cell.Cell) →
    Judges (set_tests n l m total c) ((bricks_check n (length l) (length m) then grid_check P n c) then stale_check n (corner c) (corner c) l m total)
set_judged n l m total c =
    next_fine (bricks_judged n (length l) (length m) next grid_judged P n c)
    (λ fine. stale_judged n l m c c (one_corner n (length l) (length m) c ∙ fine) total)

-- ---- surveyed points

pub placement_judged : (at : Placement) → Judges (placement_tests at) (placement_check at)
unfolding placement_check
placement_judged at =
    when (not_means (finite at.ox)) (Refusal.Placement OriginX) next
    when (not_means (finite at.oy)) (Refusal.Placement OriginY) next
    when (not_means (finite at.oz)) (Refusal.Placement OriginZ) next
    when (or_means (not_means (finite at.edge)) (not_means (lt (as_f64 0) at.edge))) (Refusal.Placement Edge)

value_judged : (e : End) (a : Axis) (count : ℕ) (value origin edge : Float) →
    Judges (value_tests e a count value origin edge) (value_check e a count value (quotient value origin edge))
value_judged e a count value origin edge = when (not_means (finite value)) (Refusal.NotFinite e a) next when (or_means Iff.rfl Iff.rfl) (Refusal.OffSurvey e a)

pub point_judged : (e : End) (n : Counts) (at : Placement) (p : Point) → Judges (point_tests e n at p) (point_check e n p (quotients at p))
unfolding point_check
point_judged e n at p =
    value_judged e X n.nx p.x at.ox at.edge next
    value_judged e Y n.ny p.y at.oy at.edge next
    value_judged e Z n.nz p.z at.oz at.edge

-- ---- rules

-- neither of two numbers
neither_means : (k a b : ℕ) → (not (eqb k a || eqb k b) ≡ true) ↔ ((¬ (k ≡ a)) × (¬ (k ≡ b)))
neither_means k a b = go (eqb k a) (eqb_means k a)
  where
    go : (t : Bool) → (t ≡ true) ↔ (k ≡ a) → (not (t || eqb k b) ≡ true) ↔ ((¬ (k ≡ a)) × (¬ (k ≡ b)))
    go true is = (λ e. absurd (false≢true e), λ none. absurd (none.0 (is.0 refl)))
    go false is = (λ e. (λ f. false≢true (is.1 f), (not_eqb_means k b).0 e), λ none. (not_eqb_means k b).1 none.1)

pub rule_judged : (number : ℕ) → Judges (rule_test number) (rule_check number)
unfolding rule_check
rule_judged number = when (neither_means number 1 2) Refusal.NoRule

-- ---- records

whole_judged : (s : List ℕ) → Judges (whole_tests s) (whole_check s)
unfolding whole_check
whole_judged s = when (ltb_means _ _) Refusal.Record next when (eqb_means _ _) Refusal.Record next when (ltb_means _ _) Refusal.Record

version_judged : (s : List ℕ) → Judges (version_test s) (refuse_when (not (eqb (get_or s 4 0) 1)) Refusal.Version)
version_judged s = when (not_eqb_means (get_or s 4 0) 1) Refusal.Version

-- the length less 7, where it is not below 7
length_means : (long size : ℕ) → ¬ (long < 7) → (not (eqb (long - 7) size) ≡ true) ↔ (¬ (long ≡ 7 + size))
length_means long size seven = Iff.trans (not_eqb_means (long - 7) size) (Iff.not (λ e. omega (arith, lt_of_not-le seven), λ e. omega arith))

pub venue_judged : (s : List ℕ) → Judges (venue_tests s) (venue_check s)
unfolding venue_check venue_version venue_head shape
venue_judged s =
    whole_judged s next version_judged s next next_if (when (ltb_means _ 7) Refusal.Record)
    λ seven. counts_judged (counts_in s) next when (length_means (four_at s 0) _ seven) Refusal.Bytes

-- one of two versions that is not the second is the first
first_version : (v : ℕ) → ¬ ((¬ (v ≡ 1)) × (¬ (v ≡ 2))) → ¬ (v ≡ 2) → v ≡ 1
first_version v known other = go (eqb v 1) refl
  where
    go : (t : Bool) → eqb v 1 ≡ t → v ≡ 1
    go true e = eqb-true v 1 e
    go false e = absurd (known (eqb-false v 1 e, other))

-- a length that is not that of a pair's version
pair_length_means : (v long : ℕ) → ¬ ((¬ (v ≡ 1)) × (¬ (v ≡ 2))) →
    (not (eqb long (pair_length v)) ≡ true) ↔ (((v ≡ 1) × (¬ (long ≡ 13))) ⊎ ((v ≡ 2) × (¬ (long ≡ 14))))
unfolding pair_length
pair_length_means v long known = go (eqb v 2) (eqb_means v 2)
  where
    go : (t : Bool) → (t ≡ true) ↔ (v ≡ 2) → (not (eqb long (cond t 14 13)) ≡ true) ↔ (((v ≡ 1) × (¬ (long ≡ 13))) ⊎ ((v ≡ 2) × (¬ (long ≡ 14))))
    go true is = (
      λ e. inr (is.0 refl, (not_eqb_means long 14).0 e),
      ⊎_elim (λ (first, other). absurd (omega (arith, first, is.0 refl))) (λ (second, other). (not_eqb_means long 14).1 other),
    )
    go false is = (
      λ e. inl (first_version v known (λ f. false≢true (is.1 f)), (not_eqb_means long 13).0 e),
      ⊎_elim (λ (first, other). (not_eqb_means long 13).1 other) (λ (second, other). absurd (false≢true (is.1 second))),
    )

-- a rule byte, which only version 2 has
rule_byte_means : (v b : ℕ) → (not (names_rule (cond (eqb v 2) b 1)) ≡ true) ↔ ((v ≡ 2) × (¬ (b ≡ 1)) × (¬ (b ≡ 2)))
rule_byte_means v b = go (eqb v 2) (eqb_means v 2)
  where
    go : (t : Bool) → (t ≡ true) ↔ (v ≡ 2) → (not (names_rule (cond t b 1)) ≡ true) ↔ ((v ≡ 2) × (¬ (b ≡ 1)) × (¬ (b ≡ 2)))
    go true is = (λ e. let (one, two) = (neither_means b 1 2).0 e in (is.0 refl, one, two), λ (second, one, two). (neither_means b 1 2).1 (one, two))
    go false is = (λ e. absurd (false≢true e), λ (second, one, two). absurd (false≢true (is.1 second)))

pub pair_judged : (s : List ℕ) → Judges (pair_tests s) (pair_check s)
unfolding pair_check pair_version rule_byte rule_check
pair_judged s =
    whole_judged s next next_if (when (neither_means (get_or s 4 0) 1 2) Refusal.Version)
    λ known. when (pair_length_means (get_or s 4 0) (four_at s 0) known) Refusal.Record next
    when (rule_byte_means (get_or s 4 0) (get_or s 17 0)) Refusal.NoRule

pub write_judged : (n : Counts) (bytes room : ℕ) → Judges (write_tests n bytes room) (write_check n bytes room)
unfolding write_check venue_head
write_judged n bytes room = shape_judged n bytes next when (ltb_means room _) Refusal.Room
