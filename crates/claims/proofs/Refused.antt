-- The table of refusals, from what each call's verdict says (`Judged`). Assumes nothing.
use Rattle.std.specs.Prelude.{Ok, Err, Result}
use Rattle.records.specs.declared.venues.Venue.{Venue}
use Rattle.cells.specs.declared.Cell.{Cell}
use Prim.Native.Nat.{ℕ, ◌≤◌}
use native.Mathlib.Omega.{arith}
use mathlib.Core.Path.{◌≡◌, refl, sym, ap, ◌∙◌}
use mathlib.Core.Bool.{Bool, true, false, cond}
use mathlib.Core.List.{List, []}
use mathlib.Core.Logic.{◌↔◌, inl, inr}
use lib.IntN.{ℤ}
use lib.ListN.{length}
use denote.Ref.{Bor}
use Rattle.cells.specs.declared.Cell as cell
use Rattle.cells.specs.declared.Counts.{Counts}
use Rattle.cells.specs.declared.Manner.{Manner}
use Rattle.cells.specs.declared.End.TheVariants.{P, Q}
use Rattle.cells.specs.declared.Refusal.{Refusal}
use Rattle.cells.specs.declared.Start.{Start}
use Rattle.cells.specs.Checks.{Verdict, ◌then◌, by_verdict}
use Rattle.cells.specs.Manners.{rule_of, rule_check}
use Rattle.cells.specs.Refusals.{Told, told_verdict}
use Rattle.cells.specs.Tests.{Tests, ◌else◌, First, ByTests}
use Rattle.cells.proofs.Checks.{each_fine}
use Rattle.cells.proofs.Tests.{Judges, ◌next◌, answered, empty_by}
use Rattle.lines.specs.Lines.{six_line, line_26}
use Rattle.lines.specs.Preference.{by_rule}
use Rattle.lines.specs.Touching.{visits, crossings, touching_line}
use Rattle.lines.proofs.Touched.{start}
use Rattle.lines.proofs.Cells.{six_length, length_26}
use Rattle.lists.specs.Lists.{Lists, list_check, told_listed}
use Rattle.grids.specs.declared.LayerPart.{LayerPart}
use Rattle.grids.specs.Grid.{part_at, count_check, shape, layer_start, layer_length, layer_part, GivesLayerPart, told_part, bytes_of, layer, GivesLayer}
use Rattle.grids.specs.Inside.{walk_check}
use Rattle.grids.specs.Marks.{complete, completeness, told_completeness}
use Rattle.grids.proofs.Layers.{layer_empty}
use Rattle.grids.proofs.Shapes.{shape_counts}
use Rattle.bricks.specs.Bricks.{solids}
use Rattle.bricks.specs.Builds.{told_tally}
use Rattle.refills.specs.Boxes.{corner}
use Rattle.refills.specs.Refills.{refilled, remasked, moved, stale_check, Refills, Sets}
use Rattle.walks.specs.declared.Walker.{Walker}
use Rattle.walks.specs.declared.Walker.TheVariants.{Adaptive}
use Rattle.walks.specs.declared.Hit.{Hit}
use Rattle.walks.specs.declared.FirstHit.{FirstHit}
use Rattle.walks.specs.Walks.{Conduct, conduct, hit_at, walk_of}
use Rattle.walks.specs.Answers.{last_of, answer_of, first_hit, told_hit, WalkSaid, clear, hit}
use Rattle.touching.specs.Touching.{found_in, walking, first_touching}
use Rattle.trails.specs.Trails.{trail}
use Rattle.touching.proofs.Answers.{Search, found, none, search_of}
use Rattle.survey.specs.declared.Placement.{Placement}
use Rattle.survey.specs.declared.Point.{Point}
use Rattle.survey.specs.Survey.{placement_check, PlacedGrid, quotients, point_check, cell_at, look_up, cell_of, LooksUp, told_lookup}
use Rattle.survey.proofs.Lookups.{lookup_found}
use Rattle.sight.specs.declared.Sight.{Sight}
use Rattle.sight.specs.Sight as sights
use Rattle.sight.specs.Sight.{sight_of, seen, looked, sight, Sees, told_sight, SightSaid}
use Rattle.sight.proofs.Walkable.{walkable}
use Rattle.records.specs.Venues.{venue_in, venue_read, ReadsVenue, part_of, venue_cells, GivesCells, told_venue}
use Rattle.records.specs.Pairs.{pair_in, pair_read, told_pair}
use Rattle.records.specs.Writing.{record_length, told_written}
use Rattle.oatmarten.specs.Flattening.{After}
use Rattle.structs.specs.Inputs.{as_manner}
use Rattle.claims.specs.Refused.{box_tests, set_tests, TalliesTold, list_tests, rule_test, LinesTold, TrailsTold, layer_tests, GridsTold, cell_tests, sight_tests, PointsTold, venue_tests, RecordsTold, RulesTold}
use Rattle.claims.proofs.Records.{the_part}
use Rattle.claims.proofs.Judged.{list_judged, ends_judged, counts_judged, shape_judged, layer_judged, walk_judged, placement_judged, bricks_judged, box_judged, one_corner, set_judged, point_judged, rule_judged, venue_judged, pair_judged, write_judged}

-- ---- line lists

listed_told : (line : List cell.Cell) {tests : Tests} {first : Verdict} → Judges tests first → (entry exit : List ℤ) (r : Result ℕ Refusal) →
    Lists line first entry r exit → ByTests (list_tests tests (length line) (length entry)) (told_listed r)
listed_told line judged entry exit r c =
    answered told_listed (by_verdict Err (Ok (length line))) (λ r. refl) (list_judged judged (length line) (length entry))
    (λ fine. (length line, refl)) c.says

pub lines_told : (p q : cell.Cell) (entry exit : List ℤ) (r : Result ℕ Refusal) → LinesTold p q entry exit r
lines_told p q entry exit r =
    record {
      six = λ rule c. let o = by_rule rule p q in rw (six_length o p q) at (listed_told (six_line o p q) (ends_judged p q) entry exit r c);
      twenty_six = λ c. rw (length_26 p q) at (listed_told (line_26 p q) (ends_judged p q) entry exit r c);
      touching = λ c. listed_told (touching_line p q) (ends_judged p q) entry exit r c;
    }

pub trails_told : (how : Manner) (n : Counts) (l : List ℕ) (p q : cell.Cell) (entry exit : List ℤ) (r : Result ℕ Refusal) → TrailsTold how n l p q entry exit r
trails_told how n l p q entry exit r = record { told = listed_told (trail how n l p q) (walk_judged n (length l) p q) entry exit r }

-- ---- grids

-- what a walk answers, and that it is no refusal
abbrev answer : Walker → Manner → Counts → List ℕ → (p q : cell.Cell) → FirstHit
answer k how n l p q = let c : Conduct = conduct how p q in answer_of c n l p q (walk_of k c n l p q)

hit_told : (k : Walker) (how : Manner) (n : Counts) (l : List ℕ) (p q : cell.Cell) → (w : WalkSaid) × (told_hit (Ok (answer k how n l p q)) ≡ inr w)
unfolding answer_of
hit_told k how n l p q = let c : Conduct = conduct how p q in by (hit_at c n l p (last_of p (walk_of k c n l p q))) _ _
  where
    by : (b : Bool) (h : Hit) (reads : ℕ) → (w : WalkSaid) × (told_hit (Ok (cond b (FirstHit.Hit h) (FirstHit.Clear reads))) ≡ inr w)
    by true h reads = (hit h, refl)
    by false h reads = (clear reads, refl)

layer_part_told : (n : Counts) (l : List ℕ) (z : ℤ) (r : Result LayerPart Refusal) → GivesLayerPart n (length l) z r → ByTests (layer_tests n (length l) z) (told_part r)
unfolding layer_part
layer_part_told n l z r c = answered told_part (by_verdict Err (Ok (part_at (layer_start n z) (layer_length n)))) (λ r. refl)
    (layer_judged n (length l) z) (λ fine. (_, refl)) c.says

-- a refusal is no value
one_of_two : {A B C : Type 0} {a : A} {b : B} → inl a ≡ inr b → C
one_of_two e = absurd (let z : ◌≡◌ {A = ℕ} 0 1 = cc in omega arith)

no_bytes : (a : Result LayerPart Refusal) (l : List ℕ) (t : Told) → told_part a ≡ inl t → bytes_of a l ≡ []
no_bytes (Err r) l t e = refl
no_bytes (Ok p) l t e = one_of_two (sym e)

layer_told : (n : Counts) (z : ℤ) (cells part : Bor (List ℕ)) → GivesLayer n cells z part →
    (part.now ≡ []) ↔ ((t : Told) × First (layer_tests n (length cells.now) z) t)
unfolding layer
layer_told n z cells part c =
    let l = cells.now in
    let named = layer_part n (length l) z in
    empty_by (told_part named) (layer_part_told n l z named (record { says = refl }))
    (λ t e. c.says ∙ no_bytes named l t e)
    (λ v e none. let (r, refused) = (layer_empty n l z).0 (sym c.says ∙ none) in one_of_two (sym (ap told_part refused) ∙ e))

-- the same of the touching walk
abbrev found_along : Start → Counts → List ℕ → (p q : cell.Cell) → FirstHit
found_along from n l p q = found_in (hit_at (walking from) n l p) n l p q 0 (visits (crossings p q))

touching_told : (from : Start) (n : Counts) (l : List ℕ) (p q : cell.Cell) → (w : WalkSaid) × (told_hit (Ok (found_along from n l p q)) ≡ inr w)
touching_told from n l p q = by (search_of (hit_at (walking from) n l p) n l p q (start p q) 0 (visits (crossings p q)))
  where
    by : Search (hit_at (walking from) n l p) n l p q (start p q) 0 (visits (crossings p q)) → (w : WalkSaid) × (told_hit (Ok (found_along from n l p q)) ≡ inr w)
    by (found i lt met before is) = (_, ap (λ h. told_hit (Ok h)) is)
    by (none all is) = (_, ap (λ h. told_hit (Ok h)) is)

pub grids_told : (n : Counts) (l : List ℕ) → GridsTold n l
unfolding completeness first_hit first_touching
grids_told n l =
    record {
      shape = λ bytes r c. answered told_verdict (λ v. v) (λ r. refl) (shape_judged n bytes) (λ fine. (tt, refl)) c.says;
      mark = λ r exit c. answered told_verdict (λ v. v) (λ r. refl) (shape_judged n (length l)) (λ fine. (tt, refl)) c.says;
      complete = λ r c.
          answered told_completeness (by_verdict Err (Ok (complete 3 n l))) (λ r. refl) (shape_judged n (length l))
          (λ fine. (complete 3 n l, refl)) c.says;
      layer_part = layer_part_told n l;
      layer = layer_told n;
      first_hit = λ k how p q r c.
          answered told_hit (by_verdict Err (Ok (answer k how n l p q))) (λ r. refl) (walk_judged n (length l) p q)
          (λ fine. hit_told k how n l p q) c.says;
      first_touching = λ from p q r c.
          answered told_hit (by_verdict Err (Ok (found_along from n l p q))) (λ r. refl) (walk_judged n (length l) p q)
          (λ fine. touching_told from n l p q) c.says;
    }

-- ---- surveyed points

cell_told : (n : Counts) (at : Placement) (p : Point) (r : Result Cell Refusal) → LooksUp n at p r → ByTests (cell_tests n at p) (told_lookup r)
unfolding cell_of look_up
cell_told n at p r c =
    answered told_lookup (by_verdict Err (Ok (cell_at n (quotients at p)))) (λ r. refl)
    (counts_judged n next placement_judged at next point_judged P n at p)
    (λ fine. (_, refl))
    (c.says ∙ in_one (count_check n) (placement_check at) (point_check P n p (quotients at p)) (Ok (cell_at n (quotients at p))))
  where
    in_one : (u v w : Verdict) (x : Result Cell Refusal) →
        by_verdict Err (by_verdict Err x w) (u then v) ≡ by_verdict Err x (u then v then w)
    in_one (Err r) v w x = refl
    in_one (Ok _) (Err r) w x = refl
    in_one (Ok _) (Ok _) w x = refl

-- ---- the sight

-- a walk that is no refusal gives a sight that is none
sight_told : (h : Result FirstHit Refusal) (w : WalkSaid) → told_hit h ≡ inr w → (v : SightSaid) × (told_sight (sight_of h) ≡ inr v)
sight_told (Ok (FirstHit.Clear reads)) w e = (sights.clear, refl)
sight_told (Ok (FirstHit.Hit h)) w e = (_, refl)
sight_told (Err r) w e = one_of_two e

module _ (how : Manner) (n : Counts) (l : List ℕ) (at : Placement) (camera ball : Point) where
  abbrev from : cell.Cell
  from = cell_at n (quotients at camera)

  abbrev to : cell.Cell
  to = cell_at n (quotients at ball)

  -- all its tests in one verdict
  abbrev sight_check : Verdict
  sight_check = shape n (length l) then placement_check at then point_check P n camera (quotients at camera) then point_check Q n ball (quotients at ball)

  sight_by : sight how n l at camera ball ≡ by_verdict Sight.Refused (sight_of (first_hit Adaptive how n l from to)) sight_check
  unfolding sight looked look_up
  sight_by = in_one (shape n (length l)) (placement_check at) (point_check P n camera (quotients at camera)) (point_check Q n ball (quotients at ball))
    where
      in_one : (u v w x : Verdict) → by_verdict Sight.Refused
          (seen how n l (by_verdict Err (Ok from) w) (by_verdict Err (Ok to) x)) (u then v)
          ≡ by_verdict Sight.Refused (sight_of (first_hit Adaptive how n l from to)) (u then v then w then x)
      in_one (Err r) v w x = refl
      in_one (Ok _) (Err r) w x = refl
      in_one (Ok _) (Ok _) (Err r) x = refl
      in_one (Ok _) (Ok _) (Ok _) (Err r) = refl
      in_one (Ok _) (Ok _) (Ok _) (Ok _) = refl

  -- where they pass, both cells lie in the grid, and the walk between them is not refused
  walked : sight_check ≡ Ok tt → (w : WalkSaid) × (told_hit (first_hit Adaptive how n l from to) ≡ inr w)
  unfolding first_hit
  walked fine =
      let (shaped, rest) = each_fine _ _ fine in
      let (placed, points) = each_fine _ _ rest in
      let (seen-from, seen-to) = each_fine _ _ points in
      let tested : PlacedGrid n at = record { counts = shape_counts n (length l) shaped; placed = placed } in
      let walks : walk_check n (length l) from to ≡ Ok tt =
      walkable n (length l) at camera ball from to shaped tested
      (lookup_found P n at camera refl refl seen-from refl) (lookup_found Q n at ball refl refl seen-to refl) in
      rw walks (hit_told Adaptive how n l from to)

  sight_judged : Judges (sight_tests n (length l) at camera ball) sight_check
  sight_judged = shape_judged n (length l) next placement_judged at next point_judged P n at camera next point_judged Q n at ball

  sight_is : sight_check ≡ Ok tt → (v : SightSaid) × (told_sight (sight_of (first_hit Adaptive how n l from to)) ≡ inr v)
  sight_is fine = let (w, is) = walked fine in sight_told (first_hit Adaptive how n l from to) w is

  see_told : (r : Sight) → Sees how n l at camera ball r → ByTests (sight_tests n (length l) at camera ball) (told_sight r)
  see_told r c =
      answered told_sight (by_verdict Sight.Refused (sight_of (first_hit Adaptive how n l from to))) (λ r. refl) sight_judged sight_is (c.says ∙ sight_by)

pub tallies_told : (n : Counts) (l m : List ℕ) → TalliesTold n l m
tallies_told n l m =
    record {
      build = λ r m' c.
          answered told_tally (by_verdict Err (Ok (solids l))) (λ r. refl) (bricks_judged n (length l) (length m))
          (λ fine. (_, refl)) c.says;
      refill = refill_told;
      set = set_told;
    }
  where
    refill_told : (low high : cell.Cell) (byte total : ℕ) (r : Result ℕ Refusal) (l' m' : List ℕ) → Refills n low high byte l m total r l' m' →
        ByTests (box_tests n l m total low high) (told_tally r)
    refill_told low high byte total r l' m' c =
        let lo = corner low in
        let hi = corner high in
        let t = moved n lo hi m (remasked n lo hi (refilled n lo hi byte l) m) total in
        answered told_tally (by_verdict Err (Ok t)) (λ r. refl) (box_judged n l m total low high) (λ fine. (t, refl)) c.says

    set_told : (cell : cell.Cell) (byte total : ℕ) (r : Result ℕ Refusal) (l' m' : List ℕ) → Sets n cell byte l m total r l' m' →
        ByTests (set_tests n l m total cell) (told_tally r)
    set_told cell byte total r l' m' c =
        let at = corner cell in
        let t = moved n at at m (remasked n at at (refilled n at at byte l) m) total in
        let says = by_verdict Err (Ok t) in
        answered told_tally says (λ r. refl) (set_judged n l m total cell) (λ fine. (t, refl))
        (c.says ∙ ap (λ (v : Verdict). by_verdict Err (Ok t) (v then stale_check n at at l m total)) (one_corner n (length l)
        (length m) cell))

pub points_told : (n : Counts) (at : Placement) → PointsTold n at
points_told n at = record { cell_of = cell_told n at; see = λ how l. see_told how n l at }

-- ---- records

venue_told : (s : List ℕ) (r : Result Venue Refusal) → ReadsVenue s r → ByTests (venue_tests s) (told_venue r)
unfolding venue_read
venue_told s r c = answered told_venue (by_verdict Err (Ok (venue_in s))) (λ r. refl) (venue_judged s) (λ fine. (_, refl)) c.says

no_cells : (a : Result Venue Refusal) (s : List ℕ) (t : Told) → told_venue a ≡ inl t → part_of a s ≡ []
no_cells (Err r) s t e = refl
no_cells (Ok v) s t e = one_of_two (sym e)

some_cells : (bytes part : Bor (List ℕ)) → GivesCells bytes part → (a : Result Venue Refusal) (w : Counts × ℕ × ℕ) → a ≡ venue_read bytes.now → told_venue a ≡ inr w →
    1 ≤ length part.now
some_cells bytes part c (Ok v) w is e = ((the_part bytes part).accepted v (record { says = is }) c).2
some_cells bytes part c (Err r) w is e = one_of_two e

cells_told : (bytes part : Bor (List ℕ)) → GivesCells bytes part → (part.now ≡ []) ↔ ((t : Told) × First (venue_tests bytes.now) t)
unfolding venue_cells
cells_told bytes part c =
    let read = venue_read bytes.now in
    empty_by (told_venue read) (venue_told bytes.now read (record { says = refl }))
    (λ t e. c.says ∙ no_cells read bytes.now t e)
    (λ v e none. omega (arith, some_cells bytes part c read v refl e, ap length none))

pub records_told : RecordsTold
unfolding pair_read
records_told =
    record {
      read_venue = venue_told;
      venue_cells = cells_told;
      read_pair = λ s r c. answered told_pair (by_verdict Err (Ok (pair_in s))) (λ r. refl) (pair_judged s)
          (λ fine. (_, refl)) c.says;
      write_venue = λ n cells entry exit r c.
          answered told_written (by_verdict Err (Ok (record_length n))) (λ r. refl)
          (write_judged n (length cells) (length entry)) (λ fine. (_, refl)) c.says;
    }

-- ---- the calls for C that name a rule

-- what a call says after a test of its own, in one verdict
pub after_says : {A : Type 0} (refused : Refusal → A) (x : A) {a : A} {says : Refusal → Type 0} {meets : Type 0} (v w : Verdict) →
    ((r : Refusal) → says r → a ≡ refused r) → (meets → a ≡ by_verdict refused x w) → After v says meets → a ≡ by_verdict refused x (v then w)
after_says refused x (Err r) w first rest h = first r h
after_says refused x (Ok _) w first rest h = rest h

-- a list
by_rule_told : (number : ℕ) (line : List cell.Cell) {tests : Tests} {first : Verdict} → Judges tests first → (entry exit : List ℤ) (a : Result ℕ Refusal) →
    After (rule_check number) (λ why. (a ≡ Err why) × (exit ≡ entry)) (Lists line first entry a exit) →
    ByTests (rule_test number else list_tests tests (length line) (length entry)) (told_listed a)
by_rule_told number line {first = first} judged entry exit a h =
    let many = length line in
    answered told_listed (by_verdict Err (Ok many)) (λ r. refl) (rule_judged number next list_judged judged many (length entry))
    (λ fine. (many, refl))
    (after_says Err (Ok many) (rule_check number) (list_check first many (length entry)) (λ r m. m.0) (λ m. m.says) h)

pub rules_told : RulesTold
unfolding first_hit
rules_told =
    record {
      line6 = λ number p q entry exit r h.
          let o = by_rule (rule_of number) p q in
          (h.answer, h.flat, rw (six_length o p q) at (by_rule_told number (six_line o p q) (ends_judged p q) entry exit h.answer h.meets));
      trails = λ how n l p q entry exit r h. (
        h.answer,
        h.flat,
        by_rule_told how.rule (trail (as_manner how) n l p q) (walk_judged n (length l) p q) entry exit h.answer h.meets,
      );
      walks = λ w how n l p q r h.
          let x : Result FirstHit Refusal = Ok (answer w (as_manner how) n l p q) in (
            h.answer,
            h.flat,
            answered told_hit (by_verdict Err x) (λ r. refl) (rule_judged how.rule next walk_judged n (length l) p q)
                (λ fine. hit_told w (as_manner how) n l p q)
                (after_says Err x (rule_check how.rule) (walk_check n (length l) p q) (λ r m. m) (λ m. m.says) h.meets),
          );
      seen = λ how n l at camera ball r h.
          let manner = as_manner how in
          let x = sight_of (first_hit Adaptive manner n l (from manner n l at camera ball) (to manner n l at camera ball)) in (
            h.answer,
            h.flat,
            answered told_sight (by_verdict Sight.Refused x) (λ r. refl) (rule_judged how.rule next sight_judged manner n l at camera ball)
                (λ fine. sight_is manner n l at camera ball (each_fine (rule_check how.rule) _ fine).1)
                (after_says Sight.Refused x (rule_check how.rule) (sight_check manner n l at camera ball) (λ r m. m)
                (λ m. m.says ∙ sight_by manner n l at camera ball) h.meets),
          );
    }
