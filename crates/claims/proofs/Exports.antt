-- The claims about the calls for C, from their contracts. Assumes nothing.
use Rattle.std.specs.Prelude.{Ok, Err, Result}
use Prim.Native.Nat.{ℕ}
use mathlib.Core.Path.{◌≡◌, refl, sym, ap, ◌∙◌}
use mathlib.Core.List.{List}
use native.Mathlib.Omega.{arith}
use lib.IntN.{ℤ, pos, nat_abs}
use lib.ListN.{length, get_or}
use lib.Count.{ones}
use Rattle.cells.specs.declared.Cell.{Cell}
use Rattle.cells.specs.declared.Counts.{Counts}
use Rattle.cells.specs.declared.Refusal.{Refusal}
use Rattle.cells.specs.declared.Rule.{Rule}
use Rattle.cells.specs.Checks.{Verdict, ◌then◌, by_verdict}
use Rattle.cells.specs.Manners.{rule_of, rule_check}
use Rattle.lines.specs.Preference.{comes_before, order_of, by_rule}
use Rattle.lines.specs.Lines.{six_line, line_26}
use Rattle.lines.specs.Touching.{touching_line}
use Rattle.lists.specs.Lists.{ends_check, list_check, filled, Lists, Line6}
use Rattle.grids.specs.Grid.{shape, layer_part}
use Rattle.grids.specs.Marks.{marked, complete, completeness, any}
use Rattle.bricks.specs.Sums.{sum}
use Rattle.bricks.specs.Bricks.{mask_of, solids}
use Rattle.bricks.specs.Builds.{bricks_check, built}
use Rattle.refills.specs.Boxes.{corner}
use Rattle.refills.specs.Refills.{refilled, remasked, moved, box_check, stale_check, ones_in, differs_in, stale}
use Rattle.walks.specs.declared.Walker.{Walker}
use Rattle.walks.specs.declared.FirstHit.{FirstHit}
use Rattle.walks.specs.Walks.{walk_of}
use Rattle.walks.specs.Answers.{first_hit, Finds}
use Rattle.grids.specs.Inside.{walk_check}
use Rattle.trails.specs.Trails.{trail, AdaptiveCells}
use Rattle.survey.specs.declared.Placement.{Placement}
use Rattle.survey.specs.declared.Point.{Point}
use Rattle.sight.specs.declared.Sight.{Sight}
use Rattle.sight.specs.Sight.{sight, Sees}
use Rattle.records.specs.Venues.{venue_head}
use Rattle.records.specs.Writing.{record_length, write_check, after_writing}
use Rattle.structs.specs.declared.inputs.OatManner.{OatManner}
use Rattle.structs.specs.declared.refusals.OatSaid.{OatSaid}
use Rattle.structs.specs.declared.line_answers.OatListed.{OatListed}
use Rattle.structs.specs.declared.brick_answers.OatTally.{OatTally}
use Rattle.structs.specs.declared.walk_answers.OatHit.{OatHit}
use Rattle.structs.specs.declared.sight_answers.OatSight.{OatSight}
use Rattle.structs.specs.Refusals.{accepted}
use Rattle.oatmarten.specs.Flattening.{Flattens, After}
use Rattle.structs.specs.Inputs.{as_start, as_manner}
use Rattle.structs.specs.LineAnswers.{flat_listed}
use Rattle.oatmarten.specs.LineCalls.{FlatByRule, FlatLine6}
use Rattle.structs.specs.GridAnswers.{flat_verdict, flat_complete, flat_part}
use Rattle.structs.specs.BrickAnswers.{flat_tally}
use Rattle.oatmarten.specs.BrickCalls.{FlatRefills}
use Rattle.structs.specs.WalkAnswers.{flat_hit}
use Rattle.oatmarten.specs.WalkCalls.{FlatFinds, FlatAdaptiveCells}
use Rattle.structs.specs.SightAnswers.{flat_found, flat_sight}
use Rattle.oatmarten.specs.SightCalls.{FlatSees}
use Rattle.structs.specs.RecordAnswers.{rule_number, flat_venue, flat_pair, flat_written}
use Rattle.claims.proofs.Grids.{one}
use Rattle.claims.proofs.Flattenings.{input_rows}
use Rattle.claims.proofs.Refused.{after_says}
use Rattle.claims.specs.Example.{at, example_counts, marked_cells, sevens}
use Rattle.claims.specs.Flattenings.{three}
use Rattle.claims.specs.Exports.{One, OneEach, OnePair, Untouched, BothUntouched, ExportsOnce, RefusedUntouched, WrongExports, ExportsAre, NoSuchRule}
use Rattle.claims.specs.Lists.{room}

-- ---- one answer, one final memory

-- two flattenings of answers that are the same
same_flat : {A F : Type 0} (flat : A → F) {M N : A → Type 0} {f : A} {r s : F} →
    ((a : A) → M a → a ≡ f) → ((a : A) → N a → a ≡ f) → Flattens flat M r → Flattens flat N s → r ≡ s
same_flat flat m n h k = h.flat ∙ ap flat (m h.answer h.meets ∙ sym (n k.answer k.meets)) ∙ sym k.flat

-- a contract that says the answer admits one struct
flat_one : {A F : Type 0} (flat : A → F) {Meets : A → Type 0} {f : A} → ((a : A) → Meets a → a ≡ f) → One (Flattens flat Meets)
flat_one flat says r s = same_flat flat says says

-- what a call says after a test of its own, by that verdict
after_call : {A : Type 0} (refused : Refusal → A) {x a : A} {meets : Type 0} (v : Verdict) → (meets → a ≡ x) → After v (λ r. a ≡ refused r) meets →
    a ≡ by_verdict refused x v
after_call refused (Ok _) says h = says h
after_call refused (Err r) says h = h

-- a list after the test of its rule, in one verdict: its answer, and the memory
module _ (rule : ℕ) (line : List Cell) (first : Verdict) (entry : List ℤ) where
  abbrev all_checks : Verdict
  all_checks = rule_check rule then list_check first (length line) (length entry)

  abbrev ByRule : OatListed → List ℤ → Type 0
  ByRule r exit = FlatByRule rule (λ a. Lists line first entry a exit) entry r exit

  list_says : {r : OatListed} (exit : List ℤ) → ByRule r exit → r ≡ flat_listed (by_verdict Err (Ok (length line)) all_checks)
  list_says exit h =
      h.flat ∙ ap flat_listed (after_says Err (Ok (length line)) (rule_check rule) (list_check first (length line) (length entry))
      (λ r m. m.0) (λ m. m.says) h.meets)

  list_holds : {r : OatListed} (exit : List ℤ) → ByRule r exit → exit ≡ by_verdict (λ r. entry) (filled line entry) all_checks
  list_holds exit h =
      after_says (λ r. entry) (filled line entry) (rule_check rule) (list_check first (length line) (length entry)) (λ r m. m.1) (λ m. m.holds) h.meets

  list_once : OneEach ByRule
  list_once r s exit last h k = (one r s (list_says exit h) (list_says last k), one exit last (list_holds exit h) (list_holds last k))

-- a walk and a sight after the test of the rule
walk_says : (w : Walker) (how : OatManner) (n : Counts) (cells : List ℕ) (p q : Cell) (a : Result FirstHit Refusal) →
    After (rule_check how.rule) (λ why. a ≡ Err why) (Finds w (as_manner how) n cells p q a) →
    a ≡ by_verdict Err (first_hit w (as_manner how) n cells p q) (rule_check how.rule)
walk_says w how n cells p q a = after_call Err (rule_check how.rule) (λ m. m.says)

sight_says : (how : OatManner) (n : Counts) (cells : List ℕ) (at : Placement) (camera ball : Point) (a : Sight) →
    After (rule_check how.rule) (λ why. a ≡ Sight.Refused why) (Sees (as_manner how) n cells at camera ball a) →
    a ≡ by_verdict Sight.Refused (sight (as_manner how) n cells at camera ball) (rule_check how.rule)
sight_says how n cells at camera ball a = after_call Sight.Refused (rule_check how.rule) (λ m. m.says)

one_refill : (n : Counts) (low high : Cell) (byte : ℕ) (l m : List ℕ) (total : ℕ) → OnePair (FlatRefills n low high byte l m total)
one_refill n low high byte l m total r s exit last lent left h k = (
  same_flat flat_tally (λ a m. m.says) (λ a m. m.says) h k,
  one exit last h.meets.bytes k.meets.bytes,
  one lent left h.meets.masks k.meets.masks,
)

pub exports_once : ExportsOnce
exports_once =
    record {
      line6 = λ rule p q. list_once rule (six_line (by_rule (rule_of rule) p q) p q) (ends_check p q);
      line26 = λ p q entry r s exit last h k.
          (same_flat flat_listed (λ a m. m.says) (λ a m. m.says) h k, one exit last h.meets.holds k.meets.holds);
      line_touching = λ p q entry r s exit last h k.
          (same_flat flat_listed (λ a m. m.says) (λ a m. m.says) h k, one exit last h.meets.holds k.meets.holds);
      mark = λ n entry r s exit last h k.
          (same_flat flat_verdict (λ a m. m.says) (λ a m. m.says) h k, one exit last h.meets.holds k.meets.holds);
      complete = λ n cells. flat_one flat_complete (λ a m. m.says);
      layer = λ n bytes z. flat_one flat_part (λ a m. m.says);
      build = λ n cells entry r s exit last h k.
          (same_flat flat_tally (λ a m. m.says) (λ a m. m.says) h k, one exit last h.meets.holds k.meets.holds);
      set = λ n cell. one_refill n cell cell;
      refill = one_refill;
      walks = λ w how n cells p q. flat_one flat_hit (walk_says w how n cells p q);
      adaptive_cells = λ how n cells p q. list_once how.rule (trail (as_manner how) n cells p q) (walk_check n (length cells) p q);
      touching = λ s n cells p q. flat_one flat_hit (λ a m. m.says);
      found = λ n at p. flat_one flat_found (λ a m. m.says);
      seen = λ how n cells at camera ball. flat_one flat_sight (sight_says how n cells at camera ball);
      venue = λ bytes. flat_one flat_venue (λ a m. m.says);
      pair = λ bytes. flat_one flat_pair (λ a m. m.says);
      written = λ n cells entry r s exit last h k.
          (same_flat flat_written (λ a m. m.says) (λ a m. m.says) h k, one exit last h.meets.holds k.meets.holds);
    }

-- ---- a refusal writes nothing

-- a verdict that is not fine leaves the memory; one that is fine is flattened to 0
untouched : {F M : Type 0} (said : F → OatSaid) (flat : Verdict → F) (after : Verdict → M) {entry : M} →
    said (flat (Ok tt)) ≡ accepted → ((x : Refusal) → after (Err x) ≡ entry) → (v : Verdict) {r : F} {exit : M} →
    r ≡ flat v → exit ≡ after v → ((said r).refusal ≡ 0 → ⊥) → exit ≡ entry
untouched said flat after fine kept (Ok _) e f refused = absurd (refused (ap (λ s. s.refusal) (ap said e ∙ fine)))
untouched said flat after fine kept (Err x) e f refused = f ∙ kept x

refill_untouched : (n : Counts) (low high : Cell) (byte : ℕ) (l m : List ℕ) (total : ℕ) → BothUntouched (FlatRefills n low high byte l m total) l m
refill_untouched n low high byte l m total r l' m' h refused =
    let lo = corner low in
    let hi = corner high in
    let bytes = refilled n lo hi byte l in
    let anew = remasked n lo hi bytes m in
    let v = box_check n (length l) (length m) low high then stale_check n lo hi l m total in
    let flat : Verdict → OatTally = λ u. flat_tally (by_verdict Err (Ok (moved n lo hi m anew total)) u) in
    let is : r ≡ flat v = h.flat ∙ ap flat_tally h.meets.says in (
      untouched (λ f. f.said) flat (by_verdict (λ x. l) bytes) refl (λ x. refl) v is h.meets.bytes refused,
      untouched (λ f. f.said) flat (by_verdict (λ x. m) anew) refl (λ x. refl) v is h.meets.masks refused,
    )

-- of any list
list_untouched : (l : List Cell) (first : Verdict) (entry exit : List ℤ) (r : OatListed) (a : Result ℕ Refusal) → r ≡ flat_listed a → Lists l first entry a exit →
    (r.said.refusal ≡ 0 → ⊥) → exit ≡ entry
list_untouched l first entry exit r a flat meets =
    untouched (λ f. f.said) (λ v. flat_listed (by_verdict Err (Ok (length l)) v)) (by_verdict (λ x. entry) (filled l entry)) refl
    (λ x. refl) (list_check first (length l) (length entry)) (flat ∙ ap flat_listed meets.says) meets.holds

by_rule_untouched : (rule : ℕ) (l : List Cell) (first : Verdict) (entry : List ℤ) → Untouched (λ f. f.said) (ByRule rule l first entry) entry
by_rule_untouched rule l first entry r exit h =
    untouched (λ f. f.said) (λ v. flat_listed (by_verdict Err (Ok (length l)) v)) (by_verdict (λ x. entry) (filled l entry)) refl
    (λ x. refl) (all_checks rule l first entry) (list_says rule l first entry exit h) (list_holds rule l first entry exit h)

pub refused_untouched : RefusedUntouched
refused_untouched =
    record {
      line6 = λ rule p q. by_rule_untouched rule (six_line (by_rule (rule_of rule) p q) p q) (ends_check p q);
      line26 = λ p q entry r exit h. list_untouched (line_26 p q) (ends_check p q) entry exit r h.answer h.flat h.meets;
      line_touching = λ p q entry r exit h. list_untouched (touching_line p q) (ends_check p q) entry exit r h.answer h.flat h.meets;
      adaptive_cells = λ how n cells p q. by_rule_untouched how.rule (trail (as_manner how) n cells p q) (walk_check n (length cells) p q);
      mark = λ n entry r exit h.
          untouched (λ f. f.said) flat_verdict (by_verdict (λ x. entry) (marked 3 n entry)) refl (λ x. refl) (shape n (length entry))
          (h.flat ∙ ap flat_verdict h.meets.says) h.meets.holds;
      build = λ n cells entry r exit h.
          untouched (λ f. f.said) (λ v. flat_tally (by_verdict Err (Ok (solids cells)) v)) (by_verdict (λ x. entry)
          (built n cells entry))
          refl (λ x. refl) (bricks_check n (length cells) (length entry)) (h.flat ∙ ap flat_tally h.meets.says) h.meets.holds;
      set = λ n cell. refill_untouched n cell cell;
      refill = refill_untouched;
      written = λ n cells entry r exit h.
          untouched (λ f. f.said) (λ v. flat_written (by_verdict Err (Ok (record_length n)) v))
          (by_verdict (λ x. entry) (after_writing n cells entry)) refl (λ x. refl)
          (write_check n (length cells) (length entry)) (h.flat ∙ ap flat_written h.meets.says) h.meets.holds;
    }

-- ---- wrong answers

idle_line : (rule : Rule) (r : OatListed) → FlatLine6 (rule_number rule) (at 0 0 0) (at 2 1 0) room r room → ⊥
unfolding six_line order_of rule_check rule_of
idle_line Rule.One r h = let z : ◌≡◌ {A = ℕ} 7 0 = ap (λ l. nat_abs (get_or l 0 (pos 0))) h.meets.holds in omega arith
idle_line Rule.Two r h = let z : ◌≡◌ {A = ℕ} 7 0 = ap (λ l. nat_abs (get_or l 0 (pos 0))) h.meets.holds in omega arith

idle_trail : (r : OatListed) →
    FlatAdaptiveCells (record { start = 0; rule = 1 }) example_counts marked_cells (at 0 0 0) (at 3 1 0) (sevens 9) r (sevens 9) → ⊥
unfolding walk_of order_of comes_before walk_check rule_check rule_of
idle_trail r h = let z : ◌≡◌ {A = ℕ} 7 0 = ap (λ l. nat_abs (get_or l 0 (pos 0))) h.meets.holds in omega arith

pub wrong_exports : WrongExports
unfolding shape marked complete completeness layer_part venue_head write_check rule_check bricks_check built mask_of sum box_check stale differs_in any
    ones_in ones refilled
wrong_exports =
    record {
      idle_line = idle_line;
      zeroed_manner = λ w n cells p q r h other. other (ap (λ f. f.said.refusal) (h.flat ∙ ap flat_hit h.meets));
      idle_trail = idle_trail;
      zeroed_trail = λ n cells p q entry exit r h other. other (ap (λ f. f.said.refusal) (h.flat ∙ ap flat_listed h.meets.0));
      idle_marker = λ r h. let z : ◌≡◌ {A = ℕ} 0 1 = ap (λ (l : List ℕ). get_or l 0 0) h.meets.holds in omega arith;
      idle_writer = λ r h. let z : ◌≡◌ {A = ℕ} 99 0 = ap (λ (l : List ℕ). get_or l 0 0) h.meets.holds in omega arith;
      refusing_marker = λ r exit h k.
          let z : r.said.refusal ≡ 0 = ap (λ f. f.said.refusal) (h.flat ∙ ap flat_verdict h.meets.says) in omega (arith, k);
      complete_always = λ r h k.
          let z : r.yes ≡ 0 = ap (λ f. f.yes) (h.flat ∙ ap flat_complete h.meets.says) in omega (arith, k);
      idle_set = λ r masks h. let z : ◌≡◌ {A = ℕ} 1 2 = ap (λ (l : List ℕ). get_or l 0 0) h.meets.bytes in omega arith;
      high_corner_left_out = λ r masks h. let z : ◌≡◌ {A = ℕ} 1 2 = ap (λ (l : List ℕ). get_or l 1 0) h.meets.bytes in omega arith;
      idle_build = λ r h. let z : ◌≡◌ {A = ℕ} 0 32 = ap (λ (l : List ℕ). get_or l 0 0) h.meets.holds in omega arith;
      first_layer = λ r h k.
          let z : r.offset ≡ 2 = ap (λ f. f.offset) (h.flat ∙ ap flat_part h.meets.says) in omega (arith, k);
    }

-- ---- what the calls of the engine give

-- where the number names a rule there is nothing before the call
module _ (p q : Cell) where
  line6_is : (rule : Rule) (entry exit : List ℤ) (r : OatListed) → FlatLine6 (rule_number rule) p q entry r exit →
      (a : Result ℕ Refusal) × Line6 rule p q entry a exit × (r ≡ flat_listed a)
  unfolding rule_check rule_of
  line6_is Rule.One entry exit r h = (h.answer, h.meets, h.flat)
  line6_is Rule.Two entry exit r h = (h.answer, h.meets, h.flat)

  trail_is : (rule : Rule) (s : ℕ) (n : Counts) (cells : List ℕ) (entry exit : List ℤ) (r : OatListed) →
      FlatAdaptiveCells (record { start = s; rule = rule_number rule }) n cells p q entry r exit →
      (a : Result ℕ Refusal) × AdaptiveCells (record { start = as_start s; rule = rule }) n cells p q entry a exit × (r ≡ flat_listed a)
  unfolding rule_check rule_of
  trail_is Rule.One s n cells entry exit r h = (h.answer, h.meets, h.flat)
  trail_is Rule.Two s n cells entry exit r h = (h.answer, h.meets, h.flat)

  walk_is : (rule : Rule) (w : Walker) (s : ℕ) (n : Counts) (cells : List ℕ) (r : OatHit) →
      FlatFinds w (record { start = s; rule = rule_number rule }) n cells p q r →
      (a : Result FirstHit Refusal) × Finds w (record { start = as_start s; rule = rule }) n cells p q a × (r ≡ flat_hit a)
  unfolding rule_check rule_of
  walk_is Rule.One w s n cells r h = (h.answer, h.meets, h.flat)
  walk_is Rule.Two w s n cells r h = (h.answer, h.meets, h.flat)

sight_is : (rule : Rule) (s : ℕ) (n : Counts) (cells : List ℕ) (at : Placement) (camera ball : Point) (r : OatSight) →
    FlatSees (record { start = s; rule = rule_number rule }) n cells at camera ball r →
    (a : Sight) × Sees (record { start = as_start s; rule = rule }) n cells at camera ball a × (r ≡ flat_sight a)
unfolding rule_check rule_of
sight_is Rule.One s n cells at camera ball r h = (h.answer, h.meets, h.flat)
sight_is Rule.Two s n cells at camera ball r h = (h.answer, h.meets, h.flat)

pub exports_are : ExportsAre
exports_are =
    record {
      line6 = λ rule p q. line6_is p q rule;
      line26 = λ p q entry exit r h. (h.answer, h.meets, h.flat);
      line_touching = λ p q entry exit r h. (h.answer, h.meets, h.flat);
      mark = λ n entry exit r h. (h.answer, h.meets, h.flat);
      complete = λ n cells r h. (h.answer, h.meets, h.flat);
      layer = λ n bytes z r h. (h.answer, h.meets, h.flat);
      build = λ n cells entry exit r h. (h.answer, h.meets, h.flat);
      set = λ n cell byte l m total l' m' r h. (h.answer, h.meets, h.flat);
      refill = λ n low high byte l m total l' m' r h. (h.answer, h.meets, h.flat);
      walks = λ w s rule n cells p q. walk_is p q rule w s n cells;
      adaptive_cells = λ s rule n cells p q. trail_is p q rule s n cells;
      touching = λ s n cells p q r h. (h.answer, h.meets, h.flat);
      found = λ n at p r h. (h.answer, h.meets, h.flat);
      seen = λ s rule. sight_is rule s;
      venue = λ bytes r h. (h.answer, h.meets, h.flat);
      pair = λ bytes r h. (h.answer, h.meets, h.flat);
      written = λ n cells entry exit r h. (h.answer, h.meets, h.flat);
    }

-- ---- a number that names no rule

pub no_such_rule : (number : ℕ) → NoSuchRule number
no_such_rule number =
    record {
      line6 = λ not-1 not-2 p q. none_listed (six_line (by_rule (rule_of number) p q) p q) (ends_check p q) not-1 not-2;
      adaptive_cells = λ not-1 not-2 s n cells p q.
          none_listed (trail (as_manner (record { start = s; rule = number })) n cells p q) (walk_check n (length cells) p q) not-1 not-2;
      walks = λ not-1 not-2 w s n cells p q r h.
          let how : OatManner = record { start = s; rule = number } in
          h.flat ∙ ap flat_hit (walk_says w how n cells p q h.answer h.meets
          ∙ ap (by_verdict Err (first_hit w (as_manner how) n cells p q)) (input_rows.no_rule number not-1 not-2));
      seen = λ not-1 not-2 s n cells at camera ball r h.
          let how : OatManner = record { start = s; rule = number } in
          h.flat ∙ ap flat_sight (sight_says how n cells at camera ball h.answer h.meets
          ∙ ap (by_verdict Sight.Refused (sight (as_manner how) n cells at camera ball)) (input_rows.no_rule number not-1 not-2));
    }
  where
    none_listed : (line : List Cell) (first : Verdict) → (number ≡ 1 → ⊥) → (number ≡ 2 → ⊥) → (entry exit : List ℤ) (r : OatListed) →
        ByRule number line first entry r exit → (r ≡ record { said = three 12 0 0; count = 0 }) × (exit ≡ entry)
    none_listed line first not-1 not-2 entry exit r h =
        let none = input_rows.no_rule number not-1 not-2 in
        let rest = list_check first (length line) (length entry) in (
          list_says number line first entry exit h ∙ ap (λ v. flat_listed (by_verdict Err (Ok (length line)) (v then rest))) none,
          list_holds number line first entry exit h ∙ ap (λ v. by_verdict (λ r. entry) (filled line entry) (v then rest)) none,
        )
