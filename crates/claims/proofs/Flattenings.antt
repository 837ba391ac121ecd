-- The claims about the structs for C, from one law over an answer and its struct. Assumes nothing.
use Rattle.std.specs.Prelude.{Bool, Ok, Err, Result}
use Rattle.records.specs.declared.venues.Venue.{Venue}
use Rattle.records.specs.declared.pairs.Pair.{Pair}
use Rattle.cells.specs.declared.Cell.{Cell}
use Prim.Native.Nat.{ℕ, zero, suc}
use mathlib.Core.Path.{◌≡◌, refl, sym, ap, ◌∙◌}
use mathlib.Core.Bool.{true, false, cond}
use mathlib.Core.List.{[], ◌∷◌}
use mathlib.Core.Logic.{◌⊎◌, inl, inr, ◌↔◌}
use mathlib.Core.Option.{Option, none, some, map}
use native.Mathlib.Omega.{arith}
use lib.Dec.{eqb}
use lib.IntN.{ℤ, pos, negsuc}
use borrow.Author.Tests.{ne_eqb}
use Rattle.cells.specs.declared.Axis.{Axis}
use Rattle.cells.specs.declared.Axis.TheVariants.{X, Y, Z}
use Rattle.cells.specs.declared.End.{End}
use Rattle.cells.specs.declared.End.TheVariants.{P, Q}
use Rattle.cells.specs.declared.Face.{Face}
use Rattle.cells.specs.declared.Part.{Part}
use Rattle.cells.specs.declared.Part.TheVariants.{OriginX, OriginY, OriginZ, Edge}
use Rattle.cells.specs.declared.Refusal.{Refusal}
use Rattle.cells.specs.declared.Rule.{Rule}
use Rattle.cells.specs.declared.Rule.TheVariants.{One, Two}
use Rattle.cells.specs.declared.Start.TheVariants.{Untested, Tested}
use Rattle.cells.specs.declared.Refusal.TheVariants.{Limit, Count, Bytes, Layer, OffGrid, Room, Placement, NotFinite, OffSurvey, Record, Version, NoRule, Stale, Corners}
use Rattle.cells.specs.Checks.{Verdict}
use Rattle.cells.specs.Manners.{rule_of, rule_check}
use Rattle.cells.specs.Refusals.{Told, told, told_verdict}
use Rattle.cells.proofs.Refusals.{numbered_of, untold, told_back, tells_apart}
use Rattle.lists.specs.Lists.{told_listed}
use Rattle.grids.specs.declared.LayerPart.{LayerPart}
use Rattle.grids.specs.Grid.{part_at, shape, told_part}
use Rattle.grids.specs.Inside.{walk_check}
use Rattle.grids.specs.Marks.{told_completeness}
use Rattle.walks.specs.declared.Walker.TheVariants.{Plain}
use Rattle.walks.specs.declared.Hit.{Hit}
use Rattle.walks.specs.declared.FirstHit.{FirstHit}
use Rattle.walks.specs.Answers as walk
use Rattle.walks.specs.Answers.{first_hit, told_hit}
use Rattle.survey.specs.Survey.{told_lookup}
use Rattle.sight.specs.declared.Block.{Block}
use Rattle.sight.specs.declared.Sight.{Sight}
use Rattle.sight.specs.Sight as sights
use Rattle.sight.specs.Sight.{told_sight}
use Rattle.records.specs.Venues.{told_venue}
use Rattle.records.specs.Pairs.{told_pair}
use Rattle.records.specs.Writing.{told_written}
use Rattle.structs.specs.declared.refusals.OatSaid.{OatSaid}
use Rattle.structs.specs.declared.line_answers.OatListed.{OatListed}
use Rattle.structs.specs.declared.grid_answers.OatVerdict.{OatVerdict}
use Rattle.structs.specs.declared.grid_answers.OatComplete.{OatComplete}
use Rattle.structs.specs.declared.grid_answers.OatPart.{OatPart}
use Rattle.structs.specs.declared.walk_answers.OatHit.{OatHit}
use Rattle.structs.specs.declared.sight_answers.OatFound.{OatFound}
use Rattle.structs.specs.declared.sight_answers.OatSight.{OatSight}
use Rattle.structs.specs.declared.record_answers.OatVenue.{OatVenue}
use Rattle.structs.specs.declared.record_answers.OatPair.{OatPair}
use Rattle.structs.specs.declared.record_answers.OatWritten.{OatWritten}
use Rattle.structs.specs.Refusals.{end_number, axis_number, part_number, accepted, flat_refusal, said_of}
use Rattle.structs.specs.Faces.{face_number}
use Rattle.structs.specs.LineAnswers.{flat_listed}
use Rattle.structs.specs.GridAnswers.{flat_verdict, flat_complete, flat_part}
use Rattle.bricks.specs.Builds.{told_tally}
use Rattle.structs.specs.declared.brick_answers.OatTally.{OatTally}
use Rattle.structs.specs.BrickAnswers.{flat_tally}
use Rattle.structs.specs.WalkAnswers.{flat_hit}
use Rattle.oatmarten.specs.WalkCalls.{FlatFinds}
use Rattle.structs.specs.SightAnswers.{flat_found, flat_sight}
use Rattle.structs.specs.RecordAnswers.{rule_number, flat_venue, flat_pair, flat_written}
use Rattle.claims.specs.Example.{at, example_counts, example_cells}
use Rattle.claims.specs.Flattenings.{Flattened, Flattenings, InTable, three, SaidNumbers, FlatRows, InputRows}

-- ---- the numbers of a refusal: they have a left inverse

in_table : (r : Refusal) → InTable (told r).number
in_table (Limit e a) = (omega arith, omega arith)
in_table (Count a) = (omega arith, omega arith)
in_table Bytes = (omega arith, omega arith)
in_table Layer = (omega arith, omega arith)
in_table (OffGrid e a) = (omega arith, omega arith)
in_table Room = (omega arith, omega arith)
in_table (Placement p) = (omega arith, omega arith)
in_table (NotFinite e a) = (omega arith, omega arith)
in_table (OffSurvey e a) = (omega arith, omega arith)
in_table Record = (omega arith, omega arith)
in_table Version = (omega arith, omega arith)
in_table NoRule = (omega arith, omega arith)
in_table Stale = (omega arith, omega arith)
in_table Corners = (omega arith, omega arith)

abbrev end_of : ℕ → Option End
end_of k = numbered_of k ((1, some P) ∷ (2, some Q) ∷ [])

abbrev axis_of : ℕ → Option Axis
axis_of k = numbered_of k ((1, some X) ∷ (2, some Y) ∷ (3, some Z) ∷ [])

abbrev part_of : ℕ → Option Part
part_of k = numbered_of k ((1, some OriginX) ∷ (2, some OriginY) ∷ (3, some OriginZ) ∷ (4, some Edge) ∷ [])

end_back : (e : End) → end_of (end_number e) ≡ some e
unfolding numbered_of
end_back P = refl
end_back Q = refl

axis_back : (a : Axis) → axis_of (axis_number a) ≡ some a
unfolding numbered_of
axis_back X = refl
axis_back Y = refl
axis_back Z = refl

part_back : (p : Part) → part_of (part_number p) ≡ some p
unfolding numbered_of
part_back OriginX = refl
part_back OriginY = refl
part_back OriginZ = refl
part_back Edge = refl

-- what three numbers tell: with number 7 the last is a part of a placement, else an axis
abbrev meant : OatSaid → Told
meant s =
    record {
      number = s.refusal;
      end = end_of s.end;
      axis = cond (eqb s.refusal 7) none (axis_of s.axis);
      part = cond (eqb s.refusal 7) (part_of s.axis) none;
    }

meant_told : (r : Refusal) → meant (flat_refusal r) ≡ told r
unfolding numbered_of
meant_told (Limit e a) = rw (end_back e, axis_back a)
meant_told (Count a) = rw (axis_back a)
meant_told Bytes = refl
meant_told Layer = refl
meant_told (OffGrid e a) = rw (end_back e, axis_back a)
meant_told Room = refl
meant_told (Placement p) = rw (part_back p)
meant_told (NotFinite e a) = rw (end_back e, axis_back a)
meant_told (OffSurvey e a) = rw (end_back e, axis_back a)
meant_told Record = refl
meant_told Version = refl
meant_told NoRule = refl
meant_told Stale = refl
meant_told Corners = refl

refusal_back : (r : Refusal) → untold (meant (flat_refusal r)) ≡ some r
refusal_back r = ap untold (meant_told r) ∙ told_back r

q_off_y : (start : ℕ) (rule : Rule) (r : OatHit) →
    FlatFinds Plain (record { start = start; rule = rule_number rule }) example_counts example_cells (at 0 0 0) (at 0 2 0) r → r.said ≡ three 5 2 2
unfolding first_hit walk_check shape rule_check
q_off_y start One r h = ap (λ f. f.said) (h.flat ∙ ap flat_hit h.meets.says)
q_off_y start Two r h = ap (λ f. f.said) (h.flat ∙ ap flat_hit h.meets.says)

pub said_numbers : SaidNumbers
said_numbers =
    record {
      ends = (refl, refl);
      axes = (refl, refl, refl);
      parts = (refl, refl, refl, refl);
      no_face = refl;
      rising = (refl, refl, refl);
      falling = (refl, refl, refl);
      rules = (refl, refl);
      fine = refl;
      limit = λ e a. refl;
      count = λ a. refl;
      bytes = refl;
      layer = refl;
      off_grid = λ e a. refl;
      no_room = refl;
      placement = λ p. refl;
      not_finite = λ e a. refl;
      off_survey = λ e a. refl;
      no_record = refl;
      version = refl;
      no_rule = refl;
      stale = refl;
      corners = refl;
      in_table = in_table;
      apart = tells_apart flat_refusal (λ s. untold (meant s)) refusal_back;
      q_off_y = q_off_y;
    }

-- ---- each flattening: what C reads, and a left inverse

-- an answer and its struct: a refusal, which is what its `said` says; or values, where `said` says nothing and the struct gives the values back
data Case {A B F : Type 0} (says : A → Told ⊎ B) (flat : A → F) (said : F → OatSaid) (refuses : Refusal → A) (values : F → A) (a : A) : Type 0 where
  refused : (r : Refusal) → refuses r ≡ a → says a ≡ inl (told r) → said (flat a) ≡ flat_refusal r → Case says flat said refuses values a
  fine : (v : B) → values (flat a) ≡ a → says a ≡ inr v → said (flat a) ≡ accepted → Case says flat said refuses values a

-- the answer that a struct means: the one made of its values where `refusal` is 0, else a refusal
answer_in : {A : Type 0} → (Refusal → A) → A → OatSaid → Option A
answer_in refuses accepts s = cond (eqb s.refusal 0) (some accepts) (map refuses (untold (meant s)))

refused_back : {A : Type 0} (refuses : Refusal → A) (a : A) (r : Refusal) → answer_in refuses a (flat_refusal r) ≡ some (refuses r)
unfolding answer_in
refused_back refuses a r =
    ap (λ t. cond t (some a) (map refuses (untold (meant (flat_refusal r))))) (ne_eqb (told r).number 0 (λ e. omega (arith, (in_table r).0, e)))
    ∙ ap (map refuses) (refusal_back r)

module _ {A B F : Type 0} {says : A → Told ⊎ B} {flat : A → F} {said : F → OatSaid} {refuses : Refusal → A} {values : F → A} where
  tells : (a : A) → Case says flat said refuses values a → said (flat a) ≡ said_of (says a)
  tells a (refused r back e f) = f ∙ sym (ap said_of e)
  tells a (fine v back e f) = f ∙ sym (ap said_of e)

  where_0 : (a : A) → Case says flat said refuses values a → ((said (flat a)).refusal ≡ 0) ↔ ((v : B) × (says a ≡ inr v))
  where_0 a (refused r back e f) = (
    λ z. absurd (let n : (told r).number ≡ 0 = sym (ap (λ s. s.refusal) f) ∙ z in omega (arith, (in_table r).0)),
    λ v. absurd (let n : (told r).number ≡ 0 = ap (λ t. (said_of t).refusal) (sym e ∙ v.1) in omega (arith, (in_table r).0)),
  )
  where_0 a (fine v back e f) = (λ z. (v, e), λ w. ap (λ s. s.refusal) f)

  answer_back : (a : A) → Case says flat said refuses values a → answer_in refuses (values (flat a)) (said (flat a)) ≡ some a
  unfolding answer_in
  answer_back a (refused r back e f) = ap (answer_in refuses (values (flat a))) f ∙ refused_back refuses (values (flat a)) r ∙ ap some back
  answer_back a (fine v back e f) = ap (answer_in refuses (values (flat a))) f ∙ ap some back

  flattened : ((a : A) → Case says flat said refuses values a) → Flattened says flat said
  flattened case =
      record {
        tells = λ a. tells a (case a);
        where_0 = λ a. where_0 a (case a);
        apart = tells_apart flat (λ f. answer_in refuses (values f) (said f)) (λ a. answer_back a (case a));
      }

abbrev listed_values : OatListed → Result ℕ Refusal
listed_values f = Ok f.count

listed_case : (a : Result ℕ Refusal) → Case told_listed flat_listed (λ f. f.said) Err listed_values a
listed_case (Ok n) = fine n refl refl refl
listed_case (Err r) = refused r refl refl refl

abbrev verdict_values : OatVerdict → Verdict
verdict_values f = Ok tt

verdict_case : (a : Verdict) → Case told_verdict flat_verdict (λ f. f.said) Err verdict_values a
verdict_case (Ok _) = fine tt refl refl refl
verdict_case (Err r) = refused r refl refl refl

abbrev complete_values : OatComplete → Result Bool Refusal
complete_values f = cond (eqb f.yes 1) (Ok true) (Ok false)

complete_case : (a : Result Bool Refusal) → Case told_completeness flat_complete (λ f. f.said) Err complete_values a
complete_case (Ok true) = fine true refl refl refl
complete_case (Ok false) = fine false refl refl refl
complete_case (Err r) = refused r refl refl refl

abbrev part_values : OatPart → Result LayerPart Refusal
part_values f = Ok (part_at f.offset f.length)

part_case : (a : Result LayerPart Refusal) → Case told_part flat_part (λ f. f.said) Err part_values a
part_case (Ok p) = fine (p.start, p.long) refl refl refl
part_case (Err r) = refused r refl refl refl

abbrev tally_values : OatTally → Result ℕ Refusal
tally_values f = Ok f.total

tally_case : (a : Result ℕ Refusal) → Case told_tally flat_tally (λ f. f.said) Err tally_values a
tally_case (Ok many) = fine many refl refl refl
tally_case (Err r) = refused r refl refl refl

-- the face that a number means
abbrev face_of : ℤ → Face
face_of (pos zero) = Face.None
face_of (pos (suc zero)) = Face.Plus X
face_of (pos (suc (suc zero))) = Face.Plus Y
face_of (pos (suc (suc (suc n)))) = Face.Plus Z
face_of (negsuc zero) = Face.Minus X
face_of (negsuc (suc zero)) = Face.Minus Y
face_of (negsuc (suc (suc n))) = Face.Minus Z

face_back : (f : Face) → face_of (face_number f) ≡ f
face_back Face.None = refl
face_back (Face.Plus X) = refl
face_back (Face.Plus Y) = refl
face_back (Face.Plus Z) = refl
face_back (Face.Minus X) = refl
face_back (Face.Minus Y) = refl
face_back (Face.Minus Z) = refl

abbrev hit_values : OatHit → Hit
hit_values f =
    record {
      cell = record { x = f.x; y = f.y; z = f.z };
      code = f.code;
      place = record { num = f.num; den = f.den; face = face_of f.face };
      reads = f.reads;
    }

abbrev walk_values : OatHit → Result FirstHit Refusal
walk_values f = cond (eqb f.hit 1) (Ok (FirstHit.Hit (hit_values f))) (Ok (FirstHit.Clear f.reads))

hit_case : (a : Result FirstHit Refusal) → Case told_hit flat_hit (λ f. f.said) Err walk_values a
hit_case (Ok (FirstHit.Clear reads)) = fine (walk.clear reads) refl refl refl
hit_case (Ok (FirstHit.Hit h)) =
    fine (walk.hit h)
    (λ i. Ok (FirstHit.Hit (record {
      cell = h.cell;
      code = h.code;
      place = record { num = h.place.num; den = h.place.den; face = face_back h.place.face i };
      reads = h.reads;
    })))
    refl refl
hit_case (Err r) = refused r refl refl refl

abbrev found_values : OatFound → Result Cell Refusal
found_values f = Ok (record { x = f.x; y = f.y; z = f.z })

found_case : (a : Result Cell Refusal) → Case told_lookup flat_found (λ f. f.said) Err found_values a
found_case (Ok c) = fine c refl refl refl
found_case (Err r) = refused r refl refl refl

abbrev block_values : OatSight → Block
block_values f =
    record {
      share = f.share;
      cell = record { x = f.x; y = f.y; z = f.z };
      code = f.code;
      reads = f.reads;
      face = face_of f.face;
    }

abbrev sight_values : OatSight → Sight
sight_values f = cond (eqb f.blocked 1) (Sight.Blocked (block_values f)) Sight.Clear

sight_case : (a : Sight) → Case told_sight flat_sight (λ f. f.said) Sight.Refused sight_values a
sight_case Sight.Clear = fine sights.clear refl refl refl
sight_case (Sight.Blocked b) =
    fine (sights.blocked b)
    (λ i. Sight.Blocked (record { share = b.share; cell = b.cell; code = b.code; reads = b.reads; face = face_back b.face i }))
    refl refl
sight_case (Sight.Refused r) = refused r refl refl refl

abbrev venue_values : OatVenue → Result Venue Refusal
venue_values f = Ok (record { counts = record { nx = f.nx; ny = f.ny; nz = f.nz }; start = f.offset; long = f.length })

venue_case : (a : Result Venue Refusal) → Case told_venue flat_venue (λ f. f.said) Err venue_values a
venue_case (Ok v) = fine (v.counts, v.start, v.long) refl refl refl
venue_case (Err r) = refused r refl refl refl

named_rule : (rule : Rule) → (rule_check (rule_number rule) ≡ Ok tt) × (rule_of (rule_number rule) ≡ rule)
unfolding rule_check rule_of
named_rule One = (refl, refl)
named_rule Two = (refl, refl)

abbrev pair_values : OatPair → Result Pair Refusal
pair_values f =
    Ok (record {
      p = record { x = f.px; y = f.py; z = f.pz };
      q = record { x = f.qx; y = f.qy; z = f.qz };
      rule = rule_of f.rule;
    })

pair_case : (a : Result Pair Refusal) → Case told_pair flat_pair (λ f. f.said) Err pair_values a
pair_case (Ok e) =
    fine (e.p, e.q, e.rule) (λ i. Ok (record { p = e.p; q = e.q; rule = (named_rule e.rule).1 i })) refl refl
pair_case (Err r) = refused r refl refl refl

abbrev written_values : OatWritten → Result ℕ Refusal
written_values f = Ok f.written

written_case : (a : Result ℕ Refusal) → Case told_written flat_written (λ f. f.said) Err written_values a
written_case (Ok many) = fine many refl refl refl
written_case (Err r) = refused r refl refl refl

pub flattenings : Flattenings
flattenings =
    record {
      lines = flattened listed_case;
      mark = flattened verdict_case;
      complete = flattened complete_case;
      layer = flattened part_case;
      tallies = flattened tally_case;
      walks = flattened hit_case;
      found = flattened found_case;
      seen = flattened sight_case;
      venue = flattened venue_case;
      pair = flattened pair_case;
      written = flattened written_case;
    }

-- ---- what each struct holds, and what those that go in mean: by computing

pub flat_rows : FlatRows
flat_rows =
    record {
      listed = λ n. refl;
      listed_refused = λ r. refl;
      verdict = refl;
      verdict_refused = λ r. refl;
      yes = refl;
      no = refl;
      complete_refused = λ r. refl;
      part = λ start many. refl;
      part_refused = λ r. refl;
      tally = λ many. refl;
      tally_refused = λ r. refl;
      hit = λ x y z code num den f reads. refl;
      walk_clear = λ reads. refl;
      walk_refused = λ r. refl;
      found = λ x y z. refl;
      found_refused = λ r. refl;
      blocked = λ share x y z code reads f. refl;
      sight_clear = refl;
      sight_refused = λ r. refl;
      venue = λ nx ny nz start long. refl;
      venue_refused = λ r. refl;
      pair = λ px py pz qx qy qz rule. refl;
      pair_refused = λ r. refl;
      written = λ many. refl;
      written_refused = λ r. refl;
    }

pub input_rows : InputRows
unfolding rule_of rule_check
input_rows =
    record {
      cell = λ x y z. refl;
      counts = λ nx ny nz. refl;
      untested = refl;
      untested_two = refl;
      tested = λ number other. λ i. record { start = cond (ne_eqb number 0 other i) Untested Tested; rule = One };
      tested_two = λ number other. λ i. record { start = cond (ne_eqb number 0 other i) Untested Tested; rule = Two };
      named_rule = named_rule;
      no_rule = λ number one two. rw (ne_eqb number 1 one, ne_eqb number 2 two);
      placement = λ ox oy oz edge. refl;
      point = λ x y z. refl;
    }
