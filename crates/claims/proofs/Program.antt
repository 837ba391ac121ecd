-- The program's claims: what a step says of a frame it says of all that is left of the input, so the steps give the whole output. Assumes nothing.
use Rattle.std.specs.Prelude.{Ok, Err, Result, Some, None, Option}
use Rattle.cells.specs.declared.Refusal.{Refusal}
use Prim.Native.Nat.{ℕ, zero, suc, ◌+◌, ◌≤◌}
use mathlib.Core.Path.{◌≡◌, refl, sym, ap, ap₂, ◌∙◌, subst}
use mathlib.Core.List.{List, [], ◌∷◌, ◌++◌, append-nil}
use mathlib.Core.Bool.{Bool, true, false, cond, not}
use mathlib.Core.Logic.{◌⊎◌, inl, inr}
use native.Mathlib.Omega.{arith}
use lib.ListN.{length, take, drop, replicate, length-drop}
use lib.Dec.{ltb, eqb}
use lib.Seq.{take_at}
use borrow.Author.Tests.{eqb-true, eq-eqb, ne_eqb, le-ltb, not-false}
use Rattle.cells.proofs.Checks.{NotBy, not_then, not_first, not_when}
use Rattle.cells.specs.declared.Axis.{Axis}
use Rattle.cells.specs.declared.Axis.TheVariants.{X, Y, Z}
use Rattle.cells.specs.declared.Cell.{Cell}
use Rattle.cells.specs.declared.Counts.{Counts}
use Rattle.cells.specs.declared.Manner.{Manner}
use Rattle.cells.specs.Manners.{tested_by, rule_check}
use Rattle.cells.specs.declared.End.{End}
use Rattle.cells.specs.declared.End.TheVariants.{P, Q}
use Rattle.cells.specs.declared.Refusal.TheVariants.{OffGrid, Record, Version, NoRule}
use Rattle.cells.specs.Checks.{Verdict, refuse_when, ◌then◌, by_verdict}
use Rattle.cells.specs.Refusals.{told}
use Rattle.grids.specs.Grid.{shape}
use Rattle.grids.specs.Inside.{off_axis, grid_check, walk_check}
use Rattle.walks.specs.declared.Walker.{Walker}
use Rattle.walks.specs.declared.Walker.TheVariants.{Plain, Adaptive}
use Rattle.walks.specs.declared.FirstHit.{FirstHit}
use Rattle.walks.specs.declared.Hit.{Hit}
use Rattle.walks.specs.Walks.{Conduct, conduct}
use Rattle.walks.specs.Answers.{first_hit}
use Rattle.walks.specs.Numbers.{hits_at, end_of}
use Rattle.walks.proofs.Story.{first_hit_is}
use Rattle.records.specs.declared.pairs.Pair.{Pair}
use Rattle.records.proofs.HeadTests.{pair_longest, head_tests, head_fits, pair_head_tests, pair_tests, pair_accepted}
use Rattle.records.proofs.RoundTrip.{record_fits}
use Rattle.records.specs.declared.venues.Venue.{Venue}
use Rattle.records.specs.Heads.{length_field, announced, version_of, whole_check}
use Rattle.records.specs.Venues.{venue_check, venue_read, venue_cells, start_of}
use Rattle.records.specs.Pairs.{pair_version, pair_length, rule_byte, pair_in, pair_check, pair_read}
use Rattle.program.specs.declared.Step.{Step}
use Rattle.program.specs.Program.{Said, venue_most, pair_most, beyond, venue_said, pair_said, then_on, pairs, after_venue, output, frame, frame_length, after_frame, Says, text_room, after_refusal, answers, walk_line, walk_lines, said_of_walks, said_of_pair}
use Rattle.program.proofs.Frames.{venue_framed, venue_on, venue_taken, read_framed, cells_framed, pair_framed, pair_on, after_same, less_left, beyond_is}
use Rattle.claims.specs.Program.{Pairs, last, next, Runs, ends, begins, Writes, OneStep, example_input, WrongPrograms, Walked, AllWalked, going_on, FiveOrLines, TwelveGoesOn, LineOf, TestedStart}
use Rattle.texts.specs.Text.{pair_refused_line}
use Rattle.claims.proofs.Starred.{example_writes}
use denote.Ref.{Bor}

-- ---- one step

-- what a step put is the text that it says
text_of : {said : Said} {entry exit : List ℕ} {r : Step} → Says said entry r exit → take r.long exit ≡ said.text
text_of {said} {entry} {exit} {r} h = ap (take r.long) h.holds ∙ take_at said.text (drop (length said.text) entry) r.long (sym h.long)

-- some step says it
made : Said → Step
made said = record { long = length said.text; next = said.next }

put : Said → List ℕ
put said = said.text ++ drop (length said.text) (replicate text_room 0)

says_so : (said : Said) → Says said (replicate text_room 0) (made said) (put said)
unfolding made put
says_so said = record { long = refl; holds = refl; next = refl }

written : (said : Said) → take (made said).long (put said) ≡ said.text
written said = text_of (says_so said)

-- ---- the pairs

module _ (n : Counts) (cells : List ℕ) where
  -- nothing left, nothing said
  nothing_said : (k : ℕ) (s : List ℕ) → length s ≡ 0 → pair_said n cells k s ≡ record { text = []; next = None }
  unfolding pair_said
  nothing_said k s none = rw (eq-eqb (length s) 0 none)

  last_pair : (turns k : ℕ) (s : List ℕ) → length s ≤ turns → (pair_said n cells k s).next ≡ None → pairs turns n cells k s ≡ (pair_said n cells k s).text
  unfolding pairs
  last_pair zero k s le stop = rw (nothing_said k s (omega arith))
  last_pair (suc turns) k s le stop = rw stop (append-nil (pair_said n cells k s).text)

  next_pair : (turns k j : ℕ) (s : List ℕ) → (pair_said n cells k s).next ≡ Some j
      → pairs (suc turns) n cells k s ≡ (pair_said n cells k s).text ++ pairs turns n cells j (after_frame pair_most s)
  unfolding pairs
  next_pair turns k j s on = let (_, within) = pair_on n cells k s j on in rw (on, after_same pair_most s within)

  -- what is left after a pair needs fewer turns
  fewer : (turns k j : ℕ) (s : List ℕ) → length s ≤ suc turns → (pair_said n cells k s).next ≡ Some j → length (after_frame pair_most s) ≤ turns
  fewer turns k j s le on =
      let (some, within) = pair_on n cells k s j on in
      let less = less_left s some in
      rw (after_same pair_most s within) (omega arith)

  -- a step over the frame is a step over all that is left
  module _ (k : ℕ) (s : List ℕ) {entry exit : List ℕ} {r : Step} (h : Says (pair_said n cells k (frame pair_most s)) entry r exit) where
    wrote : take r.long exit ≡ (pair_said n cells k s).text
    wrote = text_of h ∙ ap (λ x. x.text) (pair_framed n cells k s)

    goes : (pair_said n cells k s).next ≡ r.next
    goes = sym (h.next ∙ ap (λ x. x.next) (pair_framed n cells k s))

  only_pairs : {k : ℕ} {s out : List ℕ} → Pairs n cells k s out → (turns : ℕ) → length s ≤ turns → out ≡ pairs turns n cells k s
  only_pairs {k} {s} (last h stop) turns le = wrote k s h ∙ sym (last_pair turns k s le (goes k s h ∙ stop))
  only_pairs {k} {s} (next {j = j} h go rest) zero le = absurd ((pair_on n cells k s j (goes k s h ∙ go)).0 (omega arith))
  only_pairs {k} {s} (next {j = j} h go rest) (suc turns) le =
      let on = goes k s h ∙ go in
      ap₂ (λ a b. a ++ b) (wrote k s h) (only_pairs rest turns (fewer turns k j s le on)) ∙ sym (next_pair turns k j s on)

  -- the frame's step that says so
  module _ (k : ℕ) (s : List ℕ) where
    abbrev of_frame : Said
    of_frame = pair_said n cells k (frame pair_most s)

    ends_here : (turns : ℕ) → length s ≤ turns → (pair_said n cells k s).next ≡ None → Pairs n cells k s (pairs turns n cells k s)
    ends_here turns le stop =
        subst (Pairs n cells k s) (wrote k s (says_so of_frame) ∙ sym (last_pair turns k s le stop))
        (last (says_so of_frame) (sym (goes k s (says_so of_frame)) ∙ stop))

    goes_on : (turns j : ℕ) → (pair_said n cells k s).next ≡ Some j → Pairs n cells j (after_frame pair_most s) (pairs turns n cells j (after_frame pair_most s))
        → Pairs n cells k s (pairs (suc turns) n cells k s)
    goes_on turns j on rest =
        subst (Pairs n cells k s)
        (ap (λ a. a ++ pairs turns n cells j (after_frame pair_most s)) (wrote k s (says_so of_frame)) ∙ sym (next_pair turns k j s on))
        (next (says_so of_frame) (sym (goes k s (says_so of_frame)) ∙ on) rest)

  some_pairs : (turns k : ℕ) (s : List ℕ) → length s ≤ turns → Pairs n cells k s (pairs turns n cells k s)
  some_pairs zero k s le = ends_here k s zero le (ap (λ x. x.next) (nothing_said k s (omega arith)))
  some_pairs (suc turns) k s le = by (λ j. some_pairs turns j (after_frame pair_most s)) (pair_said n cells k s).next refl
    where
      by : ((j : ℕ) → length (after_frame pair_most s) ≤ turns → Pairs n cells j (after_frame pair_most s) (pairs turns n cells j (after_frame pair_most s)))
          → (x : Option ℕ) → (pair_said n cells k s).next ≡ x → Pairs n cells k s (pairs (suc turns) n cells k s)
      by rest None stop = ends_here k s (suc turns) le stop
      by rest (Some j) on = goes_on k s turns j on (rest j (fewer turns k j s le on))

-- ---- the whole run

module _ (s : List ℕ) where
  output_is : output s ≡ (venue_said s).text ++ then_on (venue_said s).next (after_venue (venue_read s) s)
  unfolding output
  output_is = refl

  stops : (venue_said s).next ≡ None → output s ≡ (venue_said s).text
  stops stop = output_is ∙ rw stop (append-nil (venue_said s).text)

  begins_with : (k : ℕ) → (venue_said s).next ≡ Some k → (v : Venue) → venue_read s ≡ Ok v
      → output s ≡ (venue_said s).text ++ pairs (length s) v.counts (venue_cells s) k (after_frame venue_most s)
  begins_with k on v e = output_is ∙ rw (on, e, after_same venue_most s (venue_on s k on))

  -- what is left after the venue
  enough : length (after_frame venue_most s) ≤ length s
  enough = omega (arith, length-drop (frame_length venue_most s) s)

  abbrev venue_frame : Said
  venue_frame = venue_said (frame venue_most s)

  module _ {entry exit : List ℕ} {r : Step} (h : Says venue_frame entry r exit) where
    venue_wrote : take r.long exit ≡ (venue_said s).text
    venue_wrote = text_of h ∙ ap (λ x. x.text) (venue_framed s)

    venue_goes : (venue_said s).next ≡ r.next
    venue_goes = sym (h.next ∙ ap (λ x. x.next) (venue_framed s))

  only_run : {out : List ℕ} → Runs s out → out ≡ output s
  only_run (ends h stop) = venue_wrote h ∙ sym (stops (venue_goes h ∙ stop))
  only_run (begins {k = k} {cells = cells} {v = v} h go is read given rest) =
      let on = venue_goes h ∙ go in
      let within = venue_on s k on in
      ap₂ (λ a b. a ++ b) (venue_wrote h)
      (only_pairs v.counts cells.now rest (length s) enough
      ∙ ap (λ l. pairs (length s) v.counts l k (after_frame venue_most s)) (given.says ∙ ap venue_cells is ∙ cells_framed s within))
      ∙ sym (begins_with k on v (sym (read.says ∙ ap venue_read is ∙ read_framed s within)))

  some_run : Runs s (output s)
  some_run = by (venue_said s).next (venue_read s) refl refl
    where
      -- the frame, lent somewhere
      lent : Bor (List ℕ)
      lent = record { ref_ptr = (0, 0); now = frame venue_most s }

      by : (x : Option ℕ) (r : Result Venue Refusal) → (venue_said s).next ≡ x → venue_read s ≡ r → Runs s (output s)
      by None r stop e =
          subst (Runs s) (venue_wrote (says_so venue_frame) ∙ sym (stops stop)) (ends (says_so venue_frame) (sym (venue_goes (says_so venue_frame)) ∙ stop))
      by (Some k) (Err r) on e = absurd (venue_taken s r k on e)
      by (Some k) (Ok v) on e =
          let within = venue_on s k on in
          subst (Runs s)
          (ap (λ a. a ++ pairs (length s) v.counts (venue_cells s) k (after_frame venue_most s)) (venue_wrote (says_so venue_frame))
          ∙ sym (begins_with k on v e))
          (begins
          {bytes = lent}
          {cells = record { ref_ptr = (0, start_of (venue_read (frame venue_most s))); now = venue_cells s }}
          (says_so venue_frame)
          (sym (venue_goes (says_so venue_frame)) ∙ on)
          refl
          (record { says = sym (read_framed s within ∙ e) })
          (record { says = sym (cells_framed s within); there = record { block = refl; offset = omega arith } })
          (some_pairs v.counts (venue_cells s) (length s) k (after_frame venue_most s) enough))

pub writes : (s : List ℕ) → Writes s
writes s = record { only = λ out. only_run s; some = some_run s }

-- ---- a pair of an accepted venue

-- fine, or refused 5
abbrev FineOrFive : Verdict → Type 0
FineOrFive (Ok _) = Unit {0}
FineOrFive (Err r) = (told r).number ≡ 5

five_then : (v w : Verdict) → FineOrFive v → FineOrFive w → FineOrFive (v then w)
five_then (Ok _) w a b = b
five_then (Err r) w a b = a

five_when : (t : Bool) (e : End) (a : Axis) → FineOrFive (refuse_when t (OffGrid e a))
five_when true e a = refl
five_when false e a = tt

five_at : (e : End) (n : Counts) (c : Cell) → FineOrFive (grid_check e n c)
five_at e n c =
    five_then (refuse_when (off_axis c.x n.nx) (OffGrid e X)) _ (five_when (off_axis c.x n.nx) e X)
    (five_then (refuse_when (off_axis c.y n.ny) (OffGrid e Y)) _ (five_when (off_axis c.y n.ny) e Y) (five_when (off_axis c.z n.nz) e Z))

-- where the shape is fine, no test is left but those of the ends
walk_five : (n : Counts) (bytes : ℕ) (p q : Cell) → shape n bytes ≡ Ok tt → FineOrFive (walk_check n bytes p q)
unfolding walk_check
walk_five n bytes p q fine =
    subst (λ (v : Verdict). FineOrFive (v then grid_check P n p then grid_check Q n q)) (sym fine)
    (five_then (grid_check P n p) _ (five_at P n p) (five_at Q n q))

-- where all tests are passed, a walk is made
walked : (w : Walker) (how : Manner) (n : Counts) (l : List ℕ) (p q : Cell) → walk_check n (length l) p q ≡ Ok tt → Walked (first_hit w how n l p q)
walked w how n l p q fine =
    let c : Conduct = conduct how p q in
    subst Walked (sym (first_hit_is how n l p q w)) (rw fine (by (hits_at c n l p q (end_of c n l p q w)) _ _))
  where
    by : (b : Bool) (h : Hit) (reads : ℕ) → Walked (Ok (cond b (FirstHit.Hit h) (FirstHit.Clear reads)))
    by true h reads = tt
    by false h reads = tt

-- a whole pair of its version's length is neither empty nor beyond the most
whole_said : (n : Counts) (cells : List ℕ) (k : ℕ) (t : List ℕ) → length_field + announced t ≤ length t → announced t ≡ pair_length (version_of t)
    → pair_said n cells k t ≡ said_of_pair n cells k (pair_read t)
unfolding pair_said
whole_said n cells k t there long =
    let most = pair_longest (version_of t) in
    rw (
      ne_eqb (length t) 0 (λ none. omega arith),
      beyond_is pair_most t (omega arith),
      le-ltb pair_most (announced t) (omega arith),
    )

-- so is one that is read
read_said : (n : Counts) (cells : List ℕ) (k : ℕ) (t : List ℕ) (e : Pair) → pair_read t ≡ Ok e
    → pair_said n cells k t ≡ said_of_walks k (walk_check n (length cells) e.p e.q) (answers n cells e)
read_said n cells k t e read =
    let (w, same) = pair_accepted t e read in whole_said n cells k t w.there w.long ∙ ap (said_of_pair n cells k) read

pub five_or_lines : (bytes given : Bor (List ℕ)) (t : List ℕ) (v : Venue) (e : Pair) → FiveOrLines bytes given t v e
five_or_lines bytes given t v e =
    record {
      pair = λ venue gives read k.
          by k (rw gives.says (record_fits bytes.now v (sym venue.says)).fine) (read_said n cells k t e (sym read.says))
          (walk_check n (length cells) p q) refl;
    }
  where
    cells : List ℕ
    cells = given.now

    n : Counts
    n = v.counts

    p : Cell
    p = e.p

    q : Cell
    q = e.q

    found : List (ℕ × (Result FirstHit Refusal))
    found = answers n cells e

    by : (k : ℕ) → shape n (length cells) ≡ Ok tt → {said : Said} → said ≡ said_of_walks k (walk_check n (length cells) p q) found
        → (w : Verdict) → walk_check n (length cells) p q ≡ w
        → (said ≡ going_on k (pair_refused_line k 5)) ⊎ ((said ≡ going_on k (walk_lines k found)) × AllWalked found)
    by k fine is (Ok _) w = inr (is ∙ ap (λ u. said_of_walks k u found) w, (walked Plain _ n cells p q w, (walked Adaptive _ n cells p q w, tt)))
    by k fine is (Err r) w =
        let five : (told r).number ≡ 5 = subst FineOrFive w (walk_five n (length cells) p q fine) in
        inl (is ∙ ap (λ u. said_of_walks k u found) w ∙ ap (λ number. record { text = pair_refused_line k number; next = after_refusal k number }) five)

-- ---- a pair of no rule

-- the tests of the head
head_other : (t : List ℕ) (known misfit : Bool) → NotBy 12 (head_tests t known misfit)
unfolding whole_check
head_other t known misfit =
    let short : Bool = ltb (length t) length_field in
    let empty : Bool = eqb (announced t) 0 in
    let cut : Bool = ltb (length t) (length_field + announced t) in
    not_then 12 (whole_check t) _
    (not_first 12 short Record _ (λ e. omega (arith, e)) (not_first 12 empty Record _ (λ e. omega (arith, e)) (not_when 12 cut Record (λ e. omega
    (arith, e)))))
    (not_first 12 (not known) Version _ (λ e. omega (arith, e)) (not_when 12 misfit Record (λ e. omega (arith, e))))

-- so where a pair is refused 12 they are passed
head_passed : (v w : Verdict) (e : Pair) → NotBy 12 v → by_verdict Err (Ok e) (v then w) ≡ Err NoRule → v ≡ Ok tt
head_passed (Ok _) w e other is = refl
head_passed (Err r) w e other is = absurd (let same : r ≡ NoRule = cc in other (ap (λ u. (told u).number) same))

pub twelve_goes_on : (n : Counts) (cells t : List ℕ) → TwelveGoesOn n cells t
unfolding pair_read
twelve_goes_on n cells t =
    record {
      goes_on = λ refused k.
          let is = ap (by_verdict Err (Ok (pair_in t))) (sym (pair_tests t)) ∙ sym refused.says in
          let known = pair_version (version_of t) in
          let misfit = not (eqb (announced t) (pair_length (version_of t))) in
          let w = head_fits t known misfit (head_passed (pair_head_tests t) (rule_check (rule_byte t)) (pair_in t) (head_other t known misfit) is) in
          whole_said n cells k t w.there (eqb-true _ _ (not-false _ w.long)) ∙ ap (said_of_pair n cells k) (sym refused.says);
    }

-- ---- one answer, and wrong ones

one : {said : Said} {entry x y : List ℕ} {r t : Step} → Says said entry r x → Says said entry t y → (r ≡ t) × (x ≡ y)
one a b =
    (ap₂ (λ long next. record { long = long; next = next }) (a.long ∙ sym b.long) (a.next ∙ sym b.next), a.holds ∙ sym b.holds)

pub one_step : (entry : List ℕ) → OneStep entry
one_step entry = record { venue = λ frame r t x y. one; pair = λ n cells k frame r t x y. one }

-- the end is no number
over_not_on : (k : ℕ) {next : (Option ℕ)} → next ≡ None → next ≡ Some k → ⊥
over_not_on k e f = let g : Some k ≡ None = sym f ∙ e in let z : ◌≡◌ {A = ℕ} 0 1 = cc in omega arith

pub starts_tested : (n : Counts) (cells : List ℕ) (e : Pair) → TestedStart n cells e
starts_tested n cells e =
    record {
      walks = λ how is by plain adaptive hp ha.
          let named : (w : Walker) → first_hit w (tested_by e.rule) n cells e.p e.q ≡ first_hit w how n cells e.p e.q =
          λ w. ap₂ (λ s r. first_hit w (record { start = s; rule = r }) n cells e.p e.q) (sym is) (sym by) in
          ap₂ (λ x y. (80, x) ∷ (65, y) ∷ []) (named Plain ∙ sym hp.says) (named Adaptive ∙ sym ha.says);
    }

pub line_of : (k letter : ℕ) → LineOf k letter
unfolding walk_line
line_of k letter = record { hit = λ h. refl; clear = λ reads. refl }

pub wrong_programs : WrongPrograms
unfolding pair_said beyond pair_read pair_check pair_version pair_length rule_byte rule_check venue_said venue_read venue_check whole_check
wrong_programs =
    record {
      silent = λ run. let e : ◌≡◌ {A = ℕ} 0 33 = ap length (only_run example_input run ∙ example_writes) in omega arith;
      goes_on = λ n cells entry exit answer k w. over_not_on k w.next;
      ends_at_12 = λ n cells entry exit answer w over. over_not_on 2 over w.next;
      begins = λ entry exit answer k w. over_not_on k w.next;
    }
