-- What is claimed of the program `sightlines`: for all steps that meet their contracts. Assumes nothing.
use Rattle.std.specs.Prelude.{Ok, Err, Result, Some, None, ℕ, ◌+◌, ◌≡◌, List, [], ◌∷◌, ◌++◌, ◌⊎◌, take}
use Rattle.cells.specs.declared.Refusal.{Refusal}
use Rattle.cells.specs.declared.Counts.{Counts}
use Rattle.cells.specs.declared.Manner.{Manner}
use Rattle.cells.specs.declared.Refusal.TheVariants.{NoRule}
use Rattle.cells.specs.declared.Start.TheVariants.{Tested}
use Rattle.walks.specs.declared.Walker.TheVariants.{Plain, Adaptive}
use Rattle.walks.specs.Answers.{Finds}
use Rattle.std.specs.Borrow.{Bor}
use Rattle.records.specs.declared.venues.Venue.{Venue}
use Rattle.records.specs.Venues.{ReadsVenue, GivesCells}
use Rattle.walks.specs.declared.Hit.{Hit}
use Rattle.walks.specs.declared.FirstHit.{FirstHit}
use Rattle.records.specs.declared.pairs.Pair.{Pair}
use Rattle.texts.specs.Text.{hit_line, clear_line, pair_refused_line}
use Rattle.program.specs.declared.Step.{Step}
use Rattle.program.specs.Program.{Said, venue_most, pair_most, venue_said, answers, walk_line, walk_lines, pair_said, output, frame, after_frame, Says}
use Rattle.claims.specs.Example.{marked_cells}
use Rattle.claims.specs.Records.{example_venue, example_pair, pair_by}
use Rattle.records.specs.Pairs.{ReadsPair}

-- ---- a run of the program

-- Pair by pair: the next frame of what is left of the input is handed to the step, and what it puts is written; it says what comes next.
pub data Pairs (n : Counts) (cells : List ℕ) : ℕ → List ℕ → List ℕ → Type 0 where
  last : {k : ℕ} {s entry exit : List ℕ} {r : Step} → Says (pair_said n cells k (frame pair_most s)) entry r exit → r.next ≡ None
      → Pairs n cells k s (take r.long exit)
  next : {k j : ℕ} {s entry exit out : List ℕ} {r : Step} → Says (pair_said n cells k (frame pair_most s)) entry r exit → r.next ≡ Some j
      → Pairs n cells j (after_frame pair_most s) out → Pairs n cells k s (take r.long exit ++ out)

-- The venue's frame first, and where it is taken the pairs, with the counts and the cells that reading the frame gives.
pub data Runs : List ℕ → List ℕ → Type 0 where
  ends : {s entry exit : List ℕ} {r : Step} → Says (venue_said (frame venue_most s)) entry r exit → r.next ≡ None → Runs s (take r.long exit)
  begins : {k : ℕ} {s entry exit out : List ℕ} {bytes cells : Bor (List ℕ)} {r : Step} {v : Venue} →
      Says (venue_said (frame venue_most s)) entry r exit → r.next ≡ Some k
      → bytes.now ≡ frame venue_most s → ReadsVenue bytes.now (Ok v) → GivesCells bytes cells →
      Pairs v.counts cells.now k (after_frame venue_most s) out
      → Runs s (take r.long exit ++ out)

-- ---- the claims

-- The steps over the frames of an input give that output, and there is such a run.
pub record Writes (s : List ℕ) : Type 0 where
  pub only : (out : List ℕ) → Runs s out → out ≡ output s
  pub some : Runs s (output s)

-- One answer and one final memory for each frame.
pub record OneStep (entry : List ℕ) : Type 0 where
  pub venue : (frame : List ℕ) (r t : Step) (x y : List ℕ) → Says (venue_said frame) entry r x → Says (venue_said frame) entry t y → (r ≡ t) × (x ≡ y)
  pub pair : (n : Counts) (cells : List ℕ) (k : ℕ) (frame : List ℕ) (r t : Step) (x y : List ℕ) → Says (pair_said n cells k frame) entry r x
      → Says (pair_said n cells k frame) entry t y → (r ≡ t) × (x ≡ y)

-- a walk was made: its answer is no refusal, and so it has a line
abbrev pub Walked : Result FirstHit Refusal → Type 0
Walked (Ok (FirstHit.Clear reads)) = Unit {0}
Walked (Ok (FirstHit.Hit h)) = Unit {0}
Walked (Err r) = ⊥

abbrev pub AllWalked : List (ℕ × (Result FirstHit Refusal)) → Type 0
AllWalked [] = Unit {0}
AllWalked (a ∷ more) = Walked a.1 × AllWalked more

-- what is said of pair k, and on to the next
abbrev pub going_on : ℕ → List ℕ → Said
going_on k text = record { text = text; next = Some (k + 1) }

-- Of an accepted venue, a pair that is read is refused 5 or not at all; then each walk was made and has its line. Either way the program goes on.
pub record FiveOrLines (bytes cells : Bor (List ℕ)) (t : List ℕ) (v : Venue) (e : Pair) : Type 0 where
  pub pair : ReadsVenue bytes.now (Ok v) → GivesCells bytes cells → ReadsPair t (Ok e) → (k : ℕ) →
      let found : List (ℕ × (Result FirstHit Refusal)) = answers v.counts cells.now e in
      (pair_said v.counts cells.now k t ≡ going_on k (pair_refused_line k 5))
      ⊎ ((pair_said v.counts cells.now k t ≡ going_on k (walk_lines k found)) × AllWalked found)

-- SCOPE T6: of a pair whose rule byte names no rule there is the line of 12, and the program goes on.
pub record TwelveGoesOn (n : Counts) (cells t : List ℕ) : Type 0 where
  pub goes_on : ReadsPair t (Err NoRule) → (k : ℕ) → pair_said n cells k t ≡ going_on k (pair_refused_line k 12)

-- What the line of a walk has: a hit's cell, code, reads and entry face, or the reads of a clear one.
pub record LineOf (k letter : ℕ) : Type 0 where
  pub hit : (h : Hit) → walk_line k letter (Ok (FirstHit.Hit h)) ≡ hit_line k letter h.cell h.code h.reads h.place.face
  pub clear : (reads : ℕ) → walk_line k letter (Ok (FirstHit.Clear reads)) ≡ clear_line k letter reads

-- SCOPE T16, T17: of any pair the program's answers are those of the two calls with a tested start and by the pair's rule, with the letters P and A.
pub record TestedStart (n : Counts) (cells : List ℕ) (e : Pair) : Type 0 where
  pub walks : (how : Manner) → how.start ≡ Tested → how.rule ≡ e.rule → (plain adaptive : Result FirstHit Refusal) → Finds Plain how n cells e.p e.q plain →
      Finds Adaptive how n cells e.p e.q adaptive → answers n cells e ≡ (80, plain) ∷ (65, adaptive) ∷ []

-- ---- named inputs and outputs

-- SCOPE's input
abbrev pub example_input : List ℕ
example_input = example_venue ++ example_pair

-- `1 P hit 1 1 0 2 3 +y`
abbrev pub plain_line : List ℕ
plain_line = 49 ∷ 32 ∷ 80 ∷ 32 ∷ 104 ∷ 105 ∷ 116 ∷ 32 ∷ 49 ∷ 32 ∷ 49 ∷ 32 ∷ 48 ∷ 32 ∷ 50 ∷ 32 ∷ 51 ∷ 32 ∷ 43 ∷ 121 ∷ 10 ∷ []

-- its whole output, with `1 A clear 4`
abbrev pub example_output : List ℕ
example_output = plain_line ++ (49 ∷ 32 ∷ 65 ∷ 32 ∷ 99 ∷ 108 ∷ 101 ∷ 97 ∷ 114 ∷ 32 ∷ 52 ∷ 10 ∷ [])

-- SCOPE T14: the same venue, marked, and the same pair
abbrev pub marked_venue : List ℕ
marked_venue = 0 ∷ 0 ∷ 0 ∷ 15 ∷ 1 ∷ 0 ∷ 4 ∷ 0 ∷ 2 ∷ 0 ∷ 1 ∷ marked_cells

abbrev pub marked_input : List ℕ
marked_input = marked_venue ++ example_pair

-- SCOPE T14: its whole output, with `1 A hit 1 1 0 2 3 +y`
abbrev pub marked_output : List ℕ
marked_output = plain_line ++ (49 ∷ 32 ∷ 65 ∷ 32 ∷ 104 ∷ 105 ∷ 116 ∷ 32 ∷ 49 ∷ 32 ∷ 49 ∷ 32 ∷ 48 ∷ 32 ∷ 50 ∷ 32 ∷ 51 ∷ 32 ∷ 43 ∷ 121 ∷ 10 ∷ [])

-- ---- wrong answers

-- a program that is silent on SCOPE's input; a step that goes on after a pair, or a venue, that is cut short: three bytes of a length; one that ends
-- after a pair of the rule byte 3
pub record WrongPrograms : Type 0 where
  pub silent : Runs example_input [] → ⊥
  pub goes_on : (n : Counts) (cells entry exit : List ℕ) (answer : Step) (k : ℕ) → Says (pair_said n cells 1 (0 ∷ 0 ∷ 0 ∷ [])) entry answer exit →
      answer.next ≡ Some k → ⊥
  pub ends_at_12 : (n : Counts) (cells entry exit : List ℕ) (answer : Step) → Says (pair_said n cells 1 (pair_by 3)) entry answer exit → answer.next ≡ None → ⊥
  pub begins : (entry exit : List ℕ) (answer : Step) (k : ℕ) → Says (venue_said (0 ∷ 0 ∷ 0 ∷ [])) entry answer exit → answer.next ≡ Some k → ⊥
