-- SCOPE, V and T: what the program writes, from all the bytes of its input. Assumes nothing.
use Rattle.std.specs.Prelude.{Result, Ok, Err, Option, Some, None, ℕ, zero, suc, ◌+◌, ◌*◌, ◌≡◌, Bool, false, ◌||◌}
use Rattle.std.specs.Prelude.{List, [], ◌∷◌, ◌++◌, ltb, eqb, length, take, drop}
use Rattle.std.proofs.Math.Bool.{cond}
use Rattle.cells.specs.declared.Counts.{Counts}
use Rattle.cells.specs.declared.Refusal.{Refusal}
use Rattle.cells.specs.declared.Refusal.TheVariants.{Room, Record}
use Rattle.cells.specs.Checks.{Verdict}
use Rattle.cells.specs.declared.Manner.{Manner}
use Rattle.cells.specs.Manners.{tested_by}
use Rattle.cells.specs.Refusals.{told}
use Rattle.walks.specs.declared.FirstHit.{FirstHit}
use Rattle.grids.specs.Inside.{walk_check}
use Rattle.walks.specs.Answers.{first_hit}
use Rattle.records.specs.declared.venues.Venue.{Venue}
use Rattle.records.specs.declared.pairs.Pair.{Pair}
use Rattle.records.specs.Heads.{length_field, announced}
use Rattle.records.specs.Venues.{venue_read, venue_cells}
use Rattle.records.specs.Pairs.{pair_read}
use Rattle.walks.specs.declared.Walker.TheVariants.{Plain, Adaptive}
use Rattle.texts.specs.Text.{hit_line, clear_line, pair_refused_line, venue_refused_line, line_room}
use Rattle.program.specs.declared.Step.{Step}

-- ---- one record

-- what is written for a record, and what comes next: the pair of a number, or the end
pub record Said : Type 0 where
  pub text : List ℕ
  pub next : Option ℕ

-- SCOPE T2, T3: the greatest lengths of a venue and of a pair that the program reads
abbrev pub venue_most : ℕ
venue_most = 65532

abbrev pub pair_most : ℕ
pair_most = 255

-- SCOPE T2, T3: the four bytes of the length are there, and announce more than the most
unfoldable pub beyond : ℕ → List ℕ → Bool
beyond most s = cond (ltb (length s) length_field) false (ltb most (announced s))

-- ---- the venue

-- SCOPE T4: a refused venue has one line, and nothing comes next
abbrev pub venue_refused : Refusal → Said
venue_refused r = record { text = venue_refused_line (told r).number; next = None }

-- SCOPE T5: after a venue that is read comes pair 1
abbrev pub said_of_venue : Result Venue Refusal → Said
said_of_venue (Ok v) = record { text = []; next = Some 1 }
said_of_venue (Err r) = venue_refused r

-- SCOPE T2: 6 for a venue that is too long, before it is read
unfoldable pub venue_said : List ℕ → Said
venue_said s = cond (beyond venue_most s) (venue_refused Room) (said_of_venue (venue_read s))

-- ---- a pair

-- SCOPE T6: what comes after a refused pair, by the refusal's number
abbrev pub after_refusal : (k number : ℕ) → Option ℕ
after_refusal k number = cond (eqb number 10 || eqb number 11) None (Some (k + 1))

-- SCOPE T5: the one line of a refused pair, and what comes next
abbrev pub pair_refused : (k : ℕ) → Refusal → Said
pair_refused k r = record { text = pair_refused_line k (told r).number; next = after_refusal k (told r).number }

-- SCOPE T8, T15: the line of one walk, a hit or clear; none where it is refused, and no walk of a pair is (claim `FiveOrLines`)
unfoldable pub walk_line : (k letter : ℕ) → Result FirstHit Refusal → List ℕ
walk_line k letter (Ok (FirstHit.Clear reads)) = clear_line k letter reads
walk_line k letter (Ok (FirstHit.Hit h)) = hit_line k letter h.cell h.code h.reads h.place.face
walk_line k letter (Err r) = []

-- `P` and `A`
abbrev pub plain_letter : ℕ
plain_letter = 80

abbrev pub adaptive_letter : ℕ
adaptive_letter = 65

-- SCOPE T8, T16, T17: the letter of each walk and what it answers, in the order of the lines; the start is tested, ties go by the pair's rule
abbrev pub answers : Counts → List ℕ → Pair → List (ℕ × Result FirstHit Refusal)
answers n cells e =
    let how : Manner = tested_by e.rule in
    (plain_letter, first_hit Plain how n cells e.p e.q) ∷ (adaptive_letter, first_hit Adaptive how n cells e.p e.q) ∷ []

-- a line for each
abbrev pub walk_lines : (k : ℕ) → List (ℕ × Result FirstHit Refusal) → List ℕ
walk_lines k [] = []
walk_lines k (a ∷ more) = walk_line k a.0 a.1 ++ walk_lines k more

-- SCOPE T5, T8: refused, or a line for each walk
abbrev pub said_of_walks : (k : ℕ) → Verdict → List (ℕ × Result FirstHit Refusal) → Said
said_of_walks k (Err r) found = pair_refused k r
said_of_walks k (Ok _) found = record { text = walk_lines k found; next = Some (k + 1) }

module _ (n : Counts) (cells : List ℕ) (k : ℕ) where
  abbrev pub said_of_pair : Result Pair Refusal → Said
  said_of_pair (Err r) = pair_refused k r
  said_of_pair (Ok e) = said_of_walks k (walk_check n (length cells) e.p e.q) (answers n cells e)

  -- SCOPE T7, T3: nothing where no byte is left; 10 for a pair that is too long, before it is read
  unfoldable pub pair_said : List ℕ → Said
  unfolding walk_line
  pair_said s =
      cond (eqb (length s) 0) (record { text = []; next = None })
      (cond (beyond pair_most s) (pair_refused k Record) (said_of_pair (pair_read s)))

-- ---- the whole output

-- what follows the record at the front
abbrev pub after_record : List ℕ → List ℕ
after_record s = drop (length_field + announced s) s

-- what follows, by what comes next
abbrev pub then_on : Option ℕ → (ℕ → List ℕ) → List ℕ
then_on (Some k) rest = rest k
then_on None rest = []

-- pair k stands at the front of what is left; as many turns are enough as bytes are left
unfoldable pub pairs : ℕ → Counts → List ℕ → ℕ → List ℕ → List ℕ
unfolding pair_said
pairs zero n cells k s = []
pairs (suc turns) n cells k s =
    let said : Said = pair_said n cells k s in
    said.text ++ then_on said.next (λ j. pairs turns n cells j (after_record s))

-- the pairs behind a venue, the first of them of number k
abbrev pub after_venue : Result Venue Refusal → List ℕ → ℕ → List ℕ
after_venue (Ok v) s k = pairs (length s) v.counts (venue_cells s) k (after_record s)
after_venue (Err r) s k = []

-- SCOPE T1: the output of the whole input, for the venue and then pair by pair
unfoldable pub output : List ℕ → List ℕ
unfolding venue_said pairs
output s = (venue_said s).text ++ then_on (venue_said s).next (after_venue (venue_read s) s)

-- ---- frames and steps

-- what the program reads for a record, of what is left of its input: the four bytes of the length and, unless that is beyond the most, as many
-- as it announces; or what there is, where the input ends before that
unfoldable pub frame_length : ℕ → List ℕ → ℕ
unfolding beyond
frame_length most s = length_field + cond (beyond most s) 0 (announced s)

abbrev pub frame : ℕ → List ℕ → List ℕ
frame most s = take (frame_length most s) s

-- and what is left after it
abbrev pub after_frame : ℕ → List ℕ → List ℕ
after_frame most s = drop (frame_length most s) s

-- the contract of a step: the text stands at the front of the lent bytes, the rest is as it was, and the answer says how long it is
pub record Says (said : Said) (entry : List ℕ) (r : Step) (exit : List ℕ) : Type 0 where
  pub long : r.long ≡ length said.text
  pub holds : exit ≡ said.text ++ drop (length said.text) entry
  pub next : r.next ≡ said.next

-- the same of a pair whose lines are counted: after it comes the next; or it is refused, and the lent bytes stay for its one line
abbrev pub SaysOrRefuses : (k : ℕ) (said : Said) (entry : List ℕ) (r : Result ℕ Refusal) (exit : List ℕ) → Type 0
SaysOrRefuses k said entry (Ok long) exit = Says said entry (record { long = long; next = Some (k + 1) }) exit
SaysOrRefuses k said entry (Err r) exit = (said ≡ pair_refused k r) × (exit ≡ entry)

-- after pair k comes pair k + 1, or nothing
abbrev pub Follows : ℕ → Option ℕ → Type 0
Follows k (Some j) = j ≡ k + 1
Follows k None = Unit {0}

-- room for the lines of a pair
abbrev pub text_room : ℕ
text_room = 2 * line_room
