-- How long the heads of the records are, and what an accepted record says of its bytes. Assumes nothing.
use Rattle.std.specs.Prelude.{Ok, Err}
use mathlib.Core.Path.{◌≡◌, sym, ◌∙◌, subst}
use mathlib.Core.Bool.{Bool, true, false, cond, not}
use mathlib.Core.List.{List}
use Prim.Native.Nat.{ℕ, ◌+◌, ◌≤◌}
use native.Mathlib.Nat.{pos_of_ne-zero}
use native.Mathlib.Omega.{arith}
use lib.Dec.{ltb, eqb, lit<}
use lib.ListN.{length}
use borrow.Author.Tests.{le-ltb, ltb-false, eqb-true, eqb-false, not-false}
use Rattle.cells.specs.declared.Refusal.TheVariants.{Record, Version}
use Rattle.cells.specs.Checks.{Verdict, refuse_when, ◌then◌}
use Rattle.cells.specs.Manners.{rule_check}
use Rattle.grids.specs.Grid.{shape}
use Rattle.cells.proofs.Checks.{fine_first, fine_rest, each_fine, passed, then_four, by_fine}
use Rattle.records.specs.declared.venues.Venue.{Venue}
use Rattle.records.specs.declared.pairs.Pair.{Pair}
use Rattle.records.specs.Heads.{length_field, announced, version_of, whole_check}
use Rattle.records.specs.Venues.{venue_version, venue_head, venue_in, venue_check, venue_read}
use Rattle.records.specs.Pairs.{pair_version, pair_length, rule_byte, pair_in, pair_check, pair_read}

-- a venue's head holds the version and the counts
pub head_least : (version : ℕ) → 7 ≤ venue_head version
unfolding venue_head
head_least version = lit< tt

pub head_most : (version : ℕ) → venue_head version ≤ 16
unfolding venue_head
head_most version = lit< tt

-- a pair's record holds the version and both ends, and at most one byte more
pub pair_least : (version : ℕ) → 13 ≤ pair_length version
unfolding pair_length
pair_least version = go (eqb version 2)
  where
    go : (second : Bool) → 13 ≤ cond second 14 13
    go true = lit< tt
    go false = lit< tt

pub pair_longest : (version : ℕ) → pair_length version ≤ 14
unfolding pair_length
pair_longest version = go (eqb version 2)
  where
    go : (second : Bool) → cond second 14 13 ≤ 14
    go true = lit< tt
    go false = lit< tt

-- ---- what is known of a record that was not refused

pub record Whole (s : List ℕ) : Type 0 where
  pub some : 1 ≤ announced s
  pub there : length_field + announced s ≤ length s

pub whole_is : (s : List ℕ) → whole_check s ≡ Ok tt → Whole s
unfolding whole_check
whole_is s e =
    let past-four = fine_rest (refuse_when (ltb (length s) length_field) Record) _ e in
    let past-zero = fine_rest (refuse_when (eqb (announced s) 0) Record) _ past-four in
    record {
      some = pos_of_ne-zero (eqb-false _ _ (passed _ _ (fine_first (refuse_when (eqb (announced s) 0) Record) _ past-four)));
      there = ltb-false _ _ (passed _ _ past-zero);
    }

-- the length as it is read: fewer than four bytes announce 0
abbrev pub length_read : List ℕ → ℕ
length_read s = cond (ltb (length s) length_field) 0 (announced s)

pub read_whole : (s : List ℕ) → whole_check s ≡ Ok tt → length_read s ≡ announced s
read_whole s e = let w = whole_is s e in rw (le-ltb (length s) length_field (omega arith))

-- what follows from a record that is not cut short, for either kind
pub ruleset opened = (read_whole, whole_is, pair_least)

-- the tests that both kinds begin with
abbrev pub head_tests : List ℕ → Bool → Bool → Verdict
head_tests s known misfit = whole_check s then refuse_when (not known) Version then refuse_when misfit Record

pub record Fits (s : List ℕ) (known misfit : Bool) : Type 0 where
  pub there : length_field + announced s ≤ length s
  pub version : known ≡ true
  pub long : misfit ≡ false

pub head_fits : (s : List ℕ) (known misfit : Bool) → head_tests s known misfit ≡ Ok tt → Fits s known misfit
head_fits s known misfit e =
    let past-whole = fine_rest (whole_check s) _ e in
    record {
      there = (whole_is s (fine_first (whole_check s) _ e)).there;
      version = not-false _ (passed _ _ (fine_first (refuse_when (not known) Version) _ past-whole));
      long = passed _ _ (fine_rest (refuse_when (not known) Version) _ past-whole);
    }

-- a venue's tests: those of its head, then the shape
abbrev pub venue_head_tests : List ℕ → Verdict
venue_head_tests s = head_tests s (venue_version (version_of s)) (ltb (announced s) (venue_head (version_of s)))

pub venue_tests : (s : List ℕ) → venue_check s ≡ (venue_head_tests s then shape (venue_in s).counts (venue_in s).long)
unfolding venue_check
venue_tests s =
    then_four (whole_check s)
    (refuse_when (not (venue_version (version_of s))) Version)
    (refuse_when (ltb (announced s) (venue_head (version_of s))) Record)
    (shape (venue_in s).counts (venue_in s).long)

pub record VenueWhole (s : List ℕ) : Type 0 where
  pub there : length_field + announced s ≤ length s
  pub version : venue_version (version_of s) ≡ true
  pub head : venue_head (version_of s) ≤ announced s
  pub shaped : shape (venue_in s).counts (venue_in s).long ≡ Ok tt

pub venue_whole : (s : List ℕ) → venue_check s ≡ Ok tt → VenueWhole s
venue_whole s e =
    let (head, shaped) = each_fine (venue_head_tests s) _ (sym (venue_tests s) ∙ e) in
    let w = head_fits s (venue_version (version_of s)) _ head in
    record { there = w.there; version = w.version; head = ltb-false _ _ w.long; shaped = shaped }

-- a pair's tests: those of its head, then the rule
abbrev pub pair_head_tests : List ℕ → Verdict
pair_head_tests s = head_tests s (pair_version (version_of s)) (not (eqb (announced s) (pair_length (version_of s))))

pub pair_tests : (s : List ℕ) → pair_check s ≡ (pair_head_tests s then rule_check (rule_byte s))
unfolding pair_check
pair_tests s =
    then_four (whole_check s)
    (refuse_when (not (pair_version (version_of s))) Version)
    (refuse_when (not (eqb (announced s) (pair_length (version_of s)))) Record)
    (rule_check (rule_byte s))

pub record PairWhole (s : List ℕ) : Type 0 where
  pub there : length_field + announced s ≤ length s
  pub version : pair_version (version_of s) ≡ true
  pub long : announced s ≡ pair_length (version_of s)
  pub ruled : rule_check (rule_byte s) ≡ Ok tt

pub pair_whole : (s : List ℕ) → pair_check s ≡ Ok tt → PairWhole s
pair_whole s e =
    let (head, ruled) = each_fine (pair_head_tests s) _ (sym (pair_tests s) ∙ e) in
    let w = head_fits s (pair_version (version_of s)) _ head in
    record { there = w.there; version = w.version; long = eqb-true _ _ (not-false _ w.long); ruled = ruled }

-- ---- an accepted venue

-- the verdict and the venue of an answer
pub venue_accepted : (s : List ℕ) (v : Venue) → venue_read s ≡ Ok v → VenueWhole s × (venue_in s ≡ v)
unfolding venue_read
venue_accepted s v e =
    let (fine, same) = by_fine Err (venue_check s) (Ok (venue_in s)) (λ r no. let z : ◌≡◌ {A = ℕ} 0 1 = cc no in omega arith) e in
    (venue_whole s fine, cc same)

-- its part lies within the record
pub part_within : (s : List ℕ) (v : Venue) → venue_read s ≡ Ok v → v.start + v.long ≤ length s
part_within s v e =
    let (w, f) = venue_accepted s v e in
    subst (λ (u : Venue). u.start + u.long ≤ length s) f
    (let there = w.there in let head = w.head in omega arith)

-- ---- an accepted pair

-- the verdict and the pair of an answer
pub pair_accepted : (s : List ℕ) (e : Pair) → pair_read s ≡ Ok e → PairWhole s × (pair_in s ≡ e)
unfolding pair_read
pair_accepted s e h =
    let (fine, same) = by_fine Err (pair_check s) (Ok (pair_in s)) (λ r no. let z : ◌≡◌ {A = ℕ} 0 1 = cc no in omega arith) h in
    (pair_whole s fine, cc same)
