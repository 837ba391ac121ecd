-- Bytes after a record are not looked at. Assumes nothing.
use Rattle.std.specs.Prelude.{Result, Ok, Err}
use mathlib.Core.Path.{◌≡◌, refl, ap, ap₂, ◌∙◌}
use mathlib.Core.Bool.{Bool, true, false, cond, not}
use mathlib.Core.List.{List, ◌++◌}
use Prim.Native.Nat.{ℕ, ◌+◌, ◌*◌, ◌≤◌, ◌<◌}
use native.Mathlib.Omega.{arith}
use lib.Dec.{ltb, eqb}
use lib.ListN.{length, get_or, take, drop, length-append, length-drop, get_or-append}
use lib.Seq.{take-append-le, drop-append-le}
use borrow.Author.Tests.{le-ltb, ltb-false, eqb-true, not-false}
use Rattle.buffers.specs.Numbers.{two_at}
use Rattle.cells.specs.declared.Refusal.{Refusal}
use Rattle.cells.specs.declared.Refusal.TheVariants.{Record, Version}
use Rattle.cells.specs.Checks.{Verdict, refuse_when, by_verdict}
use Rattle.cells.specs.Manners.{rule_check}
use Rattle.cells.proofs.Checks.{passed, then_same}
use Rattle.records.specs.declared.venues.Venue.{Venue}
use Rattle.records.specs.Heads.{length_field, announced, version_of, whole_check}
use Rattle.records.specs.Venues.{venue_version, venue_head, counts_from, counts_at, venue_in, venue_check, venue_read, part_of, venue_cells}
use Rattle.records.specs.Pairs.{pair_version, pair_length, ends_from, cell_in, rule_byte, pair_in, pair_check, pair_read}
use Rattle.records.proofs.HeadTests.{head_least, pair_least, whole_is, venue_whole, pair_whole, part_within}

-- what stands in the first bytes
module _ (s rest : List ℕ) where
  same : (i : ℕ) → i < length s → get_or (s ++ rest) i 0 ≡ get_or s i 0
  same i h = get_or-append s rest 0 i h

  same_two : (i : ℕ) → i + 2 ≤ length s → two_at (s ++ rest) i ≡ two_at s i
  same_two i h = ap₂ (λ a b. a * 256 + b) (same i (omega arith)) (same (i + 1) (omega arith))

  pub same_announced : length_field ≤ length s → announced (s ++ rest) ≡ announced s
  same_announced four = ap₂ (λ a b. a * 65536 + b) (same_two 0 (omega arith)) (same_two 2 (omega arith))

module _ (s rest : List ℕ) (exact : length s ≡ length_field + announced s) where
  announces : announced (s ++ rest) ≡ announced s
  announces = same_announced s rest (omega arith)

  longer : length_field + announced (s ++ rest) ≤ length (s ++ rest)
  longer = omega (arith, announces, length-append s rest)

  same_version : 1 ≤ announced s → version_of (s ++ rest) ≡ version_of s
  same_version some = same s rest length_field (omega arith)

  same_counts : (i : ℕ) → i + 6 ≤ length s → counts_at (s ++ rest) i ≡ counts_at s i
  same_counts i h = rw (same_two s rest i (omega arith), same_two s rest (i + 2) (omega arith), same_two s rest (i + 4) (omega arith))

  same_cell : (i : ℕ) → i + 6 ≤ length s → cell_in (s ++ rest) i ≡ cell_in s i
  same_cell i h = rw (same_two s rest i (omega arith), same_two s rest (i + 2) (omega arith), same_two s rest (i + 4) (omega arith))

  same_head : venue_head (version_of s) ≤ announced s → counts_at (s ++ rest) (counts_from (version_of s)) ≡ counts_at s (counts_from (version_of s))
  same_head head = let least = head_least (version_of s) in same_counts (counts_from (version_of s)) (omega arith)

  same_venue : venue_head (version_of s) ≤ announced s → venue_in (s ++ rest) ≡ venue_in s
  same_venue head = let least = head_least (version_of s) in rw (same_version (omega arith), announces, same_head head)

  -- the rule byte is the last of a record of version 2
  same_rule : announced s ≡ pair_length (version_of s) → rule_byte (s ++ rest) ≡ rule_byte s
  unfolding rule_byte pair_length
  same_rule long =
      let least = pair_least (version_of s) in
      rw (same_version (omega arith)) (go (eqb (version_of s) 2) long)
    where
      go : (second : Bool) → announced s ≡ cond second 14 13 → cond second (get_or (s ++ rest) 17 0) 1 ≡ cond second (get_or s 17 0) 1
      go true fourteen = same s rest 17 (omega arith)
      go false thirteen = refl

  same_pair : announced s ≡ pair_length (version_of s) → pair_in (s ++ rest) ≡ pair_in s
  same_pair long =
      let least = pair_least (version_of s) in
      rw (same_cell ends_from (omega arith), same_cell (ends_from + 6) (omega arith), same_rule long)

  -- ---- the verdicts

  same_whole : whole_check (s ++ rest) ≡ whole_check s
  unfolding whole_check
  same_whole =
      let long = length-append s rest in
      rw (
        le-ltb (length (s ++ rest)) length_field (omega arith),
        le-ltb (length (s ++ rest)) (length_field + announced (s ++ rest)) longer,
        le-ltb (length s) length_field (omega arith),
        le-ltb (length s) (length_field + announced s) (omega arith),
        announces,
      )

  same_pair_check : pair_check (s ++ rest) ≡ pair_check s
  unfolding pair_check
  same_pair_check =
      rw same_whole
      (then_same (whole_check s)
      (λ fine.
      rw (same_version (whole_is s fine).some, announces)
      (then_same (refuse_when (not (pair_version (version_of s))) Version)
      (λ known.
      then_same (refuse_when (not (eqb (announced s) (pair_length (version_of s)))) Record)
      (λ long. ap rule_check (same_rule (eqb-true _ _ (not-false _ (passed _ _ long)))))))))

  same_venue_check : venue_check (s ++ rest) ≡ venue_check s
  unfolding venue_check
  same_venue_check =
      rw same_whole
      (then_same (whole_check s)
      (λ fine.
      rw (same_version (whole_is s fine).some, announces)
      (then_same (refuse_when (not (venue_version (version_of s))) Version)
      (λ known.
      then_same (refuse_when (ltb (announced s) (venue_head (version_of s))) Record)
      (λ long. rw (same_head (ltb-false _ _ (passed _ _ long))))))))

  pub venue_unread : venue_read (s ++ rest) ≡ venue_read s
  unfolding venue_read
  venue_unread = rw same_venue_check (go (venue_check s) refl)
    where
      go : (v : Verdict) → venue_check s ≡ v →
          by_verdict Err (Ok (venue_in (s ++ rest))) v ≡ by_verdict Err (Ok (venue_in s)) v
      go (Ok _) e = ap Ok (same_venue (venue_whole s e).head)
      go (Err r) e = refl

  pub pair_unread : pair_read (s ++ rest) ≡ pair_read s
  unfolding pair_read
  pair_unread = rw same_pair_check (go (pair_check s) refl)
    where
      go : (v : Verdict) → pair_check s ≡ v → by_verdict Err (Ok (pair_in (s ++ rest))) v ≡ by_verdict Err
          (Ok (pair_in s)) v
      go (Ok _) e = ap Ok (same_pair (pair_whole s e).long)
      go (Err r) e = refl

  -- the part is the same too
  pub cells_unread : venue_cells (s ++ rest) ≡ venue_cells s
  unfolding venue_cells
  cells_unread = rw venue_unread (go (venue_read s) refl)
    where
      go : (r : Result Venue Refusal) → venue_read s ≡ r → part_of r (s ++ rest) ≡ part_of r s
      go (Err r) e = refl
      go (Ok v) e =
          let w = part_within s v e in
          ap (take v.long) (drop-append-le v.start s rest (omega arith))
          ∙ take-append-le v.long (drop v.start s) rest (simp length-drop (omega arith))
