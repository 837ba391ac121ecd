-- SCOPE, V and T: reading a pair. Assumes nothing.
use Rattle.std.specs.Prelude.{Result, Ok, Err, ℕ, ◌+◌, ◌≡◌, Bool, cond, not, ◌||◌, List, ◌⊎◌, ltb, eqb, ℤ, pos, ◌-ℤ◌, get_or}
use Rattle.buffers.specs.Numbers.{two_at}
use Rattle.cells.specs.declared.Refusal.{Refusal}
use Rattle.cells.specs.declared.Cell.{Cell}
use Rattle.cells.specs.declared.Refusal.TheVariants.{Record, Version}
use Rattle.cells.specs.declared.Rule.{Rule}
use Rattle.cells.specs.Checks.{Verdict, refuse_when, ◌then◌, by_verdict}
use Rattle.cells.specs.Manners.{rule_of, rule_check}
use Rattle.cells.specs.Refusals.{Told, told_of}
use Rattle.records.specs.declared.pairs.Pair.{Pair}
use Rattle.records.specs.Heads.{length_field, announced, version_of, whole_check}

-- SCOPE V5: the versions of a pair's record
unfoldable pub pair_version : ℕ → Bool
pair_version version = eqb version 1 || eqb version 2

-- SCOPE V3, V11: the length of a pair's record: the version, then P and Q as six two-byte numbers; in version 2 one byte more
unfoldable pub pair_length : ℕ → ℕ
pair_length version = cond (eqb version 2) 14 13

-- both ends stand after the version
abbrev pub ends_from : ℕ
ends_from = length_field + 1

-- SCOPE V1: the signed number that a number of two bytes stands for: from 2^15 on, itself less 2^16
unfoldable pub signed : ℕ → ℤ
signed v = cond (ltb v 32768) (pos v) (pos v -ℤ pos 65536)

-- a cell, its three coordinates from i on
abbrev pub cell_in : List ℕ → ℕ → Cell
cell_in s i = record { x = signed (two_at s i); y = signed (two_at s (i + 2)); z = signed (two_at s (i + 4)) }

-- SCOPE V11: the number that names the rule: 1 in version 1, in version 2 the byte after Q
unfoldable pub rule_byte : List ℕ → ℕ
rule_byte s = cond (eqb (version_of s) 2) (get_or s (ends_from + 12) 0) 1

-- P, and Q six bytes further; and the rule
abbrev pub pair_in : List ℕ → Pair
pair_in s = record { p = cell_in s ends_from; q = cell_in s (ends_from + 6); rule = rule_of (rule_byte s) }

-- SCOPE V4, V5, V7, V11: 10; 11; 10 for any length but that of its version; then 12
unfoldable pub pair_check : List ℕ → Verdict
pair_check s =
    whole_check s then
    refuse_when (not (pair_version (version_of s))) Version then
    refuse_when (not (eqb (announced s) (pair_length (version_of s)))) Record then
    rule_check (rule_byte s)

-- SCOPE V8: the answer, both ends and the rule, or a refusal
unfoldable pub pair_read : List ℕ → Result Pair Refusal
pair_read s = by_verdict Err (Ok (pair_in s)) (pair_check s)

-- the contract of the call
pub record ReadsPair (s : List ℕ) (r : Result Pair Refusal) : Type 0 where
  pub says : r ≡ pair_read s

-- each case of the answer: what is said of a refusal, or P, Q and the rule
abbrev pub told_pair : Result Pair Refusal → Told ⊎ (Cell × Cell × Rule)
told_pair = told_of (λ e. (e.p, e.q, e.rule))
