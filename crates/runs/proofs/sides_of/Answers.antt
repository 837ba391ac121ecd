-- `runs::sides_of` meets its contract: small numbers have sums and differences that fit. Assumes nothing.
use lib.IntN.{pos}
use Rattle.cells.proofs.Machine.{small_held, sum_held, diff_held}
use Rattle.runs.proofs.Sums.{zero_less_held}
use Rattle.runs.proofs.sides_of.Goals as goal

pub returns : goal.returns
returns c =
    let (su, sv, sw, u2, v2, w2) = c.requires in
    λ i. record {
      v = record {
        stay = record { at = small_held _ su i; due = small_held _ v2 i; wv = pos 0 };
        go = record { at = sum_held _ _ su sv i; due = diff_held _ _ v2 u2 i; wv = zero_less_held _ w2 i };
      };
      w = record {
        stay = record { at = pos 0; due = small_held _ w2 i; wv = pos 0 };
        go = record { at = small_held _ sw i; due = diff_held _ _ w2 u2 i; wv = small_held _ v2 i };
      };
    }
