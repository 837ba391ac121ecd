-- `oatmarten::line_calls::line6` meets its contract: where the number names a rule, the list by that rule. Assumes nothing.
use mathlib.Core.Path.{sym, ◌∙◌}
use Rattle.oatmarten.proofs.After.{after_all, named}
use Rattle.oatmarten.proofs.line_calls.line6.Goals as goal

pub returns : goal.returns
returns c =
    let (fine, is) = named _ (sym c.try_from.ensures ∙ c.in_ok-rule.was) in
    let made = c.line6.ensures in
    after_all _ _ _ fine (record {
      says = rw (made.says, c.into.ensures, c.into-2.ensures, sym is);
      holds = rw (made.holds, c.into.ensures, c.into-2.ensures, sym is);
    })
