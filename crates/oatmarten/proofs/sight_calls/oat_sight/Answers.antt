-- `oatmarten::sight_calls::oat_sight` meets its contract: where no rule is named, 12. Assumes nothing.
use mathlib.Core.Path.{refl, sym, ◌∙◌}
use Rattle.oatmarten.proofs.After.{after_refusal, unnamed}
use Rattle.oatmarten.proofs.sight_calls.oat_sight.Goals as goal

pub returns-in-Err : goal.returns-in-Err
returns-in-Err c =
    record {
      answer = _;
      meets = after_refusal _ _ _ _ (unnamed _ _ (sym c.try_from.ensures ∙ c.in-Err.is)) refl;
      flat = c.into.ensures;
    }
