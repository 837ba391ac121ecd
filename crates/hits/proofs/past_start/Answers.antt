-- `hits::past_start` meets its contract: a cell that is tested, or from which no face is left, stays; else its first face is crossed. Assumes nothing.
use mathlib.Core.Path.{sym, subst}
use mathlib.Core.Logic.{inl, inr}
use mathlib.Core.Bool.{false}
use native.Mathlib.Omega.{arith}
use Rattle.hits.specs.Found.{PastStart}
use Rattle.hits.proofs.Starting.{stays, passes}
use Rattle.hits.proofs.past_start.Goals as goal

pub returns-then-tested : goal.returns-then-tested
returns-then-tested c = elim c.then-tested.either [ inl t ↦ stays _ _ _ _ (inl t) | inr e ↦ stays _ _ _ _ (inr e.1) ]

pub returns : goal.returns
returns c =
    let a = c.args in
    subst (λ t. PastStart a.k a.s a.faces t (record { spot = c.crossed.result; past = 1 })) (sym c.if-tested.false)
    (subst (λ p. PastStart a.k a.s a.faces false (record { spot = p; past = 1 })) (sym c.crossed.ensures)
    (passes a.k a.s a.faces _ (omega (arith, c.if-faces-eq0.false)) c.next_face.ensures))
