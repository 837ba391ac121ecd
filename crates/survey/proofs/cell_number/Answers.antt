-- `survey::cell_number` meets its contract: the span is never empty, starts at or below q, and ends
-- above q unless it ends at the count; each turn shortens it. The start of a span of one is the last number that is not above q.
-- Assumes nothing.
use Prim.Native.Nat.{ℕ, ◌+◌, ◌≤◌, ◌<◌}
use mathlib.Core.Path.{◌≡◌, sym, subst}
use mathlib.Core.Bool.{true}
use mathlib.Core.Logic.{inl, inr}
use lib.Ieee.{Float, lt}
use native.Mathlib.Nat.{eq-or-lt_of_le}
use native.Mathlib.Omega.{arith}
use Rattle.survey.specs.Quotient.{as_f64}
use Rattle.survey.proofs.Numbers.{number_last}
use Rattle.survey.proofs.cell_number.Goals as goal

-- a span within another ends above q where the other does
above : (q : Float) {hi count : ℕ} (top : ℕ) → hi ≤ top → (hi < top → lt q (as_f64 hi) ≡ true) → (top < count → lt q (as_f64 top) ≡ true)
    → hi < count → lt q (as_f64 hi) ≡ true
above q top within here there l =
    elim (eq-or-lt_of_le within) [ inl e ↦ subst (λ k. lt q (as_f64 k) ≡ true) (sym e) (there (omega arith)) | inr m ↦ here m ]

pub loop-s-init : goal.loop-s-init
loop-s-init c = (c.requires.some, omega arith, c.requires.from, λ l. absurd (omega arith))

pub halved-s-requires : goal.halved-s-requires
halved-s-requires c = (c.loop-s.invariant.2, omega arith)

pub loop-s-smaller : goal.loop-s-smaller
loop-s-smaller c = c.halved-s.ensures.shorter

pub loop-s-preserved : goal.loop-s-preserved
loop-s-preserved c =
    let before = c.loop-s in
    let closer = c.halved-s.ensures in (
      closer.rising,
      omega arith,
      closer.from,
      above c.args.q before.s.hi closer.within closer.upto before.invariant.3,
    )

pub returns : goal.returns
returns c =
    let a = c.args in
    let s = c.loop-s.s in
    let inv = c.loop-s.invariant in
    let last : s.hi ≡ s.lo + 1 = omega arith in
    sym (number_last a.count s.lo a.q c.requires (omega arith) inv.2
    (subst (λ k. k < a.count → lt a.q (as_f64 k) ≡ true) last inv.3))
