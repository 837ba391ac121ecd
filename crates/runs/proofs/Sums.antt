-- The sums of a run fit, and are read back as they are. Assumes nothing.
use mathlib.Core.Path.{◌≡◌, sym, ap, ap₂, ◌∙◌, subst}
use mathlib.Core.Bool.{Bool, true, false, cond}
use Prim.Native.Nat.{ℕ, ◌≤◌}
use native.Mathlib.Omega.{arith}
use lib.IntN.{ℤ, pos, ◌+ℤ◌, ◌-ℤ◌}
use lib.Signed.{le_z}
use mir.Syntax.{w32}
use mir.Val.{SFits, to_z}
use Rattle.cells.specs.Small.{Small}
use Rattle.cells.proofs.Machine.{held, held_is, small_held, small_diff, sum_fits, sum_held, nat_held, nat_small}
use Rattle.tripod.proofs.Laws.{plus_fits}
use Rattle.runs.specs.declared.Triple.{Triple}
use Rattle.runs.specs.Run.{by_sign, SmallTriple}

-- ---- the long step

-- a number moved by a sign, as the machine holds it
module _ (z go stay : ℤ) (hz : Small z) (hg : Small go) (hs : Small stay) where
  chosen_small : (t : Bool) (r : ℤ) → r ≡ cond t (held go) (held stay) → Small r
  chosen_small true r is = subst Small (sym (is ∙ small_held go hg)) hg
  chosen_small false r is = subst Small (sym (is ∙ small_held stay hs)) hs

  -- whichever the sign is
  pub move_fits : (t : Bool) (r : ℤ) → r ≡ cond t (held go) (held stay) → SFits w32 (held z +ℤ held r)
  move_fits t r is = sum_fits z r hz (chosen_small t r is)

  pub move_held : (e : ℤ) → Small e → (r : ℤ) → r ≡ by_sign (held e) (held go) (held stay) → held (held z +ℤ held r) ≡ z +ℤ by_sign e go stay
  move_held e he r is =
      sum_held z r hz (chosen_small (le_z (pos 0) (held e)) r is)
      ∙ ap (λ v. z +ℤ v) (is ∙ (λ i. by_sign (small_held e he i) (small_held go hg i) (small_held stay hs i)))

-- three numbers as the machine holds them
abbrev pub held_triple : Triple → Triple
held_triple t = record { at = held t.at; due = held t.due; wv = held t.wv }

pub triple_held : (t : Triple) → SmallTriple t → held_triple t ≡ t
triple_held t h = λ i. record { at = small_held t.at h.at i; due = small_held t.due h.due i; wv = small_held t.wv h.wv i }

-- ---- the tripod's values

-- a value and a short difference as the machine holds them
module _ (e : ℤ) (n : ℕ) (he : Small e) (hn : n ≤ 16383) where
  n_held : to_z w32 n ≡ pos n
  n_held = nat_held n (omega arith)

  n_small : Small (pos n)
  n_small = nat_small n (omega arith)

  pub plus_held : held (held e +ℤ to_z w32 n) ≡ e +ℤ pos n
  plus_held = held_is _ (plus_fits e n he hn) ∙ ap₂ ◌+ℤ◌ (small_held e he) n_held

  pub back_fits : SFits w32 (held e -ℤ to_z w32 n)
  back_fits = rw (small_held e he, n_held) (small_diff e (pos n) he n_small)

  pub back_held : held (held e -ℤ to_z w32 n) ≡ e -ℤ pos n
  back_held = held_is _ back_fits ∙ ap₂ ◌-ℤ◌ (small_held e he) n_held

  pub less_fits : SFits w32 (to_z w32 n -ℤ held e)
  less_fits = rw (small_held e he, n_held) (small_diff (pos n) e n_small he)

  pub less_held : held (to_z w32 n -ℤ held e) ≡ pos n -ℤ e
  less_held = held_is _ less_fits ∙ ap₂ ◌-ℤ◌ n_held (small_held e he)

-- a number taken from 0
module _ (e : ℤ) (he : Small e) where
  pub zero_less_held : held (pos 0 -ℤ held e) ≡ pos 0 -ℤ e
  zero_less_held = less_held e 0 he (omega arith)
