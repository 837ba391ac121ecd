-- A walk on its way, as a loop follows it: at number s, r numbers visited before it, with the end and the visits of the whole walk still ahead.
-- Knows nothing of cells. Assumes nothing.
use mathlib.Core.Path.{◌≡◌, refl, sym, ap, ◌∙◌, subst₂}
use mathlib.Core.Logic.{◌≢◌}
use mathlib.Core.Bool.{Bool, true, false, cond}
use Prim.Native.Nat.{ℕ, zero, suc, ◌+◌, ◌<◌}
use native.Mathlib.Omega.{arith}
use native.Mathlib.Numerals.{add-one}
use Rattle.walks.specs.Numbers.{stop, ends, visits, stands, Rises, OnWay}
use Rattle.walks.proofs.Runs.{not_stopped}

module _ (hits : ℕ → Bool) (N : ℕ) (go : ℕ → ℕ) where
  -- one turn of the definitions
  ends_by : (fuel s : ℕ) {b : Bool} → stop hits N s ≡ b → ends hits N go (suc fuel) s ≡ cond b s (ends hits N go fuel (go s))
  unfolding ends
  ends_by fuel s h = ap (λ b. cond b s (ends hits N go fuel (go s))) h

  visits_by : (fuel s : ℕ) {b : Bool} → stop hits N s ≡ b → visits hits N go (suc fuel) s ≡ suc (cond b 0 (visits hits N go fuel (go s)))
  unfolding visits
  visits_by fuel s h = ap (λ b. suc (cond b 0 (visits hits N go fuel (go s)))) h

  pub on_start : OnWay hits N go 0 0
  on_start = record { fuel = N + 1; most = omega arith; few = omega arith; enough = omega arith; end = refl; reads = omega arith }

  -- where it stops, it ends
  pub on_stop : (s r : ℕ) → OnWay hits N go s r → stop hits N s ≡ true → (s ≡ ends hits N go (N + 1) 0) × (r + 1 ≡ visits hits N go (N + 1) 0)
  on_stop s r w h = by w.fuel w.enough w.end w.reads
    where
      by : (fuel : ℕ) → N < s + fuel → ends hits N go fuel s ≡ ends hits N go (N + 1) 0 →
          r + visits hits N go fuel s ≡ visits hits N go (N + 1) 0 → (s ≡ ends hits N go (N + 1) 0) × (r + 1 ≡ visits hits N go (N + 1) 0)
      by zero enough e v = absurd (omega (arith, w.most))
      by (suc fuel) enough e v = (sym (ends_by fuel s h) ∙ e, ap (λ k. r + k) (sym (visits_by fuel s h)) ∙ v)

  -- else it goes on
  pub on_turn : Rises N go → (s r : ℕ) → OnWay hits N go s r → stop hits N s ≡ false → OnWay hits N go (go s) (r + 1)
  on_turn rises s r w h = by w.fuel w.enough w.end w.reads
    where
      ne : s ≢ N
      ne = (not_stopped (hits s) s N h).1

      lt : s < N
      lt = omega (arith, w.most, ne)

      by : (fuel : ℕ) → N < s + fuel → ends hits N go fuel s ≡ ends hits N go (N + 1) 0 →
          r + visits hits N go fuel s ≡ visits hits N go (N + 1) 0 → OnWay hits N go (go s) (r + 1)
      by zero enough e v = absurd (omega (arith, w.most))
      by (suc fuel) enough e v =
          record {
            fuel = fuel;
            most = rises.most s lt;
            few = omega (arith, w.few, rises.up s lt);
            enough = omega (arith, rises.up s lt);
            end = sym (ends_by fuel s h) ∙ e;
            reads = omega (arith, visits_by fuel s h);
          }

-- ---- on which numbers it stands

-- one step more
pub stands_next : (go : ℕ → ℕ) (s m : ℕ) → stands go s (suc m) ≡ go (stands go s m)
unfolding stands
stands_next go s zero = refl
stands_next go s (suc m) = stands_next go (go s) m

module _ (hits : ℕ → Bool) (N : ℕ) (go : ℕ → ℕ) (rises : Rises N go) where
  -- up to its last number it is on its way, with as many numbers behind it as steps made
  pub stands_on : (m : ℕ) → m < visits hits N go (N + 1) 0 → OnWay hits N go (stands go 0 m) m
  unfolding stands
  stands_on zero lt = on_start hits N go
  stands_on (suc m) lt = by (stands_on m (omega arith)) (stop hits N (stands go 0 m)) refl
    where
      by : OnWay hits N go (stands go 0 m) m → (b : Bool) → stop hits N (stands go 0 m) ≡ b → OnWay hits N go (stands go 0 (suc m)) (suc m)
      by here true e = absurd (omega (arith, (on_stop hits N go (stands go 0 m) m here e).1))
      by here false e = subst₂ (λ s r. OnWay hits N go s r) (sym (stands_next go 0 m)) (add-one m) (on_turn hits N go rises (stands go 0 m) m here e)

  -- and it has not come to the last number
  pub stands_below : (m : ℕ) → m + 1 < visits hits N go (N + 1) 0 → stands go 0 m < N
  stands_below m lt = by (stop hits N (stands go 0 m)) refl
    where
      here : OnWay hits N go (stands go 0 m) m
      here = stands_on m (omega arith)

      by : (b : Bool) → stop hits N (stands go 0 m) ≡ b → stands go 0 m < N
      by true e = absurd (omega (arith, (on_stop hits N go (stands go 0 m) m here e).1))
      by false e = let ne : stands go 0 m ≢ N = (not_stopped (hits (stands go 0 m)) (stands go 0 m) N e).1 in omega (arith, here.most)
