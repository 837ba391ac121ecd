-- A walk over place numbers 0 to N: from a number that is neither a hit nor the last it goes on by `go`, which rises. Where it ends, how many
-- numbers it visits, and how two such walks compare. Knows nothing of cells. Assumes nothing.
use mathlib.Core.Path.{◌≡◌, refl, sym, ap, ◌∙◌, subst}
use mathlib.Core.Logic.{◌⊎◌, inl, inr, ⊎_elim, ◌≢◌}
use mathlib.Core.Bool.{Bool, true, false, cond, ◌||◌}
use Prim.Native.Nat.{ℕ, zero, suc, ◌+◌, ◌≤◌, ◌<◌}
use native.Mathlib.Omega.{arith, by_contra, both_ways}
use native.Mathlib.Decide.{dec_lt}
use lib.Dec.{eqb}
use borrow.Author.Tests.{eqb-true, eqb-false}
use Rattle.walks.specs.Numbers.{stop, ends, visits, Rises}

-- not stopped: no hit and not the last
pub not_stopped : (t : Bool) (s N : ℕ) → (t || eqb s N) ≡ false → (t ≡ false) × (s ≡ N → ⊥)
not_stopped true s N h = (h, λ e. omega (arith, (let z : ◌≡◌ {A = ℕ} 0 1 = cc in z)))
not_stopped false s N h = (refl, eqb-false s N h)

pub stopped : (t : Bool) (s N : ℕ) → (t || eqb s N) ≡ true → (t ≡ true) ⊎ (s ≡ N)
stopped true s N h = inl refl
stopped false s N h = inr (eqb-true s N h)

module _ (hits : ℕ → Bool) (N : ℕ) (go : ℕ → ℕ) (rises : Rises N go) where
  -- with fuel enough it ends at a number where it stops, having visited no more numbers than it passed
  pub record Ended (s e v : ℕ) : Type 0 where
    pub from : s ≤ e
    pub most : e ≤ N
    pub stops : stop hits N e ≡ true
    pub few : s + v ≤ e + 1

  pub ended : (fuel s : ℕ) → s ≤ N → N < s + fuel → Ended s (ends hits N go fuel s) (visits hits N go fuel s)
  unfolding ends visits
  ended zero s le enough = absurd (omega arith)
  ended (suc fuel) s le enough = turn (stop hits N s) refl (λ lt. ended fuel (go s) (rises.most s lt) (omega (arith, rises.up s lt)))
    where
      turn :
          (t : Bool) → stop hits N s ≡ t → (s < N → Ended (go s) (ends hits N go fuel (go s)) (visits hits N go fuel (go s))) →
          Ended s (cond t s (ends hits N go fuel (go s))) (suc (cond t 0 (visits hits N go fuel (go s))))
      turn true e h = record { from = omega arith; most = le; stops = e; few = omega arith }
      turn false e h =
          let k : s ≢ N = (not_stopped (hits s) s N e).1 in
          let lt : s < N = omega arith in
          let r = h lt in
          record { from = omega (arith, r.from, rises.up s lt); most = r.most; stops = r.stops; few = omega (arith, r.few, rises.up s lt) }

  -- where it steps over no hit, there is none before its end
  pub nothing_missed :
      ((s t : ℕ) → s < N → s < t → t < go s → hits t ≡ false) →
      (fuel s : ℕ) → s ≤ N → N < s + fuel → (t : ℕ) → s ≤ t → t < ends hits N go fuel s → hits t ≡ false
  unfolding ends
  nothing_missed skips zero s le enough t lo hi = absurd (omega arith)
  nothing_missed skips (suc fuel) s le enough t lo hi =
      turn (stop hits N s) refl hi (λ lt. nothing_missed skips fuel (go s) (rises.most s lt) (omega (arith, rises.up s lt)) t)
    where
      turn :
          (b : Bool) → stop hits N s ≡ b → t < cond b s (ends hits N go fuel (go s)) →
          (s < N → go s ≤ t → t < ends hits N go fuel (go s) → hits t ≡ false) → hits t ≡ false
      turn true e hi h = absurd (omega arith)
      turn false e hi h =
          let (clear, k) = not_stopped (hits s) s N e in
          let ne : s ≢ N = k in
          let lt : s < N = omega arith in
          elim (dec_lt t (go s)) [
            | yes before ↦ elim (dec_lt s t) [
              | yes after ↦ skips s t lt after before
              | no same ↦ subst (λ m. hits m ≡ false)
                  (both_ways s t lo (omega arith)) clear
            ]
            | no after ↦ h lt (omega arith) hi
          ]

  -- where a measure grows by at most one a step, there are at least so many visits
  pub at_least :
      (μ : ℕ → ℕ) → ((s : ℕ) → s < N → μ (go s) ≤ μ s + 1) →
      (fuel s : ℕ) → s ≤ N → N < s + fuel → μ (ends hits N go fuel s) + 1 ≤ μ s + visits hits N go fuel s
  unfolding ends visits
  at_least μ grows zero s le enough = absurd (omega arith)
  at_least μ grows (suc fuel) s le enough = turn (stop hits N s) refl (λ lt. at_least μ grows fuel (go s) (rises.most s lt) (omega (arith, rises.up s lt)))
    where
      turn :
          (b : Bool) → stop hits N s ≡ b → (s < N → μ (ends hits N go fuel (go s)) + 1 ≤ μ (go s) + visits hits N go fuel (go s)) →
          μ (cond b s (ends hits N go fuel (go s))) + 1 ≤ μ s + suc (cond b 0 (visits hits N go fuel (go s)))
      turn true e h = omega arith
      turn false e h =
          let ne : s ≢ N = (not_stopped (hits s) s N e).1 in
          let lt : s < N = omega arith in
          omega (arith, h lt, grows s lt)

-- of two walks the second never steps further than the first, and goes from number to number wherever the first steps over some
pub record Closer (N : ℕ) (wide close : ℕ → ℕ) : Type 0 where
  pub no_further : (s : ℕ) → s < N → close s ≤ wide s
  pub one_by_one : (s t : ℕ) → s < N → s < t → t < wide s → close t ≡ suc t

-- ---- one number after another

pub by_one : (N : ℕ) → Rises N suc
by_one N = record { up = λ s lt. omega arith; most = λ s lt. omega arith }

-- it is closer than any other that rises
pub by_one_closer : {N : ℕ} {go : ℕ → ℕ} → Rises N go → Closer N go suc
by_one_closer rises = record { no_further = λ s lt. omega (arith, rises.up s lt); one_by_one = λ s t lt a b. refl }

-- it visits every number up to its end
pub visits_all : (hits : ℕ → Bool) (N fuel s : ℕ) → s ≤ N → N < s + fuel → s + visits hits N suc fuel s ≡ ends hits N suc fuel s + 1
visits_all hits N fuel s le enough =
    both_ways _ _ (ended hits N suc (by_one N) fuel s le enough).few
    (omega (arith, at_least hits N suc (by_one N) (λ k. k) (λ k lt. omega arith) fuel s le enough))

-- ---- of two walks that end alike, the closer one visits no fewer numbers

module _ (hits : ℕ → Bool) (N : ℕ) (wide close : ℕ → ℕ) (rises : Rises N wide) (close-rises : Rises N close) (closer : Closer N wide close) where
  -- the first stands at u and the second at s, there or before it, with single steps between
  no_more_from : (fuel more s u : ℕ) → s ≤ u → u ≤ N → N < s + fuel → N < u + more → ((v : ℕ) → s ≤ v → v < u → close v ≡ suc v) →
      ends hits N wide more u ≡ ends hits N close fuel s → visits hits N wide more u ≤ visits hits N close fuel s
  unfolding ends visits
  no_more_from zero more s u le most enough room single same = absurd (omega arith)
  no_more_from (suc fuel) zero s u le most enough room single same = absurd (omega arith)
  no_more_from (suc fuel) (suc more) s u le most enough room single same =
      elim (dec_lt s u) [
        | yes lt ↦
            let one : close s ≡ suc s = single s (omega arith) lt in
            behind (ends hits N wide (suc more) u) (visits hits N wide (suc more) u) (stop hits N s) lt
            (ended hits N wide rises (suc more) u most room).from same
            (no_more_from fuel (suc more) (close s) u (omega arith) most (omega arith) room (λ v a b. single v (omega arith) b))
        | no ge ↦
            let there : s ≡ u = both_ways s u le (omega arith) in
            subst (λ w. ends hits N wide (suc more) w ≡ ends hits N close (suc fuel) s → visits hits N wide (suc more) w ≤ visits hits N close (suc fuel) s) there
            (level (stop hits N s) refl (λ lt. no_more_from fuel more (close s) (wide s) (closer.no_further s lt) (rises.most s lt)
            (omega (arith, close-rises.up s lt)) (omega (arith, rises.up s lt)) (λ v a b. closer.one_by_one s v lt (omega (arith, close-rises.up s lt)) b)))
            same
      ]
    where
      behind : (e v : ℕ) (t : Bool) → s < u → u ≤ e → e ≡ cond t s (ends hits N close fuel (close s)) →
          (e ≡ ends hits N close fuel (close s) → v ≤ visits hits N close fuel (close s)) → v ≤ suc (cond t 0 (visits hits N close fuel (close s)))
      behind e v true lt from same next = absurd (omega arith)
      behind e v false lt from same next = omega (arith, next same)

      level : (t : Bool) → stop hits N s ≡ t →
          (s < N → ends hits N wide more (wide s) ≡ ends hits N close fuel (close s) → visits hits N wide more (wide s) ≤ visits hits N close fuel (close s)) →
          cond t s (ends hits N wide more (wide s)) ≡ cond t s (ends hits N close fuel (close s)) →
          suc (cond t 0 (visits hits N wide more (wide s))) ≤ suc (cond t 0 (visits hits N close fuel (close s)))
      level true e next same = omega arith
      level false e next same =
          let ne : s ≢ N = (not_stopped (hits s) s N e).1 in
          let lt : s < N = omega arith in
          omega (arith, next lt same)

  pub no_more_visits : ends hits N wide (N + 1) 0 ≡ ends hits N close (N + 1) 0 → visits hits N wide (N + 1) 0 ≤ visits hits N close (N + 1) 0
  no_more_visits = no_more_from (N + 1) (N + 1) 0 0 (omega arith) (omega arith) (omega arith) (omega arith) (λ v a b. absurd (omega arith))

-- ---- two walks over the same numbers, from the first on

module _ (hits : ℕ → Bool) (N : ℕ) (go : ℕ → ℕ) (rises : Rises N go) where
  abbrev e_plain : ℕ
  e_plain = ends hits N suc (N + 1) 0

  abbrev e_other : ℕ
  e_other = ends hits N go (N + 1) 0

  plain_ended : Ended hits N suc (by_one N) 0 e_plain (visits hits N suc (N + 1) 0)
  plain_ended = ended hits N suc (by_one N) (N + 1) 0 (omega arith) (omega arith)

  other_ended : Ended hits N go rises 0 e_other (visits hits N go (N + 1) 0)
  other_ended = ended hits N go rises (N + 1) 0 (omega arith) (omega arith)

  -- there is no hit before the plain walk's end
  pub plain_first : (t : ℕ) → t < e_plain → hits t ≡ false
  plain_first t lt = nothing_missed hits N suc (by_one N) (λ s u a b c. absurd (omega arith)) (N + 1) 0 (omega arith) (omega arith) t (omega arith) lt

  -- a walk that stops somewhere does not stop before a number up to which there is no hit
  none_before : (e e' : ℕ) → ((t : ℕ) → t < e → hits t ≡ false) → e ≤ N → stop hits N e' ≡ true → e ≤ e'
  none_before e e' first most stops =
      by_contra e e' (λ lt.
      ⊎_elim
      (λ hit. absurd (let z : ◌≡◌ {A = ℕ} 0 1 = ap (λ b. cond b 1 0) (sym (first e' lt) ∙ hit) in omega arith))
      (λ last. omega arith)
      (stopped (hits e') e' N stops))

  -- the other never ends earlier
  pub never_earlier : e_plain ≤ e_other
  never_earlier = none_before e_plain e_other plain_first plain_ended.most other_ended.stops

  -- a hit of the other is a hit of the plain walk
  pub never_invented : hits e_other ≡ true → hits e_plain ≡ true
  never_invented hit =
      ⊎_elim (λ h. h)
      (λ last.
      let e : e_other ≡ e_plain = both_ways e_other e_plain (omega (arith, other_ended.most)) never_earlier in
      ap hits (sym e) ∙ hit)
      (stopped (hits e_plain) e_plain N plain_ended.stops)

  -- where the other steps over no hit, both end at the same number
  pub same_end : ((s t : ℕ) → s < N → s < t → t < go s → hits t ≡ false) → e_other ≡ e_plain
  same_end skips = both_ways e_other e_plain (none_before e_other e_plain first other_ended.most plain_ended.stops) never_earlier
    where
      first : (t : ℕ) → t < e_other → hits t ≡ false
      first t lt = nothing_missed hits N go rises skips (N + 1) 0 (omega arith) (omega arith) t (omega arith) lt
