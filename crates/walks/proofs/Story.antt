-- The two walks' answers, by the numbers of the 6-line's cells where they end: what demand 3 rests on. Assumes nothing.
use Rattle.std.specs.Prelude.{Ok, Err}
use mathlib.Core.Path.{◌≡◌, refl, sym, ap, ap₂, ◌∙◌}
use mathlib.Core.Logic.{◌⊎◌, inl, inr, ⊎_elim}
use mathlib.Core.Bool.{Bool, true, false, cond}
use mathlib.Core.List.{List}
use Prim.Native.Nat.{ℕ, suc, ◌+◌, ◌≤◌, ◌<◌}
use native.Mathlib.Omega.{arith, both_ways}
use native.Mathlib.Decide.{dec_lt}
use lib.ListN.{length}
use Rattle.cells.specs.declared.Cell.{Cell}
use Rattle.cells.specs.declared.Counts.{Counts}
use Rattle.cells.specs.declared.Manner.{Manner}
use Rattle.cells.proofs.Touching.{touches_within}
use Rattle.lines.specs.Steps.{Axis, same}
use Rattle.lines.specs.Crossings.{next, place}
use Rattle.lines.specs.Lines.{differences, centres, longest, six_cell, number_26}
use Rattle.lines.proofs.Steps.{Cmp, here, other, cmp, same_self}
use Rattle.lines.proofs.Fractions.{place_start, place_suc, place_end}
use Rattle.lines.proofs.Cells.{six_end}
use Rattle.lines.proofs.Centres.{centres_good, longest_axis, is_place_26, moved_longest}
use Rattle.cells.specs.Checks.{by_verdict}
use Rattle.grids.specs.Grid.{byte_of}
use Rattle.walks.specs.declared.Walker.{Walker}
use Rattle.walks.specs.declared.Walker.TheVariants.{Plain, Adaptive}
use Rattle.walks.specs.declared.FirstHit.TheVariants as FirstHit
use Rattle.walks.specs.Walks.{Conduct, conduct, hit_at, six_count, walk_of}
use Rattle.walks.specs.Answers.{place_by, place_of, last_of, answer_of, first_hit}
use Rattle.grids.specs.Inside.{walk_check, InGrid}
use Rattle.walks.specs.Safe.{NoClearTouches}
use Rattle.walks.specs.Numbers.{stop, last_number, go, hits_at, step, end_of, reads_of, answer_at}
use Rattle.walks.proofs.Runs.{stopped, ended, Ended, by_one, by_one_closer, visits_all, at_least, plain_first, never_earlier, never_invented, same_end, no_more_visits}
use Rattle.walks.proofs.Numbers.{six_found, go_rises, skipped, way, Way, face, long, step_rises, walk_length, walk_last}
use Rattle.walks.proofs.Testing.{hit_solid}
use Rattle.walks.proofs.Inside.{six_inside}

module _ (how : Conduct) (n : Counts) (l : List ℕ) (p q : Cell) where
  abbrev f : ℕ → Cell
  f = six_cell how.preference p q

  abbrev N : ℕ
  N = last_number p q

  answer_is : (cells : List Cell) (e r : ℕ) → e ≤ N → last_of p cells ≡ f e → length cells ≡ r → answer_of how n l p q cells ≡ answer_at how n l p q e r
  unfolding answer_of place_of
  answer_is cells e r le last many =
      ap₂ (λ w k. cond (hit_at how n l p w) (FirstHit.Hit (record { cell = w; code = byte_of n l w; place = place_of how.preference p q w; reads = k }))
      (FirstHit.Clear k)) last many
      ∙ ap (λ a. cond (hit_at how n l p (f e)) (FirstHit.Hit (record { cell = f e; code = byte_of n l (f e); place = a; reads = r })) (FirstHit.Clear r))
      (ap (place_by how.preference p q) (six_found how.preference p q e le))

  walk_ended : (k : Walker) → Ended (hits_at how n l p q) N (step how.preference n l p q k)
      (step_rises how.preference n l p q k) 0 (end_of how n l p q k) (reads_of how n l p q k)
  walk_ended k = ended (hits_at how n l p q) N (step how.preference n l p q k) (step_rises how.preference n l p q k)
      (six_count p q) 0 (omega arith) (omega arith)

  pub end_below : (k : Walker) → end_of how n l p q k ≤ N
  end_below k = (walk_ended k).most

  -- it reads no more cells than the 6-line has
  pub reads_most : (k : Walker) → reads_of how n l p q k ≤ six_count p q
  reads_most k = omega (arith, (walk_ended k).few, (walk_ended k).most)

  -- a walk's answer, by its numbers
  pub answer_by_numbers : (k : Walker) → answer_of how n l p q (walk_of k how n l p q) ≡ answer_at how n l p q (end_of how n l p q k) (reads_of how n l p q k)
  answer_by_numbers k = answer_is (walk_of k how n l p q) _ _ (end_below k) (walk_last how n l p q k p) (walk_length how n l p q k)

  -- ---- no walk runs out: its last cell is a hit, or Q

  pub walk_stops : (k : Walker) → (hit_at how n l p (last_of p (walk_of k how n l p q)) ≡ true) ⊎ (last_of p (walk_of k how n l p q) ≡ q)
  walk_stops k = rw (walk_last how n l p q k p) (at_end (end_of how n l p q k) (walk_ended k).stops)
    where
      at_end : (e : ℕ) → stop (hits_at how n l p q) N e ≡ true → (hit_at how n l p (f e) ≡ true) ⊎ (f e ≡ q)
      at_end e s = ⊎_elim (λ hit. inl hit) (λ last. inr (ap f last ∙ six_end how.preference p q)) (stopped (hits_at how n l p q e) e N s)

  -- ---- in any grid

  pub no_earlier : end_of how n l p q Plain ≤ end_of how n l p q Adaptive
  no_earlier = never_earlier (hits_at how n l p q) N (go how.preference n l p q) (go_rises how.preference n l p q)

  pub not_invented : hits_at how n l p q (end_of how n l p q Adaptive) ≡ true → hits_at how n l p q (end_of how n l p q Plain) ≡ true
  not_invented = never_invented (hits_at how n l p q) N (go how.preference n l p q) (go_rises how.preference n l p q)

  -- ---- where no clear cell touches a solid one by face or edge

  pub ends_alike : (k : ℕ) → 2 ≤ k → InGrid n p → InGrid n q → NoClearTouches k n l → end_of how n l p q Adaptive ≡ end_of how n l p q Plain
  ends_alike k two hp hq safe = same_end (hits_at how n l p q) N (go how.preference n l p q) (go_rises how.preference n l p q) none_skipped
    where
      none_skipped : (s t : ℕ) → s < N → s < t → t < go how.preference n l p q s → hits_at how n l p q t ≡ false
      none_skipped s t lt lo hi = by (hits_at how n l p q t) refl
        where
          by : (b : Bool) → hits_at how n l p q t ≡ b → hits_at how n l p q t ≡ false
          by false e = e
          by true e =
              let (clear, touch) = skipped how.preference n l p q s t lt lo hi in
              let most : go how.preference n l p q s ≤ N = (go_rises how.preference n l p q).most s lt in
              absurd (safe.none (f s) (f t) (six_inside how.preference n p q hp hq s (omega arith))
              (six_inside how.preference n p q hp hq t (omega arith)) clear
              (hit_solid how n l p q t e) (touches_within two touch))

  pub reads_no_more : end_of how n l p q Adaptive ≡ end_of how n l p q Plain → reads_of how n l p q Adaptive ≤ reads_of how n l p q Plain
  reads_no_more =
      let up = go_rises how.preference n l p q in
      no_more_visits (hits_at how n l p q) N (go how.preference n l p q) suc up (by_one N) (by_one_closer up)

  -- ---- with no hit

  -- a walk that is not stopped by a hit ends at Q
  ends_at_q : (e : ℕ) → stop (hits_at how n l p q) N e ≡ true → hits_at how n l p q e ≡ false → e ≡ N
  ends_at_q e s h =
      ⊎_elim (λ hit. absurd (let z : ◌≡◌ {A = ℕ} 0 1 = ap (λ b. cond b 1 0) (sym h ∙ hit) in omega arith)) (λ last. last)
      (stopped (hits_at how n l p q e) e N s)

  -- the plain walk then passed every cell, none of them a hit
  pub plain_clear : hits_at how n l p q (end_of how n l p q Plain) ≡ false → (s : ℕ) → s ≤ N → hits_at how n l p q s ≡ false
  plain_clear h s le =
      let e = ends_at_q (end_of how n l p q Plain) (walk_ended Plain).stops h in
      elim (dec_lt s (end_of how n l p q Plain)) [
        | yes lt ↦ plain_first (hits_at how n l p q) N suc (by_one N) s lt
        | no ge ↦ ap (hits_at how n l p q) (both_ways s (end_of how n l p q Plain) (omega arith) (omega arith)) ∙ h
      ]

  pub plain_clear_reads : hits_at how n l p q (end_of how n l p q Plain) ≡ false → reads_of how n l p q Plain ≡ N + 1
  plain_clear_reads h =
      omega (
        arith,
        ends_at_q (end_of how n l p q Plain) (walk_ended Plain).stops h,
        visits_all (hits_at how n l p q) N (six_count p q) 0 (omega arith) (omega arith),
      )

  pub adaptive_clear_most : hits_at how n l p q (end_of how n l p q Adaptive) ≡ false → reads_of how n l p q Adaptive ≤ N + 1
  adaptive_clear_most h = omega (arith, ends_at_q (end_of how n l p q Adaptive) (walk_ended Adaptive).stops h, (walk_ended Adaptive).few)

  -- each step moves along the longest axis by at most one
  pub adaptive_clear_least : hits_at how n l p q (end_of how n l p q Adaptive) ≡ false → longest (differences p q) + 1 ≤ reads_of how n l p q Adaptive
  adaptive_clear_least h =
      let e = ends_at_q (end_of how n l p q Adaptive) (walk_ended Adaptive).stops h in
      let w : μ (end_of how n l p q Adaptive) + 1 ≤ μ 0 + reads_of how n l p q Adaptive =
      at_least (hits_at how n l p q) N (go how.preference n l p q) (go_rises how.preference n l p q) μ
      (λ s lt. grows s lt (way how.preference n l p q s lt)) (six_count p q) 0 (omega arith) (omega arith) in
      let z : μ 0 ≡ 0 = place_start (centres how.preference (differences p q)) a in
      let y : μ (end_of how n l p q Adaptive) ≡ longest (differences p q) = ap μ e
      ∙ place_end (centres how.preference (differences p q)) (centres_good how.preference (differences p q)) a ∙ is_longest in
      omega (arith, w)
    where
      a : Axis
      a = (longest_axis (differences p q)).0

      is_longest : differences p q a ≡ longest (differences p q)
      is_longest = (longest_axis (differences p q)).1

      μ : ℕ → ℕ
      μ s = place (centres how.preference (differences p q)) s a

      at_most_one : {m b : Axis} → Cmp m b → same m b ≤ 1
      at_most_one {m} here = omega (arith, same_self m)
      at_most_one (other e f) = omega arith

      -- 26-line cell m has moved by m along it
      at_26 : (m : ℕ) → m ≤ longest (differences p q) → μ (number_26 p q m) ≡ m
      at_26 m le = sym (is_place_26 (differences p q) how.preference m le a) ∙ rw is_longest (moved_longest (longest (differences p q)) m le)

      grows : (s : ℕ) {t : ℕ} → s < N → Way how.preference n l p q s t → μ t ≤ μ s + 1
      grows s lt face = rw (place_suc (centres how.preference (differences p q)) s)
          (omega (arith, at_most_one (cmp (next (centres how.preference (differences p q)) (place (centres how.preference (differences p q)) s)) a)))
      grows s lt (long m e h) = omega (arith, at_26 m (omega (arith, h.below)), at_26 (m + 1) (omega (arith, h.below)), ap μ h.number)

-- ---- the calls

pub first_hit_is : (how : Manner) (n : Counts) (l : List ℕ) (p q : Cell) (k : Walker) →
    let c : Conduct = conduct how p q in
    first_hit k how n l p q ≡ by_verdict Err (Ok (answer_at c n l p q (end_of c n l p q k) (reads_of c n l p q k))) (walk_check n (length l) p q)
unfolding first_hit
first_hit_is how n l p q k =
    ap (λ a. by_verdict Err (Ok a) (walk_check n (length l) p q)) (answer_by_numbers (conduct how p q) n l p q k)
