-- The visits of the touching line: each is touched, and not before the crossing by which it is reached; no two are the same, their fractions never
-- fall, and none but the last is behind all crossings. For every course whose ends lie inside their cells. Assumes nothing.
use mathlib.Core.Path.{◌≡◌, refl, sym, ap, subst}
use mathlib.Core.Logic.{⊎_elim}
use mathlib.Core.Bool.{true, false, cond}
use Prim.Native.Nat.{ℕ, zero, suc, ◌+◌, ◌*◌, ◌≤◌, ◌<◌}
use native.Mathlib.Omega.{arith, by_contra}
use native.Mathlib.Nat.{mul-le-mul, mul-le-mul_right}
use lib.Dec.{ltb}
use borrow.Author.Tests.{ltb-true, ne_eqb}
use Rattle.lines.specs.Steps.{Axis, X, Y, Z, Steps, at, total}
use Rattle.lines.specs.Crossings.{Course, upper}
use Rattle.lines.specs.Touching.{tie_steps, further, Visit, visits_from, visits, visited, first_axis, is_start, visit_upper, visit_lower}
use Rattle.lines.proofs.Steps.{lt_or_ge}
use Rattle.lines.proofs.Merge.{Within}
use Rattle.lines.proofs.Fractions.{Good, InClosedSteps, start_touched}
use Rattle.lines.proofs.Every.{Each, no_more, also, Pairs, no_pair, and_then, each_map, each_append, pairs_append, pairs_with, each_cross}
use Rattle.lines.proofs.Ways.{further_on, total_further, at_even, first_has, code, LeadsFrom, tie_each, tie_pairs}
use Rattle.lines.proofs.Touching.{Leading, passed, passed_on, tie_leads, tie_most, leads_tie, leads_too, passed_within, some_lower, further_up, next_up}

module _ (c : Course) (good : Good c) where
  -- ---- the places between ties

  -- each crossing made lies at a smaller fraction than each one not made
  pub record Full (u : Steps) : Type 0 where
    pub within : Within c.count u
    pub order : (a b : Axis) (i j : ℕ) → i < u a → u b ≤ j → j < c.count b → upper c a i * c.lower b < upper c b j * c.lower a

  pub full_start : Full (at 0 0 0)
  full_start = record { within = λ a. omega (arith, at_even 0 a); order = λ a b i j p q r. absurd (omega (arith, at_even 0 a)) }

  -- where a ties, every crossing behind the tie lies at a greater fraction
  behind_tie : (u : Steps) (a b : Axis) (j : ℕ) → Leading c u a → passed c u b ≤ j → j < c.count b → upper c a (u a) * c.lower b < upper c b j * c.lower a
  behind_tie u a b j l q r =
      let first = l.first b (omega (arith, passed_on c u b)) in
      let la = some_lower c good a (u a) l.has in
      ⊎_elim
      (λ in_tie.
      let up = next_up c good b (u b) j (omega (arith, passed_on c u b)) in
      omega (arith, mul-le-mul_right (c.lower a) up, mul-le-mul good.steps la))
      (λ out.
      by_contra (suc (upper c a (u a) * c.lower b)) (upper c b j * c.lower a) (λ k.
      let up = further_up c good b (u b) j (omega (arith, passed_on c u b)) in
      omega (
        arith,
        leads_tie c u b (leads_too c good u a b l (omega (arith, passed_on c u b)) (omega (arith, mul-le-mul_right (c.lower a) up))),
      )))
      (lt_or_ge 0 (tie_steps c u b))

  pub full_passed : (u : Steps) → Full u → Full (passed c u)
  full_passed u h =
      record {
        within = passed_within c good u h.within;
        order = λ a b i j p q r.
            ⊎_elim (λ old. h.order a b i j old (omega (arith, passed_on c u b)) r)
            (λ new.
            let is : i ≡ u a = omega (arith, passed_on c u a, tie_most c u a) in
            rw is (behind_tie u a b j (tie_leads c u a (omega (arith, passed_on c u a))) q r))
            (lt_or_ge i (u a));
      }

  -- ---- the visits, one by one

  -- a visit of a tie that comes at the place u or later
  pub record Visiting (u : Steps) (v : Visit) : Type 0 where
    pub least : (a : Axis) → u a ≤ v.from a
    pub full : Full v.from
    pub some : 0 < total v.by
    pub among : (a : Axis) → v.by a ≤ tie_steps c v.from a

  pub at_tie : (u : Steps) → Full u → (v : Visit) → LeadsFrom u (tie_steps c u) v → Visiting u v
  at_tie u full v h =
      record {
        least = λ a. omega (arith, on h.from a);
        full = subst Full (sym h.from) full;
        some = h.some;
        among = λ a. subst (λ w. v.by a ≤ tie_steps c w a) (sym h.from) (h.among a);
      }
    where
      on : {s t : Steps} → s ≡ t → (a : Axis) → s a ≡ t a
      on e a = λ i. e i a

  from_earlier : (u w : Steps) → ((a : Axis) → u a ≤ w a) → (v : Visit) → Visiting w v → Visiting u v
  from_earlier u w le v h = record { least = λ a. omega (arith, le a, h.least a); full = h.full; some = h.some; among = h.among }

  pub visiting_from : (ties : ℕ) (u : Steps) → Full u → Each (Visiting u) (visits_from c ties u)
  unfolding visits_from
  visiting_from zero u full = no_more
  visiting_from (suc ties) u full =
      each_append (each_map (at_tie u full) (tie_each u (tie_steps c u)))
      (each_map (from_earlier u (passed c u) (λ a. omega (arith, passed_on c u a))) (visiting_from ties (passed c u) (full_passed u full)))

  module _ {u : Steps} {v : Visit} (h : Visiting u v) where
    -- the crossing by which it is reached ties
    abbrev by_axis_of : Axis
    by_axis_of = first_axis v.by

    leads : Leading c v.from by_axis_of
    leads = tie_leads c v.from by_axis_of (omega (arith, first_has v.by h.some, h.among by_axis_of))

    pub not_start : is_start v ≡ false
    not_start = ne_eqb (total v.by) 0 (λ e. omega (arith, h.some))

    pub reached_upper : visit_upper c v ≡ upper c by_axis_of (v.from by_axis_of)
    reached_upper = ap (λ b. cond b 0 (upper c by_axis_of (v.from by_axis_of))) not_start

    pub reached_lower : visit_lower c v ≡ c.lower by_axis_of
    reached_lower = ap (λ b. cond b 1 (c.lower by_axis_of)) not_start

  -- ---- each is touched, first at the fraction of that crossing

  met_from :
      (w s : Steps) (a b : Axis) → Full w → Leading c w a → s b ≤ tie_steps c w b →
      upper c b (further w s b) * c.lower a ≤ c.lower b * upper c a (w a) + c.step * c.lower a
  met_from w s a b full l le = ⊎_elim stepped (λ none. let is : further w s b ≡ w b = omega (arith, further_on w s b) in rw is (kept (w b) refl)) (lt_or_ge 0 (s b))
    where
      stepped : 0 < s b → upper c b (further w s b) * c.lower a ≤ c.lower b * upper c a (w a) + c.step * c.lower a
      stepped some =
          let is : further w s b ≡ w b + 1 = omega (arith, further_on w s b, tie_most c w b) in
          let le = (tie_leads c w b (omega arith)).first a l.has in
          rw is (omega arith)

      kept : (i : ℕ) → w b ≡ i → upper c b i * c.lower a ≤ c.lower b * upper c a (w a) + c.step * c.lower a
      kept zero e = omega (arith, mul-le-mul_right (c.lower a) (good.starts b))
      kept (suc i) e = omega (arith, full.order b a i (w a) (omega arith) (omega arith) l.has)

  met_upto : (w s : Steps) (a b : Axis) → Leading c w a → c.lower b * upper c a (w a) ≤ upper c b (further w s b) * c.lower a
  met_upto w s a b l =
      ⊎_elim
      (λ left.
      omega (
        arith,
        l.first b (omega (arith, further_on w s b)),
        mul-le-mul_right (c.lower a) (further_up c good b (w b) (further w s b) (omega (arith, further_on w s b))),
      ))
      (λ none.
      let beyond : c.lower b ≤ upper c b (further w s b) = omega (arith, good.ends b, further_up c good b (c.count b) (further w s b) none) in
      let real : upper c a (w a) ≤ c.lower a = omega (arith, good.inside a l.has) in
      mul-le-mul beyond real)
      (lt_or_ge (further w s b) (c.count b))

  -- the fraction of a visit is a share of the way, the visited cell is touched there, and nowhere before
  pub record Met (v : Visit) : Type 0 where
    pub some : 0 < visit_lower c v
    pub most : visit_upper c v ≤ visit_lower c v
    pub touched : InClosedSteps c (visit_upper c v) (visit_lower c v) (visited v)
    pub earliest : (n d : ℕ) → InClosedSteps c n d (visited v) → visit_upper c v * d ≤ n * visit_lower c v

  pub visiting_met : (u : Steps) (v : Visit) → Visiting u v → Met v
  visiting_met u v h =
      let m = met (first_axis v.by) (leads h) (first_has v.by h.some) _ _ (reached_upper h) (reached_lower h) in
      record { some = m.0; most = m.1; touched = m.2; earliest = m.3 }
    where
      met : (a : Axis) → Leading c v.from a → 0 < v.by a → (m k : ℕ) → m ≡ upper c a (v.from a) → k ≡ c.lower a →
          (0 < k) × (m ≤ k) × InClosedSteps c m k (visited v) × ((n d : ℕ) → InClosedSteps c n d (visited v) → m * d ≤ n * k)
      met a l some m k em ek =
          rw (em, ek) (
            some_lower c good a (v.from a) l.has,
            omega (arith, good.inside a l.has),
            record {
              from = λ b. met_from v.from v.by a b h.full l (h.among b);
              upto = λ b. met_upto v.from v.by a b l;
            },
            λ n d t. omega (
              arith,
              t.from a,
              mul-le-mul_right d (next_up c good a (v.from a) (visited v a) (omega (arith, further_on v.from v.by a))),
            ),
          )

  -- ---- every two

  -- the one is another cell than the other, reached at no greater a fraction, and behind it crossings are left
  pub record Precedes (v w : Visit) : Type 0 where
    pub apart : ((a : Axis) → visited v a ≡ visited w a) → ⊥
    pub unfinished : total (visited v) < total c.count
    pub order : visit_upper c v * visit_lower c w ≤ visit_upper c w * visit_lower c v

  -- from a tie on, the fractions do not fall
  no_fall : (u : Steps) (v w : Visit) → Visiting u v → ((a : Axis) → v.from a ≤ w.from a) → Visiting u w →
      visit_upper c v * visit_lower c w ≤ visit_upper c w * visit_lower c v
  no_fall u v w h le k =
      rw (reached_upper h, reached_lower h, reached_upper k, reached_lower k) (by (first_axis v.by) (first_axis w.by) (leads h) (leads k))
    where
      by : (a b : Axis) → Leading c v.from a → Leading c w.from b →
          upper c a (v.from a) * c.lower b ≤ upper c b (w.from b) * c.lower a
      by a b l m =
          omega (
            arith,
            l.first b (omega (arith, le b, m.has)),
            mul-le-mul_right (c.lower a) (further_up c good b (v.from b) (w.from b) (le b)),
          )

  -- behind a tie there are no more crossings than there are
  tie_within : (u : Steps) → Full u → total u + total (tie_steps c u) ≤ total c.count
  tie_within u full =
      let within = passed_within c good u full.within in
      omega (arith, within X, within Y, within Z, passed_on c u X, passed_on c u Y, passed_on c u Z)

  -- two of one tie
  pair_in_tie :
      (u : Steps) → Full u → (v w : Visit) → LeadsFrom u (tie_steps c u) v → LeadsFrom u (tie_steps c u) w → ltb (code v.by) (code w.by) ≡ true →
      Precedes v w
  pair_in_tie u full v w h k less =
      record {
        apart = λ e. apart e;
        unfinished = omega (
          arith,
          tie_within u full,
          total_further v.from v.by,
          ap total h.from,
          ltb-true (code v.by) (code w.by) less,
          h.among X,
          h.among Y,
          h.among Z,
          k.among X,
          k.among Y,
          k.among Z,
        );
        order = no_fall u v w (at_tie u full v h) (λ a. omega (arith, on h.from a, on k.from a)) (at_tie u full w k);
      }
    where
      on : {s t : Steps} → s ≡ t → (a : Axis) → s a ≡ t a
      on e a = λ i. e i a

      same : ((a : Axis) → visited v a ≡ visited w a) → (a : Axis) → v.by a ≡ w.by a
      same e a = omega (arith, e a, further_on v.from v.by a, further_on w.from w.by a, on h.from a, on k.from a)

      apart : ((a : Axis) → visited v a ≡ visited w a) → ⊥
      apart e = omega (arith, ltb-true (code v.by) (code w.by) less, same e X, same e Y, same e Z)

  -- one of a tie and one of a later tie
  pair_of_ties : (u : Steps) → Full u → (v w : Visit) → LeadsFrom u (tie_steps c u) v → Visiting (passed c u) w → Precedes v w
  pair_of_ties u full v w h k =
      record {
        apart = λ e. omega (
          arith,
          e X,
          e Y,
          e Z,
          total_further v.from v.by,
          total_further w.from w.by,
          k.some,
          later X,
          later Y,
          later Z,
        );
        unfinished = omega (
          arith,
          tie_within w.from k.full,
          total_further v.from v.by,
          k.some,
          k.among X,
          k.among Y,
          k.among Z,
          later X,
          later Y,
          later Z,
        );
        order = no_fall u v w (at_tie u full v h) (λ a. omega (arith, later a)) (from_earlier u (passed c u) (λ a. omega (arith, passed_on c u a)) w k);
      }
    where
      later : (a : Axis) → v.from a + v.by a ≤ w.from a
      later a = omega (arith, k.least a, passed_on c u a, h.among a, ap (λ t. t a) h.from)

  pub precede_from : (ties : ℕ) (u : Steps) → Full u → Pairs Precedes (visits_from c ties u)
  unfolding visits_from
  precede_from zero u full = no_pair
  precede_from (suc ties) u full =
      pairs_append (pairs_with (pair_in_tie u full) (tie_each u (tie_steps c u)) (tie_pairs u (tie_steps c u)))
      (precede_from ties (passed c u) (full_passed u full))
      (each_cross (pair_of_ties u full) (tie_each u (tie_steps c u)) (visiting_from ties (passed c u) (full_passed u full)))

  -- ---- P and all of them

  abbrev start : Visit
  start = record { from = at 0 0 0; by = at 0 0 0 }

  start_met : Met start
  start_met =
      record {
        some = omega arith;
        most = omega arith;
        touched = start_touched c good 1 (visited start) (λ a. omega (arith, further_on (at 0 0 0) (at 0 0 0) a, at_even 0 a));
        earliest = λ n d t. omega arith;
      }

  start_precedes : (w : Visit) → Visiting (at 0 0 0) w → Precedes start w
  start_precedes w h =
      record {
        apart = λ e. omega (arith, e X, e Y, e Z, total_further (at 0 0 0) (at 0 0 0), total_further w.from w.by, h.some);
        unfinished = omega (arith, tie_within w.from h.full, total_further (at 0 0 0) (at 0 0 0), h.some, h.among X, h.among Y, h.among Z);
        order = omega arith;
      }

  pub all_met : Each Met (visits c)
  unfolding visits
  all_met = also start_met (each_map (visiting_met (at 0 0 0)) (visiting_from (total c.count) (at 0 0 0) full_start))

  pub all_precede : Pairs Precedes (visits c)
  unfolding visits
  all_precede =
      and_then (each_map start_precedes (visiting_from (total c.count) (at 0 0 0) full_start)) (precede_from (total c.count) (at 0 0 0) full_start)
