-- The claims about the touching line, its list and the first hit along it. Assumes nothing.
use Rattle.std.specs.Prelude.{Ok, Err, Result}
use Prim.Native.Nat.{ℕ, zero, suc, ◌+◌, ◌-◌, ◌*◌, ◌≤◌, ◌<◌}
use mathlib.Core.Path.{◌≡◌, refl, sym, ap, ◌∙◌, subst, fun_ext}
use mathlib.Core.Logic.{◌↔◌, ⊎_map}
use mathlib.Core.Bool.{Bool, true, false, cond}
use mathlib.Core.List.{List}
use native.Mathlib.Omega.{arith, by_contra}
use lib.IntN.{ℤ, pos, nat_abs}
use lib.ListN.{length, get_or}
use Rattle.cells.specs.declared.Axis.{Axis}
use Rattle.cells.specs.declared.Axis.TheVariants.{X, Y, Z}
use Rattle.cells.specs.declared.Cell.{Cell}
use Rattle.cells.specs.declared.Counts.{Counts}
use Rattle.cells.specs.declared.Face.TheVariants as Face
use Rattle.cells.specs.declared.Manner.{Manner}
use Rattle.cells.specs.declared.Refusal.{Refusal}
use Rattle.cells.specs.declared.Start.{Start}
use Rattle.cells.specs.declared.Start.TheVariants.{Untested, Tested}
use Rattle.cells.specs.Checks.{Verdict, by_verdict}
use Rattle.cells.specs.Manners.{is_tested}
use Rattle.cells.proofs.Checks.{by_fine}
use Rattle.cells.proofs.Touching.{and_both}
use Rattle.lines.specs.Steps.{at, total}
use Rattle.lines.specs.Preference.{Preference, y_z_x, by_rule}
use Rattle.lines.specs.Lines.{differences, face_along, six_cell}
use Rattle.lines.specs.Segment.{Share, InClosed}
use Rattle.lines.specs.Touching.{visits, visited, visit_cell, crossings, touching_line, first_axis, visit_upper, visit_lower}
use Rattle.lines.proofs.Centres.{centres_good}
use Rattle.lines.proofs.Cells.{limited_difference, six_entered, six_start, steps_made}
use Rattle.lines.proofs.Counted.{count_most, even_count, tie_free_line}
use Rattle.lines.proofs.Fractions.{chain_le}
use Rattle.lines.proofs.Touched.{start, visit, touching_parts, touching_length, touching_at, touched_in, share_at, touched_at, first_at, never_falls, all_different, has_six, ends_at, visiting_at}
use Rattle.lines.proofs.Visits.{not_start, reached_upper, reached_lower}
use Rattle.lists.specs.Lists.{ends_check}
use Rattle.grids.specs.Grid.{byte_of, solid}
use Rattle.grids.specs.Inside.{walk_check}
use Rattle.walks.specs.declared.Walker.TheVariants.{Plain}
use Rattle.walks.specs.declared.Hit.{Hit}
use Rattle.walks.specs.declared.FirstHit.{FirstHit}
use Rattle.walks.specs.Walks.{hit_at, conduct}
use Rattle.walks.specs.Answers.{entered_at, Finds}
use Rattle.walks.specs.Numbers.{hits_at, end_of}
use Rattle.walks.proofs.Story.{first_hit_is}
use Rattle.walks.proofs.Places.{num_is}
use Rattle.walks.proofs.Testing.{tested_test, other_test, exempt_test, starts_test}
use Rattle.touching.specs.Touching.{visit_place, found_in, walking, first_touching, FindsTouching}
use Rattle.touching.proofs.Entry.{at_last, earlier_axes}
use Rattle.touching.proofs.Answers.{hit_on, Search, found, none, search_of}
use Rattle.claims.specs.Example as example
use Rattle.claims.specs.Lists.{lowest, highest}
use Rattle.claims.specs.Tables.{no_more, ◌and◌}
use Rattle.claims.specs.Touching.{touching_cell, InLine, IsTouched, TouchedCells, CrossingOrder, OverSixLines, LongestTouching, TouchingListed, TouchingRows, ReachedBy, FirstTouched, TouchingHits, TouchingStarts, BesidePlain, TouchingOnce, TouchingHitRows, WrongTouching, one_solid, row_hit}
use Rattle.claims.proofs.Lists.{cells_at, longest, accepted, said}
use Rattle.claims.proofs.Starts.{one_read}
use Rattle.claims.proofs.Story.{kind, hit_or, reads_or, first_on_line, hit_place, hit_found}

-- ---- the line

module _ (p q : Cell) where
  in_line : (c : Cell) → (i : ℕ) × (i < length (touching_line p q)) × (get_or (touching_line p q) i p ≡ c) → InLine p q c
  in_line c (i, lt, is) = record { number = i; below = lt; is = is }

  touched : (c : Cell) → InLine p q c → IsTouched p q c
  touched c m =
      record {
        num = visit_upper (crossings p q) (visit p q m.number);
        den = visit_lower (crossings p q) (visit p q m.number);
        share = share_at p q m.number m.below;
        there = subst (InClosed p q _ _) m.is (touched_at p q m.number m.below);
      }

  pub touched_cells : TouchedCells p q
  touched_cells =
      record {
        complete = λ k d c s h. in_line c (touched_in p q k d c s h);
        sound = touched;
        different = all_different p q;
        starts = ap (λ l. get_or l 0 p) (touching_parts p q);
        ends = ends_at p q;
      }

  pub crossing_order : CrossingOrder p q
  unfolding touched
  crossing_order =
      record {
        never_falls = λ i j le lt k d s h. (
          touched (touching_cell p q i) (record { number = i; below = omega arith; is = refl }),
          chain_le (visit_upper (crossings p q) (visit p q i)) (visit_upper (crossings p q) (visit p q j)) k (visit_lower (crossings p q) (visit p q i))
              (visit_lower (crossings p q) (visit p q j)) d (share_at p q j lt).some (never_falls p q i j le lt) (first_at p q j lt k d s.some h),
        );
      }

  pub over_six_lines : OverSixLines p q
  over_six_lines =
      record {
        each_order = λ r n le. in_line (six_cell r p q n) (has_six p q r n le);
        each_rule = λ rule n le. in_line (six_cell (by_rule rule p q) p q n) (has_six p q (by_rule rule p q) n le);
        tie_free = λ r free. tie_free_line r p q free;
      }

pub longest_touching : LongestTouching
longest_touching =
    record {
      longest = longest touching_line 114682
          (λ p q hp hq.
          omega (
            arith,
            touching_length p q,
            count_most (crossings p q) (centres_good y_z_x (differences p q)),
            limited_difference p q hp hq X,
            limited_difference p q hp hq Y,
            limited_difference p q hp hq Z,
          ))
          (touching_length lowest highest ∙ even_count y_z_x (differences lowest highest) 16383 far);
      by_differences = λ p q. omega (arith, touching_length p q, count_most (crossings p q) (centres_good y_z_x (differences p q)));
    }
  where
    far : (a : Axis) → differences lowest highest a ≡ 16383
    far X = refl
    far Y = refl
    far Z = refl

pub touching_listed : (p q : Cell) (entry exit : List ℤ) (k : ℕ) → TouchingListed p q entry exit k
touching_listed p q entry exit k =
    record { cells = λ h. cells_at (touching_line p q) (ends_check p q) entry exit k h (length (touching_line p q)) (touching_cell p q) p refl (λ n lt. refl) }

pub touching_worked : TouchingRows
unfolding touching_line
touching_worked =
    record { lines = refl and refl and refl and refl and refl and refl and refl and refl and refl and refl and refl and refl and refl and no_more }

-- ---- the first hit

-- 1 where tested
startcode : Start → ℕ
startcode Untested = 0
startcode Tested = 1

module _ (from : Start) (n : Counts) (l : List ℕ) (p q : Cell) where
  abbrev test : Cell → Bool
  test = hit_at (walking from) n l p

  abbrev search : Search test n l p q (start p q) 0 (visits (crossings p q))
  search = search_of test n l p q (start p q) 0 (visits (crossings p q))

  -- what is answered, once the tests of the inputs are passed
  says : {r : (Result FirstHit Refusal)} → FindsTouching from n l p q r →
      r ≡ by_verdict Err (Ok (found_in test n l p q 0 (visits (crossings p q)))) (walk_check n (length l) p q)
  unfolding first_touching
  says h = h.says

  passed : {r : (Result FirstHit Refusal)} → ((e : Refusal) → Err e ≡ r → ⊥) → FindsTouching from n l p q r →
      (walk_check n (length l) p q ≡ Ok tt) × (Ok (found_in test n l p q 0 (visits (crossings p q))) ≡ r)
  passed other h = by_fine Err (walk_check n (length l) p q) (Ok (found_in test n l p q 0 (visits (crossings p q)))) other (sym (says h))

  no_refusal : {r : (Result FirstHit Refusal)} → kind r < 2 → (e : Refusal) → Err e ≡ r → ⊥
  unfolding kind
  no_refusal lt e is = let z = ap kind is in omega arith

  clear_kind : (m : ℕ) → kind (Ok (FirstHit.Clear m)) < 2
  unfolding kind
  clear_kind m = omega arith

  -- a cell that is no hit is not solid, unless it is a P that is not tested
  not_solid : (c : Cell) → test c ≡ false → (c ≡ p → from ≡ Tested) → solid (byte_of n l c) ≡ false
  unfolding startcode
  not_solid c miss tested = by from refl
    where
      by : (s : Start) → from ≡ s → solid (byte_of n l c) ≡ false
      by Tested e = sym (tested_test (walking from) n l p c (ap is_tested e)) ∙ miss
      by Untested e =
          sym (other_test (walking from) n l p c (λ at_p. let z : ◌≡◌ {A = ℕ} 0 1 = ap startcode (sym e ∙ tested at_p) in omega arith)) ∙ miss

  -- a hit is solid, and is no P that is not tested
  hit_tested : (c : Cell) → test c ≡ true → c ≡ p → from ≡ Tested
  hit_tested c met at_p = by from refl
    where
      by : (s : Start) → from ≡ s → from ≡ Tested
      by Tested e = e
      by Untested e = absurd (contra (sym (exempt_test (walking from) n l p (ap is_tested e)) ∙ ap test (sym at_p) ∙ met))
        where
          contra : false ≡ true → ⊥
          contra f = let z : ◌≡◌ {A = ℕ} 0 1 = ap (λ b. cond b 1 0) f in omega arith

  cell_is : (i : ℕ) → visit_cell p q (visit p q i) ≡ touching_cell p q i
  cell_is i = sym (touching_at p q i)

  -- the place of visit number i, where it is not P
  reached : (i : ℕ) → i < length (touching_line p q) → (h : Hit) → h.cell ≡ visit_cell p q (visit p q i) → h.place ≡ visit_place p q (visit p q i) →
      (h.cell ≡ p → ⊥) → (a : Axis) × ReachedBy p q h a
  unfolding visit_place
  reached i lt h cell entry far =
      let v = visit p q i in
      let w = visiting_at p q i some lt in
      let a = first_axis v.by in
      let there = at_last p q (at 0 0 0) v w in
      let num : h.place.num ≡ 1 + 2 * v.from a = ap (λ x. x.num) entry ∙ reached_upper (crossings p q) (centres_good y_z_x (differences p q)) w in
      let den : h.place.den ≡ 2 * differences p q a = ap (λ x. x.den) entry ∙ reached_lower (crossings p q) (centres_good y_z_x (differences p q)) w in (
        a,
        record {
          made = omega (arith, made a);
          num = omega (arith, made a);
          den = den;
          face = ap (λ x. x.face) entry
              ∙ ap (λ b. cond b Face.None (face_along p q a)) (not_start (crossings p q) (centres_good y_z_x (differences p q)) w);
          first = λ b before. ⊎_map (λ z. made b ∙ z) (same (2 * differences p q b) _ _ _ _ _ _ (made b) num den) (earlier_axes p q (at 0 0 0) v w b before);
        },
      )
    where
      -- the steps from P to it
      made : (b : Axis) → differences p h.cell b ≡ visited (visit p q i) b
      made b = ap (λ c. differences p c b) cell ∙ ap (λ t. t b) (steps_made p q (visited (visit p q i)))

      same : (k x y u w d e : ℕ) → x ≡ y → u ≡ w → d ≡ e → (2 * y - 1) * e < w * k → (2 * x - 1) * d < u * k
      same k x y u w d e ex eu ed lt = rw (ex, eu, ed) lt

      some : 0 < i
      some = by_contra 1 i (λ z. far (cell ∙ cell_is i ∙ ap (touching_cell p q) (omega arith) ∙ (touched_cells p q).starts))

  first_touched : (i : ℕ) → i < length (visits (crossings p q)) → test (visit_cell p q (visit p q i)) ≡ true →
      ((j : ℕ) → j < i → test (visit_cell p q (visit p q j)) ≡ false) → (h : Hit) → h.cell ≡ visit_cell p q (visit p q i) →
      h.code ≡ byte_of n l (visit_cell p q (visit p q i)) → h.place ≡ visit_place p q (visit p q i) → h.reads ≡ 0 + i + 1 → FirstTouched from n l p q h
  unfolding visit_place visits
  first_touched i lt met before h cell code entry reads =
      let below : i < length (touching_line p q) = subst (λ m. i < m) (sym (touching_length p q)) lt in
      let num = ap (λ x. x.num) entry in
      let den = ap (λ x. x.den) entry in
      record {
        number = i;
        below = below;
        cell = cell ∙ cell_is i;
        reads = omega arith;
        code = code ∙ ap (byte_of n l) (sym cell);
        solid_there = ap solid code ∙ (and_both (solid (byte_of n l (visit_cell p q (visit p q i)))) _ met).0;
        p_tested = λ at_p. hit_tested (visit_cell p q (visit p q i)) met (sym cell ∙ at_p);
        none_before = λ j less tested. not_solid (touching_cell p q j) (ap test (sym (cell_is j)) ∙ before j less) tested;
        share = rw (num, den) (share_at p q i below);
        touched_there = rw (num, den, cell ∙ cell_is i) (touched_at p q i below);
        not_before = λ k d s there. rw (num, den) (first_at p q i below k d s.some (subst (InClosed p q k d) (cell ∙ cell_is i) there));
        at_start = λ at_p. start_place h entry reads
            (all_different p q i 0 below (omega arith) (sym (cell_is i) ∙ sym cell ∙ at_p ∙ sym (touched_cells p q).starts));
        past_start = reached i below h cell entry;
      }
    where
      start_place : (h : Hit) → h.place ≡ visit_place p q (visit p q i) → h.reads ≡ 0 + i + 1 → i ≡ 0 →
          (h.place.num ≡ 0) × (h.place.den ≡ 1) × (h.place.face ≡ Face.None) × (h.reads ≡ 1)
      start_place h entry reads zero_is =
          let e = entry ∙ ap (λ k. visit_place p q (visit p q k)) zero_is in
          (ap (λ x. x.num) e, ap (λ x. x.den) e, ap (λ x. x.face) e, omega arith)

  pub touching_hits : TouchingHits from n l p q
  unfolding kind hit_or reads_or
  touching_hits = record { hit = λ h f. by_hit h (passed (no_refusal (omega arith)) f).1 search; clear = λ m f. by_clear m (passed (no_refusal (omega arith)) f).1 search }
    where
      by_hit : (h : Hit) → ◌≡◌ {A = Result FirstHit Refusal} (Ok (found_in test n l p q 0 (visits (crossings p q)))) (Ok (FirstHit.Hit h)) → Search test n l p q (start p q) 0 (visits (crossings p q)) →
          FirstTouched from n l p q h
      by_hit h e (found i lt met before is) =
          let k : h ≡ hit_or h (Ok (hit_on test n l p q (start p q) (visit p q i) (0 + i + 1))) = ap (hit_or h) (sym e ∙ ap Ok is) in
          first_touched i lt met before h (ap (λ x. x.cell) k) (ap (λ x. x.code) k) (ap (λ x. x.place) k) (ap (λ x. x.reads) k)
      by_hit h e (none all is) = absurd (let z : ◌≡◌ {A = ℕ} 0 1 = ap kind (sym e ∙ ap Ok is) in omega arith)

      by_clear : (m : ℕ) → ◌≡◌ {A = Result FirstHit Refusal} (Ok (found_in test n l p q 0 (visits (crossings p q)))) (Ok (FirstHit.Clear m)) → Search test n l p q (start p q) 0 (visits (crossings p q)) →
          (m ≡ length (touching_line p q)) ×
          ((k d : ℕ) (c : Cell) → Share k d → InClosed p q k d c → (c ≡ p → from ≡ Tested) → solid (byte_of n l c) ≡ false)
      by_clear m e (found i lt met before is) = absurd (let z : ◌≡◌ {A = ℕ} 1 0 = ap kind (sym e ∙ ap Ok is) in omega arith)
      by_clear m e (none all is) =
          let many : m ≡ 0 + length (visits (crossings p q)) = ap (reads_or m) (sym e ∙ ap Ok is) in (
            omega (arith, touching_length p q),
            λ k d c s there tested.
                let (i, lt, at_i) = touched_in p q k d c s there in
                not_solid c (ap test (sym at_i ∙ touching_at p q i) ∙ all i (subst (λ m. i < m) (touching_length p q) lt)) tested,
          )

  pub touching_once : TouchingOnce from n l p q
  touching_once = record { once = λ r s f g. f.says ∙ sym g.says }

-- ---- the start

module _ (n : Counts) (l : List ℕ) (p q : Cell) where
  starts_alike : solid (byte_of n l p) ≡ false → (one other : Start) → first_touching one n l p q ≡ first_touching other n l p q
  unfolding first_touching
  starts_alike clear one other =
      ap (λ test. by_verdict Err (Ok (found_in test n l p q 0 (visits (crossings p q)))) (walk_check n (length l) p q))
      (fun_ext (starts_test n l p (walking one) (walking other) clear))

  -- equal ends have one cell
  one_cell : length (visits (crossings p p)) ≡ 1
  one_cell = sym (touching_length p p)
      ∙ omega (arith, all_different p p 0 (length (touching_line p p) - 1) some (omega (arith, some)) ((touched_cells p p).starts ∙ sym (touched_cells p p).ends), some)
    where
      some : 0 < length (touching_line p p)
      some = omega (arith, ap length (touching_parts p p))

  equal_found : Search (hit_at (walking Untested) n l p) n l p p (start p p) 0 (visits (crossings p p)) →
      found_in (hit_at (walking Untested) n l p) n l p p 0 (visits (crossings p p)) ≡ FirstHit.Clear 1
  equal_found (none all is) = is ∙ ap FirstHit.Clear (omega (arith, one_cell))
  equal_found (found i lt met before is) =
      absurd (let z : ◌≡◌ {A = ℕ} 0 1 = ap (λ b. cond b 1 0) (sym (exempt_test (walking Untested) n l p refl) ∙ sym at_p ∙ met) in omega arith)
    where
      at_p : hit_at (walking Untested) n l p (visit_cell p p (visit p p i)) ≡ hit_at (walking Untested) n l p p
      at_p = ap (hit_at (walking Untested) n l p)
          (ap (λ j. visit_cell p p (visit p p j)) (omega (arith, one_cell)) ∙ sym (touching_at p p 0) ∙ (touched_cells p p).starts)

  pub touching_starts : TouchingStarts n l p q
  unfolding startcode
  touching_starts =
      record {
        alike = λ clear one other r s f g. f.says ∙ starts_alike clear one other ∙ sym g.says;
        never_p = λ h f at_p.
            let z : ◌≡◌ {A = ℕ} 0 1 = ap startcode (((touching_hits Untested n l p q).hit h f).p_tested at_p) in
            omega arith;
        equal_ends = λ r f. one_read r (walk_check n (length l) p p)
            (says Untested n l p p f ∙ ap (λ a. by_verdict Err (Ok a) (walk_check n (length l) p p)) (equal_found (search Untested n l p p)));
      }

-- ---- beside the plain walk

module _ (how : Manner) (n : Counts) (l : List ℕ) (p q : Cell) where
  abbrev R : Preference
  R = by_rule how.rule p q

  -- at the place where the plain walk enters a cell, the cell is touched
  entered_touched : (s : ℕ) → s ≤ total (differences p q) →
      Share (entered_at R p q s).num (entered_at R p q s).den × InClosed p q (entered_at R p q s).num (entered_at R p q s).den (six_cell R p q s)
  unfolding visits
  entered_touched zero le = (
    record { some = omega arith; most = omega arith },
    subst (InClosed p q 0 1) ((touched_cells p q).starts ∙ sym (six_start R p q)) (touched_at p q 0 (omega (arith, ap length (touching_parts p q)))),
  )
  entered_touched (suc s) le = rw (num_is R p q s) (six_entered R p q s (omega arith))

  -- the plain walk's hit stands in the touching line, and is a hit there
  record PlainHit (h : Hit) : Type 0 where
    number : ℕ
    below : number < length (touching_line p q)
    cell : touching_cell p q number ≡ h.cell
    is_hit : hit_at (walking how.start) n l p h.cell ≡ true
    share : Share h.place.num h.place.den
    there : InClosed p q h.place.num h.place.den h.cell

  plain_hit : (h : Hit) → Finds Plain how n l p q (Ok (FirstHit.Hit h)) → PlainHit h
  plain_hit h f =
      let (s, first) = (first_on_line how n l p q).hit h f in
      let (t, on) = (hit_place how n l p q).there Plain h f in
      let (i, lt, is) = has_six p q R t on.most in
      let (share, there) = entered_touched t on.most in
      record {
        number = i;
        below = lt;
        cell = is ∙ sym on.cell;
        is_hit = first.hit_there;
        share = subst (λ a. Share a.num a.den) (sym on.place) share;
        there = subst (InClosed p q _ _) (sym on.cell) (subst (λ a. InClosed p q a.num a.den (six_cell R p q t)) (sym on.place) there);
      }

  -- where the inputs passed their tests neither call refuses
  plain_accepts : (e : Refusal) → walk_check n (length l) p q ≡ Ok tt → Finds Plain how n l p q (Err e) → ⊥
  unfolding kind
  plain_accepts e fine f = by _ _ (hits_at (conduct how p q) n l p q (end_of (conduct how p q) n l p q Plain))
      (f.says ∙ first_hit_is how n l p q Plain ∙ ap (by_verdict Err _) fine)
    where
      by : (h : Hit) (m : ℕ) (b : Bool) → Err e ≡ Ok (cond b (FirstHit.Hit h) (FirstHit.Clear m)) → ⊥
      by h m true is = let z : ◌≡◌ {A = ℕ} 2 0 = ap kind is in omega arith
      by h m false is = let z : ◌≡◌ {A = ℕ} 2 1 = ap kind is in omega arith

  touching_accepts : (e : Refusal) → walk_check n (length l) p q ≡ Ok tt → FindsTouching how.start n l p q (Err e) → ⊥
  unfolding kind
  touching_accepts e fine t = by (says how.start n l p q t ∙ ap (by_verdict Err _) fine) (search how.start n l p q)
    where
      by : Err e ≡ Ok (found_in (hit_at (walking how.start) n l p) n l p q 0 (visits (crossings p q))) →
          Search (hit_at (walking how.start) n l p) n l p q (start p q) 0 (visits (crossings p q)) → ⊥
      by is (found i lt met before e) = let z : ◌≡◌ {A = ℕ} 2 0 = ap kind (is ∙ ap Ok e) in omega arith
      by is (none all e) = let z : ◌≡◌ {A = ℕ} 2 1 = ap kind (is ∙ ap Ok e) in omega arith

  -- so a touching walk that is clear leaves no plain hit
  no_plain_hit : (m : ℕ) (h : Hit) → FindsTouching how.start n l p q (Ok (FirstHit.Clear m)) → Finds Plain how n l p q (Ok (FirstHit.Hit h)) → ⊥
  no_plain_hit m h t f =
      let k = plain_hit h f in
      let free = ((touching_hits how.start n l p q).clear m t).1 h.place.num h.place.den h.cell k.share k.there
      (hit_tested how.start n l p q h.cell k.is_hit) in
      let z : ◌≡◌ {A = ℕ} 0 1 = ap (λ b. cond b 1 0) (sym free ∙ (and_both (solid (byte_of n l h.cell)) _ k.is_hit).0) in
      omega arith

  by_fraction : (h k : Hit) → Finds Plain how n l p q (Ok (FirstHit.Hit h)) → FindsTouching how.start n l p q (Ok (FirstHit.Hit k)) →
      k.place.num * h.place.den ≤ h.place.num * k.place.den
  by_fraction h k f t =
      let a = plain_hit h f in
      let b = (touching_hits how.start n l p q).hit k t in
      let le : b.number ≤ a.number = by_contra b.number a.number (λ less. early a b less) in
      let (touched, no_later) = (crossing_order p q).never_falls b.number a.number le a.below h.place.num h.place.den a.share
      (subst (InClosed p q _ _) (sym a.cell) a.there) in
      chain_le k.place.num touched.num h.place.num k.place.den touched.den h.place.den touched.share.some
      (b.not_before touched.num touched.den touched.share (subst (InClosed p q _ _) (sym b.cell) touched.there)) no_later
    where
      early : (a : PlainHit h) (b : FirstTouched how.start n l p q k) → a.number < b.number → ⊥
      early a b less =
          let free = b.none_before a.number less (λ at_p. hit_tested how.start n l p q h.cell a.is_hit (sym a.cell ∙ at_p)) in
          let z : ◌≡◌ {A = ℕ} 0 1 = ap (λ b. cond b 1 0)
          (sym (ap (λ c. solid (byte_of n l c)) (sym a.cell) ∙ free) ∙ (and_both (solid (byte_of n l h.cell)) _ a.is_hit).0) in
          omega arith

  -- one verdict refuses both
  refused_alike : (e : Refusal) (r s : Result FirstHit Refusal) → Finds Plain how n l p q r → FindsTouching how.start n l p q s →
      (v : Verdict) → walk_check n (length l) p q ≡ v → (r ≡ Err e) ↔ (s ≡ Err e)
  refused_alike e r s f t (Ok _) fine = (
    λ is. absurd (plain_accepts e fine (subst (Finds Plain how n l p q) is f)),
    λ is. absurd (touching_accepts e fine (subst (FindsTouching how.start n l p q) is t)),
  )
  refused_alike e r s f t (Err x) no-more-tests =
      let a : r ≡ Err x = f.says ∙ first_hit_is how n l p q Plain ∙ ap (by_verdict Err _) no-more-tests in
      let b : s ≡ Err x = says how.start n l p q t ∙ ap (by_verdict Err _) no-more-tests in
      (λ is. b ∙ sym a ∙ is, λ is. a ∙ sym b ∙ is)

  pub beside_plain : BesidePlain how n l p q
  beside_plain = record { clear_too = λ m r t f. clears m r t f; hits_too = λ h r f t. hits h r f t; refuses_too = λ e r s f t. refused_alike e r s f t _ refl }
    where
      clears : (m : ℕ) (r : Result FirstHit Refusal) → FindsTouching how.start n l p q (Ok (FirstHit.Clear m)) → Finds Plain how n l p q r → (k : ℕ) × (r ≡ Ok (FirstHit.Clear k))
      clears m (Ok (FirstHit.Hit h)) t f = absurd (no_plain_hit m h t f)
      clears m (Ok (FirstHit.Clear k)) t f = (k, refl)
      clears m (Err e) t f = absurd (plain_accepts e (passed how.start n l p q (clear_not m) t).0 f)
        where
          clear_not : (m : ℕ) (e : Refusal) → Err e ≡ Ok (FirstHit.Clear m) → ⊥
          clear_not m = no_refusal how.start n l p q {r = Ok (FirstHit.Clear m)} (clear_kind how.start n l p q m)

      hits : (h : Hit) (r : Result FirstHit Refusal) → Finds Plain how n l p q (Ok (FirstHit.Hit h)) → FindsTouching how.start n l p q r →
          (k : Hit) × (r ≡ Ok (FirstHit.Hit k)) × (k.place.num * h.place.den ≤ h.place.num * k.place.den)
      hits h (Ok (FirstHit.Hit k)) f t = (k, refl, by_fraction h k f t)
      hits h (Ok (FirstHit.Clear m)) f t = absurd (no_plain_hit m h t f)
      hits h (Err e) f t = absurd (touching_accepts e (hit_found how n l p q Plain h f).0 t)

-- ---- worked hits

-- of either start
either : (P : Start → Type 0) → P Untested → P Tested → (from : Start) → P from
either P u t Untested = u
either P u t Tested = t

pub hits_worked : TouchingHitRows
unfolding first_touching
hits_worked =
    record {
      ties = either _ (refl and refl and refl and refl and refl and refl and refl and no_more)
          (refl and refl and refl and refl and refl and refl and refl and no_more);
      start_tested = refl;
      start_passed = refl;
      equal_ends = refl;
      equal_ends_tested = refl;
      by_x = either _ refl refl;
      by_z = either _ refl refl;
      back = either _ refl refl;
      by_y = either _ refl refl;
    }

pub wrong_touching : WrongTouching
unfolding touching_line first_touching accepted said kind hit_or
wrong_touching =
    record {
      pairs = λ r h. absurd (let z : ◌≡◌ {A = ℕ} 0 1 = ap (λ l. nat_abs (get_or l 16 (pos 0))) h.holds in omega arith);
      singles = λ r h. absurd (let z : ◌≡◌ {A = ℕ} 1 0 = ap (λ l. nat_abs (get_or l 6 (pos 0))) h.holds in omega arith);
      six_cells = λ exit h. absurd (let z : ◌≡◌ {A = ℕ} 7 8 = ap said h.says in omega arith);
      twice = λ r h. absurd (let z : ◌≡◌ {A = ℕ} 0 1 = ap (λ l. nat_abs (get_or l 6 (pos 0))) h.holds in omega arith);
      one_more = λ exit h. absurd (let z : ◌≡◌ {A = ℕ} 5 4 = ap said h.says in omega arith);
      six_room = λ k exit h. absurd (let z : ◌≡◌ {A = ℕ} 1 0 = ap accepted h.says in omega arith);
      refuses = λ r exit h. absurd (let z : ◌≡◌ {A = ℕ} 0 1 = ap accepted h.says in omega arith);
      last_axis = λ from h. absurd (let z : ◌≡◌ {A = ℕ} 3 1 = ap (λ r. (hit_or nowhere r).place.num) (h.says ∙ hits_worked.by_y from) in omega arith);
      any_other = λ from num den face other h.
          let e = h.says ∙ hits_worked.by_y from in
          other (ap (λ r. (hit_or nowhere r).place.num) e) (ap (λ r. (hit_or nowhere r).place.den) e) (ap (λ r. (hit_or nowhere r).place.face) e);
      side_left_out = λ from reads h. absurd (let z : ◌≡◌ {A = ℕ} 1 0 = ap kind (h.says ∙ side from) in omega arith);
      always_tested = λ h f. absurd (let z : ◌≡◌ {A = ℕ} 0 1 = ap kind (f.says ∙ hits_worked.start_passed) in omega arith);
    }
  where
    nowhere : Hit
    nowhere = row_hit (record { byte = 0; cell = example.at 0 0 0; face = Face.None; reads = 0 })

    side : (from : Start) → first_touching from (example.counts 2 2 2) (one_solid 1) (example.at 0 0 0) (example.at 1 1 1) ≡
        Ok (FirstHit.Hit (row_hit (record { byte = 1; cell = example.at 1 0 0; face = Face.Plus X; reads = 4 })))
    side = either _ refl refl
