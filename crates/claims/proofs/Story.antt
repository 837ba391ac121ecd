-- Demand 3: the claims about the two first-hit calls, from where their walks end. Assumes nothing.
use Rattle.std.specs.Prelude.{Ok, Err, Result}
use Prim.Native.Nat.{ℕ, zero, suc, ◌+◌, ◌-◌, ◌*◌, ◌≤◌, ◌<◌}
use mathlib.Core.Path.{◌≡◌, refl, sym, ap, ap₂, ◌∙◌, subst, subst₂}
use mathlib.Core.Bool.{Bool, true, false, cond, ◌||◌, true≢false}
use mathlib.Core.Logic.{⊎_elim, ◌⊎◌, ◌↔◌}
use mathlib.Core.List.{List, [], ◌∷◌}
use native.Mathlib.Omega.{arith}
use native.Mathlib.Numerals.{add-one}
use lib.ListN.{length, get_or}
use borrow.Author.Tests.{eq-eqb, ne_eqb}
use Rattle.cells.specs.declared.Axis.{Axis}
use Rattle.cells.specs.declared.Cell.{Cell}
use Rattle.cells.specs.declared.Counts.{Counts}
use Rattle.cells.specs.declared.Face.{Face}
use Rattle.cells.specs.declared.Manner.{Manner}
use Rattle.cells.specs.declared.Refusal.{Refusal}
use Rattle.cells.specs.Checks.{Verdict, by_verdict}
use Rattle.cells.specs.Faces.{back_across}
use Rattle.cells.specs.Manners.{is_tested, usual}
use Rattle.cells.proofs.Signed.{up}
use Rattle.lines.specs.Steps.{X, Y, Z, total}
use Rattle.lines.specs.Preference.{Preference, comes_before, by_rule}
use Rattle.lines.specs.Lines.{differences, longest, six_cell, cell_26, number_26}
use Rattle.lines.proofs.Centres.{within_26, grows_26}
use Rattle.lines.proofs.Cells.{six_start, six_different, six_misses_none, six_at_26}
use Rattle.grids.specs.Grid.{byte_of, clear, solid}
use Rattle.grids.specs.Marks.{complete, marked}
use Rattle.grids.proofs.Marking.{marked_complete}
use Rattle.walks.specs.declared.Walker.{Walker}
use Rattle.walks.specs.declared.Walker.TheVariants.{Plain, Adaptive}
use Rattle.walks.specs.declared.Place.{Place}
use Rattle.walks.specs.declared.Hit.{Hit}
use Rattle.walks.specs.declared.FirstHit.{FirstHit}
use Rattle.walks.specs.Walks.{Conduct, conduct, is_cell, hit_at, six_count, next_adaptive, next_cell, walk, walk_of}
use Rattle.walks.specs.Answers.{entered_at, first_hit, Finds}
use Rattle.grids.specs.Inside.{walk_check, InGrid}
use Rattle.walks.proofs.Runs.{plain_first, by_one, visits_all}
use Rattle.walks.specs.Numbers.{hits_at, end_of, reads_of, answer_at}
use Rattle.grids.proofs.Inside.{accepted}
use Rattle.walks.proofs.Inside.{six_inside}
use Rattle.walks.proofs.Find.{same_is_cell}
use Rattle.walks.proofs.Safe.{complete_safe}
use Rattle.walks.proofs.Numbers.{adaptive_next, Way, face, long, way, walk_length, walk_last}
use Rattle.walks.proofs.Testing.{hit_solid, not_solid}
use Rattle.walks.proofs.Modes.{as_usual}
use Rattle.walks.proofs.Long.{go_long, go_face}
use Rattle.walks.proofs.Places.{enters, never_falls, face_is, some_face, face_leads_back, num_made}
use Rattle.walks.proofs.Story.{first_hit_is, walk_stops, end_below, no_earlier, not_invented, ends_alike, reads_no_more, plain_clear, plain_clear_reads, adaptive_clear_most, adaptive_clear_least}
use Rattle.survey.proofs.Tests.{neither}
use Rattle.structs.specs.Faces.{face_number}
use Rattle.claims.specs.Story.{SameStory, hits, clears, refusals, OneStory, NeverInvented, NothingInTheWay, Reads, WalksEnd, FirstOnLine, HitInside, MarkedFirst, HitOnce, WrongWalks, OnTheLine, HitPlace, CameInBy, HitFace, StepByStep, AdaptiveStep, AsItsWalk, long_hit}
use Rattle.claims.specs.Example.{at, example_counts, marked_cells}
use Rattle.claims.proofs.Grids.{says_complete}

-- what an answer carries
unfoldable pub hit_or : Hit → Result FirstHit Refusal → Hit
hit_or k (Ok (FirstHit.Hit h)) = h
hit_or k (Ok (FirstHit.Clear r)) = k
hit_or k (Err r) = k

unfoldable pub reads_or : ℕ → Result FirstHit Refusal → ℕ
reads_or k (Ok (FirstHit.Hit h)) = k
reads_or k (Ok (FirstHit.Clear r)) = r
reads_or k (Err r) = k

-- 0 a hit, 1 clear, 2 refused
unfoldable pub kind : Result FirstHit Refusal → ℕ
kind (Ok (FirstHit.Hit h)) = 0
kind (Ok (FirstHit.Clear r)) = 1
kind (Err r) = 2

-- answers at one place of the line say the same where both are hits, with one code, or neither is
pub told_alike : (t u : Bool) → u ≡ t → (c : Cell) (place : Place) {x y r s : ℕ} → (t ≡ true → x ≡ y) → s ≤ r →
    SameStory (Ok (cond t (FirstHit.Hit (record { cell = c; code = x; place = place; reads = r })) (FirstHit.Clear r)))
    (Ok (cond u (FirstHit.Hit (record { cell = c; code = y; place = place; reads = s })) (FirstHit.Clear s)))
told_alike true true e c place code fewer = hits refl (code refl) refl fewer
told_alike false false e c place code fewer = clears fewer
told_alike true false e c place code fewer = absurd (true≢false (sym e))
told_alike false true e c place code fewer = absurd (true≢false e)

module _ (how : Manner) (n : Counts) (l : List ℕ) (p q : Cell) where
  -- its conduct, and which axis goes first in a tie
  abbrev C : Conduct
  C = conduct how p q

  abbrev R : Preference
  R = by_rule how.rule p q

  abbrev check : Verdict
  check = walk_check n (length l) p q

  -- where a walk ends, and the answer there
  abbrev E : Walker → ℕ
  E w = end_of C n l p q w

  abbrev answered : Walker → FirstHit
  answered w = answer_at C n l p q (E w) (reads_of C n l p q w)

  pub found : {w : Walker} {r : (Result FirstHit Refusal)} → Finds w how n l p q r → r ≡ by_verdict Err (Ok (answered w)) check
  found {w} h = h.says ∙ first_hit_is how n l p q w

  -- where the marks are complete at k, from 2 on, and the ends are in the grid, both walks end at the same number
  pub alike : (k : ℕ) → 2 ≤ k → check ≡ Ok tt → complete k n l ≡ true → E Adaptive ≡ E Plain
  alike k two fine whole =
      let a = accepted n (length l) p q fine in
      ends_alike C n l p q k two a.p_in a.q_in (complete_safe k n l a.shaped whole)

  same_answers : (k : ℕ) → 2 ≤ k → complete k n l ≡ true → (v : Verdict) → check ≡ v →
      SameStory (by_verdict Err (Ok (answered Plain)) v) (by_verdict Err (Ok (answered Adaptive)) v)
  same_answers k two whole (Err r) h = refusals
  same_answers k two whole (Ok _) h =
      let e = alike k two h whole in
      subst (λ k. SameStory (Ok (answered Plain)) (Ok (answer_at C n l p q k (reads_of C n l p q Adaptive)))) (sym e)
      (told_alike (hits_at C n l p q (E Plain)) _ refl _ _ (λ hit. refl) (reads_no_more C n l p q e))

  pub one_story : (k : ℕ) → 2 ≤ k → OneStory k how n l p q
  one_story k two = record { story = λ whole rp ra hp ha. subst₂ SameStory (sym (found hp)) (sym (found ha)) (same_answers k two whole check refl) }

  -- ---- in any grid

  -- the hit at number e, after r reads
  abbrev hit_of : (e r : ℕ) → Hit
  hit_of e r = record { cell = six_cell R p q e; code = byte_of n l (six_cell R p q e); place = entered_at R p q e; reads = r }

  -- an answer that is a hit is the hit at the walk's end
  hit_told : (v : Verdict) (k : Hit) (e r : ℕ) → Ok (FirstHit.Hit k) ≡ by_verdict Err (Ok (answer_at C n l p q e r)) v →
      (v ≡ Ok tt) × (hits_at C n l p q e ≡ true) × (k ≡ hit_of e r)
  unfolding kind hit_or
  hit_told (Err x) k e r h = absurd (let z : ◌≡◌ {A = ℕ} 0 2 = ap kind h in omega arith)
  hit_told (Ok _) k e r h = by (hits_at C n l p q e) refl h
    where
      by : (b : Bool) → hits_at C n l p q e ≡ b →
          ◌≡◌ {A = Result FirstHit Refusal} (Ok (FirstHit.Hit k)) (Ok (cond b (FirstHit.Hit (hit_of e r)) (FirstHit.Clear r))) →
          (◌≡◌ {A = Verdict} (Ok tt) (Ok tt)) × (hits_at C n l p q e ≡ true) × (k ≡ hit_of e r)
      by true b h = (refl, b, ap (hit_or k) h)
      by false b h = absurd (let z : ◌≡◌ {A = ℕ} 0 1 = ap kind h in omega arith)

  pub hit_found : (w : Walker) (k : Hit) → Finds w how n l p q (Ok (FirstHit.Hit k)) →
      (check ≡ Ok tt) × (hits_at C n l p q (E w) ≡ true) × (k ≡ hit_of (E w) (reads_of C n l p q w))
  hit_found w k h = hit_told check k (E w) (reads_of C n l p q w) (found h)

  -- an answer that is clear is so at the walk's end
  clear_told : (v : Verdict) (k e r : ℕ) → Ok (FirstHit.Clear k) ≡ by_verdict Err (Ok (answer_at C n l p q e r)) v →
      (v ≡ Ok tt) × (hits_at C n l p q e ≡ false) × (k ≡ r)
  unfolding kind reads_or
  clear_told (Err x) k e r h = absurd (let z : ◌≡◌ {A = ℕ} 1 2 = ap kind h in omega arith)
  clear_told (Ok _) k e r h = by _ (hits_at C n l p q e) refl h
    where
      by :
          (there : Hit) (b : Bool) → hits_at C n l p q e ≡ b →
          ◌≡◌ {A = Result FirstHit Refusal} (Ok (FirstHit.Clear k)) (Ok (cond b (FirstHit.Hit there) (FirstHit.Clear r))) →
          (◌≡◌ {A = Verdict} (Ok tt) (Ok tt)) × (hits_at C n l p q e ≡ false) × (k ≡ r)
      by there true b h = absurd (let z : ◌≡◌ {A = ℕ} 1 0 = ap kind h in omega arith)
      by there false b h = (refl, b, ap (reads_or k) h)

  pub clear_found : (w : Walker) (k : ℕ) → Finds w how n l p q (Ok (FirstHit.Clear k)) →
      (check ≡ Ok tt) × (hits_at C n l p q (E w) ≡ false) × (k ≡ reads_of C n l p q w)
  clear_found w k h = clear_told check k (E w) (reads_of C n l p q w) (found h)

  -- a walk that passed its tests is not refused
  pub not_refused : (w : Walker) → check ≡ Ok tt → (r : Refusal) → Finds w how n l p q (Err r) → ⊥
  unfolding kind
  not_refused w fine r h = by (hits_at C n l p q (E w)) _ _ (found h ∙ ap (by_verdict Err (Ok (answered w))) fine)
    where
      by : (b : Bool) (k : Hit) (m : ℕ) → Err r ≡ Ok (cond b (FirstHit.Hit k) (FirstHit.Clear m)) → ⊥
      by true k m e = let z : ◌≡◌ {A = ℕ} 2 0 = ap kind e in omega arith
      by false k m e = let z : ◌≡◌ {A = ℕ} 2 1 = ap kind e in omega arith

  pub hit_inside : HitInside how n l p q
  hit_inside =
      record {
        inside = λ w h a.
            let (fine, hit, there) = hit_found w h a in
            let i = accepted n (length l) p q fine in
            subst (InGrid n) (sym (ap (λ k. k.cell) there)) (six_inside R n p q i.p_in i.q_in (E w) (end_below C n l p q w));
      }

  pub hit_place : HitPlace how n l p q
  hit_place =
      record {
        there = λ w h a.
            let (fine, hit, there) = hit_found w h a in
            let cell = ap (λ k. k.cell) there in
            let code = ap (λ k. k.code) there in (
              E w,
              record {
                most = end_below C n l p q w;
                cell = cell;
                code = code ∙ ap (byte_of n l) (sym cell);
                solid_there = ap solid code ∙ hit_solid C n l p q (E w) hit;
                place = ap (λ k. k.place) there;
              },
            );
      }

  pub hit_face : HitFace how n l p q
  hit_face =
      record {
        none = λ w h a. let (s, on) = hit_place.there w h a in none_at h s on.cell on.place;
        crossed = λ w h a far. let (s, on) = hit_place.there w h a in crossed_at h s on far;
      }
    where
      none_at : (h : Hit) (s : ℕ) → h.cell ≡ six_cell R p q s → h.place ≡ entered_at R p q s → (h.place.face ≡ Face.None) ↔ (h.cell ≡ p)
      none_at h zero cell place = (λ e. cell ∙ six_start R p q, λ e. ap (λ k. k.face) place)
      none_at h (suc s) cell place = (
        λ e. absurd (some_face R p q s (sym (ap (λ k. k.face) place) ∙ e)),
        λ e. absurd (omega (arith, six_different R p q (suc s) 0 (sym cell ∙ e ∙ sym (six_start R p q)))),
      )

      crossed_at : (h : Hit) (s : ℕ) → OnTheLine R n l p q h s → (h.cell ≡ p → ⊥) → (a : Axis) × CameInBy R p q h a
      crossed_at h zero on far = absurd (far (on.cell ∙ six_start R p q))
      crossed_at h (suc s) on far =
          let a = enters R p q s in (
            a,
            record {
              face = subst (λ k. (k.face ≡ Face.Plus a) ⊎ (k.face ≡ Face.Minus a)) (sym on.place) (face_is R p q s);
              number = s;
              most = on.most;
              cell = on.cell;
              before = ap₂ (λ k c. back_across k.face c) on.place on.cell ∙ face_leads_back R p q s;
              num = ap (λ k. k.num) on.place ∙ num_made R p q s ∙ ap (λ c. 2 * differences p c a - 1) (sym on.cell);
              den = ap (λ k. k.den) on.place;
            },
          )

  pub first_on_line : FirstOnLine how n l p q
  first_on_line =
      record {
        hit = λ h a.
            let (fine, hit, there) = hit_found Plain h a in (
              E Plain,
              record {
                most = end_below C n l p q Plain;
                cell = ap (λ k. k.cell) there;
                hit_there = ap (λ k. hit_at C n l p k.cell) there ∙ hit;
                none_before = plain_first (hits_at C n l p q) (total (differences p q)) suc (by_one (total (differences p q)));
                reads = omega (
                  arith,
                  ap (λ k. k.reads) there,
                  visits_all (hits_at C n l p q) (total (differences p q)) (six_count p q) 0 (omega arith) (omega arith),
                );
              },
            );
        none = λ reads a.
            let (fine, clear, many) = clear_found Plain reads a in
            plain_clear C n l p q clear;
      }

  pub never_invented : NeverInvented how n l p q
  never_invented =
      record {
        plain_too = λ k rp ha hp.
            let (fine, hit, is) = hit_found Adaptive k ha in
            let there : Hit = hit_of (E Plain) (reads_of C n l p q Plain) in (
              there,
              found hp ∙ ap (by_verdict Err (Ok (answered Plain))) fine
                  ∙ ap (λ b. Ok (cond b (FirstHit.Hit there) (FirstHit.Clear (reads_of C n l p q Plain)))) (not_invented C n l p q hit),
              subst (λ h. there.place.num * h.place.den ≤ h.place.num * there.place.den) (sym is)
                  (never_falls R p q (E Plain) (E Adaptive) (no_earlier C n l p q) (end_below C n l p q Adaptive)),
              record {
                of_c = E Plain;
                of_d = E Adaptive;
                c_is = refl;
                d_is = ap (λ h. h.cell) is;
                order = no_earlier C n l p q;
                most = end_below C n l p q Adaptive;
              },
            );
      }

  -- ---- clear

  pub nothing_in_the_way : (k : ℕ) → 2 ≤ k → NothingInTheWay k how n l p q
  nothing_in_the_way k two =
      record {
        open_way = λ whole reads ha m d c share inside tested.
            let (fine, none, many) = clear_found Adaptive reads ha in
            let free = subst (λ e. hits_at C n l p q e ≡ false) (alike k two fine whole) none in
            let (s, le, is) = six_misses_none R p q m d c share inside in
            subst (λ w. solid (byte_of n l w) ≡ false) is
            (not_solid C n l p q s (plain_clear C n l p q free s le) (λ e. ap is_tested (tested (sym is ∙ e))));
      }

  pub reads_hold : Reads how n l p q
  reads_hold =
      record {
        plain = λ reads hp.
            let (fine, none, many) = clear_found Plain reads hp in
            many ∙ plain_clear_reads C n l p q none;
        adaptive = λ reads ha.
            let (fine, none, many) = clear_found Adaptive reads ha in
            (omega (arith, adaptive_clear_least C n l p q none), omega (arith, adaptive_clear_most C n l p q none));
      }

  pub walks_end : WalksEnd how n l p q
  walks_end = record { ends = walk_stops C n l p q }

  pub as_its_walk : AsItsWalk how n l p q
  as_its_walk =
      record {
        hit = λ w h a.
            let (fine, hit, there) = hit_found w h a in
            (ap (λ k. k.cell) there ∙ sym (walk_last C n l p q w p), ap (λ k. k.reads) there ∙ sym (walk_length C n l p q w));
        clear = λ w reads a.
            let (fine, none, many) = clear_found w reads a in
            let free = ap (hit_at C n l p) (walk_last C n l p q w p) ∙ none in (
              ⊎_elim (λ hit. absurd (let z : ◌≡◌ {A = ℕ} 0 1 = ap (λ b. cond b 1 0) (sym free ∙ hit) in omega arith)) (λ last. last)
                  (walk_stops C n l p q w),
              many ∙ sym (walk_length C n l p q w),
            );
      }

  pub hit_once : HitOnce how n l p q
  hit_once = record { once = λ w r s h k. h.says ∙ sym k.says }

-- ---- step by step

-- of any walk, from any cell
module _ (hit : Cell → Bool) (next : Cell → Cell) (q d : Cell) where
  walk_some : (fuel : ℕ) (w : Cell) → 0 < length (walk hit next q (suc fuel) w)
  unfolding walk
  walk_some fuel w = omega arith

  walk_starts : (fuel : ℕ) (w : Cell) → 0 < length (walk hit next q fuel w) → get_or (walk hit next q fuel w) 0 d ≡ w
  unfolding walk
  walk_starts zero w some = absurd (omega arith)
  walk_starts (suc fuel) w some = refl

  -- at a cell that is not the last: no hit and not Q, and what comes next
  Going : List Cell → ℕ → Type 0
  Going cells i = (hit (get_or cells i d) ≡ false) × (is_cell (get_or cells i d) q ≡ false) × (get_or cells (suc i) d ≡ next (get_or cells i d))

  walk_goes : (fuel : ℕ) (w : Cell) (i : ℕ) → suc i < length (walk hit next q fuel w) → Going (walk hit next q fuel w) i
  unfolding walk Going
  walk_goes zero w i lt = absurd (omega arith)
  walk_goes (suc fuel) w i lt = by (hit w || is_cell w q) refl i lt (walk_goes fuel (next w))
    where
      rest : List Cell
      rest = walk hit next q fuel (next w)

      by : (t : Bool) → (hit w || is_cell w q) ≡ t → (i : ℕ) → suc i < length (w ∷ cond t [] rest) → ((j : ℕ) → suc j < length rest → Going rest j) →
          Going (w ∷ cond t [] rest) i
      by true e i lt further = absurd (omega arith)
      by false e zero lt further = let (h, c) = neither (hit w) (is_cell w q) e in (h, c, walk_starts fuel (next w) (omega arith))
      by false e (suc i) lt further = further i (omega arith)

module _ (how : Manner) (n : Counts) (l : List ℕ) (p q : Cell) where
  pub step_by_step : StepByStep how n l p q
  unfolding walk_of Going
  step_by_step = record {
    starts = λ w. (some w, walk_starts (hit_at (conduct how p q) n l p) (next_cell w (by_rule how.rule p q) n l p q) q p (six_count p q) p (some w));
    passes = λ w i lt.
        let (free, other, on) = going w i lt in
        (free, λ e. let z : ◌≡◌ {A = ℕ} 0 1 = ap (λ b. cond b 1 0) (sym other ∙ same_is_cell _ q e) in omega arith);
    goes = λ w i lt. (going w i lt).2;
  }
    where
      some : (w : Walker) → 0 < length (walk_of w (conduct how p q) n l p q)
      some w = rw (add-one (total (differences p q))) (walk_some (hit_at (conduct how p q) n l p)
          (next_cell w (by_rule how.rule p q) n l p q) q p (total (differences p q)) p)

      going : (w : Walker) (i : ℕ) → suc i < length (walk_of w (conduct how p q) n l p q) →
          Going (hit_at (conduct how p q) n l p) (next_cell w (by_rule how.rule p q) n l p q) q p (walk_of w (conduct how p q) n l p q) i
      going w = walk_goes (hit_at (conduct how p q) n l p) (next_cell w (by_rule how.rule p q) n l p q) q p (six_count p q) p

module _ (r : Preference) (n : Counts) (l : List ℕ) (p q : Cell) where
  pub adaptive_step : AdaptiveStep r n l p q
  adaptive_step =
      record {
        long = λ m lt empty.
            let is = six_at_26 r p q m (omega arith) in
            let most = within_26 (differences p q) (m + 1) (omega arith) in
            ap (next_adaptive r n l p q) is
            ∙ adaptive_next r n l p q (number_26 p q m) (omega (arith, grows_26 (differences p q) m lt, most X, most Y, most Z))
            ∙ ap (six_cell r p q) (go_long r n l p q m lt (ap (λ c. clear (byte_of n l c)) (sym is) ∙ eq-eqb _ 0 empty))
            ∙ sym (six_at_26 r p q (m + 1) (omega arith));
        short = λ s lt.
            ⊎_elim
            (λ other. adaptive_next r n l p q s lt ∙ ap (six_cell r p q) (go_face r n l p q s (ne_eqb _ 0 other)))
            (λ none. adaptive_next r n l p q s lt ∙ ap (six_cell r p q) (by_face s none (way r n l p q s lt)));
      }
    where
      by_face : (s : ℕ) {t : ℕ} → ((m : ℕ) → m ≤ longest (differences p q) → cell_26 p q m ≡ six_cell r p q s → ⊥) → Way r n l p q s t → t ≡ suc s
      by_face s none face = refl
      by_face s none (long m e h) = absurd (none m (omega (arith, h.below)) (sym h.cell))

-- ---- mark, then walk

pub marked_first : (n : Counts) (l exit : List ℕ) → MarkedFirst n l exit
marked_first n l exit = record {
  premise = λ m. ap (complete 3 n) (m.holds ∙ ap (by_verdict (λ s. l) (marked 3 n l)) (sym m.says))
      ∙ marked_complete 3 n l;
  asked = (says_complete n l).yes;
}

-- ---- wrong walks

-- what a walk that hits says of the face
unfoldable pub face_or : Result FirstHit Refusal → Face
face_or (Ok (FirstHit.Hit h)) = h.place.face
face_or (Ok (FirstHit.Clear r)) = Face.None
face_or (Err r) = Face.None

-- where P is not solid and comes before Q, an answer is the default's
by_default : {n : Counts} {l : List ℕ} {p q : Cell} {r : (Result FirstHit Refusal)} (w : Walker) (how : Manner) → solid (byte_of n l p) ≡ false → comes_before q p ≡ false →
    Finds w how n l p q r → r ≡ first_hit w usual n l p q
by_default {n} {l} {p} {q} w how free first h = h.says ∙ as_usual n l p q w how free first

-- the hit in the program's venue is entered by +y
by_y : (w : Walker) → face_or (first_hit w usual example_counts marked_cells (at 0 0 0) (at 3 1 0)) ≡ Face.Plus Y
unfolding first_hit face_or
by_y Plain = refl
by_y Adaptive = refl

pub wrong_walks : WrongWalks
unfolding first_hit kind reads_or hit_or face_or comes_before
wrong_walks =
    record {
      plain_refuses = λ how r h. absurd (let z : ◌≡◌ {A = ℕ} 2 0 = ap kind (by_default Plain how refl refl h) in omega arith);
      adaptive_refuses = λ how r h. absurd (let z : ◌≡◌ {A = ℕ} 2 1 = ap kind (by_default Adaptive how refl refl h) in omega arith);
      secretly_plain = λ how r h k.
          absurd (let z : ◌≡◌ {A = ℕ} 0 1 = ap kind (sym (by_default Plain how refl refl h) ∙ by_default Adaptive how refl refl k) in omega arith);
      plain_in_reads = λ how h. absurd (let z : ◌≡◌ {A = ℕ} 4 3 = ap (reads_or 0) (by_default Adaptive how refl refl h) in omega arith);
      plain_always_clear = λ how reads h. absurd (let z : ◌≡◌ {A = ℕ} 1 0 = ap kind (by_default Plain how refl refl h) in omega arith);
      adaptive_always_clear = λ how reads h. absurd (let z : ◌≡◌ {A = ℕ} 1 0 = ap kind (by_default Adaptive how refl refl h) in omega arith);
      reads_made_up = λ how reads h. ap (reads_or 0) (by_default Adaptive how refl refl h);
      long_at_any_clear = λ how h. absurd (let z : ◌≡◌ {A = ℕ} 3 4 = ap (reads_or 0) (by_default Adaptive how refl refl h) in omega arith);
      place_of_first_face = λ how face h.
          absurd (let z : ◌≡◌ {A = ℕ} 1 3 = ap (λ a. (hit_or (long_hit 0 1 face) a).place.num) (by_default Adaptive how refl refl h) in omega arith);
      face_of_first_face = λ how num den face other h. other (ap face_or (by_default Adaptive how refl refl h));
      sign_turned = λ w how num den reads h.
          absurd (let z : ◌≡◌ {A = ℕ} 0 2 = ap (λ f. up (face_number f)) (ap face_or (by_default w how refl refl h) ∙ by_y w) in omega arith);
      face_at_p = λ w how num den reads face other h. other (((hit_face how example_counts marked_cells (at 1 1 0) (at 3 1 0)).none w _ h).1 refl);
    }
