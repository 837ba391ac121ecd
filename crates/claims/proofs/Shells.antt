-- The claims about shells of marks: over k from the laws, and faces alone by computation on named grids. Assumes nothing.
use Rattle.std.specs.Prelude.{Ok, Err, Result}
use Rattle.cells.specs.declared.Refusal.{Refusal}
use Prim.Native.Nat.{ℕ, ◌≤◌}
use mathlib.Core.Path.{◌≡◌, refl, sym, ap, ◌∙◌, subst, subst₂}
use mathlib.Core.Bool.{true, false, true≢false}
use mathlib.Core.List.{List}
use native.Mathlib.Omega.{arith}
use lib.Dec.{lit<}
use lib.Ieee.{eq, le, lt, of_int, div, sub}
use lib.IntN.{nat_abs}
use lib.ListN.{length}
use Rattle.cells.specs.declared.Axis.TheVariants.{Z}
use Rattle.cells.specs.declared.Cell.{Cell}
use Rattle.cells.specs.declared.Counts.{Counts}
use Rattle.cells.specs.declared.End.TheVariants.{P, Q}
use Rattle.cells.specs.declared.Face.TheVariants as Face
use Rattle.cells.specs.declared.Manner.{Manner}
use Rattle.cells.specs.declared.Rule.TheVariants.{One, Two}
use Rattle.cells.specs.declared.Start.{Start}
use Rattle.cells.specs.declared.Start.TheVariants.{Untested, Tested}
use Rattle.cells.specs.Checks.{Verdict, by_verdict}
use Rattle.cells.specs.Manners.{usual, tested_by}
use Rattle.lines.specs.Preference.{comes_before}
use Rattle.lines.specs.Lines.{six_cell}
use Rattle.lines.specs.Segment.{Share, InOpen}
use Rattle.grids.specs.Grid.{byte_index, byte_of, solid, shape}
use Rattle.grids.specs.Inside.{walk_check}
use Rattle.grids.specs.Marks.{any, touches_solid, marked_byte, marked, complete}
use Rattle.grids.proofs.Marking.{marked_length, marked_same, marked_keeps, marked_complete, marked_clear, complete_below, complete_from_3}
use Rattle.walks.specs.declared.Walker.{Walker}
use Rattle.walks.specs.declared.Walker.TheVariants.{Plain, Adaptive}
use Rattle.walks.specs.declared.Hit.{Hit}
use Rattle.walks.specs.declared.FirstHit.{FirstHit}
use Rattle.walks.specs.Answers.{first_hit, Finds}
use Rattle.walks.specs.Numbers.{hits_at, end_of, reads_of, answer_at}
use Rattle.walks.specs.Walks.{Conduct, conduct}
use Rattle.walks.proofs.Modes.{as_usual}
use Rattle.walks.proofs.MoreClear.{MoreClear, same_hits, plain_alike, clearer_reads}
use Rattle.walks.proofs.Testing.{hit_solid}
use Rattle.survey.specs.Survey.{placement_check, look_up}
use Rattle.sight.specs.declared.Sight.TheVariants as Sight
use Rattle.sight.specs.Sight.{Sees}
use Rattle.claims.proofs.Cases.{on_axes}
use Rattle.claims.specs.Example.{counts, at, faces_there, faces_back, far_counts, faces_inside}
use Rattle.claims.specs.Points.{one_metre}
use Rattle.claims.specs.Rules.{AdaptiveBothWays}
use Rattle.claims.specs.Shells.{AsksLess, DemandThree, Shells, NoDearer, FacesAlone, tie_hit, tie_reads, inside_hit, camera_inside, ball_inside}
use Rattle.claims.specs.Story.{SameStory, refusals}
use Rattle.claims.proofs.Rules.{told_clear, adaptive_both_ways}
use Rattle.claims.proofs.Sights.{as_the_walk, nothing_in_sight}
use Rattle.claims.proofs.Story.{kind, told_alike, found, alike, one_story, nothing_in_the_way}

pub asks_less : (n : Counts) (l : List ℕ) → AsksLess n l
asks_less n l =
    record {
      below = λ j k. complete_below j k n l;
      full_then_thin = complete_below 2 3 n l (omega arith);
      full_then_any = λ k. complete_from_3 k n l;
    }

enough : (k : ℕ) → 2 ≤ k → DemandThree k
enough k two =
    record {
      story = λ how n l p q. one_story how n l p q k two;
      way = λ how n l p q. nothing_in_the_way how n l p q k two;
      sight = λ how n l at camera ball. nothing_in_sight how n l at camera ball k two;
      back = adaptive_both_ways k two;
    }

-- ---- the same cells marked at a smaller k

module _ (how : Manner) (n : Counts) (p q : Cell) (a b : List ℕ) (clearer : MoreClear n a b) where
  abbrev C : Conduct
  C = conduct how p q

  -- where the marks of both are complete, from 2 on, the ends lie in the grid and solid cells have one code
  both_complete : (j k : ℕ) → 2 ≤ j → 2 ≤ k → complete j n a ≡ true → complete k n b ≡ true → walk_check n (length a) p q ≡ Ok tt →
      walk_check n (length b) p q ≡ Ok tt → ((c : Cell) → solid (byte_of n b c) ≡ true → byte_of n b c ≡ byte_of n a c) →
      SameStory (Ok (answer_at C n b p q (end_of C n b p q Adaptive) (reads_of C n b p q Adaptive)))
      (Ok (answer_at C n a p q (end_of C n a p q Adaptive) (reads_of C n a p q Adaptive)))
  both_complete j k two-j two-k whole-a whole-b fine-a fine-b codes =
      let last : ℕ = end_of C n b p q Adaptive in
      let e : end_of C n a p q Adaptive ≡ last =
      alike how n a p q j two-j fine-a whole-a ∙ plain_alike n a b clearer p q C ∙ sym (alike how n b p q k two-k fine-b whole-b) in
      subst (λ t. SameStory (Ok (answer_at C n b p q last (reads_of C n b p q Adaptive))) (Ok (answer_at C n a p q t (reads_of C n a p q Adaptive)))) (sym e)
      (told_alike (hits_at C n b p q last) (hits_at C n a p q last) (ap (λ hits. hits last) (same_hits n a b clearer p q C)) _ _
      (λ hit. codes (six_cell C.preference p q last) (hit_solid C n b p q last hit)) (clearer_reads n a b clearer p q C e))

module _ (how : Manner) (n : Counts) (l : List ℕ) (p q : Cell) (j k : ℕ) (le : j ≤ k) where
  fewer_marks : MoreClear n (marked j n l) (marked k n l)
  fewer_marks =
      record {
        same_solid = λ c. (marked_same j n l).alike (byte_index n c) ∙ sym ((marked_same k n l).alike (byte_index n c));
        clear_too = λ c. marked_clear j k n l (byte_index n c) le;
      }

  same_code : (c : Cell) → solid (byte_of n (marked k n l) c) ≡ true → byte_of n (marked k n l) c ≡ byte_of n (marked j n l) c
  same_code c hit =
      let e = sym ((marked_same k n l).alike (byte_index n c)) ∙ hit in
      marked_keeps k n l (byte_index n c) e ∙ sym (marked_keeps j n l (byte_index n c) e)

  -- the answer over the cells marked at i, by the test of the shape that both share
  abbrev told_at : ℕ → Verdict → Result FirstHit Refusal
  told_at i = by_verdict Err
      (Ok
      (answer_at (conduct how p q) n (marked i n l) p q (end_of (conduct how p q) n (marked i n l) p q Adaptive)
      (reads_of (conduct how p q) n (marked i n l) p q Adaptive)))

  found_marked : (i : ℕ) {r : (Result FirstHit Refusal)} → Finds Adaptive how n (marked i n l) p q r → r ≡ told_at i (walk_check n (length l) p q)
  found_marked i h = found how n (marked i n l) p q h ∙ ap (λ long. told_at i (walk_check n long p q)) (marked_length i n l)

  by_test : 2 ≤ j → (v : Verdict) → walk_check n (length l) p q ≡ v → SameStory (told_at k v) (told_at j v)
  by_test two (Err r) h = refusals
  by_test two (Ok _) h =
      both_complete how n p q (marked j n l) (marked k n l) fewer_marks j k two (omega arith) (marked_complete j n l) (marked_complete k n l)
      (ap (λ long. walk_check n long p q) (marked_length j n l) ∙ h) (ap (λ long. walk_check n long p q) (marked_length k n l) ∙ h) same_code

pub no_dearer : (how : Manner) (n : Counts) (l : List ℕ) (p q : Cell) → NoDearer how n l p q
no_dearer how n l p q =
    record {
      reads = λ j k two le at_k at_j hk hj.
          subst₂ SameStory (sym (found_marked how n l p q j k le k hk)) (sym (found_marked how n l p q j k le j hj))
          (by_test how n l p q j k le two (walk_check n (length l) p q) refl);
    }

-- ---- faces alone

-- a hit and a clear walk are two stories
two_stories : (h : Hit) (reads : ℕ) → SameStory (Ok (FirstHit.Hit h)) (Ok (FirstHit.Clear reads)) → ⊥
unfolding kind
two_stories h reads s = let (r, e) = told_clear s in let z : ◌≡◌ {A = ℕ} 0 1 = ap kind e in omega arith

-- from a P that is not solid and does not come after Q, a walk finds in every manner what it finds by default
as_default : (n : Counts) (l : List ℕ) (p q : Cell) (w : Walker) (how : Manner) → solid (byte_of n l p) ≡ false → comes_before q p ≡ false →
    Finds w how n l p q (first_hit w usual n l p q)
as_default n l p q w how free first = record { says = sym (as_usual n l p q w how free first) }

plain_there : (how : Manner) → Finds Plain how (counts 2 2 2) faces_there (at 0 0 0) (at 1 1 1) (Ok (FirstHit.Hit (tie_hit (at 0 1 1) (Face.Plus Z))))
unfolding first_hit comes_before
plain_there how = as_default (counts 2 2 2) faces_there (at 0 0 0) (at 1 1 1) Plain how refl refl

adaptive_there : (how : Manner) → Finds Adaptive how (counts 2 2 2) faces_there (at 0 0 0) (at 1 1 1) (Ok (FirstHit.Clear 2))
unfolding first_hit comes_before
adaptive_there how = as_default (counts 2 2 2) faces_there (at 0 0 0) (at 1 1 1) Adaptive how refl refl

-- the way back by rule 2 begins at a near cell, and goes by x onto the solid one
hits_back : kind (first_hit Adaptive (tested_by Two) (counts 2 2 2) faces_there (at 1 1 1) (at 0 0 0)) ≡ 0
unfolding first_hit kind
hits_back = refl

one_way : AdaptiveBothWays 1 (counts 2 2 2) faces_there (at 0 0 0) (at 1 1 1) → ⊥
unfolding complete touches_solid any kind
one_way ways =
    let (reads, e) = ways.clear refl 2 _ (adaptive_there (tested_by Two)) (record { says = refl }) in
    let z : ◌≡◌ {A = ℕ} 0 1 = sym hits_back ∙ ap kind e in
    omega arith

plain_back : (start : Start) →
    Finds Plain (record { start = start; rule = Two }) (counts 2 2 2) faces_back (at 1 1 1) (at 0 0 0) (Ok (FirstHit.Hit (tie_hit (at 0 1 0) (Face.Minus Z))))
unfolding first_hit
plain_back Untested = record { says = refl }
plain_back Tested = record { says = refl }

adaptive_back : (start : Start) → Finds Adaptive (record { start = start; rule = Two }) (counts 2 2 2) faces_back (at 1 1 1) (at 0 0 0) (Ok (FirstHit.Clear 2))
unfolding first_hit
adaptive_back Untested = record { says = refl }
adaptive_back Tested = record { says = refl }

both_clear : (w : Walker) (start : Start) →
    Finds w (record { start = start; rule = One }) (counts 2 2 2) faces_back (at 1 1 1) (at 0 0 0) (Ok (FirstHit.Clear (tie_reads w)))
unfolding first_hit
both_clear Plain Untested = record { says = refl }
both_clear Plain Tested = record { says = refl }
both_clear Adaptive Untested = record { says = refl }
both_clear Adaptive Tested = record { says = refl }

-- 19 over 24 of the way the segment is inside (2,2,2)
share : Share 19 24
share = record { some = lit< tt; most = omega arith }

entered : InOpen (at 0 0 0) (at 3 2 2) 19 24 (at 2 2 2)
entered =
    record {
      from = on_axes _ (record { lt = tt }) (record { lt = tt }) (record { lt = tt });
      upto = on_axes _ (record { lt = tt }) (record { lt = tt }) (record { lt = tt });
    }

plain_inside : (how : Manner) → Finds Plain how far_counts faces_inside (at 0 0 0) (at 3 2 2) (Ok (FirstHit.Hit inside_hit))
unfolding first_hit comes_before
plain_inside how = as_default far_counts faces_inside (at 0 0 0) (at 3 2 2) Plain how refl refl

adaptive_inside : (how : Manner) → Finds Adaptive how far_counts faces_inside (at 0 0 0) (at 3 2 2) (Ok (FirstHit.Clear 4))
unfolding first_hit comes_before
adaptive_inside how = as_default far_counts faces_inside (at 0 0 0) (at 3 2 2) Adaptive how refl refl

-- the way from a cell that is (0,0,0) to one that is (3,2,2) is not free
not_free : (how : Manner) (from to : Cell) → from ≡ at 0 0 0 → to ≡ at 3 2 2 →
    ((m d : ℕ) (c : Cell) → Share m d → InOpen from to m d c → (c ≡ from → how.start ≡ Tested) → solid (byte_of far_counts faces_inside c) ≡ false) → ⊥
not_free how from to f t free =
    true≢false (free 19 24 (at 2 2 2) share (subst₂ (λ v w. InOpen v w 19 24 (at 2 2 2)) (sym f) (sym t) entered)
    (λ e. absurd (let z : ◌≡◌ {A = ℕ} 2 0 = ap (λ c. nat_abs c.x) (e ∙ f) in omega arith)))

found_or : Cell → Result Cell Refusal → Cell
found_or c (Ok found) = found
found_or c (Err r) = c

camera_in : look_up P far_counts one_metre camera_inside ≡ Ok (at 0 0 0)
unfolding look_up eq le lt of_int div sub
camera_in = refl

ball_in : look_up Q far_counts one_metre ball_inside ≡ Ok (at 3 2 2)
unfolding look_up eq le lt of_int div sub
ball_in = refl

seen_inside : (how : Manner) → Sees how far_counts faces_inside one_metre camera_inside ball_inside Sight.Clear
unfolding shape placement_check eq le lt of_int div sub
seen_inside how =
    record {
      says = sym ((as_the_walk how far_counts faces_inside one_metre camera_inside ball_inside).same _ _ _ _ refl refl camera_in ball_in (record { says = refl })
          (adaptive_inside how));
    }

pub faces_alone : FacesAlone
unfolding complete marked marked_byte touches_solid any found_or
faces_alone =
    record {
      marks_there = record { just = refl; complete_at_1 = refl; not_at_2 = refl };
      plain_there = plain_there;
      adaptive_there = adaptive_there;
      two_stories = λ how s. two_stories _ _ (s.story refl _ _ (plain_there how) (adaptive_there how));
      one_way = one_way;
      marks_back = record { just = refl; complete_at_1 = refl; not_at_2 = refl };
      plain_by_2 = plain_back;
      adaptive_by_2 = adaptive_back;
      two_stories_by_2 = λ start s. two_stories _ _ (s.story refl _ _ (plain_back start) (adaptive_back start));
      by_1 = both_clear;
      marks_inside = record { just = refl; complete_at_1 = refl; not_at_2 = refl };
      plain_inside = plain_inside;
      adaptive_inside = adaptive_inside;
      seen_inside = seen_inside;
      in_the_way = λ how w. not_free how (at 0 0 0) (at 3 2 2) refl refl (w.open_way refl 4 (adaptive_inside how));
      in_sight = λ how s.
          let way = s.open_way refl (seen_inside how) in
          not_free how way.from way.to (ap (found_or way.from) (sym way.from_is ∙ camera_in))
          (ap (found_or way.to) (sym way.to_is ∙ ball_in)) way.free;
    }

pub shells : Shells
shells =
    record {
      enough = enough;
      full = enough 3 (omega arith);
      thin = enough 2 (omega arith);
      faces_too_few = λ d. faces_alone.two_stories usual (d.story usual (counts 2 2 2) faces_there (at 0 0 0) (at 1 1 1));
    }
