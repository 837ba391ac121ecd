-- The claims about the two rules for ties, from the laws of lines and from the calls' contracts. Assumes nothing.
use Rattle.std.specs.Prelude.{Ok, Err, Result}
use Rattle.cells.specs.declared.Refusal.{Refusal}
use Prim.Native.Nat.{ℕ, ◌+◌, ◌-◌, ◌*◌, ◌≤◌, ◌<◌}
use mathlib.Core.Path.{◌≡◌, refl, sym, ap, ◌∙◌, subst}
use mathlib.Core.Bool.{true, false, cond}
use mathlib.Core.Logic.{◌⊎◌, inl, inr, ⊎_elim, ◌↔◌}
use mathlib.Core.List.{List}
use native.Mathlib.Omega.{arith}
use borrow.Author.Tests.{le-ltb}
use lib.IntN.{ℤ, pos, nat_abs}
use lib.Signed.{lt_z, ◌<ℤ◌}
use lib.ListN.{length, get_or}
use Rattle.cells.specs.declared.Cell.{Cell}
use Rattle.cells.specs.declared.Counts.{Counts}
use Rattle.cells.specs.declared.Face.TheVariants as Face
use Rattle.cells.specs.declared.Axis.TheVariants.{Y}
use Rattle.cells.specs.declared.Rule.TheVariants.{One, Two}
use Rattle.cells.specs.declared.Start.{Start}
use Rattle.cells.specs.declared.Start.TheVariants.{Untested, Tested}
use Rattle.cells.specs.Manners.{tested_by}
use Rattle.cells.proofs.Checks.{fine_first}
use Rattle.cells.proofs.Conditions.{lt_z_means}
use Rattle.lines.specs.Steps.{total}
use Rattle.lines.specs.Preference.{y_z_x, comes_before, order_of, by_rule}
use Rattle.lines.specs.Lines.{differences, six_cell, six_line}
use Rattle.lines.proofs.Cells.{six_length}
use Rattle.lines.proofs.Mirror.{Compared, less, more, equal, compared, Which, p_first, q_first, one, which, rule_1_order, order_from, either_way_total, rule_2_mirror, line_mirror, six_same, line_same}
use Rattle.lists.specs.Lists.{ends_check, Line6}
use Rattle.lists.proofs.Front.{ends_fine, limits_pass}
use Rattle.grids.specs.Grid.{byte_of, solid}
use Rattle.grids.specs.Inside.{walk_check}
use Rattle.grids.proofs.Inside.{accepted, walk_fine}
use Rattle.walks.specs.declared.Walker.{Walker}
use Rattle.walks.specs.declared.Walker.TheVariants.{Plain, Adaptive}
use Rattle.walks.specs.declared.Hit.{Hit}
use Rattle.walks.specs.declared.FirstHit.{FirstHit}
use Rattle.walks.specs.Walks.{conduct}
use Rattle.walks.specs.Answers.{first_hit, Finds}
use Rattle.walks.proofs.Testing.{tested_test}
use Rattle.structs.specs.Faces.{face_number}
use Rattle.cells.proofs.Signed.{up, dn, lt_z_true}
use Rattle.claims.specs.Example.{at, example_counts, example_cells}
use Rattle.claims.specs.Lists.{three_at}
use Rattle.claims.specs.Story.{SameStory, hits, clears, OneStory}
use Rattle.claims.specs.Rules.{ComesFirst, TheRules, Mirror, SameLine, BothWays, AdaptiveBothWays, WrongRules, low_post}
use Rattle.claims.proofs.Lists.{cells_listed, fits, roomy}
use Rattle.claims.proofs.Story.{kind, face_or, hit_found, clear_found, not_refused, first_on_line, reads_hold, one_story}

-- ---- which end comes first

-- a test of two numbers that says no, one that says yes of equal ones, and an answer that is none
not_below : (a b : ℤ) → lt_z a b ≡ false → a <ℤ b → ⊥
not_below a b e h = let z : ◌≡◌ {A = ℕ} 0 1 = ap (λ t. cond t 1 0) (sym e ∙ (lt_z_means a b).1 h) in omega arith

not_equal : (a b : ℤ) → lt_z b a ≡ true → a ≡ b → ⊥
not_equal a b e f = let h = lt_z_true b a e in omega (arith, ap up f, ap dn f)

never : {A : Type 0} → false ≡ true → A
never e = absurd (let z : ◌≡◌ {A = ℕ} 0 1 = ap (λ t. cond t 1 0) e in omega arith)

comes_means : (p q : Cell) → (comes_before p q ≡ true) ↔ ComesFirst p q
unfolding comes_before
comes_means p q = by (compared p.z q.z) (compared p.y q.y) (compared p.x q.x)
  where
    by : Compared p.z q.z → Compared p.y q.y → Compared p.x q.x → (comes_before p q ≡ true) ↔ ComesFirst p q
    by (less a b) _ _ = (λ e. inl ((lt_z_means p.z q.z).0 a), λ h. simp a)
    by (more a b) _ _ = (
      λ e. never (sym (simp (a, b)) ∙ e),
      λ h. absurd (⊎_elim (not_below p.z q.z a) (λ z. not_equal p.z q.z b z.0) h),
    )
    by (equal e a b) (less c d) _ = (λ t. inr (e, inl ((lt_z_means p.y q.y).0 c)), λ h. simp (a, b, c))
    by (equal e a b) (more c d) _ = (
      λ t. never (sym (simp (a, b, c, d)) ∙ t),
      λ h. absurd (⊎_elim (not_below p.z q.z a)
          (λ z. ⊎_elim (not_below p.y q.y c) (λ y. not_equal p.y q.y d y.0) z.1) h),
    )
    by (equal e a b) (equal f c d) (less g k) = (λ t. inr (e, inr (f, (lt_z_means p.x q.x).0 g)), λ h. simp (a, b, c, d, g))
    by (equal e a b) (equal f c d) (more g k) = (
      λ t. never (sym (simp (a, b, c, d, g, k)) ∙ t),
      λ h. absurd (⊎_elim (not_below p.z q.z a) (λ z. ⊎_elim (not_below p.y q.y c) (λ y. not_below p.x q.x g y.1) z.1) h),
    )
    by (equal e a b) (equal f c d) (equal g h k) = (
      λ t. never (sym (simp (a, b, c, d, h, k)) ∙ t),
      λ i. absurd (⊎_elim (not_below p.z q.z a) (λ z. ⊎_elim (not_below p.y q.y c) (λ y. not_below p.x q.x h y.1) z.1) i),
    )

-- where one comes first the other does not
not_both : (p q : Cell) → comes_before p q ≡ true → comes_before q p ≡ false
not_both p q e = by (which p q)
  where
    by : Which p q → comes_before q p ≡ false
    by (p_first f g) = g
    by (q_first f g) = never (sym f ∙ e)
    by (one f g h) = h

pub the_rules : (p q : Cell) → TheRules p q
the_rules p q =
    record {
      before = comes_means p q;
      first = record { of_x = refl; of_y = refl; of_z = refl };
      second = record { of_x = refl; of_y = refl; of_z = refl };
      rule_1 = rule_1_order p q;
      p_first = λ h. order_from p q false (not_both p q ((comes_means p q).1 h));
      q_first = λ h. order_from p q true ((comes_means q p).1 h);
      one_of_three = by (which p q);
    }
  where
    by : Which p q → ComesFirst p q ⊎ (ComesFirst q p ⊎ (p ≡ q))
    by (p_first f g) = inl ((comes_means p q).0 f)
    by (q_first f g) = inr (inl ((comes_means q p).0 g))
    by (one f g h) = inr (inr f)

-- ---- the mirror

module _ (p q : Cell) where
  abbrev N : ℕ
  N = total (differences p q)

  cells_mirror : (n : ℕ) → n ≤ N → six_cell (by_rule Two q p) q p n ≡ six_cell (by_rule Two p q) p q (N - n)
  cells_mirror n le =
      let e : N - (N - n) ≡ n = omega arith in
      ap (six_cell (by_rule Two q p) q p) (sym e) ∙ rule_2_mirror p q (N - n) (omega arith)

  lists_mirror : (entry exit other last : List ℤ) (k j : ℕ) → Line6 Two p q entry (Ok k) exit → Line6 Two q p other (Ok j) last →
      (j ≡ k) × ((n : ℕ) → n < k → three_at last (3 * n) ≡ three_at exit (3 * (k - 1 - n)))
  lists_mirror entry exit other last k j h g =
      let there = (cells_listed p q entry exit k).six Two h in
      let back = (cells_listed q p other last j).six Two g in
      let many : j ≡ k = omega (arith, there.all, back.all, either_way_total p q) in (
        many,
        λ n lt.
            let e : N - n ≡ k - 1 - n = omega (arith, there.all) in
            back.each n (omega arith) ∙ cells_mirror n (omega (arith, there.all)) ∙ ap (six_cell (by_rule Two p q) p q) e
            ∙ sym (there.each (k - 1 - n) (omega arith)),
      )

  both_accepted : (entry exit other last : List ℤ) (k : ℕ) (r : Result ℕ Refusal) → Line6 Two p q entry (Ok k) exit → length entry ≤ length other →
      Line6 Two q p other r last → r ≡ Ok k
  both_accepted entry exit other last k r h long-enough g =
      let line = six_line (by_rule Two p q) p q in
      let back = six_line (by_rule Two q p) q p in
      let (fine, is) = fits line (ends_check p q) entry exit k h in
      let (hp, hq) = ends_fine p q (fine_first (ends_check p q) _ fine) in
      let long : length back ≡ length line = six_length (by_rule Two q p) q p
      ∙ ap (λ m. m + 1) (either_way_total p q) ∙ sym (six_length (by_rule Two p q) p q) in
      let room : 3 * length back ≤ length other = omega (arith, roomy line (ends_check p q) entry exit k h) in
      g.says ∙ rw (limits_pass q p hq hp, le-ltb (length other) (3 * length back) room) (ap Ok long ∙ is)

pub mirrored : (p q : Cell) → Mirror p q
mirrored p q =
    record {
      cells = cells_mirror p q;
      line = line_mirror p q;
      lists = lists_mirror p q;
      accepted = both_accepted p q;
    }

pub same_line : (p q : Cell) → SameLine p q
same_line p q =
    record {
      cells = λ r s. six_same r s p q;
      line = λ free. line_same y_z_x (by_rule Two p q) p q free ∙ ap (λ r. six_line r p q) (sym (rule_1_order p q));
    }

-- ---- there and back

-- with the ends exchanged a walk passes its tests too
back_fine : (n : Counts) (l : List ℕ) (p q : Cell) → walk_check n (length l) p q ≡ Ok tt → walk_check n (length l) q p ≡ Ok tt
back_fine n l p q fine =
    let a = accepted n (length l) p q fine in
    walk_fine n (length l) q p (record { shaped = a.shaped; p_in = a.q_in; q_in = a.p_in })

-- a cell of the line back is one of the line there, and so no hit where that is clear
module _ (n : Counts) (l : List ℕ) (p q : Cell) where
  none_back : (reads : ℕ) → Finds Plain (tested_by Two) n l p q (Ok (FirstHit.Clear reads)) → (k : Hit) →
      Finds Plain (tested_by Two) n l q p (Ok (FirstHit.Hit k)) → ⊥
  none_back reads h k g =
      let (s, on) = (first_on_line (tested_by Two) n l q p).hit k g in
      let le : s ≤ total (differences p q) = omega (arith, on.most, either_way_total p q) in
      let t : ℕ = total (differences p q) - s in
      let free = (first_on_line (tested_by Two) n l p q).none reads h t (omega arith) in
      let is = on.cell ∙ cells_mirror p q s le in
      let clear-there = sym (tested_test (conduct (tested_by Two) p q) n l p (six_cell (by_rule Two p q) p q t) refl) ∙ free in
      let solid_there = sym (tested_test (conduct (tested_by Two) q p) n l q k.cell refl) ∙ on.hit_there in
      let z : ◌≡◌ {A = ℕ} 0 1 = ap (λ b. cond b 1 0) (sym clear-there ∙ ap (λ c. solid (byte_of n l c)) (sym is) ∙ solid_there) in
      omega arith

  clear_back : (reads : ℕ) (s : Result FirstHit Refusal) → Finds Plain (tested_by Two) n l p q (Ok (FirstHit.Clear reads)) → Finds Plain (tested_by Two) n l q p s →
      s ≡ Ok (FirstHit.Clear reads)
  clear_back reads (Ok (FirstHit.Clear m)) h g =
      let e : m ≡ reads =
      omega (arith, (reads_hold (tested_by Two) n l p q).plain reads h, (reads_hold (tested_by Two) n l q p).plain m g, either_way_total p q) in
      ap (λ m. Ok (FirstHit.Clear m)) e
  clear_back reads (Ok (FirstHit.Hit k)) h g = absurd (none_back reads h k g)
  clear_back reads (Err r) h g =
      absurd (not_refused (tested_by Two) n l q p Plain (back_fine n l p q (clear_found (tested_by Two) n l p q Plain reads h).0) r g)

-- a walk that is clear there is no hit back
hit_back : (n : Counts) (l : List ℕ) (p q : Cell) (h : Hit) (s : Result FirstHit Refusal) → Finds Plain (tested_by Two) n l p q (Ok (FirstHit.Hit h)) →
    Finds Plain (tested_by Two) n l q p s → (k : Hit) × (s ≡ Ok (FirstHit.Hit k))
hit_back n l p q h (Ok (FirstHit.Hit k)) a g = (k, refl)
hit_back n l p q h (Ok (FirstHit.Clear m)) a g = absurd (none_back n l q p m g h a)
hit_back n l p q h (Err r) a g =
    absurd (not_refused (tested_by Two) n l q p Plain (back_fine n l p q (hit_found (tested_by Two) n l p q Plain h a).0) r g)

-- of one story both are clear, or both hit
pub told_clear : {a : (Result FirstHit Refusal)} {m : ℕ} → SameStory a (Ok (FirstHit.Clear m)) → (r : ℕ) × (a ≡ Ok (FirstHit.Clear r))
told_clear (clears {r} le) = (r, refl)

told_hit : {a : (Result FirstHit Refusal)} {k : Hit} → SameStory a (Ok (FirstHit.Hit k)) → (h : Hit) × (a ≡ Ok (FirstHit.Hit h))
told_hit (hits {h} _ _ _ _) = (h, refl)

then_clear : {b : (Result FirstHit Refusal)} {r : ℕ} → SameStory (Ok (FirstHit.Clear r)) b → (m : ℕ) × (b ≡ Ok (FirstHit.Clear m))
then_clear (clears {r} {s} le) = (s, refl)

then_hit : {b : (Result FirstHit Refusal)} {h : Hit} → SameStory (Ok (FirstHit.Hit h)) b → (k : Hit) × (b ≡ Ok (FirstHit.Hit k))
then_hit (hits {h} {k} _ _ _ _) = (k, refl)

pub both_ways : (n : Counts) (l : List ℕ) (p q : Cell) → BothWays n l p q
both_ways n l p q =
    record {
      clear = clear_back n l p q;
      hit = hit_back n l p q;
    }

pub adaptive_both_ways : (k : ℕ) → 2 ≤ k → (n : Counts) (l : List ℕ) (p q : Cell) → AdaptiveBothWays k n l p q
adaptive_both_ways k two n l p q =
    record {
      clear = λ whole reads s h g.
          let (m, e) = told_clear ((story p q).story whole _ _ (plain p q) h) in
          let f = clear_back n l p q m _ (subst (Finds Plain (tested_by Two) n l p q) e (plain p q)) (plain q p) in
          then_clear (subst (λ a. SameStory a s) f ((story q p).story whole _ _ (plain q p) g));
      hit = λ whole h s a g.
          let (m, e) = told_hit ((story p q).story whole _ _ (plain p q) a) in
          let (k, f) = hit_back n l p q m _ (subst (Finds Plain (tested_by Two) n l p q) e (plain p q)) (plain q p) in
          then_hit (subst (λ a. SameStory a s) f ((story q p).story whole _ _ (plain q p) g));
    }
  where
    story : (p q : Cell) → OneStory k (tested_by Two) n l p q
    story p q = one_story (tested_by Two) n l p q k two

    plain : (p q : Cell) → Finds Plain (tested_by Two) n l p q (first_hit Plain (tested_by Two) n l p q)
    plain p q = record { says = refl }

-- ---- wrong rules

-- from (3,1,0) to (0,0,0): rule 2 meets the post, rule 1 passes it
meets_it : (start : Start) → kind (first_hit Plain (record { start = start; rule = Two }) example_counts example_cells (at 3 1 0) (at 0 0 0)) ≡ 0
unfolding first_hit kind
meets_it Untested = refl
meets_it Tested = refl

passes_it : (start : Start) → kind (first_hit Plain (record { start = start; rule = One }) example_counts example_cells (at 3 1 0) (at 0 0 0)) ≡ 1
unfolding first_hit kind
passes_it Untested = refl
passes_it Tested = refl

-- the low post is entered by -y
by_y : (w : Walker) → face_or (first_hit w (tested_by Two) example_counts low_post (at 3 1 0) (at 0 0 0)) ≡ Face.Minus Y
unfolding first_hit face_or
by_y Plain = refl
by_y Adaptive = refl

pub wrong_rules : WrongRules
unfolding six_line order_of kind face_or
wrong_rules =
    record {
      two_as_one = λ r h. absurd (let z : ◌≡◌ {A = ℕ} 1 0 = ap (λ l. nat_abs (get_or l 3 (pos 0))) h.holds in omega arith);
      one_mirrors = λ r h. absurd (let z : ◌≡◌ {A = ℕ} 0 1 = ap (λ l. nat_abs (get_or l 3 (pos 0))) h.holds in omega arith);
      passes = λ start reads h. absurd (let z : ◌≡◌ {A = ℕ} 1 0 = ap kind h.says ∙ meets_it start in omega arith);
      meets = λ start k h. absurd (let z : ◌≡◌ {A = ℕ} 0 1 = ap kind h.says ∙ passes_it start in omega arith);
      other_face = λ w h a e.
          absurd (let z : ◌≡◌ {A = ℕ} 1 2 = ap (λ f. dn (face_number f)) (sym e ∙ ap face_or a.says ∙ by_y w) in omega arith);
    }
