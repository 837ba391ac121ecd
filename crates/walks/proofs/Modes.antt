-- Walks whose starts are tested and not tested: where P is not solid they answer alike, and where it is not tested it is no hit, also where it is Q.
-- Assumes nothing.
use Rattle.std.specs.Prelude.{Ok, Err, Result}
use Rattle.cells.specs.declared.Refusal.{Refusal}
use mathlib.Core.Path.{◌≡◌, refl, sym, ap, ◌∙◌, fun_ext}
use mathlib.Core.Bool.{Bool, true, false, cond}
use mathlib.Core.List.{List}
use Prim.Native.Nat.{ℕ, zero, suc, ◌+◌, ◌<◌}
use native.Mathlib.Omega.{arith}
use lib.ListN.{length}
use Rattle.cells.specs.declared.Cell.{Cell}
use Rattle.cells.specs.declared.Counts.{Counts}
use Rattle.cells.specs.declared.Manner.{Manner}
use Rattle.cells.specs.declared.Rule.{Rule}
use Rattle.cells.specs.declared.Rule.TheVariants.{One}
use Rattle.cells.specs.declared.Start.{Start}
use Rattle.cells.specs.declared.Start.TheVariants.{Untested}
use Rattle.cells.specs.Manners.{is_tested, usual}
use Rattle.cells.specs.Checks.{by_verdict}
use Rattle.lines.specs.Preference.{Preference, y_z_x, comes_before, by_rule}
use Rattle.lines.specs.Lines.{six_cell}
use Rattle.lines.proofs.Cells.{six_start, six_end, six_different}
use Rattle.lines.proofs.Mirror.{first_order, rule_1_order}
use Rattle.grids.specs.Grid.{byte_of, solid}
use Rattle.grids.specs.Inside.{walk_check}
use Rattle.walks.specs.declared.Walker.{Walker}
use Rattle.walks.specs.declared.Hit.{Hit}
use Rattle.walks.specs.declared.FirstHit.{FirstHit}
use Rattle.walks.specs.Walks.{Conduct, conduct, six_count, hit_at, walk_of}
use Rattle.walks.specs.Answers.{entered_at, answer_of, first_hit}
use Rattle.walks.specs.Numbers.{stop, ends, visits, last_number, hits_at, step, end_of, reads_of, answer_at}
use Rattle.walks.proofs.Testing.{exempt_test, starts_test}
use Rattle.walks.proofs.Story.{first_hit_is, end_below}

module _ (r : Preference) (n : Counts) (l : List ℕ) (p q : Cell) where
  -- a walk in this order, with such a start
  abbrev from : Start → Conduct
  from start = record { start = start; preference = r }

  -- where P is not solid the same numbers are hits in either mode
  hits_alike : (one other : Start) → solid (byte_of n l p) ≡ false → (s : ℕ) → hits_at (from one) n l p q s ≡ hits_at (from other) n l p q s
  hits_alike one other clear s = starts_test n l p (from one) (from other) clear (six_cell r p q s)

  -- the answer of a walk, from which numbers are hits
  abbrev answer_by : Walker → (ℕ → Bool) → Result FirstHit Refusal
  answer_by k hits =
      let e : ℕ = ends hits (last_number p q) (step r n l p q k) (six_count p q) 0 in
      let many : ℕ = visits hits (last_number p q) (step r n l p q k) (six_count p q) 0 in
      by_verdict Err
      (Ok
      (cond (hits e)
      (FirstHit.Hit (record { cell = six_cell r p q e; code = byte_of n l (six_cell r p q e); place = entered_at r p q e; reads = many }))
      (FirstHit.Clear many))) (walk_check n (length l) p q)

-- where P is not solid both starts give one answer, under either rule
pub modes_alike : (n : Counts) (l : List ℕ) (p q : Cell) (k : Walker) (rule : Rule) (one other : Start) → solid (byte_of n l p) ≡ false →
    first_hit k (record { start = one; rule = rule }) n l p q ≡ first_hit k (record { start = other; rule = rule }) n l p q
modes_alike n l p q k rule one other clear =
    let r : Preference = by_rule rule p q in
    first_hit_is (record { start = one; rule = rule }) n l p q k ∙ ap (answer_by r n l p q k) (fun_ext (hits_alike r n l p q one other clear))
    ∙ sym (first_hit_is (record { start = other; rule = rule }) n l p q k)

module _ (n : Counts) (l : List ℕ) (p q : Cell) where
  -- a start that is not tested is no hit
  pub start_exempt : (how : Conduct) → is_tested how.start ≡ false → hits_at how n l p q 0 ≡ false
  start_exempt how h = ap (hit_at how n l p) (six_start how.preference p q) ∙ exempt_test how n l p h

  -- so a hit comes after it
  pub later_hit : (how : Conduct) → is_tested how.start ≡ false → (s : ℕ) → hits_at how n l p q s ≡ true → 0 < s
  later_hit how h zero hit = absurd (let z : ◌≡◌ {A = ℕ} 0 1 = ap (λ b. cond b 1 0) (sym (start_exempt how h) ∙ hit) in omega arith)
  later_hit how h (suc s) hit = omega arith

-- ---- equal ends

module _ (n : Counts) (l : List ℕ) (p : Cell) where
  no_steps : last_number p p ≡ 0
  no_steps = six_different y_z_x p p (last_number p p) 0 (six_end y_z_x p p ∙ sym (six_start y_z_x p p))

  -- P is read, and nothing else
  pub one_read : (k : Walker) (how : Conduct) → reads_of how n l p p k ≡ 1
  unfolding visits
  one_read k how = ap (λ m. visits (hits_at how n l p p) m (step how.preference n l p p k) (m + 1) 0) no_steps
      ∙ ap suc (either (stop (hits_at how n l p p) 0 0) 0)
    where
      either : (b : Bool) (r : ℕ) → cond b r r ≡ r
      either true r = refl
      either false r = refl

  -- and where it is not tested the answer is clear
  clear_at : (how : Conduct) → is_tested how.start ≡ false → (e many : ℕ) → e ≡ 0 → many ≡ 1 → answer_at how n l p p e many ≡ FirstHit.Clear 1
  clear_at how h e many start one =
      none (hits_at how n l p p e) _ (ap (hits_at how n l p p) start ∙ start_exempt n l p p how h) ∙ ap FirstHit.Clear one
    where
      none : (b : Bool) (hit : Hit) → b ≡ false → cond b (FirstHit.Hit hit) (FirstHit.Clear many) ≡ FirstHit.Clear many
      none b hit e = ap (λ t. cond t (FirstHit.Hit hit) (FirstHit.Clear many)) e

  pub equal_ends : (k : Walker) (how : Manner) → is_tested how.start ≡ false →
      first_hit k how n l p p ≡ by_verdict Err (Ok (FirstHit.Clear 1)) (walk_check n (length l) p p)
  equal_ends k how h =
      let c : Conduct = conduct how p p in
      first_hit_is how n l p p k ∙ ap (λ a. by_verdict Err (Ok a) (walk_check n (length l) p p))
      (clear_at c h (end_of c n l p p k) (reads_of c n l p p k) (omega (arith, end_below c n l p p k, no_steps)) (one_read k c))

-- ---- the rule

-- a walk is told by its start and its preference
pub same_conduct : (n : Counts) (l : List ℕ) (p q : Cell) (k : Walker) (how other : Manner) → conduct how p q ≡ conduct other p q →
    first_hit k how n l p q ≡ first_hit k other n l p q
unfolding first_hit
same_conduct n l p q k how other e = ap (λ c. by_verdict Err (Ok (answer_of c n l p q (walk_of k c n l p q))) (walk_check n (length l) p q)) e

-- from an end that does not come after the other, both rules make the same walk
pub first_alike : (n : Counts) (l : List ℕ) (p q : Cell) (k : Walker) (how : Manner) → comes_before q p ≡ false →
    first_hit k how n l p q ≡ first_hit k (record { start = how.start; rule = One }) n l p q
first_alike n l p q k how first =
    same_conduct n l p q k how (record { start = how.start; rule = One }) (λ i. record { start = how.start; preference = same i })
  where
    same : by_rule how.rule p q ≡ by_rule One p q
    same = first_order how.rule p q first ∙ sym (rule_1_order p q)

-- from a P that is not solid and does not come after Q, every walk is the default's
pub as_usual : (n : Counts) (l : List ℕ) (p q : Cell) (k : Walker) (how : Manner) → solid (byte_of n l p) ≡ false → comes_before q p ≡ false →
    first_hit k how n l p q ≡ first_hit k usual n l p q
as_usual n l p q k how free first = first_alike n l p q k how first ∙ modes_alike n l p q k One how.start Untested free
