-- The claims about the start, from the laws of the test of a cell and of the two modes. Assumes nothing.
use Rattle.std.specs.Prelude.{Ok, Err, Result}
use Prim.Native.Nat.{ℕ, zero, suc, ◌<◌}
use mathlib.Core.Path.{◌≡◌, refl, sym, ap, ◌∙◌, subst}
use mathlib.Core.Logic.{◌⊎◌, inl, inr}
use mathlib.Core.List.{List}
use native.Mathlib.Omega.{arith}
use lib.ListN.{length}
use Rattle.cells.specs.declared.Cell.{Cell}
use Rattle.cells.specs.declared.Counts.{Counts}
use Rattle.cells.specs.declared.Face.TheVariants as Face
use Rattle.cells.specs.declared.Refusal.{Refusal}
use Rattle.cells.specs.declared.Rule.{Rule}
use Rattle.cells.specs.declared.Rule.TheVariants.{One, Two}
use Rattle.cells.specs.Checks.{Verdict, by_verdict}
use Rattle.cells.specs.Manners.{is_tested, usual, tested_by}
use Rattle.lines.specs.Preference.{Preference, by_rule}
use Rattle.lines.specs.Lines.{six_cell}
use Rattle.lines.proofs.Cells.{six_start, six_different}
use Rattle.grids.specs.Inside.{walk_check}
use Rattle.walks.specs.Walks.{conduct}
use Rattle.walks.specs.declared.Walker.{Walker}
use Rattle.walks.specs.declared.Walker.TheVariants.{Plain, Adaptive}
use Rattle.walks.specs.declared.Hit.{Hit}
use Rattle.walks.specs.declared.FirstHit.{FirstHit}
use Rattle.walks.specs.Answers.{entered_at, first_hit}
use Rattle.walks.specs.Numbers.{end_of}
use Rattle.walks.proofs.Testing.{tested_test, other_test, exempt_test}
use Rattle.walks.proofs.Modes.{modes_alike, later_hit, equal_ends}
use Rattle.walks.proofs.Places.{num_is, some_face}
use Rattle.claims.specs.Example.{counts, at}
use Rattle.claims.specs.Starts.{StartTest, TwoStarts, WrongStarts, solid_start, solid_ends}
use Rattle.claims.proofs.Story.{reads_or, kind, hit_found}

pub start_tests : (n : Counts) (l : List ℕ) (p : Cell) → StartTest n l p
start_tests n l p =
    record {
      tested = λ how is w. tested_test how n l p w (ap is_tested is);
      other = λ how w far. other_test how n l p w far;
      exempt = λ how is. exempt_test how n l p (ap is_tested is);
    }

-- clear with one read, or refused
pub one_read : (r : Result FirstHit Refusal) (v : Verdict) → r ≡ by_verdict Err (Ok (FirstHit.Clear 1)) v →
    (r ≡ Ok (FirstHit.Clear 1)) ⊎ ((e : Refusal) × (r ≡ Err e))
one_read r (Ok _) h = inl h
one_read r (Err e) h = inr (e, h)

pub two_starts : (n : Counts) (l : List ℕ) (p q : Cell) → TwoStarts n l p q
two_starts n l p q =
    record {
      alike = λ free w how other same r s h k.
          h.says ∙ modes_alike n l p q w how.rule how.start other.start free
          ∙ ap (λ rule. first_hit w (record { start = other.start; rule = rule }) n l p q) same ∙ sym k.says;
      never_p = λ w how is h a.
          let (fine, hit, there) = hit_found how n l p q w h a in
          beyond (by_rule how.rule p q) h (end_of (conduct how p q) n l p q w)
          (later_hit n l p q (conduct how p q) (ap is_tested is) _ hit) (ap (λ k. k.cell) there) (ap (λ k. k.place) there);
      equal_ends = λ w how is r a. one_read r (walk_check n (length l) p p) (a.says ∙ equal_ends n l p w how (ap is_tested is));
    }
  where
    beyond : (r : Preference) (h : Hit) (s : ℕ) → 0 < s → h.cell ≡ six_cell r p q s → h.place ≡ entered_at r p q s →
        (h.cell ≡ p → ⊥) × (0 < h.place.num) × (h.place.face ≡ Face.None → ⊥)
    beyond r h zero lt cell place = absurd (omega arith)
    beyond r h (suc s) lt cell place = (
      λ e. absurd (omega (arith, six_different r p q (suc s) 0 (sym cell ∙ e ∙ sym (six_start r p q)))),
      subst (λ k. 0 < k.num) (sym place) (omega (arith, num_is r p q s)),
      λ e. absurd (some_face r p q s (sym (ap (λ k. k.face) place) ∙ e)),
    )

-- ---- wrong starts

-- solid at both ends: a hit, at Q
ends_hit : (w : Walker) → kind (first_hit w usual (counts 3 2 1) solid_ends (at 0 0 0) (at 2 1 0)) ≡ 0
unfolding first_hit kind
ends_hit Plain = refl
ends_hit Adaptive = refl

-- solid at P alone: clear, but a hit where P is tested
start_clear : (w : Walker) → kind (first_hit w usual (counts 3 2 1) solid_start (at 0 0 0) (at 2 1 0)) ≡ 1
unfolding first_hit kind
start_clear Plain = refl
start_clear Adaptive = refl

start_hit : (w : Walker) (rule : Rule) → kind (first_hit w (tested_by rule) (counts 3 2 1) solid_start (at 0 0 0) (at 2 1 0)) ≡ 0
unfolding first_hit kind
start_hit Plain One = refl
start_hit Plain Two = refl
start_hit Adaptive One = refl
start_hit Adaptive Two = refl

pub wrong_starts : WrongStarts
unfolding first_hit kind reads_or
wrong_starts =
    record {
      exempts_q = λ w reads h. absurd (let z : ◌≡◌ {A = ℕ} 1 0 = ap kind h.says ∙ ends_hit w in omega arith);
      not_counted = λ h. absurd (let z : ◌≡◌ {A = ℕ} 3 4 = ap (reads_or 0) h.says in omega arith);
      by_one_face = λ reads h. ap (reads_or 0) h.says;
      steps_over = λ reads h. absurd (let z : ◌≡◌ {A = ℕ} 1 0 = ap kind h.says in omega arith);
      default_tests = λ w h a. absurd (let z : ◌≡◌ {A = ℕ} 0 1 = ap kind a.says ∙ start_clear w in omega arith);
      tested_passes = λ w how is reads h.
          absurd (let z : ◌≡◌ {A = ℕ} 1 0 = ap kind
          (h.says ∙ ap (λ s. first_hit w (record { start = s; rule = how.rule }) (counts 3 2 1) solid_start (at 0 0 0) (at 2 1 0)) is)
          ∙ start_hit w how.rule in omega arith);
      next_exempt = λ reads h. absurd (let z : ◌≡◌ {A = ℕ} 1 0 = ap kind h.says in omega arith);
    }
