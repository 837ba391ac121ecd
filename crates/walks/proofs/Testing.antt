-- The test of a cell, by itself and by its number in the 6-line: it is that of the byte, but for P where the start is not tested. Assumes nothing.
use mathlib.Core.Path.{◌≡◌, refl, sym, ap, ap₂, ◌∙◌}
use mathlib.Core.Bool.{Bool, true, false, not, ◌&&◌, ◌||◌, true≢false}
use mathlib.Core.List.{List}
use Prim.Native.Nat.{ℕ, zero, suc, ◌<◌}
use native.Mathlib.Omega.{arith}
use lib.Dec.{eqb}
use borrow.Author.Tests.{eq-eqb}
use Rattle.cells.specs.declared.Cell.{Cell}
use Rattle.cells.specs.declared.Counts.{Counts}
use Rattle.cells.specs.Manners.{is_tested}
use Rattle.cells.proofs.Touching.{and_both}
use Rattle.lines.specs.Lines.{six_cell}
use Rattle.lines.proofs.Cells.{six_start, six_different}
use Rattle.grids.specs.Grid.{byte_of, solid}
use Rattle.grids.proofs.Any.{or_true}
use Rattle.walks.specs.Walks.{Conduct, is_cell, hit_at}
use Rattle.walks.specs.Numbers.{hits_at}
use Rattle.walks.proofs.Find.{is_cell_self, is_cell_same, same_is_cell, other_is_not}
use Rattle.walks.proofs.Numbers.{is_p}

-- ---- by cells

counts : (b t : Bool) → t ≡ true → (b && t) ≡ b
counts true t h = h
counts false t h = refl

module _ (how : Conduct) (n : Counts) (l : List ℕ) (p : Cell) where
  -- where the start is tested, the test is that of the byte
  pub tested_test : (w : Cell) → is_tested how.start ≡ true → hit_at how n l p w ≡ solid (byte_of n l w)
  tested_test w h = counts (solid (byte_of n l w)) _ (ap (λ t. t || not (is_cell w p)) h)

  -- and so it is away from P
  pub other_test : (w : Cell) → (w ≡ p → ⊥) → hit_at how n l p w ≡ solid (byte_of n l w)
  other_test w far = counts (solid (byte_of n l w)) _ (ap (λ b. is_tested how.start || not b) (other_is_not w p far) ∙ or_true (is_tested how.start))

  -- a start that is not tested is no hit
  pub exempt_test : is_tested how.start ≡ false → hit_at how n l p p ≡ false
  exempt_test h = ap₂ (λ t b. solid (byte_of n l p) && (t || not b)) h (is_cell_self p) ∙ none (solid (byte_of n l p))
    where
      none : (b : Bool) → (b && false) ≡ false
      none true = refl
      none false = refl

-- where P is not solid no test knows the start
pub starts_test : (n : Counts) (l : List ℕ) (p : Cell) (one other : Conduct) → solid (byte_of n l p) ≡ false → (w : Cell) →
    hit_at one n l p w ≡ hit_at other n l p w
starts_test n l p one other clear w = by (is_cell w p) refl
  where
    none : (how : Conduct) → is_cell w p ≡ true → hit_at how n l p w ≡ false
    none how same = ap (λ b. b && (is_tested how.start || not (is_cell w p))) (ap (λ c. solid (byte_of n l c)) (is_cell_same w p same) ∙ clear)

    by : (b : Bool) → is_cell w p ≡ b → hit_at one n l p w ≡ hit_at other n l p w
    by true same = none one same ∙ sym (none other same)
    by false far = other_test one n l p w away ∙ sym (other_test other n l p w away)
      where
        away : w ≡ p → ⊥
        away e = true≢false (sym (same_is_cell w p e) ∙ far)

-- ---- by numbers

module _ (how : Conduct) (n : Counts) (l : List ℕ) (p q : Cell) where
  -- whether the byte of a number is solid
  abbrev pub solid_at : ℕ → Bool
  solid_at s = solid (byte_of n l (six_cell how.preference p q s))

  pub hits_is : (s : ℕ) → hits_at how n l p q s ≡ (solid_at s && (is_tested how.start || not (eqb s 0)))
  hits_is s = ap (λ b. solid_at s && (is_tested how.start || not b)) (is_p how.preference p q s)

  -- a hit is solid
  pub hit_solid : (s : ℕ) → hits_at how n l p q s ≡ true → solid_at s ≡ true
  hit_solid s h = (and_both (solid_at s) _ h).0

  -- what is not solid is no hit
  pub no_hit : (s : ℕ) → solid_at s ≡ false → hits_at how n l p q s ≡ false
  no_hit s h = ap (λ b. b && (is_tested how.start || not (is_cell (six_cell how.preference p q s) p))) h

  -- at P
  pub start_test : hits_at how n l p q 0 ≡ (is_tested how.start && solid_at 0)
  start_test = hits_is 0 ∙ ap (λ b. solid_at 0 && (is_tested how.start || not b)) (eq-eqb 0 0 refl) ∙ turned (is_tested how.start) (solid_at 0)
    where
      turned : (t b : Bool) → (b && (t || false)) ≡ (t && b)
      turned true true = refl
      turned true false = refl
      turned false true = refl
      turned false false = refl

  -- and after it
  pub later_test : (s : ℕ) → 0 < s → hits_at how n l p q s ≡ solid_at s
  later_test s lt = other_test how n l p (six_cell how.preference p q s)
      (λ e. omega (arith, six_different how.preference p q s 0 (e ∙ sym (six_start how.preference p q))))

  -- what is no hit is not solid, but for a P that is not tested
  pub not_solid : (s : ℕ) → hits_at how n l p q s ≡ false → (six_cell how.preference p q s ≡ p → is_tested how.start ≡ true) → solid_at s ≡ false
  not_solid zero free tested = sym (tested_test how n l p (six_cell how.preference p q 0) (tested (six_start how.preference p q))) ∙ free
  not_solid (suc s) free tested = sym (later_test (suc s) (omega arith)) ∙ free
