-- What a fine verdict on bricks says, and what a build leaves. Assumes nothing.
use Rattle.std.specs.Prelude.{Ok}
use Prim.Native.Nat.{ℕ, ◌≤◌, ◌<◌}
use native.Mathlib.Nat.{lt_of_lt_of_le}
use native.Mathlib.Omega.{arith}
use mathlib.Core.Path.{◌≡◌, refl, sym, subst, ap, ◌∙◌}
use mathlib.Core.Bool.{Bool, true, false, cond}
use mathlib.Core.List.{List}
use lib.Dec.{ltb}
use lib.ListN.{length, get_or}
use borrow.Author.Tests.{lt-ltb, le-ltb, ltb-true, ltb-false}
use Rattle.cells.specs.declared.Counts.{Counts}
use Rattle.cells.specs.Fills.{Filled}
use Rattle.cells.proofs.Checks.{fine_first, fine_rest, passed}
use Rattle.cells.proofs.Tabulate.{tabulate_length, tabulate_at, is_tabulate}
use Rattle.grids.specs.Grid.{shape, size}
use Rattle.bricks.specs.Bricks.{bricks, mask_at, solids}
use Rattle.bricks.specs.Builds.{bricks_check, built}
use Rattle.bricks.specs.Kept.{Kept}

module _ (n : Counts) (bytes lent : ℕ) (e : bricks_check n bytes lent ≡ Ok tt) where
  pub shape_fine : shape n bytes ≡ Ok tt
  unfolding bricks_check
  shape_fine = fine_first (shape n bytes) _ e

  pub masks_lent : size (bricks n) ≤ lent
  unfolding bricks_check
  masks_lent = ltb-false lent (size (bricks n)) (passed _ _ (fine_rest (shape n bytes) _ e))

module _ (n : Counts) (l m : List ℕ) where
  abbrev put : ℕ → ℕ
  put k = cond (ltb k (size (bricks n))) (mask_at n l k) (get_or m k 0)

  -- what the build's loop leaves
  pub filled_built : (m' : List ℕ) → Filled (mask_at n l) 0 (size (bricks n)) m m' → m' ≡ built n l m
  unfolding built
  filled_built m' f = is_tabulate put (length m) 0 m' f.long (λ k _. each k (ltb k (size (bricks n))) refl)
    where
      each : (k : ℕ) (t : Bool) → ltb k (size (bricks n)) ≡ t → get_or m' k 0 ≡ put k
      each k true e = rw e (f.inside k (omega arith) (ltb-true k (size (bricks n)) e))
      each k false e = rw e (f.after k (ltb-false k (size (bricks n)) e))

  -- and what there is then: as many masks, each brick's own, and behind them the surplus
  pub built_long : length (built n l m) ≡ length m
  unfolding built
  built_long = tabulate_length put (length m)

  pub built_at : (k : ℕ) → k < length m → get_or (built n l m) k 0 ≡ put k
  unfolding built
  built_at k lt = tabulate_at put (length m) k 0 lt

  pub built_front : size (bricks n) ≤ length m → (k : ℕ) → k < size (bricks n) → get_or (built n l m) k 0 ≡ mask_at n l k
  built_front room k lt =
      built_at k (lt_of_lt_of_le lt room) ∙ ap (λ (t : Bool). cond t (mask_at n l k) (get_or m k 0)) (lt-ltb k (size (bricks n)) lt)

  pub built_surplus : (k : ℕ) → size (bricks n) ≤ k → k < length m → get_or (built n l m) k 0 ≡ get_or m k 0
  built_surplus k ge lt = built_at k lt ∙ ap (λ (t : Bool). cond t (mask_at n l k) (get_or m k 0)) (le-ltb k (size (bricks n)) ge)

  -- it is what is to be kept
  pub kept_built : bricks_check n (length l) (length m) ≡ Ok tt → Kept n l (built n l m) (solids l)
  kept_built e =
      let room = masks_lent n (length l) (length m) e in
      record {
        grid = shape_fine n (length l) (length m) e;
        room = subst (λ (t : ℕ). size (bricks n) ≤ t) (sym built_long) room;
        each = built_front room;
        fresh = refl;
      }
