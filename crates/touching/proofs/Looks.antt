-- Spots looked at one after the other: a look that missed goes on where it ended. Assumes nothing.
use mathlib.Core.Path.{◌≡◌, refl, sym, ap, ◌∙◌}
use mathlib.Core.Bool.{Bool, true, false, cond}
use mathlib.Core.List.{List, [], ◌∷◌, ◌++◌, append-nil}
use Prim.Native.Nat.{ℕ, suc, ◌+◌}
use native.Mathlib.Omega.{arith}
use lib.ListN.{length}
use Rattle.grids.specs.Grid.{solid}
use Rattle.routes.specs.declared.Spot.{Spot}
use Rattle.routes.specs.Route.{byte_of_spot}
use Rattle.hits.specs.declared.Turn.{Turn}
use Rattle.touching.specs.Looking.{looked}

-- a turn that ended at a spot
abbrev at_spot : Spot → ℕ → Bool → Turn
at_spot s reads b = record { spot = s; reads = reads; hit = b }

pub look_one : (s : Spot) (reads : ℕ) (b : Bool) → at_spot s (reads + 1) b ≡ cond b (at_spot s (reads + 1) true) (at_spot s (reads + 1) false)
look_one s reads true = refl
look_one s reads false = refl

never : false ≡ true → ⊥
never e = let z : ◌≡◌ {A = ℕ} 1 0 = ap (λ b. cond b 0 1) e in omega arith

-- the last of some spots
abbrev pub last_spot : Spot → List Spot → Spot
last_spot d [] = d
last_spot d (s ∷ k) = last_spot s k

module _ (l : List ℕ) where
  pub looked_miss : (reads : ℕ) (d : Spot) (k m : List Spot) → (looked l reads d k).hit ≡ false →
      looked l reads d (k ++ m) ≡ looked l (reads + length k) (last_spot d k) m
  looked_miss reads d [] m h = ap (λ i. looked l i d m) (omega arith)
  looked_miss reads d (s ∷ k) m h = go (solid (byte_of_spot l s)) h (looked_miss (reads + 1) s k m)
    where
      go : (b : Bool) → (cond b (at_spot s (reads + 1) true) (looked l (reads + 1) s k)).hit ≡ false →
          ((looked l (reads + 1) s k).hit ≡ false → looked l (reads + 1) s (k ++ m) ≡ looked l (reads + 1 + length k) (last_spot s k) m) →
          cond b (at_spot s (reads + 1) true) (looked l (reads + 1) s (k ++ m)) ≡ looked l (reads + suc (length k)) (last_spot s k) m
      go true h below = absurd (never (sym h))
      go false h below =
          let i : reads + 1 + length k ≡ reads + suc (length k) = omega arith in
          below h ∙ ap (λ i. looked l i (last_spot s k) m) i

  -- and then it is at the last
  pub looked_last : (reads : ℕ) (d : Spot) (k : List Spot) → (looked l reads d k).hit ≡ false → (looked l reads d k).spot ≡ last_spot d k
  looked_last reads d k h = ap (λ m. (looked l reads d m).spot) (sym (append-nil k)) ∙ ap (λ t. t.spot) (looked_miss reads d k [] h)
