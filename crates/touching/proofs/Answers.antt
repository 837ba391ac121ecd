-- What a search along visits finds, by their numbers: the first that passes the test, or none does. Assumes nothing.
use mathlib.Core.Path.{◌≡◌, refl, ap, ◌∙◌}
use mathlib.Core.Bool.{Bool, true, false, cond}
use mathlib.Core.List.{List, [], ◌∷◌}
use Prim.Native.Nat.{ℕ, zero, suc, ◌+◌, ◌<◌}
use native.Mathlib.Omega.{arith}
use lib.ListN.{length, get_or}
use Rattle.cells.specs.declared.Cell.{Cell}
use Rattle.cells.specs.declared.Counts.{Counts}
use Rattle.lines.specs.Touching.{Visit, visit_cell}
use Rattle.grids.specs.Grid.{byte_of}
use Rattle.walks.specs.declared.FirstHit.{FirstHit}
use Rattle.touching.specs.Touching.{visit_place, found_in}

module _ (test : Cell → Bool) (n : Counts) (l : List ℕ) (p q : Cell) (d : Visit) where
  -- the answer at a visit, so many cells read
  abbrev pub hit_on : Visit → ℕ → FirstHit
  hit_on v reads =
      let c : Cell = visit_cell p q v in
      FirstHit.Hit (record { cell = c; code = byte_of n l c; place = visit_place p q v; reads = reads })

  pub data Search (reads : ℕ) (vs : List Visit) : Type 0 where
    found : (i : ℕ) → i < length vs → test (visit_cell p q (get_or vs i d)) ≡ true → ((j : ℕ) → j < i → test (visit_cell p q (get_or vs j d)) ≡ false) →
        found_in test n l p q reads vs ≡ hit_on (get_or vs i d) (reads + i + 1) → Search reads vs
    none : ((j : ℕ) → j < length vs → test (visit_cell p q (get_or vs j d)) ≡ false) → found_in test n l p q reads vs ≡ FirstHit.Clear (reads + length vs) →
        Search reads vs

  pub search_of : (reads : ℕ) (vs : List Visit) → Search reads vs
  unfolding found_in
  search_of reads [] = none (λ j lt. absurd (omega arith)) (ap FirstHit.Clear (omega arith))
  search_of reads (v ∷ vs) = go (test (visit_cell p q v)) refl (search_of (reads + 1) vs)
    where
      go : (b : Bool) → test (visit_cell p q v) ≡ b → Search (reads + 1) vs → Search reads (v ∷ vs)
      go true e below =
          let i : reads + 1 ≡ reads + 0 + 1 = omega arith in
          found 0 (omega arith) e (λ j lt. absurd (omega arith))
          (ap (λ b. cond b (hit_on v (reads + 1)) (found_in test n l p q (reads + 1) vs)) e ∙ ap (hit_on v) i)
      go false e (found i lt met before is) =
          let k : reads + 1 + i + 1 ≡ reads + suc i + 1 = omega arith in
          found (suc i) (omega arith) met (λ j. earlier j before)
          (ap (λ b. cond b (hit_on v (reads + 1)) (found_in test n l p q (reads + 1) vs)) e ∙ is ∙ ap (hit_on (get_or vs i d)) k)
        where
          earlier : (j : ℕ) → ((j : ℕ) → j < i → test (visit_cell p q (get_or vs j d)) ≡ false) → j < suc i →
              test (visit_cell p q (get_or (v ∷ vs) j d)) ≡ false
          earlier zero before lt = e
          earlier (suc j) before lt = before j (omega arith)
      go false e (none all is) =
          let k : reads + 1 + length vs ≡ reads + suc (length vs) = omega arith in
          none (λ j. each j all) (ap (λ b. cond b (hit_on v (reads + 1)) (found_in test n l p q (reads + 1) vs)) e ∙ is ∙ ap FirstHit.Clear k)
        where
          each : (j : ℕ) → ((j : ℕ) → j < length vs → test (visit_cell p q (get_or vs j d)) ≡ false) → j < suc (length vs) →
              test (visit_cell p q (get_or (v ∷ vs) j d)) ≡ false
          each zero all lt = e
          each (suc j) all lt = all j (omega arith)
