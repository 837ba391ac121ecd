-- The start of a walk: what it means that P is tested, or not. Claims about the two first-hit calls, by their contracts, for every grid and every two
-- ends. Assumes nothing.
use Rattle.std.specs.Prelude.{Ok, Err, Result, ℕ, ◌<◌, ◌≡◌, false, ◌⊎◌, List, [], ◌∷◌}
use Rattle.cells.specs.declared.Cell.{Cell}
use Rattle.cells.specs.declared.Counts.{Counts}
use Rattle.cells.specs.declared.Face.TheVariants as Face
use Rattle.cells.specs.declared.Manner.{Manner}
use Rattle.cells.specs.declared.Refusal.{Refusal}
use Rattle.cells.specs.declared.Start.TheVariants.{Untested, Tested}
use Rattle.cells.specs.Manners.{usual}
use Rattle.grids.specs.Grid.{byte_of, solid}
use Rattle.walks.specs.declared.Walker.{Walker}
use Rattle.walks.specs.declared.Walker.TheVariants.{Plain, Adaptive}
use Rattle.walks.specs.declared.Hit.{Hit}
use Rattle.walks.specs.declared.FirstHit.{FirstHit}
use Rattle.walks.specs.Walks.{Conduct, hit_at}
use Rattle.walks.specs.Answers.{Finds}
use Rattle.claims.specs.Example.{counts, at}

-- 1. The one test of a cell: a hit exactly where its byte is solid, except that P is no hit where the start is not tested.
pub record StartTest (n : Counts) (l : List ℕ) (p : Cell) : Type 0 where
  pub tested : (how : Conduct) → how.start ≡ Tested → (w : Cell) → hit_at how n l p w ≡ solid (byte_of n l w)
  pub other : (how : Conduct) (w : Cell) → (w ≡ p → ⊥) → hit_at how n l p w ≡ solid (byte_of n l w)
  pub exempt : (how : Conduct) → how.start ≡ Untested → hit_at how n l p p ≡ false

-- 2. Where P is not solid the two modes answer alike, under the same rule. Where P is not tested a hit is never P, and equal ends are clear with one
-- read, or refused.
pub record TwoStarts (n : Counts) (l : List ℕ) (p q : Cell) : Type 0 where
  pub alike : solid (byte_of n l p) ≡ false → (w : Walker) (how other : Manner) → how.rule ≡ other.rule → (r s : Result FirstHit Refusal) →
      Finds w how n l p q r → Finds w other n l p q s → r ≡ s
  -- a hit lies beyond P, and was entered by a face
  pub never_p : (w : Walker) (how : Manner) → how.start ≡ Untested → (h : Hit) → Finds w how n l p q (Ok (FirstHit.Hit h)) →
      (h.cell ≡ p → ⊥) × (0 < h.place.num) × (h.place.face ≡ Face.None → ⊥)
  pub equal_ends : (w : Walker) (how : Manner) → how.start ≡ Untested → (r : Result FirstHit Refusal) → Finds w how n l p p r →
      (r ≡ Ok (FirstHit.Clear 1)) ⊎ ((e : Refusal) × (r ≡ Err e))

-- ---- 3. Wrong starts, on named inputs: 3 by 2 by 1, no marks, from (0,0,0) to (2,1,0)

-- solid at P alone
abbrev pub solid_start : List ℕ
solid_start = 2 ∷ 0 ∷ 0 ∷ 0 ∷ 0 ∷ 0 ∷ []

-- at P and at Q
abbrev pub solid_ends : List ℕ
solid_ends = 2 ∷ 0 ∷ 0 ∷ 0 ∷ 0 ∷ 2 ∷ []

-- at P and at (1,0,0), the cell after it, over which a long step from P would lead
abbrev pub solid_after : List ℕ
solid_after = 2 ∷ 2 ∷ 0 ∷ 0 ∷ 0 ∷ 0 ∷ []

pub record WrongStarts : Type 0 where
  -- Q is exempt too
  pub exempts_q : (w : Walker) (reads : ℕ) → Finds w usual (counts 3 2 1) solid_ends (at 0 0 0) (at 2 1 0) (Ok (FirstHit.Clear reads)) → ⊥
  -- P is not counted as read
  pub not_counted : Finds Plain usual (counts 3 2 1) solid_start (at 0 0 0) (at 2 1 0) (Ok (FirstHit.Clear 3)) → ⊥
  -- from a solid P the adaptive walk goes on by one face, and so reads four cells; with a long step it would read three
  pub by_one_face : (reads : ℕ) → Finds Adaptive usual (counts 3 2 1) solid_start (at 0 0 0) (at 2 1 0) (Ok (FirstHit.Clear reads)) → reads ≡ 4
  -- and would step over the solid cell after P
  pub steps_over : (reads : ℕ) → Finds Adaptive usual (counts 3 2 1) solid_after (at 0 0 0) (at 2 1 0) (Ok (FirstHit.Clear reads)) → ⊥
  -- the default tests P
  pub default_tests : (w : Walker) (h : Hit) → Finds w usual (counts 3 2 1) solid_start (at 0 0 0) (at 2 1 0) (Ok (FirstHit.Hit h)) → ⊥
  -- the tested start passes P
  pub tested_passes : (w : Walker) (how : Manner) → how.start ≡ Tested → (reads : ℕ) →
      Finds w how (counts 3 2 1) solid_start (at 0 0 0) (at 2 1 0) (Ok (FirstHit.Clear reads)) → ⊥
  -- the cell after P is exempt
  pub next_exempt : (reads : ℕ) → Finds Plain usual (counts 3 2 1) solid_after (at 0 0 0) (at 2 1 0) (Ok (FirstHit.Clear reads)) → ⊥
