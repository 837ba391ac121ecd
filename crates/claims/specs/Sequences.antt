-- What is claimed of calls that keep counts, one after another (SCOPE K6): from a build on, after any of them, masks and total are right. Assumes nothing.
use Rattle.std.specs.Prelude.{Ok, Err, Result, ℕ, ◌<◌, ◌≡◌, false, List, [], ◌∷◌, get_or}
use Rattle.cells.specs.declared.Refusal.{Refusal}
use Rattle.std.specs.Int.Count.{ones}
use Rattle.cells.specs.declared.Cell.{Cell}
use Rattle.cells.specs.declared.Counts.{Counts}
use Rattle.cells.specs.declared.Refusal.TheVariants.{Stale}
use Rattle.cells.specs.Checks.{Verdict}
use Rattle.grids.specs.Grid.{size, index, solid}
use Rattle.grids.specs.Marks.{Marks}
use Rattle.bricks.specs.Sums.{bit}
use Rattle.bricks.specs.Bricks.{bricks, solids, brick_there, bit_there, solids_in}
use Rattle.bricks.specs.Builds.{Builds}
use Rattle.bricks.specs.Kept.{Kept}
use Rattle.refills.specs.Refills.{Refills, Sets}
use Rattle.claims.specs.Grids.{Inside}

-- 1. SCOPE K6, its three sentences: of masks by their bits, those of no cell too; of bricks by their ones; of the total.
pub record AllRight (n : Counts) (l m : List ℕ) (total : ℕ) : Type 0 where
  pub says_which : (x y z : ℕ) → Inside n x y z → bit (get_or m (brick_there n x y z) 0) (bit_there x y z) ≡ solid (get_or l (index n x y z) 0)
  pub beyond : (k b : ℕ) → k < size (bricks n) → b < 64 → ((x y z : ℕ) → Inside n x y z → brick_there n x y z ≡ k → bit_there x y z ≡ b → ⊥) →
      bit (get_or m k 0) b ≡ false
  pub brick_counts : (k : ℕ) → k < size (bricks n) → ones (get_or m k 0) ≡ solids_in n l k
  pub fresh_count : total ≡ solids l

-- what an editor holds
pub record State : Type 0 where
  pub bytes : List ℕ
  pub masks : List ℕ
  pub total : ℕ

-- what it may call
pub data Operation : Type 0 where
  Build : Operation
  Set : Cell → ℕ → Operation
  Refill : Cell → Cell → ℕ → Operation
  Mark : Operation

-- the total that is handed on: the answered one, or where the call is refused the one before it
abbrev pub handed_on : Result ℕ Refusal → ℕ → ℕ
handed_on (Ok t) total = t
handed_on (Err r) total = total

-- one call with the counts n, accepted or refused, by its contract: it leads from one state to the next
abbrev pub Step : Counts → Operation → State → State → Type 0
Step n Build s s' = (r : Result ℕ Refusal) × Builds n s.bytes s.masks r s'.masks × (s'.bytes ≡ s.bytes) × (s'.total ≡ handed_on r s.total)
Step n (Set cell byte) s s' =
    (r : Result ℕ Refusal) × Sets n cell byte s.bytes s.masks s.total r s'.bytes s'.masks × (s'.total ≡ handed_on r s.total)
Step n (Refill low high byte) s s' =
    (r : Result ℕ Refusal) × Refills n low high byte s.bytes s.masks s.total r s'.bytes s'.masks × (s'.total ≡ handed_on r s.total)
Step n Mark s s' = (v : Verdict) × Marks n s.bytes v s'.bytes × (s'.masks ≡ s.masks) × (s'.total ≡ s.total)

-- any number of calls, one after another, and nothing else
pub data Sequence (n : Counts) : State → List Operation → State → Type 0 where
  nothing : (s : State) → Sequence n s [] s
  then_one : {s t u : State} {op : Operation} {ops : List Operation} → Step n op s t → Sequence n t ops u → Sequence n s (op ∷ ops) u

-- 2. From an accepted build on, with the same counts, all is right after any calls of these; and no set or refill is refused 13.
pub record FromABuildOn (n : Counts) (l m : List ℕ) (t : ℕ) (m' : List ℕ) : Type 0 where
  pub all_right : Builds n l m (Ok t) m' → (ops : List Operation) (s : State) →
      Sequence n (record { bytes = l; masks = m'; total = t }) ops s → AllRight n s.bytes s.masks s.total
  pub not_stale : Builds n l m (Ok t) m' → (ops : List Operation) (s : State) → Sequence n (record { bytes = l; masks = m'; total = t }) ops s →
      (low high : Cell) (byte : ℕ) (l'' m'' : List ℕ) → Refills n low high byte s.bytes s.masks s.total (Err Stale) l'' m'' → ⊥

-- 3. What it rests on: a relation between counts, bytes, masks and total. It holds after an accepted build; each of the calls keeps it, marking too;
-- while it holds no set or refill is refused 13, and all is right.
pub record Keeping (n : Counts) (l m : List ℕ) : Type 0 where
  pub built : (t : ℕ) (m' : List ℕ) → Builds n l m (Ok t) m' → Kept n l m' t
  pub refilled : (low high : Cell) (byte total t : ℕ) (l' m' : List ℕ) → Kept n l m total → Refills n low high byte l m total (Ok t) l' m' →
      Kept n l' m' t
  pub marked : (total : ℕ) (v : Verdict) (l' : List ℕ) → Kept n l m total → Marks n l v l' → Kept n l' m total
  pub never_stale : (low high : Cell) (byte total : ℕ) (l' m' : List ℕ) → Kept n l m total → Refills n low high byte l m total
      (Err Stale) l' m' → ⊥
  pub right : (total : ℕ) → Kept n l m total → AllRight n l m total
