-- Where one walk of a pair is refused the pair is, and where one is made the pair is not. Assumes nothing.
use Rattle.std.specs.Prelude.{Ok, Err}
use mathlib.Core.Path.{◌≡◌, refl, ap}
use mathlib.Core.List.{List}
use Prim.Native.Nat.{ℕ}
use native.Mathlib.Omega.{arith}
use lib.ListN.{length}
use Rattle.cells.specs.declared.Counts.{Counts}
use Rattle.cells.specs.declared.Refusal.{Refusal}
use Rattle.cells.specs.Checks.{Verdict, by_verdict}
use Rattle.cells.specs.Manners.{tested_by}
use Rattle.grids.specs.Inside.{walk_check}
use Rattle.walks.specs.declared.FirstHit.{FirstHit}
use Rattle.walks.specs.declared.Walker.{Walker}
use Rattle.walks.specs.Answers.{first_hit, Finds}
use Rattle.records.specs.declared.pairs.Pair.{Pair}
use Rattle.program.specs.Program.{pair_refused, answers, said_of_walks, said_of_pair}

-- the verdict, by the answer
by_err : {A : Type 0} (v : Verdict) (a : A) (r : Refusal) → Err r ≡ by_verdict Err (Ok a) v → v ≡ Err r
by_err (Ok _) a r e = absurd (let z : ◌≡◌ {A = ℕ} 0 1 = cc in omega arith)
by_err (Err s) a r e = let same : s ≡ r = cc in ap Err same

by_ok : {A : Type 0} (v : Verdict) (a b : A) → Ok b ≡ by_verdict Err (Ok a) v → v ≡ Ok tt
by_ok (Ok _) a b e = refl
by_ok (Err s) a b e = absurd (let z : ◌≡◌ {A = ℕ} 0 1 = cc in omega arith)

module _ {w : Walker} {n : Counts} {cells : List ℕ} {e : Pair} where
  pub lines_refused : (k : ℕ) (r : Refusal) → Finds w (tested_by e.rule) n cells e.p e.q (Err r) → said_of_pair n cells k (Ok e) ≡ pair_refused k r
  unfolding first_hit
  lines_refused k r found = ap (λ v. said_of_walks k v (answers n cells e)) (by_err (walk_check n (length cells) e.p e.q) _ r found.says)

  pub walkable : (a : FirstHit) → Finds w (tested_by e.rule) n cells e.p e.q (Ok a) → walk_check n (length cells) e.p e.q ≡ Ok tt
  unfolding first_hit
  walkable a found = by_ok (walk_check n (length cells) e.p e.q) _ a found.says
