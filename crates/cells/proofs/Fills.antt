-- Laws of `Filled`, a list filled in part. Assumes nothing.
use Prim.Native.Nat.{ℕ, ◌+◌, ◌≤◌, ◌<◌}
use native.Mathlib.Nat.{le_refl, ne_of_lt, ne_of_gt}
use native.Mathlib.Omega.{arith}
use native.Mathlib.Decide.{dec_lt}
use mathlib.Core.Path.{◌≡◌, refl, ◌∙◌}
use mathlib.Core.List.{List}
use lib.ListN.{length, get_or, set, length-set}
use lib.Seq.{get_or-set_same, get_or-set_other}
use Rattle.cells.specs.Tabulate.{tabulate}
use Rattle.cells.specs.Fills.{Filled}
use Rattle.cells.proofs.Tabulate.{is_tabulate}

pub filled_none : (f : ℕ → ℕ) (from to : ℕ) (l : List ℕ) → to ≤ from → Filled f from to l l
filled_none f from to l none = record { long = refl; inside = λ k ge lt. absurd (omega arith); before = λ k h. refl; after = λ k h. refl }

-- filled up to b, then from b to c by a function that is f there
pub filled_then :
    (f g : ℕ → ℕ) (a b c : ℕ) (l m r : List ℕ) → a ≤ b → b ≤ c → ((k : ℕ) → b ≤ k → k < c → g k ≡ f k) → Filled f a b l m → Filled g b c m r →
    Filled f a c l r
filled_then f g a b c l m r ab bc same h k =
    record {
      long = k.long ∙ h.long;
      inside = inside;
      before = λ i lt. k.before i (omega arith) ∙ h.before i lt;
      after = λ i ge. k.after i ge
          ∙ h.after i (omega arith);
    }
  where
    inside : (i : ℕ) → a ≤ i → i < c → get_or r i 0 ≡ f i
    inside i ge lt =
        elim (dec_lt i b) [ yes low ↦ k.before i low ∙ h.inside i ge low | no up ↦ k.inside i (omega arith) lt ∙ same i (omega arith) lt ]

-- one store
filled_one : (f : ℕ → ℕ) (at next v : ℕ) (l : List ℕ) → next ≡ at + 1 → at < length l → v ≡ f at → Filled f at next l (set l at v)
filled_one f at next v l e h is =
    record {
      long = length-set l at v;
      inside = λ k ge lt. let here : k ≡ at = omega arith in rw here (get_or-set_same l at v 0 h ∙ is);
      before = λ k lt. get_or-set_other l at k v 0 (ne_of_lt lt);
      after = λ k ge. get_or-set_other l at k v 0 (ne_of_gt (past k ge));
    }
  where
    past : (k : ℕ) → next ≤ k → at < k
    past k ge = omega arith

-- filled up to `at`, and one store there
pub filled_more :
    (f : ℕ → ℕ) (from at next v : ℕ) (l m : List ℕ) → from ≤ at → next ≡ at + 1 → at < length m → v ≡ f at → Filled f from at l m →
    Filled f from next l (set m at v)
filled_more f from at next v l m le e h is done =
    filled_then f f from at next l m (set m at v) le (omega arith) (λ k ge lt. refl) done (filled_one f at next v m e h is)

-- filled from end to end
pub filled_whole : (f : ℕ → ℕ) (n : ℕ) (l m : List ℕ) → length l ≡ n → Filled f 0 n l m → m ≡ tabulate f n
filled_whole f n l m e h = is_tabulate f n 0 m (h.long ∙ e) (λ k lt. h.inside k (omega arith) lt)

-- filled by another function with the same values
pub filled_as : (f g : ℕ → ℕ) (a b : ℕ) (l m : List ℕ) → a ≤ b → ((k : ℕ) → a ≤ k → k < b → g k ≡ f k) → Filled g a b l m → Filled f a b l m
filled_as f g a b l m ab same h = filled_then f g a a b l l m (le_refl a) ab same (filled_none f a a l (le_refl a)) h
