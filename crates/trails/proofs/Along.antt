-- The trail by numbers: as many cells as the walk has reads, each that of the number on which it stands. Assumes nothing.
use mathlib.Core.Path.{◌≡◌, sym, ap, ◌∙◌}
use mathlib.Core.List.{List}
use Prim.Native.Nat.{ℕ, zero, suc, ◌+◌, ◌≤◌, ◌<◌}
use native.Mathlib.Omega.{arith}
use native.Mathlib.Numerals.{add-one}
use lib.ListN.{length}
use Rattle.cells.specs.declared.Start.{Start}
use Rattle.walks.specs.declared.Walker.TheVariants.{Adaptive}
use Rattle.walks.specs.Numbers.{visits, stands, Rises, last_number, reads_of}
use Rattle.walks.proofs.Numbers.{go_rises, walk_cells, walk_length}
use Rattle.walks.proofs.Progress.{stands_next, stands_below}
use Rattle.walks.proofs.Story.{reads_most}
use Rattle.routes.specs.declared.Route.{Route}
use Rattle.routes.specs.Route.{preference}
use Rattle.hits.specs.Found.{conduct_of, hits, going}
use Rattle.trails.specs.Standing.{stand, stand_cells, walked, CanList}

module _ (l : List ℕ) (k : Route) where
  abbrev N : ℕ
  N = last_number k.p k.q

  rises : Rises N (going l k Adaptive)
  rises = go_rises (preference k) k.n l k.p k.q

  -- one step more
  pub stand_next : (m : ℕ) → going l k Adaptive (stand l k m) ≡ stand l k (m + 1)
  stand_next m = sym (stands_next (going l k Adaptive) 0 m) ∙ ap (stand l k) (sym (add-one m))

  -- no number is beyond Q's
  pub stand_most : (count : ℕ) → CanList l k count → (m : ℕ) → m < count → stand l k m ≤ N
  unfolding stands
  stand_most count can zero lt = omega arith
  stand_most count can (suc m) lt = rw (stands_next (going l k Adaptive) 0 m) (rises.most (stand l k m) (can.below m (omega arith)))

  -- the walk stands on P
  some_visit : (from : Start) (fuel : ℕ) → 0 < fuel → 0 < visits (hits from l k) N (going l k Adaptive) fuel 0
  unfolding visits
  some_visit from zero lt = absurd (omega arith)
  some_visit from (suc fuel) lt = omega arith

  module _ (from : Start) where
    abbrev reads : ℕ
    reads = reads_of (conduct_of from k) k.n l k.p k.q Adaptive

    pub can_list : CanList l k reads
    can_list =
        record {
          some = some_visit from (N + 1) (omega arith);
          few = reads_most (conduct_of from k) k.n l k.p k.q Adaptive;
          below = stands_below (hits from l k) N (going l k Adaptive) rises;
        }

    -- the walk's cells, as many as its reads
    pub walked_is : walked l k from ≡ stand_cells l k reads
    walked_is = walk_cells (conduct_of from k) k.n l k.p k.q Adaptive

    pub walked_long : length (walked l k from) ≡ reads
    walked_long = walk_length (conduct_of from k) k.n l k.p k.q Adaptive
