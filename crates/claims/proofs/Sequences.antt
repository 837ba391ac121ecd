-- What calls that keep counts do one after another: each keeps the relation, which gives all that is claimed. Assumes nothing.
use Rattle.std.specs.Prelude.{Ok, Err, Result}
use Rattle.cells.specs.declared.Refusal.{Refusal}
use Prim.Native.Nat.{ℕ}
use mathlib.Core.Path.{◌≡◌, sym, subst, ap, ◌∙◌}
use mathlib.Core.List.{List}
use lib.Count.{ones}
use Rattle.cells.specs.declared.Cell.{Cell}
use Rattle.cells.specs.declared.Counts.{Counts}
use Rattle.cells.specs.declared.Refusal.TheVariants.{Stale}
use Rattle.cells.specs.Checks.{Verdict, by_verdict}
use Rattle.grids.specs.Grid.{shape}
use Rattle.grids.specs.Marks.{marked, Marks}
use Rattle.grids.proofs.Marking.{marked_same}
use Rattle.bricks.specs.Sums.{bit}
use Rattle.bricks.specs.Bricks.{brick_there, bit_there}
use Rattle.bricks.specs.Builds.{built, Builds}
use Rattle.bricks.specs.Kept.{Kept}
use Rattle.bricks.proofs.Building.{kept_built}
use Rattle.bricks.proofs.CellBits.{masks_alike, solids_alike}
use Rattle.refills.specs.Boxes.{corner}
use Rattle.refills.specs.Refills.{refilled, remasked, moved, Refills}
use Rattle.refills.proofs.Accepted.{accepted_says, stale_says}
use Rattle.refills.proofs.Keeping.{kept_agrees, kept_refilled}
use Rattle.claims.specs.Sequences.{AllRight, State, Operation, Build, Set, Refill, Mark, handed_on, Step, Sequence, nothing, then_one, FromABuildOn, Keeping}
use Rattle.claims.proofs.Kept.{kept_once, masks, build_says}

module _ (n : Counts) (l m : List ℕ) where
  kept_right : (total : ℕ) → Kept n l m total → AllRight n l m total
  kept_right total h =
      record {
        says_which = λ x y z c.
            ap (λ (q : ℕ). bit q (bit_there x y z)) (h.each (brick_there n x y z) ((masks n l).brick x y z c).1) ∙ ((masks n l).of_cell x y z c).1;
        beyond = λ k b lt small none. ap (λ (q : ℕ). bit q b) (h.each k lt) ∙ (masks n l).of_no_cell k b small none;
        brick_counts = λ k lt. ap ones (h.each k lt) ∙ (masks n l).each_brick h.grid k lt;
        fresh_count = h.fresh;
      }

  kept_by_build : (t : ℕ) (m' : List ℕ) → Builds n l m (Ok t) m' → Kept n l m' t
  kept_by_build t m' c =
      let (fine, total, there) = build_says n l m t m' c in
      subst (λ (q : List ℕ). Kept n l q t) (sym there) (subst (Kept n l (built n l m)) (sym total) (kept_built n l m fine))

  kept_by_refill :
      (low high : Cell) (byte total t : ℕ) (l' m' : List ℕ) → Kept n l m total → Refills n low high byte l m total (Ok t) l' m' → Kept n l' m' t
  kept_by_refill low high byte total t l' m' h c =
      let a = accepted_says n low high byte l m total t l' m' c in
      let lo = corner low in
      let hi = corner high in
      let after = refilled n lo hi byte l in
      let there : m' ≡ remasked n lo hi after m = a.masks ∙ ap (λ (q : List ℕ). remasked n lo hi q m) a.bytes in
      let total_is : t ≡ moved n lo hi m (remasked n lo hi after m) total = a.total_is ∙ ap (λ (q : List ℕ). moved n lo hi m q total) there in
      rw (a.bytes, there, total_is) (kept_refilled n lo hi l m total h byte)

  -- a marking keeps solidity
  kept_by_mark : (total : ℕ) (v : Verdict) (l' : List ℕ) → Kept n l m total → Marks n l v l' → Kept n l' m total
  kept_by_mark total v l' h c =
      let same = marked_same 3 n l in
      let is : l' ≡ marked 3 n l = c.holds ∙ ap (by_verdict (λ r. l) (marked 3 n l)) h.grid in
      subst (λ (q : List ℕ). Kept n q m total) (sym is) (record {
        grid = subst (λ (q : ℕ). shape n q ≡ Ok tt) (sym same.long) h.grid;
        room = h.room;
        each = λ k lt. h.each k lt ∙ sym (masks_alike n (marked 3 n l) l same k);
        fresh = h.fresh ∙ sym (solids_alike n (marked 3 n l) l same);
      })

  kept_never_stale :
      (low high : Cell) (byte total : ℕ) (l' m' : List ℕ) → Kept n l m total → Refills n low high byte l m total (Err Stale) l' m' → ⊥
  kept_never_stale low high byte total l' m' h c = stale_says n low high byte l m total l' m' c (kept_agrees n (corner low) (corner high) l m total h)

  pub keeping : Keeping n l m
  keeping =
      record { built = kept_by_build; refilled = kept_by_refill; marked = kept_by_mark; never_stale = kept_never_stale; right = kept_right }

-- what is kept in a state
abbrev KeptIn : Counts → State → Type 0
KeptIn n s = Kept n s.bytes s.masks s.total

-- a call that is refused leaves the state; one that is accepted keeps it
kept_step_refill :
    (n : Counts) (low high : Cell) (byte : ℕ) (s s' : State) (r : Result ℕ Refusal) → Refills n low high byte s.bytes s.masks s.total r s'.bytes
    s'.masks →
    s'.total ≡ handed_on r s.total → KeptIn n s → KeptIn n s'
kept_step_refill n low high byte s s' (Ok t) c e h =
    rw e (kept_by_refill n s.bytes s.masks low high byte s.total t s'.bytes s'.masks h c)
kept_step_refill n low high byte s s' (Err r) c e h =
    let (bytes, lent) = kept_once.refill_refused n low high byte s.bytes s.masks s.total r s'.bytes s'.masks c in rw (e, bytes, lent) h

kept_step_build :
    (n : Counts) (s s' : State) (r : Result ℕ Refusal) → Builds n s.bytes s.masks r s'.masks → s'.bytes ≡ s.bytes → s'.total ≡ handed_on r s.total →
    KeptIn n s → KeptIn n s'
kept_step_build n s s' (Ok t) c bytes e h = rw (e, bytes) (kept_by_build n s.bytes s.masks t s'.masks c)
kept_step_build n s s' (Err r) c bytes e h = rw (e, bytes, kept_once.build_refused n s.bytes s.masks r s'.masks c) h

kept_step : (n : Counts) (op : Operation) (s s' : State) → Step n op s s' → KeptIn n s → KeptIn n s'
kept_step n Build s s' (r, c, bytes, e) h = kept_step_build n s s' r c bytes e h
kept_step n (Set cell byte) s s' (r, c, e) h = kept_step_refill n cell cell byte s s' r c e h
kept_step n (Refill low high byte) s s' (r, c, e) h = kept_step_refill n low high byte s s' r c e h
kept_step n Mark s s' (v, c, lent, e) h = rw (e, lent) (kept_by_mark n s.bytes s.masks s.total v s'.bytes h c)

kept_sequence : (n : Counts) {s s' : State} {ops : List Operation} → Sequence n s ops s' → KeptIn n s → KeptIn n s'
kept_sequence n (nothing s) h = h
kept_sequence n (then_one {s} {t} {u} {op} {ops} step rest) h = kept_sequence n rest (kept_step n op s t step h)

pub from_a_build_on : (n : Counts) (l m : List ℕ) (t : ℕ) (m' : List ℕ) → FromABuildOn n l m t m'
from_a_build_on n l m t m' =
    record {
      all_right = λ c ops s calls. kept_right n s.bytes s.masks s.total (kept_sequence n calls (kept_by_build n l m t m' c));
      not_stale = λ c ops s calls low high byte l'' m'' refused.
          kept_never_stale n s.bytes s.masks low high byte s.total l'' m'' (kept_sequence n calls (kept_by_build n l m t m' c)) refused;
    }
