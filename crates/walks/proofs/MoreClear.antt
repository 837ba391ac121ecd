-- Two grids with the same solid cells, of which one is clear wherever the other is: where both adaptive walks end at the same number, that over the clearer grid
-- reads no more. Assumes nothing.
use mathlib.Core.Path.{◌≡◌, sym, ap, ◌∙◌, subst}
use mathlib.Core.Bool.{true, not, ◌&&◌, ◌||◌}
use mathlib.Core.List.{List}
use Prim.Native.Nat.{ℕ, suc, ◌≤◌, ◌<◌}
use native.Mathlib.Omega.{arith}
use Rattle.cells.specs.declared.Cell.{Cell}
use Rattle.cells.specs.declared.Counts.{Counts}
use Rattle.cells.specs.Manners.{is_tested}
use Rattle.lines.specs.Preference.{Preference}
use Rattle.lines.specs.Lines.{six_cell}
use Rattle.grids.specs.Grid.{byte_of, clear, solid}
use Rattle.walks.specs.declared.Walker.TheVariants.{Plain, Adaptive}
use Rattle.walks.specs.Walks.{Conduct, is_cell, six_count}
use Rattle.walks.specs.Numbers.{ends, visits, last_number, go, hits_at, end_of, reads_of}
use Rattle.walks.proofs.Runs.{Closer, no_more_visits}
use Rattle.walks.proofs.Numbers.{Way, face, long, way, go_rises}
use Rattle.walks.proofs.Long.{go_long, go_between}

-- l has the solid cells of m, and is clear wherever m is
pub record MoreClear (n : Counts) (l m : List ℕ) : Type 0 where
  pub same_solid : (c : Cell) → solid (byte_of n l c) ≡ solid (byte_of n m c)
  pub clear_too : (c : Cell) → clear (byte_of n m c) ≡ true → clear (byte_of n l c) ≡ true

module _ (n : Counts) (l m : List ℕ) (more : MoreClear n l m) (p q : Cell) where
  -- the same numbers are hits
  pub same_hits : (how : Conduct) → hits_at how n l p q ≡ hits_at how n m p q
  same_hits how i s =
      more.same_solid (six_cell how.preference p q s) i && (is_tested how.start || not (is_cell (six_cell how.preference p q s) p))

  -- the walk over m steps closer
  walks_closer : (r : Preference) → Closer (last_number p q) (go r n l p q) (go r n m p q)
  walks_closer r =
      record {
        no_further = λ s lt. further s lt (way r n m p q s lt);
        one_by_one = λ s t lt lo hi. single s t lo hi ((go_rises r n l p q).most s lt) (way r n l p q s lt);
      }
    where
      further : (s : ℕ) → s < last_number p q → {t : ℕ} → Way r n m p q s t → t ≤ go r n l p q s
      further s lt face = (go_rises r n l p q).up s lt
      further s lt (long k e h) =
          let there = subst (λ u. clear (byte_of n l (six_cell r p q u)) ≡ true) h.number (more.clear_too (six_cell r p q s) e) in
          omega (arith, ap (go r n l p q) h.number ∙ go_long r n l p q k h.below there)

      single : (s t : ℕ) → s < t → {u : ℕ} → t < u → u ≤ last_number p q → Way r n l p q s u → go r n m p q t ≡ suc t
      single s t lo hi most face = absurd (omega arith)
      single s t lo hi most (long k e h) = go_between r n m p q k t h.below (omega (arith, h.number)) hi (omega arith)

  pub plain_alike : (how : Conduct) → end_of how n l p q Plain ≡ end_of how n m p q Plain
  plain_alike how = ap (λ hits. ends hits (last_number p q) suc (six_count p q) 0) (same_hits how)

  pub clearer_reads : (how : Conduct) → end_of how n l p q Adaptive ≡ end_of how n m p q Adaptive → reads_of how n l p q Adaptive ≤ reads_of how n m p q Adaptive
  clearer_reads how same =
      let N = last_number p q in
      let r = how.preference in
      let alike = same_hits how in
      subst (λ hits. reads_of how n l p q Adaptive ≤ visits hits N (go r n m p q) (six_count p q) 0) alike
      (no_more_visits (hits_at how n l p q) N (go r n l p q) (go r n m p q) (go_rises r n l p q) (go_rises r n m p q) (walks_closer r)
      (same ∙ sym (ap (λ hits. ends hits N (go r n m p q) (six_count p q) 0) alike)))
