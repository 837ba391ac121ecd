-- What marking keeps and what it makes, over the number k of touching and for every list of bytes. Assumes nothing.
use Prim.Native.Nat.{ℕ, ◌≤◌, ◌<◌}
use native.Mathlib.Omega.{arith}
use native.Mathlib.Decide.{dec_lt}
use mathlib.Core.Path.{◌≡◌, refl, sym, ap, ◌∙◌}
use mathlib.Core.Bool.{Bool, true, false, cond, not, ◌&&◌, true≢false}
use mathlib.Core.Logic.{◌↔◌}
use mathlib.Core.List.{List}
use lib.ListN.{length, get_or, get_or-eq_default}
use lib.Seq.{ext_get_or}
use borrow.Author.Tests.{eqb-true, le-ltb, not-true}
use Rattle.cells.specs.declared.Cell.{Cell}
use Rattle.cells.specs.declared.Counts.{Counts}
use Rattle.cells.specs.Touching.{Touches, touching}
use Rattle.cells.proofs.Touching.{and_both, touches_within, touches_at_3, touching_iff}
use Rattle.cells.proofs.Tabulate.{tabulate_length, tabulate_at}
use Rattle.grids.specs.Grid.{cell_at, clear, solid}
use Rattle.grids.specs.Marks.{any, touches_solid, marked_byte, marked, complete}
use Rattle.grids.proofs.Any.{not_so, any_none, any_some, any_which, any_same}

-- ---- marking keeps what is solid

-- two lists with the same solid cells
pub record SameSolid (a b : List ℕ) : Type 0 where
  pub long : length a ≡ length b
  pub alike : (i : ℕ) → solid (get_or a i 0) ≡ solid (get_or b i 0)

pub touches_same : (k : ℕ) (n : Counts) (a b : List ℕ) (c : Cell) → SameSolid a b → touches_solid k n a c ≡ touches_solid k n b c
unfolding touches_solid
touches_same k n a b c s = any_same _ _ (length a) (λ j h. rw (s.alike j)) ∙ ap (any _) s.long

pub marked_byte_is : (k : ℕ) (n : Counts) (l : List ℕ) (i : ℕ) →
    marked_byte k n l i ≡ cond (solid (get_or l i 0)) (get_or l i 0) (cond (touches_solid k n l (cell_at n i)) 1 0)
unfolding marked_byte
marked_byte_is k n l i = refl

pub marked_byte_same : (k : ℕ) (n : Counts) (a b : List ℕ) (i : ℕ) → SameSolid a b → get_or a i 0 ≡ get_or b i 0 → marked_byte k n a i ≡ marked_byte k n b i
marked_byte_same k n a b i s e = marked_byte_is k n a i ∙ rw (e, touches_same k n a b (cell_at n i) s) (sym (marked_byte_is k n b i))

pub marked_byte_solid : (k : ℕ) (n : Counts) (l : List ℕ) (i : ℕ) → solid (marked_byte k n l i) ≡ solid (get_or l i 0)
marked_byte_solid k n l i = ap solid (marked_byte_is k n l i) ∙ go (solid (get_or l i 0)) refl (touches_solid k n l (cell_at n i))
  where
    go : (s : Bool) → solid (get_or l i 0) ≡ s → (t : Bool) → solid (cond s (get_or l i 0) (cond t 1 0)) ≡ s
    go true e t = e
    go false e true = refl
    go false e false = refl

-- ---- the marked list

pub marked_length : (k : ℕ) (n : Counts) (l : List ℕ) → length (marked k n l) ≡ length l
unfolding marked
marked_length k n l = tabulate_length (marked_byte k n l) (length l)

pub marked_at : (k : ℕ) (n : Counts) (l : List ℕ) (i : ℕ) → i < length l → get_or (marked k n l) i 0 ≡ marked_byte k n l i
unfolding marked
marked_at k n l i h = tabulate_at (marked_byte k n l) (length l) i 0 h

past : (k : ℕ) (n : Counts) (l : List ℕ) (i : ℕ) → length l ≤ i → get_or (marked k n l) i 0 ≡ get_or l i 0
past k n l i h =
    let long = marked_length k n l in
    let out : length (marked k n l) ≤ i = omega arith in
    get_or-eq_default (marked k n l) 0 out ∙ sym (get_or-eq_default l 0 h)

-- no cell's solidity changes
pub marked_same : (k : ℕ) (n : Counts) (l : List ℕ) → SameSolid (marked k n l) l
marked_same k n l = record { long = marked_length k n l; alike = alike }
  where
    alike : (i : ℕ) → solid (get_or (marked k n l) i 0) ≡ solid (get_or l i 0)
    alike i = elim (dec_lt i (length l)) [ yes h ↦ ap solid (marked_at k n l i h) ∙ marked_byte_solid k n l i | no h ↦ ap solid (past k n l i (omega arith)) ]

-- and no solid byte
pub marked_keeps : (k : ℕ) (n : Counts) (l : List ℕ) (i : ℕ) → solid (get_or l i 0) ≡ true → get_or (marked k n l) i 0 ≡ get_or l i 0
marked_keeps k n l i e = elim (dec_lt i (length l)) [ yes h ↦ marked_at k n l i h ∙ marked_byte_is k n l i ∙ rw e refl | no h ↦ past k n l i (omega arith) ]

-- marking twice is marking once
pub marked_twice : (k : ℕ) (n : Counts) (l : List ℕ) → marked k n (marked k n l) ≡ marked k n l
marked_twice k n l = twice
  where
    m : List ℕ
    m = marked k n l

    again : (i : ℕ) → i < length l → marked_byte k n m i ≡ marked_byte k n l i
    again i h = marked_byte_is k n m i ∙ rw ((marked_same k n l).alike i, touches_same k n m l (cell_at n i) (marked_same k n l)) (go (solid (get_or l i 0)) refl)
      where
        go : (s : Bool) → solid (get_or l i 0) ≡ s → cond s (get_or m i 0) (cond (touches_solid k n l (cell_at n i)) 1 0) ≡ marked_byte k n l i
        go true e = marked_at k n l i h
        go false e = sym (marked_byte_is k n l i ∙ rw e refl)

    twice : marked k n m ≡ m
    twice =
        ext_get_or 0 (marked k n m) m (marked_length k n m)
        (λ i h.
        let low : i < length l = omega (arith, marked_length k n m, marked_length k n l) in
        marked_at k n m i (omega (arith, marked_length k n l)) ∙ again i low ∙ sym (marked_at k n l i low))

-- ---- completeness

-- no clear cell touches a solid one, said of every two bytes
abbrev pub NoneTouch : ℕ → Counts → List ℕ → Type 0
NoneTouch k n l = (i j : ℕ) → i < length l → j < length l → clear (get_or l i 0) ≡ true → solid (get_or l j 0) ≡ true → Touches k (cell_at n i) (cell_at n j) → ⊥

pub complete_iff : (k : ℕ) (n : Counts) (l : List ℕ) → (complete k n l ≡ true) ↔ NoneTouch k n l
unfolding complete touches_solid
complete_iff k n l = (apart, whole)
  where
    apart : complete k n l ≡ true → NoneTouch k n l
    apart e i j hi hj c s t =
        true≢false
        (sym (any_some (λ i. clear (get_or l i 0) && touches_solid k n l (cell_at n i)) (length l) i hi
        (rw c (any_some (λ j. solid (get_or l j 0) && touching k (cell_at n i) (cell_at n j)) (length l) j hj
        (rw s ((touching_iff k (cell_at n i) (cell_at n j)).1 t)))))
        ∙ not-true _ e)

    whole : NoneTouch k n l → complete k n l ≡ true
    whole h = ap not (any_none _ (length l) (λ i hi. not_so _ (λ e.
        let (c, t) = and_both _ _ e in
        let (j, hj, both) = any_which _ (length l) t in
        let (s, near) = and_both _ _ both in
        h i j hi hj c s ((touching_iff k (cell_at n i) (cell_at n j)).0 near))))

-- where cells that touch at j touch at k, marks that are complete at k are so at j
complete_by : (j k : ℕ) (n : Counts) (l : List ℕ) → ((c d : Cell) → Touches j c d → Touches k c d) → complete k n l ≡ true → complete j n l ≡ true
complete_by j k n l further e = (complete_iff j n l).1 (λ a b ha hb c s t. (complete_iff k n l).0 e a b ha hb c s (further _ _ t))

-- so at every number below
pub complete_below : (j k : ℕ) (n : Counts) (l : List ℕ) → j ≤ k → complete k n l ≡ true → complete j n l ≡ true
complete_below j k n l le = complete_by j k n l (λ c d. touches_within le)

-- and from 3 at every number
pub complete_from_3 : (k : ℕ) (n : Counts) (l : List ℕ) → complete 3 n l ≡ true → complete k n l ≡ true
complete_from_3 k n l = complete_by k 3 n l (λ c d. touches_at_3)

-- marking makes the marks complete
pub marked_complete : (k : ℕ) (n : Counts) (l : List ℕ) → complete k n (marked k n l) ≡ true
unfolding complete
marked_complete k n l = ap not (any_none _ (length (marked k n l)) none)
  where
    none : (i : ℕ) → i < length (marked k n l) → (clear (get_or (marked k n l) i 0) && touches_solid k n (marked k n l) (cell_at n i)) ≡ false
    none i h =
        let long = marked_length k n l in
        rw (touches_same k n (marked k n l) l (cell_at n i) (marked_same k n l), marked_at k n l i (omega arith), marked_byte_is k n l i)
        (go (solid (get_or l i 0)) refl (touches_solid k n l (cell_at n i)))
      where
        go : (s : Bool) → solid (get_or l i 0) ≡ s → (t : Bool) → (clear (cond s (get_or l i 0) (cond t 1 0)) && t) ≡ false
        go true e t = not_so _ (λ f. let z = eqb-true (get_or l i 0) 0 (and_both _ _ f).0 in true≢false (sym e ∙ le-ltb 1 (get_or l i 0) (omega arith)))
        go false e true = refl
        go false e false = refl

-- ---- marking at a smaller k

-- what touches a solid cell at j does so at k
touches_solid_within : {j k : ℕ} (n : Counts) (l : List ℕ) (c : Cell) → j ≤ k → touches_solid j n l c ≡ true → touches_solid k n l c ≡ true
unfolding touches_solid
touches_solid_within {j} {k} n l c le e =
    let (i, h, both) = any_which _ (length l) e in
    let (s, t) = and_both (solid (get_or l i 0)) (touching j c (cell_at n i)) both in
    any_some (λ i. solid (get_or l i 0) && touching k c (cell_at n i)) (length l) i h
    (rw s ((touching_iff k c (cell_at n i)).1 (touches_within le ((touching_iff j c (cell_at n i)).0 t))))

-- it leaves clear whatever marking at k leaves clear
pub marked_clear : (j k : ℕ) (n : Counts) (l : List ℕ) (i : ℕ) → j ≤ k → clear (get_or (marked k n l) i 0) ≡ true → clear (get_or (marked j n l) i 0) ≡ true
marked_clear j k n l i le e =
    elim (dec_lt i (length l)) [
      | yes h ↦ ap clear (marked_at j n l i h ∙ marked_byte_is j n l i)
          ∙ go (solid (get_or l i 0)) (touches_solid k n l (cell_at n i)) (touches_solid j n l (cell_at n i)) (touches_solid_within n l (cell_at n i) le)
          (sym (ap clear (marked_at k n l i h ∙ marked_byte_is k n l i)) ∙ e)
      | no h ↦ ap clear (past j n l i (omega arith) ∙ sym (past k n l i (omega arith))) ∙ e
    ]
  where
    go : (s t u : Bool) → (u ≡ true → t ≡ true) → clear (cond s (get_or l i 0) (cond t 1 0)) ≡ true → clear (cond s (get_or l i 0) (cond u 1 0)) ≡ true
    go true t u h e = e
    go false true u h e = absurd (true≢false (sym e))
    go false false false h e = refl
    go false false true h e = absurd (true≢false (sym (h refl)))
