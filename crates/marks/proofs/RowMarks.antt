-- A row's window gives the row's marks and gaps, and the rows those of the grid. Assumes nothing.
use Prim.Native.Nat.{ℕ, ◌+◌, ◌*◌, ◌-◌, ◌/◌, ◌%◌, ◌≤◌, ◌<◌}
use native.Mathlib.Nat.{mul-add-mod_self_left, mul-add-div, mod-eq_of_lt, div-eq_of_lt, div-div-eq-div-mul}
use native.Mathlib.Omega.{arith}
use native.Mathlib.Decide.{dec_lt}
use mathlib.Core.Path.{◌≡◌, refl, sym, subst, ap, ◌∙◌}
use mathlib.Core.Bool.{Bool, true, false, not, ◌&&◌}
use mathlib.Core.List.{List}
use lib.ListN.{length, get_or}
use borrow.Author.Tests.{eqb-true, le-ltb}
use Rattle.cells.specs.declared.Counts.{Counts}
use Rattle.grids.specs.Grid.{cell_at, clear, solid}
use Rattle.grids.specs.Marks.{any, touches_solid, marked_byte, complete}
use Rattle.cells.specs.Fills.{Filled}
use Rattle.marks.specs.Rows.{in_column, SolidWhere, Framed, beside, mark_for, put_byte, gap_by, gap}
use Rattle.grids.proofs.Any.{same_test, any_same, any_some, any_which, any_false}
use Rattle.grids.specs.Inside.{Shaped}
use Rattle.grids.proofs.Beside.{touches_beside, beside_touches}
use Rattle.grids.proofs.Marking.{SameSolid, marked_byte_is, marked_byte_solid}
use Rattle.marks.proofs.Windows.{window_beside, beside_window}

-- marked from one index to another: the same cells are solid
pub filled_same : (k : ℕ) (n : Counts) (from to : ℕ) (l m : List ℕ) → Filled (marked_byte k n l) from to l m → SameSolid m l
filled_same k n from to l m h = record { long = h.long; alike = alike }
  where
    alike : (i : ℕ) → solid (get_or m i 0) ≡ solid (get_or l i 0)
    alike i =
        elim (dec_lt i from) [
          | yes low ↦ ap solid (h.before i low)
          | no ge ↦ elim (dec_lt i to) [
            | yes mid ↦ ap solid (h.inside i (omega arith) mid)
                ∙ marked_byte_solid k n l i
            | no up ↦ ap solid (h.after i (omega arith))
          ]
        ]

-- ---- a row's window

module _ (n : Counts) (l : List ℕ) (s : Shaped n (length l)) (r : ℕ) (below : r < n.ny * n.nz) (w : List ℕ)
    (sees : SolidWhere (in_column n l r) n.nx w) (framed : Framed n.nx w) where
  -- the cell of byte x of row r
  row_x : (x : ℕ) → x < n.nx → (n.nx * r + x) % n.nx ≡ x
  row_x x h = mul-add-mod_self_left n.nx r x ∙ mod-eq_of_lt h

  row_of : (x : ℕ) → x < n.nx → (n.nx * r + x) / n.nx ≡ r
  row_of x h = mul-add-div s.x.some r x ∙ ap (λ (t : ℕ). r + t) (div-eq_of_lt h) ∙ omega arith

  row_z : (x : ℕ) → x < n.nx → (n.nx * r + x) / (n.nx * n.ny) ≡ r / n.ny
  row_z x h = sym (div-div-eq-div-mul (n.nx * r + x) n.nx n.ny) ∙ ap (λ (t : ℕ). t / n.ny) (row_of x h)

  -- a cell of the row that is not solid touches a solid one exactly when the window says so
  pub window_tells : (x : ℕ) → x < n.nx → solid (get_or l (n.nx * r + x) 0) ≡ false → beside w x ≡ touches_solid 3 n l (cell_at n (n.nx * r + x))
  window_tells x h soft =
      same_test _ _ (λ t. beside_touches n l s i soft (rw (row_x x h, row_of x h, row_z x h) (window_beside n l s r below w sees framed x h t)))
      (λ t. beside_window n l s r below w sees framed x (rw (row_x x h, row_of x h, row_z x h) at (touches_beside n l s 3 i t)))
    where
      i : ℕ
      i = n.nx * r + x

  mark_tells : (x : ℕ) → x < n.nx → mark_for (get_or l (n.nx * r + x) 0) (beside w x) ≡ marked_byte 3 n l (n.nx * r + x)
  mark_tells x h = go (solid (get_or l i 0)) refl ∙ sym (marked_byte_is 3 n l i)
    where
      i : ℕ
      i = n.nx * r + x

      go : (t : Bool) → solid (get_or l i 0) ≡ t → mark_for (get_or l i 0) (beside w x) ≡ mark_for (get_or l i 0) (touches_solid 3 n l (cell_at n i))
      go true e = rw e
      go false e = rw (e, window_tells x h e)

  -- so it gives the row's marks
  pub put_marks : (k : ℕ) → n.nx * r ≤ k → k < n.nx * r + n.nx → put_byte w l (n.nx * r) k ≡ marked_byte 3 n l k
  put_marks k ge lt =
      let e : n.nx * r + (k - n.nx * r) ≡ k = omega arith in
      subst (λ (t : ℕ). mark_for (get_or l t 0) (beside w (k - n.nx * r)) ≡ marked_byte 3 n l t) e (mark_tells (k - n.nx * r) (omega arith))

  -- and its gaps
  pub gap_tells : (x : ℕ) → x < n.nx → (clear (get_or l (n.nx * r + x) 0) && beside w x) ≡ gap n l (n.nx * r + x)
  unfolding gap
  gap_tells x h = go (clear (get_or l i 0)) refl
    where
      i : ℕ
      i = n.nx * r + x

      soft : clear (get_or l i 0) ≡ true → solid (get_or l i 0) ≡ false
      soft e = let z = eqb-true (get_or l i 0) 0 e in le-ltb 1 (get_or l i 0) (omega arith)

      go : (t : Bool) → clear (get_or l i 0) ≡ t → (clear (get_or l i 0) && beside w x) ≡ (clear (get_or l i 0) && touches_solid 3 n l (cell_at n i))
      go true e = rw e (window_tells x h (soft e))
      go false e = rw e

  pub gap_row : gap_by w l (n.nx * r) n.nx ≡ any (λ x. gap n l (n.nx * r + x)) n.nx
  unfolding gap_by
  gap_row = any_same _ _ n.nx gap_tells

-- ---- gaps, row by row

pub complete_is : (n : Counts) (l : List ℕ) → complete 3 n l ≡ not (any (gap n l) (length l))
unfolding complete gap
complete_is n l = refl

module _ (n : Counts) (l : List ℕ) (r : ℕ) where
  -- no gap in the first r rows, nor in row r
  pub no_gap_more : ((k : ℕ) → k < n.nx * r → gap n l k ≡ false) → any (λ x. gap n l (n.nx * r + x)) n.nx ≡ false → (k : ℕ) →
      k < n.nx * (r + 1) → gap n l k ≡ false
  no_gap_more none here k lt =
      elim (dec_lt k (n.nx * r)) [
        | yes low ↦ none k low
        | no ge ↦
            let e : n.nx * r + (k - n.nx * r) ≡ k = omega arith in
            subst (λ (t : ℕ). gap n l t ≡ false) e (any_false (λ x. gap n l (n.nx * r + x)) n.nx (k - n.nx * r) here (omega arith))
      ]

  -- a gap in row r
  pub some_gap : n.nx * r + n.nx ≤ length l → any (λ x. gap n l (n.nx * r + x)) n.nx ≡ true → any (gap n l) (length l) ≡ true
  some_gap fits e = let (x, lt, g) = any_which (λ x. gap n l (n.nx * r + x)) n.nx e in any_some (gap n l) (length l) (n.nx * r + x) (omega arith) g
