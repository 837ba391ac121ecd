-- Cells stored tie by tie, at the front of the lent slice. Assumes nothing.
use mathlib.Core.Path.{◌≡◌, refl, sym, ap, ap₂, ◌∙◌, subst}
use mathlib.Core.List.{List, [], ◌∷◌, ◌++◌, map, append-nil, append_assoc, map-append}
use Prim.Native.Nat.{ℕ, suc, ◌+◌, ◌*◌, ◌≤◌, ◌<◌}
use native.Mathlib.Omega.{arith}
use lib.IntN.{ℤ}
use lib.ListN.{length, drop, length-append, length-set, length-map}
use Rattle.cells.specs.declared.Cell.{Cell}
use Rattle.lines.specs.declared.Order.TheVariants.{Yzx}
use Rattle.lines.specs.declared.Tie.{Tie}
use Rattle.lines.specs.declared.Tie.TheVariants.{One}
use Rattle.lines.specs.Steps.{Axis, X, Y, Z, Steps, at, total}
use Rattle.lines.specs.Preference.{y_z_x}
use Rattle.lines.specs.Lines.{differences, InLimit}
use Rattle.lines.specs.Touching.{tie_steps, next_tie, ways, Visit, visits_by, visits_from, visits, visited, visit_cell, crossings, touching_line}
use Rattle.lines.proofs.Steps.{bump, bump_within}
use Rattle.lines.proofs.Merge.{Within}
use Rattle.lines.proofs.Centres.{centres_good}
use Rattle.lines.proofs.Cells.{limited_difference}
use Rattle.lines.proofs.Signs.{lowered_none}
use Rattle.lines.proofs.Touched.{touching_parts}
use Rattle.lines.proofs.Ways.{at_even}
use Rattle.tripod.specs.Tripod.{NextTie}
use Rattle.lists.specs.declared.six.SixWay.{SixWay}
use Rattle.lists.specs.declared.six.SixSpot.{SixSpot}
use Rattle.lists.specs.Lists.{numbers, filled}
use Rattle.lists.specs.Kept.{SixWayOf, SixSpotAt, crossed_six, put3}
use Rattle.lists.proofs.Front.{put_after}
use Rattle.lists.proofs.Line.{spot_crossed, can_cross}
use Rattle.touching.specs.declared.list.Past.{Past}
use Rattle.touching.specs.Passing.{of_tie, tie_size}
use Rattle.touching.specs.Listing.{put_cells, cells_of, CanTieSix, CanPut, Put}
use Rattle.touching.proofs.Group.{Together, neither, both, tie_passes, tie_steps_from, tie_counts, can_map}
use Rattle.touching.proofs.Passage.{AtTie, at_start, rest_is, at_next, at_end}
use Rattle.touching.proofs.Counting.{Left, left_most}

-- ---- stores

pub put_cells_append : (l : List ℤ) (at : ℕ) (k m : List Cell) → put_cells l at (k ++ m) ≡ put_cells (put_cells l at k) (at + 3 * length k) m
unfolding put_cells
put_cells_append l at [] m = ap (λ i. put_cells l i m) (omega arith)
put_cells_append l at (c ∷ k) m = put_cells_append (put3 l at c) (at + 3) k m ∙ ap (λ i. put_cells (put_cells (put3 l at c) (at + 3) k) i m) (omega arith)

-- behind a front of so many numbers
put_behind : (F d : List ℤ) (n : ℕ) (k : List Cell) → length F ≡ n → n + 3 * length k ≤ length d →
    put_cells (F ++ drop n d) n k ≡ (F ++ numbers k) ++ drop (n + 3 * length k) d
unfolding put_cells
put_behind F d n [] e h =
    let i : n ≡ n + 3 * 0 = omega arith in
    ap₂ (λ a b. a ++ drop b d) (sym (append-nil F)) i
put_behind F d n (c ∷ k) e h =
    let i : n + 3 + 3 * length k ≡ n + 3 * suc (length k) = omega arith in
    ap (λ l. put_cells l (n + 3) k) (put_after F d n c e (omega arith))
    ∙ put_behind (F ++ numbers (c ∷ [])) d (n + 3) k (length-append F (numbers (c ∷ [])) ∙ ap (λ m. m + 3) e) (omega arith)
    ∙ ap₂ (λ a b. a ++ drop b d) (append_assoc F (numbers (c ∷ [])) (numbers k)) i

-- all cells of a line, from the front on
pub put_all_filled : (k : List Cell) (entry : List ℤ) → 3 * length k ≤ length entry → put_cells entry 0 k ≡ filled k entry
put_all_filled k entry h =
    let i : 0 + 3 * length k ≡ 3 * length k = omega arith in
    put_behind [] entry 0 k refl (omega arith) ∙ ap (λ i. numbers k ++ drop i entry) i

pub put_cells_length : (l : List ℤ) (at : ℕ) (k : List Cell) → length (put_cells l at k) ≡ length l
unfolding put_cells
put_cells_length l at [] = refl
put_cells_length l at (c ∷ k) =
    put_cells_length (put3 l at c) (at + 3) k ∙ simp length-set

-- the cell of a tie of one axis, by the spot behind it
pub one_put : (out exit : List ℤ) (i : ℕ) (w : SixWay) (s t : SixSpot) (n : Axis) → NextTie s.e (One n) → t ≡ crossed_six w n s →
    exit ≡ put3 out i t.at → Put out i w s (record { behind = t; cells = 1; faces = 1 }) exit
unfolding put_cells
one_put out exit i w s t n next is stored =
    record { tie = One n; next = next; stored = stored ∙ ap (λ u. put3 out i u.at) is; spot = is; cells = refl; faces = refl }

-- P before the cells of the ties
pub put_first : (p q : Cell) (entry : List ℤ) → 3 * length (touching_line p q) ≤ length entry →
    put_cells (put3 entry 0 p) 3 (map (visit_cell p q) (visits_from (crossings p q) (total (differences p q)) (at 0 0 0))) ≡ filled (touching_line p q) entry
unfolding put_cells
put_first p q entry room =
    ap (put_cells entry 0) (sym (touching_parts p q)) ∙ put_all_filled (touching_line p q) entry room

-- ---- a line

module _ (p q : Cell) (w : SixWay) (way : SixWayOf p q w) where
  abbrev D : Steps
  D = differences p q

  abbrev pub SpotAt : Steps → SixSpot → Type 0
  SpotAt t s = Within D t × SixSpotAt Yzx p q t s

  pub spot_step : (t : Steps) (s : SixSpot) (n : Axis) → SpotAt t s → t n < D n → SpotAt (bump t n) (crossed_six w n s)
  spot_step t s n h lt = (bump_within D t n lt h.0, spot_crossed Yzx p q w way t s n h.1)

  -- so many cells are stored; what is still to come makes the slice what it will be at the end
  pub record Coming (end out : List ℤ) (count : ℕ) (rest : List Visit) : Type 0 where
    pub left : Left D count rest
    pub stored : put_cells out (3 * count) (map (visit_cell p q) rest) ≡ end

  abbrev pub Filling : List ℤ → List ℤ → SixSpot → ℕ → ℕ → Type 0
  Filling end out s m count = AtTie D SpotAt (crossed_six w) spot_step (Coming end out count) s m

  pub filling_start : (out : List ℤ) (s : SixSpot) → SixSpotAt Yzx p q (at 0 0 0) s →
      Filling (put_cells out 3 (map (visit_cell p q) (visits_from (crossings p q) (total D) (at 0 0 0)))) out s 0 1
  unfolding visits
  filling_start out s h =
      at_start D SpotAt (crossed_six w) spot_step _ s ((λ a. omega (arith, at_even 0 a)), h) (record { left = omega arith; stored = refl })

  module _ (end out : List ℤ) (s : SixSpot) (m count : ℕ) (h : Filling end out s m count) where
    pub faces_most : m ≤ total D
    faces_most = omega (arith, h.made, h.full.within X, h.full.within Y, h.full.within Z)

    pub cells_most : InLimit p → InLimit q → count ≤ 114682
    cells_most hp hq = left_most D count (visits_from (crossings p q) h.ties h.t) h.rest.left (limited_difference p q hp hq)

    pub filling_long : (l : List ℤ) (i : ℕ) (k : List Cell) → end ≡ put_cells l i k → length out ≡ length l
    filling_long l i k e =
        sym (put_cells_length out (3 * count) (map (visit_cell p q) (visits_from (crossings p q) h.ties h.t))) ∙ ap length (h.rest.stored ∙ e)
        ∙ put_cells_length l i k

    pub filling_end : total D ≤ m → (out ≡ end) × (count ≡ length (visits (crossings p q)))
    unfolding put_cells
    filling_end le =
        let k = at_end D SpotAt (crossed_six w) spot_step (Coming end out count) s m h le in
        (k.stored, omega (arith, k.left))

    module _ (lt : m < total D) where
      less : total h.t < total D
      less = omega (arith, h.made)

      found : (tie : Tie) → NextTie s.e tie → tie ≡ next_tie (crossings p q) h.t
      found tie next = next.comes_first D h.t h.full.within less (h.belongs.1.value ∙ lowered_none _)

      abbrev here : List Visit
      here = visits_by h.t (tie_steps (crossings p q) h.t) ways

      size : (tie : Tie) → tie ≡ next_tie (crossings p q) h.t → length here ≡ tie_size tie
      size tie is = (tie_counts (crossings p q) (centres_good y_z_x D) h.t h.full.within less).0 ∙ ap tie_size (sym is)

      -- its cells are the spots'
      same_cells : {k : List Visit} {l : List SixSpot} → Together (λ v u. SpotAt (visited v) u) k l → cells_of l ≡ map (visit_cell p q) k
      same_cells neither = refl
      same_cells (both r t) = ap₂ ◌∷◌ r.1.cell (same_cells t)

      cells : (tie : Tie) → tie ≡ next_tie (crossings p q) h.t → cells_of (of_tie (crossed_six w) tie s) ≡ map (visit_cell p q) here
      cells tie is =
          ap (λ u. cells_of (of_tie (crossed_six w) u s)) is
          ∙ same_cells (tie_passes D SpotAt (crossed_six w) spot_step (crossings p q) (centres_good y_z_x D) refl h.t s h.belongs h.full.within less).0

      pub filling_can : InLimit p → InLimit q → 3 * length (visits (crossings p q)) ≤ length out → CanPut (length out) (3 * count) w s
      filling_can hp hq room =
          record {
            fits = λ tie next.
                let is = found tie next in (
                  room_for tie is,
                  subst (λ u. CanTieSix w u s) (sym is)
                      (can_map (crossed_six w) (λ u b. can_cross Yzx p q w way hp hq b.0 u b.1.0 b.1.1) (next_tie (crossings p q) h.t) s
                      (tie_steps_from D SpotAt (crossed_six w) spot_step (crossings p q) (centres_good y_z_x D) refl h.t s h.belongs
                      h.full.within less)),
                );
          }
        where
          -- the cells of the tie are among those that are left
          room_for : (tie : Tie) → tie ≡ next_tie (crossings p q) h.t → 3 * count + 3 * tie_size tie ≤ length out
          room_for tie is =
              let (more, e) = rest_is D SpotAt (crossed_six w) spot_step (Coming end out count) s m h lt in
              omega (arith, h.rest.left, ap length e, length-append here more, size tie is)

      pub filling_next : (r : Past SixSpot) (exit : List ℤ) → Put out (3 * count) w s r exit → Filling end exit r.behind (m + r.faces) (count + r.cells)
      filling_next r exit c =
          let is = found c.tie c.next in
          let many : length here ≡ r.cells = size c.tie is ∙ sym c.cells in
          let next : 3 * count + 3 * length (map (visit_cell p q) here) ≡ 3 * (count + r.cells) = omega (arith, length-map here (visit_cell p q)) in
          rw (c.spot, c.faces)
          (at_next D SpotAt (crossed_six w) spot_step (Coming end out count) (Coming end exit (count + r.cells)) s m h lt c.tie is
          (λ more k.
          record {
            left = omega (arith, k.left, length-append here more);
            stored =
                ap₂ (λ l i. put_cells l i (map (visit_cell p q) more)) (c.stored ∙ ap (put_cells out (3 * count)) (cells c.tie is)) (sym next)
                ∙ sym (put_cells_append out (3 * count) (map (visit_cell p q) here) (map (visit_cell p q) more))
                ∙ ap (put_cells out (3 * count)) (sym (map-append (visit_cell p q) here more)) ∙ k.stored;
          }))
