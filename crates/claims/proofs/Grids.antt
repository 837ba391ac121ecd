-- The claims about the grid, each from its law. Assumes nothing.
use Rattle.std.specs.Prelude.{Ok, Err, Result}
use Rattle.cells.specs.declared.Refusal.{Refusal}
use Prim.Native.Nat.{ℕ, suc, ◌+◌, ◌*◌, ◌/◌, ◌%◌, ◌≤◌, ◌<◌}
use native.Mathlib.Nat.{mul_comm, mul_assoc, mul-add, mul-suc, mul-le-mul_left}
use native.Mathlib.Omega.{arith}
use mathlib.Core.Path.{◌≡◌, refl, sym, subst, ap, ◌∙◌}
use mathlib.Core.Bool.{Bool, true, false, cond, ◌&&◌, true≢false}
use mathlib.Core.Logic.{◌⊎◌, inl, inr, ◌↔◌}
use mathlib.Core.List.{List}
use lib.IntN.{ℤ, pos, nat_abs}
use lib.ListN.{length, get_or}
use borrow.Author.Tests.{ltb-true, lt-ltb, eqb-true}
use denote.Ref.{Bor}
use Rattle.cells.specs.Parts.{StartsAt}
use Rattle.cells.specs.declared.Counts.{Counts}
use Rattle.cells.specs.Checks.{Verdict, by_verdict}
use Rattle.cells.specs.Touching.{touching, Touches}
use Rattle.cells.proofs.Checks.{by_fine}
use Rattle.cells.proofs.Touching.{and_both, touching_iff}
use Rattle.grids.specs.declared.LayerPart.{LayerPart}
use Rattle.grids.specs.Grid.{part_at, shape, index, cell_at, solid, layer_check, layer_start, layer_length, layer_part, layer, start_of, GivesLayerPart}
use Rattle.grids.specs.Marks.{touches_solid, marked, complete, completeness, Marks, Completes}
use Rattle.grids.specs.Inside.{Shaped}
use Rattle.grids.proofs.Shapes.{shaped}
use Rattle.grids.proofs.Layers.{layer_empty, layer_long, layer_own}
use Rattle.grids.proofs.Places.{cell_at_index, index_of_cell, index_below, x_below, y_below, z_below}
use Rattle.grids.proofs.Any.{any_some, any_which}
use Rattle.grids.proofs.Marking.{marked_byte_is, marked_at, marked_length, marked_keeps, marked_same, marked_twice, marked_complete, complete_iff}
use Rattle.claims.specs.Example.{example_counts}
use Rattle.claims.specs.Grids.{OneAnswer, ByteMeans, BytePlaces, Places, Layers, Marking, MarkedCall, Complete, SaysComplete, ShutOut, two_layers}

-- a contract `r ≡ f of the inputs` admits one answer
pub one : {A : Type 0} {f : A} (r s : A) → r ≡ f → s ≡ f → r ≡ s
one r s p q = p ∙ sym q

-- and so one place
pub one_place : {start : ℕ} {whole r s : Bor (List ℕ)} → StartsAt start whole r → StartsAt start whole s → r.ref_ptr ≡ s.ref_ptr
one_place {r = r} {s = s} p q i = (one r.ref_ptr.0 s.ref_ptr.0 p.block q.block i, one r.ref_ptr.1 s.ref_ptr.1 p.offset q.offset i)

pub one_answer : OneAnswer
one_answer =
    record {
      by_shape = λ n bytes r s p q. one r s p.says q.says;
      by_layer_part = λ n bytes z r s p q. one r s p.says q.says;
      by_layer = λ n cells z r s p q. (one r.now s.now p.says q.says, one_place p.there q.there);
      by_complete = λ n l r s p q. one r s p.says q.says;
      by_mark = λ n l r s a b p q. (one r s p.says q.says, one a b p.holds q.holds);
    }

numbered : (n : Counts) (bytes : ℕ) → shape n bytes ≡ Ok tt → BytePlaces n bytes
numbered n bytes fine =
    record {
      counts = (s.x.some, s.x.most, s.y.some, s.y.most, s.z.some, s.z.most);
      bytes_are = s.bytes_are;
      order = λ x y z. refl;
      inside = λ i h. (
        i % n.nx,
        i / n.nx % n.ny,
        i / (n.nx * n.ny),
        (x_below n bytes s i h, y_below n bytes s i h, z_below n bytes s i h),
        index_of_cell n i,
        refl,
      );
      every = λ x y z h. (
        subst (λ (t : ℕ). index n x y z < t) (sym s.bytes_are) (index_below n x y z h.0 h.1 h.2),
        cell_at_index n x y z h.0 h.1,
      );
    }
  where
    s : Shaped n bytes
    s = shaped n bytes fine

pub byte_means : (b : ℕ) → ByteMeans b
byte_means b = record { is_solid = (λ e. ltb-true 1 b e, λ h. lt-ltb 1 b h); is_clear = (λ e. eqb-true b 0 e, λ e. rw e) }

pub places : (n : Counts) (bytes : ℕ) → Places n bytes
places n bytes = record { numbered = numbered n bytes }

-- where the partner's part lies, and how long it is
named_from : (n : Counts) (bytes : ℕ) (z : ℤ) (start many : ℕ) → GivesLayerPart n bytes z (Ok (part_at start many)) →
    (layer_check n bytes z ≡ Ok tt) × (start ≡ nat_abs z * (n.nx * n.ny)) × (many ≡ n.nx * n.ny)
unfolding layer_part
named_from n bytes z start many named =
    let (fine, same) = by_fine Err (layer_check n bytes z) (Ok (part_at (layer_start n z) (layer_length n)))
    (λ r no. let z : ◌≡◌ {A = ℕ} 0 1 = cc no in omega arith) (sym named.says) in
    let is : part_at (layer_start n z) (layer_length n) ≡ part_at start many = cc same in
    let a : layer_start n z ≡ start = ap (λ (p : LayerPart). p.start) is in
    let b : layer_length n ≡ many = ap (λ (p : LayerPart). p.long) is in
    (fine, sym a, sym b)

-- byte x + nx·y of layer z has the index of (x, y, z)
index_there : (n : Counts) (x y z : ℕ) → z * (n.nx * n.ny) + (x + n.nx * y) ≡ index n x y z
index_there n x y z =
    omega (arith, mul_comm z (n.nx * n.ny), mul_assoc n.nx n.ny z, mul-add n.nx y (n.ny * z))

pub layers : (n : Counts) (z : ℤ) (cells layer : Bor (List ℕ)) (part : Result LayerPart Refusal) → Layers n z cells layer part
layers n z cells layer part =
    record {
      empty = λ named given.
          let (why, none) = layer_empty n cells.now z in
          (λ e. let (r, f) = why (sym given.says ∙ e) in (r, named.says ∙ f), λ refused. given.says ∙ none (refused.0, sym named.says ∙ refused.1));
      from = λ start many named. let (fine, start_is, many-are) = named_from n (length cells.now) z start many named in (start_is, many-are);
      of_cells = λ start many named given x y hx hy.
          let (fine, start_is, many-are) = named_from n (length cells.now) z start many named in
          let row : n.nx * suc y ≤ n.nx * n.ny = mul-le-mul_left n.nx hy in
          let own = layer_own n cells.now z start many (sym named.says) (x + n.nx * y) (omega (arith, mul-suc n.nx y)) in
          ap (λ (l : List ℕ). get_or l (x + n.nx * y) 0) given.says ∙ own
          ∙ ap (λ (i : ℕ). get_or cells.now i 0) (ap (λ (s : ℕ). s + (x + n.nx * y)) start_is ∙ index_there n x y (nat_abs z));
      own = λ start many named given.
          let there = subst (λ (p : Result LayerPart Refusal). StartsAt (start_of p) cells layer) (sym named.says) given.there in (
            there,
            ap length given.says ∙ layer_long n cells.now z start many (sym named.says),
            λ i h. ap (λ (l : List ℕ). get_or l i 0) given.says ∙ layer_own n cells.now z start many (sym named.says) i h,
          );
    }

-- what touching a solid cell means
touched : (k : ℕ) (n : Counts) (l : List ℕ) (i : ℕ) →
    (touches_solid k n l (cell_at n i) ≡ true) ↔ ((j : ℕ) × (j < length l) × (solid (get_or l j 0) ≡ true) × Touches k (cell_at n i) (cell_at n j))
unfolding touches_solid
touched k n l i = (
  λ e.
      let (j, h, both) = any_which _ (length l) e in
      let (s, t) = and_both _ _ both in
      (j, h, s, (touching_iff k (cell_at n i) (cell_at n j)).0 t),
  λ w. any_some (λ j. solid (get_or l j 0) && touching k (cell_at n i) (cell_at n j)) (length l) w.0 w.1
      (rw w.2 ((touching_iff k (cell_at n i) (cell_at n w.0)).1 w.3)),
)

-- the byte of a cell that is not solid
unsolid_byte : (k : ℕ) (n : Counts) (l : List ℕ) (i : ℕ) → i < length l → solid (get_or l i 0) ≡ false →
    get_or (marked k n l) i 0 ≡ cond (touches_solid k n l (cell_at n i)) 1 0
unsolid_byte k n l i h e = marked_at k n l i h ∙ marked_byte_is k n l i ∙ rw e refl

one_or_0 : (t : Bool) {b : ℕ} → b ≡ cond t 1 0 → (b ≡ 1) ⊎ (b ≡ 0)
one_or_0 true e = inl e
one_or_0 false e = inr e

is_1 : (t : Bool) {b : ℕ} → b ≡ cond t 1 0 → (b ≡ 1) ↔ (t ≡ true)
is_1 true e = (λ f. refl, λ f. e)
is_1 false e = (λ f. absurd (omega arith), λ f. absurd (true≢false (sym f)))

pub marking : (k : ℕ) (n : Counts) (l : List ℕ) → Marking k n l
marking k n l =
    record {
      near = λ i h e.
          let (there, back) = touched k n l i in
          let (so, made) = is_1 (touches_solid k n l (cell_at n i)) (unsolid_byte k n l i h e) in
          (λ f. there (so f), λ w. made (back w));
      else_0 = λ i h e. one_or_0 (touches_solid k n l (cell_at n i)) (unsolid_byte k n l i h e);
      long = marked_length k n l;
      keeps = marked_keeps k n l;
      alike = (marked_same k n l).alike;
      whole = marked_complete k n l;
      once = marked_twice k n l;
    }

pub marked_call : (n : Counts) (l : List ℕ) → MarkedCall n l
unfolding completeness
marked_call n l = record { says_yes = yes; refused = λ r a m. m.holds ∙ ap (by_verdict (λ s. l) (marked 3 n l)) (sym m.says) }
  where
    yes : (r : Verdict) (a : List ℕ) (c : Result Bool Refusal) → Marks n l r a → r ≡ Ok tt → Completes n a c → c ≡ Ok true
    yes r a c m e f =
        let fine = sym m.says ∙ e in
        f.says ∙ ap (completeness n) (m.holds ∙ ap (by_verdict (λ s. l) (marked 3 n l)) fine) ∙ rw (marked_length 3 n l, fine, marked_complete 3 n l)

pub complete_means : (k : ℕ) (n : Counts) (l : List ℕ) → Complete k n l
complete_means k n l = record { means = complete_iff k n l }

-- what the call says is what the test says, since a refusal is neither
which : (b t : Bool) → ◌≡◌ {A = Result Bool Refusal} (Ok t) (Ok b) → b ≡ t
which true true e = refl
which false false e = refl
which true false e = absurd (let z : ◌≡◌ {A = ℕ} 0 1 = cc in omega arith)
which false true e = absurd (let z : ◌≡◌ {A = ℕ} 0 1 = cc in omega arith)

answered : (v : Verdict) (n : Counts) (l : List ℕ) (t : Bool) → Ok t ≡ by_verdict Err (Ok (complete 3 n l)) v →
    complete 3 n l ≡ t
answered (Ok _) n l t e = which (complete 3 n l) t e
answered (Err r) n l true e = absurd (let z : ◌≡◌ {A = ℕ} 0 1 = cc in omega arith)
answered (Err r) n l false e = absurd (let z : ◌≡◌ {A = ℕ} 0 1 = cc in omega arith)

pub says_complete : (n : Counts) (l : List ℕ) → SaysComplete n l
unfolding completeness
says_complete n l = record { yes = λ c. answered (shape n (length l)) n l true c.says; no = λ c. answered (shape n (length l)) n l false c.says }

pub shut_out : ShutOut
unfolding shape marked complete completeness layer layer_part
shut_out =
    record {
      one_byte_short = λ c. let e = c.says in let z : ◌≡◌ {A = ℕ} 0 1 = cc in omega arith;
      no_shape = λ r c. let e = c.says in let z : ◌≡◌ {A = ℕ} 0 1 = cc in omega arith;
      bytes_first = λ c. let e = c.says in let z : ◌≡◌ {A = ℕ} 0 1 = cc in omega arith;
      marks_nothing = λ r m. let z : ◌≡◌ {A = ℕ} 0 1 = ap (λ (l : List ℕ). get_or l 0 0) m.holds in omega arith;
      refuses = λ r a m. let e : Err r ≡ Ok tt = m.says in let z : ◌≡◌ {A = ℕ} 0 1 = cc in omega arith;
      complete_always = λ c. let f : (Ok true) ≡ Ok false = c.says in let z : ◌≡◌ {A = ℕ} 0 1 = cc in omega arith;
      never_complete = λ c. let f : (Ok false) ≡ Ok true = c.says in let z : ◌≡◌ {A = ℕ} 0 1 = cc in omega arith;
      empty_layer = λ cells r e c none.
          let z : ◌≡◌ {A = ℕ} 0 8 = ap length (sym none ∙ c.says ∙ ap (λ (l : List ℕ). layer example_counts l (pos 0)) e) in
          omega arith;
      first_layer = λ cells r e c same.
          let f : start_of (layer_part two_layers (length cells.now) (pos 1)) ≡ 2 = ap
          (λ (l : List ℕ). start_of (layer_part two_layers (length l) (pos 1))) e in
          omega (arith, c.there.offset, ap (λ (p : ℕ × ℕ). p.1) same);
      first_part = λ c. let z : ◌≡◌ {A = ℕ} 0 2 = ap start_of c.says in omega arith;
      no_part = λ r c. let z : ◌≡◌ {A = ℕ} 0 2 = ap start_of c.says in omega arith;
    }
