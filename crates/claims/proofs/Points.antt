-- The claims about a surveyed point's cell, each from its law; the table's rows by computation. Assumes nothing.
use Rattle.std.specs.Prelude.{Ok, Result}
use Rattle.cells.specs.declared.Refusal.{Refusal}
use Rattle.cells.specs.declared.Cell.{Cell}
use Prim.Native.Nat.{ℕ, ◌≤◌}
use mathlib.Core.Path.{◌≡◌, refl, sym, ap, subst, ◌∙◌}
use mathlib.Core.Bool.{false}
use mathlib.Core.Logic.{◌⊎◌, inl, inr}
use native.Mathlib.Omega.{arith}
use lib.IntN.{ℤ, pos, nat_abs}
use lib.Ieee.{Float, eq, le, lt, of_int, div, sub, neg, of_bits, to_bits}
use Rattle.cells.specs.declared.Cell as cell
use Rattle.cells.specs.declared.Counts.{Counts}
use Rattle.cells.specs.declared.End.{End}
use Rattle.cells.specs.declared.End.TheVariants.{P}
use Rattle.cells.specs.declared.Axis.{Axis}
use Rattle.cells.specs.declared.Axis.TheVariants.{X, Y, Z}
use Rattle.cells.specs.Refusals.{Told, at_end}
use Rattle.cells.specs.Touching.{on}
use Rattle.lines.proofs.Cells.{same_cell}
use Rattle.survey.specs.declared.Placement.{Placement}
use Rattle.survey.specs.declared.Point.{Point}
use Rattle.survey.specs.Quotient.{outside, cell_number}
use Rattle.survey.specs.Search.{Inside, AllInside}
use Rattle.survey.specs.Survey.{PlacedGrid, quotients, point_check, cell_at, look_up, cell_of, LooksUp, told_lookup}
use Rattle.survey.proofs.Whole.{whole_exact}
use Rattle.survey.proofs.Finite.{quotient_no_nan}
use Rattle.survey.proofs.Numbers.{one_number, number_whole_part, number_far, number_found, number_in, has_below, has_exactly, has_not_outside, outside_exactly}
use Rattle.grids.specs.Inside.{Counted}
use Rattle.grids.proofs.Shapes.{counted}
use Rattle.survey.proofs.Survey.{placed, point_fine}
use Rattle.survey.proofs.Lookups.{cell_given, cell_found, look_given}
use Rattle.claims.specs.Tables.{no_more, ◌and◌}
use Rattle.claims.specs.Points.{OneAnswer, Coordinate, OneCoordinate, OnlyOne, InItsCell, Finite, TheCell, Outside, Exact, Shares, Refuted, Every, table, wall_rows, cube, one_metre, metres, tenths, next_above, point, cell_is, refused}

pub one_answer : (n : Counts) (at : Placement) (p : Point) → OneAnswer n at p
one_answer n at p = record { alone = λ r s e f. e.says ∙ sym f.says }

-- ---- the cell

pub only_one : (q : Float) → OnlyOne q
only_one q = record {
  only = λ k m small below there i. one_number q m k below small i there;
  part = λ k small there. number_whole_part q k small there;
}

-- where q is inside, the definition's number is the coordinate
coordinate : (count : ℕ) (q : Float) → Inside count q → Coordinate count q (pos (cell_number count q))
coordinate count q h = let (below, has) = number_in count q h in record { number = cell_number count q; same = refl; below = below; has = has }

-- a coordinate is the definition's number, and its quotient is not outside
coordinate_is : (count : ℕ) (q : Float) (z : ℤ) → count ≤ 1024 → Coordinate count q z → z ≡ pos (cell_number count q)
coordinate_is count q z small k = k.same ∙ ap pos (sym (number_found count k.number q (omega arith) k.below k.has))

coordinate_inside : (count : ℕ) (q : Float) (z : ℤ) → count ≤ 1024 → Coordinate count q z → outside count q ≡ false
coordinate_inside count q z small k = has_not_outside count k.number q (omega arith) k.below k.has

pub one_coordinate : (count : ℕ) (q : Float) → OneCoordinate count q
one_coordinate count q =
    record {
      exists = λ some small. (
        λ (z, k). (has_exactly count q some (omega arith)).0 (k.number, k.below, k.has),
        λ within. let (n, below, has) = (has_exactly count q some (omega arith)).1 within in
            (pos n, record { number = n; same = refl; below = below; has = has }),
      );
      only = λ y z small j k. coordinate_is count q y small j ∙ sym (coordinate_is count q z small k);
      there = λ z upto k. has_below count k.number q upto k.has;
      part = λ z small upto k.
          k.same ∙ ap pos (sym (number_whole_part q k.number (let l = k.below in omega arith) (has_below count k.number q upto k.has)));
      last = λ z small far k. coordinate_is count q z small k ∙ ap pos (number_far count q far);
    }

-- so a cell with these coordinates is the definition's
cell_is_at : (n : Counts) (q : Point) (c : cell.Cell) → Counted n → InItsCell n q c → c ≡ cell_at n q
cell_is_at n q c range i = same_cell c (cell_at n q) each
  where
    each : (a : Axis) → on c a ≡ on (cell_at n q) a
    each X = coordinate_is n.nx q.x c.x range.x.most i.x
    each Y = coordinate_is n.ny q.y c.y range.y.most i.y
    each Z = coordinate_is n.nz q.z c.z range.z.most i.z

pub the_cell : (n : Counts) (at : Placement) (p : Point) → TheCell n at p
unfolding look_up
the_cell n at p = record {
  given = given;
  found = λ c t f i. record { says = sym (cell_found n at p t (fine P c t f i) ∙ ap Ok (sym (is_at c t i))) };
  end_given = end_given;
  end_found = end_found;
}
  where
    -- a cell where all quotients are inside
    in_it : (c : cell.Cell) → AllInside n (quotients at p) → c ≡ cell_at n (quotients at p) → InItsCell n (quotients at p) c
    in_it c inside same =
        subst (InItsCell n (quotients at p)) (sym same)
        (record { x = coordinate n.nx _ inside.x; y = coordinate n.ny _ inside.y; z = coordinate n.nz _ inside.z })

    given : (c : cell.Cell) → LooksUp n at p (Ok c) → PlacedGrid n at × InItsCell n (quotients at p) c
    given c h = let (tested, inside, same) = cell_given n at p c (sym h.says) in (tested, in_it c inside same)

    end_given : (e : End) (c : cell.Cell) → PlacedGrid n at → look_up e n at p ≡ Ok c → InItsCell n (quotients at p) c
    end_given e c t h = let (inside, same) = look_given e n at p c t h in in_it c inside same

    fine : (e : End) (c : cell.Cell) → PlacedGrid n at → Finite p → InItsCell n (quotients at p) c → point_check e n p (quotients at p) ≡ Ok tt
    fine e c t f i =
        let range = counted n t.counts in
        point_fine e n p (quotients at p) f.x f.y f.z (coordinate_inside n.nx _ c.x range.x.most i.x)
        (coordinate_inside n.ny _ c.y range.y.most i.y) (coordinate_inside n.nz _ c.z range.z.most i.z)

    is_at : (c : cell.Cell) → PlacedGrid n at → InItsCell n (quotients at p) c → c ≡ cell_at n (quotients at p)
    is_at c t i = cell_is_at n (quotients at p) c (counted n t.counts) i

    end_found : (e : End) (c : cell.Cell) → PlacedGrid n at → Finite p → InItsCell n (quotients at p) c → look_up e n at p ≡ Ok c
    end_found e c t f i = rw (fine e c t f i) (ap Ok (sym (is_at c t i)))

-- ---- outside, and exact conversion

pub outside_holds : (n : Counts) (at : Placement) (p : Point) → Outside n at p
outside_holds n at p =
    record {
      numbers = λ t f.
          let l = placed at t.placed in (
            quotient_no_nan p.x at.ox at.edge f.x l.x l.edge l.above,
            quotient_no_nan p.y at.oy at.edge f.y l.y l.edge l.above,
            quotient_no_nan p.z at.oz at.edge f.z l.z l.edge l.above,
          );
      exactly = λ count q some small number.
          let (none, lost) = outside_exactly count q some (omega arith) number in (
            λ o z k. none o k.number k.below k.has,
            λ none. lost (λ k below has. none (pos k) (record { number = k; same = refl; below = below; has = has })),
          );
    }

pub conversion_exact : (k : ℕ) → Exact k
conversion_exact k = record { value = whole_exact k }

pub shares : Shares
unfolding to_bits div of_int
shares = record { half = refl; third = refl; three_tenths = refl; start = refl }

-- ---- the table, and wrong answers

walls_hold : Every wall_rows
unfolding cell_of eq le lt of_int div sub neg of_bits to_bits
walls_hold =
    refl and refl and refl and refl and refl and refl and refl and refl and refl and refl and refl and refl and refl and refl and refl and
    refl and refl and refl and refl and refl and refl and no_more

pub surveyed : Every table
unfolding cell_of eq le lt of_int div sub neg
surveyed =
    refl and refl and refl and refl and refl and refl and refl and refl and refl and refl and refl and refl and refl and refl and refl and
    refl and refl and refl and walls_hold

-- what the definition says at 1.5 m, on the far wall and behind it
at_one_and_a_half : told_lookup (cell_of (cube 4) one_metre (point (tenths 15) (metres 0) (metres 0))) ≡ cell_is 1 0 0
unfolding cell_of eq le lt of_int div sub
at_one_and_a_half = refl

at_the_wall : told_lookup (cell_of (cube 4) one_metre (point (metres 4) (metres 0) (metres 0))) ≡ cell_is 3 0 0
unfolding cell_of eq le lt of_int div sub
at_the_wall = refl

behind_the_wall : told_lookup (cell_of (cube 4) one_metre (point (next_above 4) (metres 0) (metres 0))) ≡ refused (at_end 9 P X)
unfolding cell_of eq le lt of_int div sub of_bits to_bits
behind_the_wall = refl

-- an answer's cell, the first where there is none; and whether there is one, 1 or 0
cell_in : Told ⊎ cell.Cell → cell.Cell
cell_in (inl t) = record { x = pos 0; y = pos 0; z = pos 0 }
cell_in (inr c) = c

found : Told ⊎ cell.Cell → ℕ
found (inl t) = 0
found (inr c) = 1

-- an answer that meets the contract says what the definition does
says : {n : Counts} {at : Placement} {p : Point} {r : (Result Cell Refusal)} {t : Told ⊎ cell.Cell} → told_lookup (cell_of n at p) ≡ t → LooksUp n at p r →
    told_lookup r ≡ t
says is h = ap told_lookup h.says ∙ is

pub refuted : Refuted
unfolding cell_in found
refuted =
    record {
      always_first_cell = λ h. let z : ◌≡◌ {A = ℕ} 0 1 = ap (λ t. nat_abs (cell_in t).x) (says at_one_and_a_half h) in omega arith;
      refuses_always = λ r h. let z : ◌≡◌ {A = ℕ} 0 1 = ap found (says at_one_and_a_half h) in omega arith;
      wall_refused = λ r h. let z : ◌≡◌ {A = ℕ} 0 1 = ap found (says at_the_wall h) in omega arith;
      wall_to_another = λ c other h. other (ap cell_in (says at_the_wall h));
      behind_accepted = λ c h. let z : ◌≡◌ {A = ℕ} 1 0 = ap found (says behind_the_wall h) in omega arith;
    }
