-- SCOPE M: the list of the touching line, and the first hit along it. Refusals: of the list 1, then 6, as for every line list; of the first hit 2, 3, then 5,
-- as for every walk. Assumes nothing.
use Rattle.std.specs.Prelude.{Ok, Err, Result, ℕ, ◌+◌, ◌≡◌, Bool, cond, List, [], ◌∷◌, ℤ, length}
use Rattle.cells.specs.declared.Refusal.{Refusal}
use Rattle.cells.specs.declared.Cell.{Cell}
use Rattle.cells.specs.declared.Counts.{Counts}
use Rattle.cells.specs.declared.Start.{Start}
use Rattle.cells.specs.declared.Face.TheVariants as Face
use Rattle.cells.specs.Checks.{by_verdict}
use Rattle.lines.specs.Preference.{y_z_x}
use Rattle.lines.specs.Lines.{face_along}
use Rattle.lines.specs.Touching.{Visit, visits, visit_cell, crossings, touching_line, first_axis, is_start, visit_upper, visit_lower}
use Rattle.lists.specs.Lists.{ends_check, Lists}
use Rattle.grids.specs.Grid.{byte_of}
use Rattle.grids.specs.Inside.{walk_check}
use Rattle.walks.specs.declared.Place.{Place}
use Rattle.walks.specs.declared.FirstHit.{FirstHit}
use Rattle.walks.specs.Walks.{Conduct, hit_at}

-- SCOPE M8: the contract of the list
abbrev pub LineTouching : Cell → Cell → List ℤ → Result ℕ Refusal → List ℤ → Type 0
LineTouching p q = Lists (touching_line p q) (ends_check p q)

-- ---- the first hit

-- SCOPE M6: place and face of a visited cell: those of the crossing on the first axis, in the order y, z, x, among the steps of the tie that lead to it. P has
-- 0 over 1, and no face.
unfoldable pub visit_place : Cell → Cell → Visit → Place
visit_place p q v =
    record {
      num = visit_upper (crossings p q) v;
      den = visit_lower (crossings p q) v;
      face = cond (is_start v) Face.None (face_along p q (first_axis v.by));
    }

-- SCOPE M5, M7: of some visits the first whose cell passes the test is the hit; so many cells were read before them. Where there is none: clear.
unfoldable pub found_in : (Cell → Bool) → Counts → List ℕ → Cell → Cell → (reads : ℕ) → List Visit → FirstHit
unfolding visit_place
found_in test n l p q reads [] = FirstHit.Clear reads
found_in test n l p q reads (v ∷ more) =
    let c : Cell = visit_cell p q v in
    cond (test c) (FirstHit.Hit (record { cell = c; code = byte_of n l c; place = visit_place p q v; reads = reads + 1 }))
    (found_in test n l p q (reads + 1) more)

-- SCOPE M5, W9: the test is that of every walk: a solid byte, unless it is that of a P that is not tested. No rule plays a part in it.
abbrev pub walking : Start → Conduct
walking start = record { start = start; preference = y_z_x }

unfoldable pub first_touching : Start → Counts → List ℕ → Cell → Cell → Result FirstHit Refusal
unfolding walk_check found_in visits
first_touching start n l p q =
    by_verdict Err (Ok (found_in (hit_at (walking start) n l p) n l p q 0 (visits (crossings p q)))) (walk_check n (length l) p q)

-- its contract
pub record FindsTouching (start : Start) (n : Counts) (l : List ℕ) (p q : Cell) (r : Result FirstHit Refusal) : Type 0 where
  pub says : r ≡ first_touching start n l p q
