-- The line from the other end, with the order of preference reversed, is the line reversed; rule 2 takes reversed orders from the two ends; and where
-- there is no tie every order gives the same line. Assumes nothing.
use mathlib.Core.Path.{◌≡◌, refl, sym, ap, ◌∙◌, fun_ext}
use mathlib.Core.Logic.{⊎_elim}
use mathlib.Core.Bool.{Bool, true, false, cond}
use mathlib.Core.List.{reverse}
use Prim.Native.Nat.{ℕ, suc, ◌+◌, ◌-◌, ◌*◌, ◌≤◌, ◌<◌}
use native.Mathlib.Omega.{arith}
use lib.IntN.{ℤ, ◌-ℤ◌}
use lib.Signed.{lt_z}
use Rattle.cells.specs.declared.Cell.{Cell}
use Rattle.cells.specs.declared.Rule.{Rule}
use Rattle.cells.specs.declared.Rule.TheVariants.{One, Two}
use Rattle.cells.specs.Tabulate.{tabulate}
use Rattle.cells.specs.Touching.{on, apart}
use Rattle.cells.proofs.Tabulate.{tabulate_same, tabulate_reverse}
use Rattle.cells.proofs.Signed.{same_number, one_sided, diff_is, abs_is, lt_z_true, lt_z_false}
use Rattle.lines.specs.Steps.{Axis, X, Y, Z, Steps, total, after_steps}
use Rattle.lines.specs.Crossings.{next, place, TieFree}
use Rattle.lines.specs.declared.Order.TheVariants.{Yzx, Xzy}
use Rattle.lines.specs.Preference.{Preference, y_z_x, y_z_x_rank, x_z_y, x_z_y_rank, prefers, comes_before, order_of, by_rule}
use Rattle.lines.specs.Towards.{towards}
use Rattle.lines.specs.Lines.{differences, cell_of, centres, six_cell, six_line}
use Rattle.lines.proofs.Steps.{Cmp, here, other, cmp, lt_or_ge, walk_total}
use Rattle.lines.proofs.Merge.{OnLine, walk_on, reached}
use Rattle.lines.proofs.Fractions.{Before, ahead, laws, next_rule, place_on}
use Rattle.lines.proofs.Centres.{centres_good}
use Rattle.lines.proofs.Towards.{along}
use Rattle.lines.proofs.Cells.{same_cell, cell_on, six_is, six_start, six_line_is}

-- what was taken from one end is what is left from the other
abbrev pub left_of : Steps → Steps → Steps
left_of N t a = N a - t a

-- two orders, each the other's reverse
pub record Reversed (r s : Preference) : Type 0 where
  pub most : ℕ
  pub ranks : (a : Axis) → r.rank a + s.rank a ≡ most

module _ (r s : Preference) (rev : Reversed r s) (D : Steps) where
  -- a crossing counted from the other end comes before where it came after
  turned : (a b : Axis) (i j : ℕ) → i < D a → j < D b → Before (centres r D) b (D b - suc j) a (D a - suc i) → Before (centres s D) a i b j
  unfolding Before
  turned a b i j p q h =
      from (1 + 2 * (D b - suc j)) (1 + 2 * j) (1 + 2 * (D a - suc i)) (1 + 2 * i) (2 * D a) (2 * D b)
      (r.rank a) (r.rank b) (s.rank a) (s.rank b) (omega arith) (omega arith) (rev.ranks a) (rev.ranks b) h
    where
      from : (y y' x x' A B ra rb sa sb : ℕ) → y + y' ≡ B → x + x' ≡ A → ra + sa ≡ rev.most → rb + sb ≡ rev.most →
          y * A < x * B + ahead rb ra → x' * B < y' * A + ahead sa sb
      from y y' x x' A B ra rb sa sb e f u v h = omega (arith, ap (λ k. k * A) e, ap (λ k. k * B) f)

  left_on : (t : Steps) → OnLine D (Before (centres r D)) t → OnLine D (Before (centres s D)) (left_of D t)
  unfolding OnLine
  left_on t on a b i j p q real = turned a b i j (omega arith) real (on b a (D b - suc j) (D a - suc i) (omega arith) (omega arith) (omega arith))

  pub place_mirror : (n : ℕ) → n ≤ total D → (a : Axis) → place (centres s D) (total D - n) a ≡ D a - place (centres r D) n a
  unfolding place
  place_mirror n le a =
      let t : Steps = after_steps (next (centres r D)) n in
      let w = walk_on D (Before (centres r D)) (laws (centres r D) (centres_good r D)) (next (centres r D)) (next_rule (centres r D) (centres_good r D)) n le in
      let e : total (left_of D t) ≡ total D - n = omega (arith, walk_total (next (centres r D)) n, w.1 X, w.1 Y, w.1 Z) in
      let h : D a - t a ≡ after_steps (next (centres s D)) (total (left_of D t)) a =
      reached D (Before (centres s D)) (laws (centres s D) (centres_good s D)) (next (centres s D)) (next_rule (centres s D) (centres_good s D))
      (left_of D t) (λ b. omega arith) (left_on t w.0) a in
      sym (rw e at h)

-- ---- one axis, from either end

pub apart_either : (p q : ℤ) → apart p q ≡ apart q p
apart_either p q = omega (arith, abs_is (q -ℤ p), abs_is (p -ℤ q), diff_is p q, diff_is q p, one_sided (p -ℤ q), one_sided (q -ℤ p))

here_and_here : (p : ℤ) → apart p p ≡ 0
here_and_here p = omega (arith, abs_is (p -ℤ p), diff_is p p, one_sided (p -ℤ p))

-- i cells from p towards q is the rest of the way from q towards p
pub towards_either : (p q : ℤ) (i j : ℕ) → i + j ≡ apart p q → towards p q i ≡ towards q p j
towards_either p q i j e =
    ⊎_elim
    (λ w. ⊎_elim (λ v. w.tells _ _ (omega (arith, w.steps i, w.end, v.steps j, v.end, apart_either p q)))
    (λ v. w.tells _ _ (omega (arith, w.steps i, w.end, v.steps j))) (along q p))
    (λ w. ⊎_elim (λ v. w.tells _ _ (omega (arith, w.steps i, w.end, v.steps j)))
    (λ v. w.tells _ _ (omega (arith, w.steps i, w.end, v.steps j, v.end, apart_either p q))) (along q p))
    (along p q)

-- ---- cells

module _ (r s : Preference) (rev : Reversed r s) (p q : Cell) where
  abbrev D : Steps
  D = differences p q

  same_differences : differences q p ≡ D
  same_differences = fun_ext (λ a. apart_either (on q a) (on p a))

  -- the line back is the exact mirror
  pub six_mirror : (n : ℕ) → n ≤ total D → six_cell s q p (total D - n) ≡ six_cell r p q n
  six_mirror n le =
      six_is s q p (total D - n) ∙ ap (λ E. cell_of q p (place (centres s E) (total D - n))) same_differences
      ∙ same_cell _ _ (λ a. cell_on q p (place (centres s D) (total D - n)) a
      ∙ sym (towards_either (on p a) (on q a) (place (centres r D) n a) (place (centres s D) (total D - n) a) (whole a))
      ∙ sym (cell_on p q (place (centres r D) n) a))
      ∙ sym (six_is r p q n)
    where
      whole : (a : Axis) → place (centres r D) n a + place (centres s D) (total D - n) a ≡ D a
      whole a = omega (arith, place_mirror r s rev D n le a, (place_on (centres r D) (centres_good r D) n le).1 a)

-- ---- rule 2

reversed : Reversed y_z_x x_z_y
reversed = record { most = 2; ranks = sums }
  where
    sums : (a : Axis) → y_z_x_rank a + x_z_y_rank a ≡ 2
    sums X = refl
    sums Y = refl
    sums Z = refl

turned_round : (r s : Preference) → Reversed r s → Reversed s r
turned_round r s h = record { most = h.most; ranks = λ a. omega (arith, h.ranks a) }

-- two numbers: one is below the other, or they are one
pub data Compared (a b : ℤ) : Type 0 where
  less : lt_z a b ≡ true → lt_z b a ≡ false → Compared a b
  more : lt_z a b ≡ false → lt_z b a ≡ true → Compared a b
  equal : a ≡ b → lt_z a b ≡ false → lt_z b a ≡ false → Compared a b

pub compared : (a b : ℤ) → Compared a b
compared a b = by (lt_z a b) refl (lt_z b a) refl
  where
    by : (s : Bool) → lt_z a b ≡ s → (t : Bool) → lt_z b a ≡ t → Compared a b
    by true e true f = absurd (omega (arith, lt_z_true a b e, lt_z_true b a f))
    by true e false f = less e f
    by false e true f = more e f
    by false e false f = equal (same_number a b (omega (arith, lt_z_false a b e, lt_z_false b a f))) e f

-- of two cells one comes before the other, or they are one
pub data Which (p q : Cell) : Type 0 where
  p_first : comes_before p q ≡ true → comes_before q p ≡ false → Which p q
  q_first : comes_before p q ≡ false → comes_before q p ≡ true → Which p q
  one : p ≡ q → comes_before p q ≡ false → comes_before q p ≡ false → Which p q

pub which : (p q : Cell) → Which p q
unfolding comes_before
which p q = by (compared p.z q.z) (compared p.y q.y) (compared p.x q.x)
  where
    by : Compared p.z q.z → Compared p.y q.y → Compared p.x q.x → Which p q
    by (less a b) _ _ = p_first (simp (a, b)) (simp (a, b))
    by (more a b) _ _ = q_first (simp (a, b)) (simp (a, b))
    by (equal e a b) (less c d) _ = p_first (simp (a, b, c, d)) (simp (a, b, c, d))
    by (equal e a b) (more c d) _ = q_first (simp (a, b, c, d)) (simp (a, b, c, d))
    by (equal e a b) (equal f c d) (less g h) = p_first (simp (a, b, c, d, g, h)) (simp (a, b, c, d, g, h))
    by (equal e a b) (equal f c d) (more g h) = q_first (simp (a, b, c, d, g, h)) (simp (a, b, c, d, g, h))
    by (equal e a b) (equal f c d) (equal g h k) =
        one (λ i. record { x = g i; y = f i; z = e i }) (simp (a, b, c, d, h, k)) (simp (a, b, c, d, h, k))

-- rule 1 has one order, whatever the ends
pub rule_1_order : (p q : Cell) → by_rule One p q ≡ y_z_x
unfolding order_of
rule_1_order p q = refl

-- rule 2 asks whether the other end comes first
pub order_from : (p q : Cell) (t : Bool) → comes_before q p ≡ t → by_rule Two p q ≡ cond t x_z_y y_z_x
unfolding order_of
order_from p q true e = ap (λ t. prefers (cond t Xzy Yzx)) e
order_from p q false e = ap (λ t. prefers (cond t Xzy Yzx)) e

-- from an end that does not come after the other both rules have the order y, z, x
pub first_order : (rule : Rule) (p q : Cell) → comes_before q p ≡ false → by_rule rule p q ≡ y_z_x
first_order One p q first = rule_1_order p q
first_order Two p q first = order_from p q false first

pub either_way_total : (p q : Cell) → total (differences q p) ≡ total (differences p q)
either_way_total p q = omega (arith, apart_either p.x q.x, apart_either p.y q.y, apart_either p.z q.z)

-- the line back under rule 2 is the exact mirror
pub rule_2_mirror : (p q : Cell) (n : ℕ) → n ≤ total (differences p q) →
    six_cell (by_rule Two q p) q p (total (differences p q) - n) ≡ six_cell (by_rule Two p q) p q n
rule_2_mirror p q n le = by (which p q)
  where
    by : Which p q → six_cell (by_rule Two q p) q p (total (differences p q) - n) ≡ six_cell (by_rule Two p q) p q n
    by (p_first e f) = rw (order_from p q false f, order_from q p true e) (six_mirror y_z_x x_z_y reversed p q n le)
    by (q_first e f) = rw (order_from p q true f, order_from q p false e) (six_mirror x_z_y y_z_x (turned_round y_z_x x_z_y reversed) p q n le)
    by (one e _ _) = rw (back, none) (six_start (by_rule Two q p) q p ∙ sym e ∙ sym (six_start (by_rule Two p q) p q))
      where
        still : total (differences q q) ≡ 0
        still = omega (arith, here_and_here q.x, here_and_here q.y, here_and_here q.z)

        none : n ≡ 0
        none = omega (arith, ap (λ c. total (differences c q)) e, still)

        back : total (differences p q) - n ≡ 0
        back = omega (arith, ap (λ c. total (differences c q)) e, still)

-- ---- no tie

module _ (r s : Preference) (D : Steps) (free : TieFree (centres r D)) where
  other_order : (a b : Axis) (i j : ℕ) → i < D a → j < D b → Before (centres r D) a i b j → Before (centres s D) a i b j
  unfolding Before
  other_order a b i j p q h = by (cmp a b) p q h
    where
      by : {b : Axis} → Cmp a b → i < D a → j < D b →
          (1 + 2 * i) * (2 * D b) < (1 + 2 * j) * (2 * D a) + ahead (r.rank a) (r.rank b) →
          (1 + 2 * i) * (2 * D b) < (1 + 2 * j) * (2 * D a) + ahead (s.rank a) (s.rank b)
      by here p q h = omega arith
      by {b} (other e f) p q h = ⊎_elim (λ l. omega arith) (λ g. absurd (free.none a b i j e p q (omega arith)))
          (lt_or_ge ((1 + 2 * i) * (2 * D b)) ((1 + 2 * j) * (2 * D a)))

  pub same_place : (n : ℕ) → n ≤ total D → (a : Axis) → place (centres s D) n a ≡ place (centres r D) n a
  unfolding place OnLine
  same_place n le a =
      let t : Steps = after_steps (next (centres r D)) n in
      let w = walk_on D (Before (centres r D)) (laws (centres r D) (centres_good r D)) (next (centres r D)) (next_rule (centres r D) (centres_good r D)) n le in
      let h : t a ≡ after_steps (next (centres s D)) (total t) a =
      reached D (Before (centres s D)) (laws (centres s D) (centres_good s D)) (next (centres s D)) (next_rule (centres s D) (centres_good s D)) t w.1
      (λ b c i j p q real. other_order b c i j (omega (arith, w.1 b)) real (w.0 b c i j p q real)) a in
      sym (rw (walk_total (next (centres r D)) n) at h)

-- every order gives the same line
pub six_same : (r s : Preference) (p q : Cell) → TieFree (centres r (differences p q)) → (n : ℕ) → n ≤ total (differences p q) →
    six_cell s p q n ≡ six_cell r p q n
six_same r s p q free n le =
    six_is s p q n ∙ ap (cell_of p q) (fun_ext (same_place r s (differences p q) free n le)) ∙ sym (six_is r p q n)

-- ---- whole lines

pub line_mirror : (p q : Cell) → six_line (by_rule Two q p) q p ≡ reverse (six_line (by_rule Two p q) p q)
line_mirror p q =
    six_line_is (by_rule Two q p) q p ∙ ap (λ n. tabulate (six_cell (by_rule Two q p) q p) (n + 1)) (either_way_total p q)
    ∙ tabulate_reverse (six_cell (by_rule Two p q) p q) (six_cell (by_rule Two q p) q p) (total (differences p q) + 1) (λ i lt.
    let le : total (differences p q) - i ≤ total (differences p q) = omega arith in
    let e : total (differences p q) - (total (differences p q) - i) ≡ i = omega arith in
    let f : total (differences p q) - i ≡ total (differences p q) + 1 - 1 - i = omega arith in
    ap (six_cell (by_rule Two q p) q p) (sym e) ∙ rule_2_mirror p q (total (differences p q) - i) le ∙ ap (six_cell (by_rule Two p q) p q) f)
    ∙ ap reverse (sym (six_line_is (by_rule Two p q) p q))

pub line_same : (r s : Preference) (p q : Cell) → TieFree (centres r (differences p q)) → six_line s p q ≡ six_line r p q
line_same r s p q free =
    six_line_is s p q ∙ tabulate_same (six_cell s p q) (six_cell r p q) (total (differences p q) + 1) (λ i lt. six_same r s p q free i (omega arith))
    ∙ sym (six_line_is r p q)
