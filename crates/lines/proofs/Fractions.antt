-- Crossings at the fractions (first + step·i) / lower, in the order of their fractions and, where these are equal, by rank. For every course
-- whose ends lie inside their cells, and every order of preference: the order has the laws of an order; the crossings up to n/d lead to a place
-- on the line; no cell whose inside meets the segment is left out; each cell is touched. Assumes nothing.
use mathlib.Core.Path.{◌≡◌, refl, sym, ap, ◌∙◌}
use mathlib.Core.Logic.{inl, inr, ⊎_elim, ◌≢◌, ◌↔◌}
use mathlib.Core.Bool.{Bool, true, false, cond, not, ◌&&◌, ◌||◌}
use Prim.Native.Nat.{ℕ, zero, suc, ◌+◌, ◌-◌, ◌*◌, ◌/◌, ◌≤◌, ◌<◌}
use native.Mathlib.Omega.{arith, by_contra}
use native.Mathlib.Nat.{add-zero, mul-le-mul, mul-le-mul_left, mul-le-mul_right, mul-lt-mul_of_pos_right, le-div_iff_mul-le, one-le-mul}
use lib.Dec.{ltb, eqb}
use borrow.Author.Tests.{ltb-true, ltb-false, lt-ltb, le-ltb, eq-eqb, ne_eqb}
use Rattle.lines.specs.Steps.{Axis, Steps, total, same}
use Rattle.lines.specs.Crossings.{Course, upper, before, has_more, sooner, next, place, InOrder, LastMade, MadeUpto}
use Rattle.lines.proofs.Steps.{Cmp, here, other, cmp, same_self, lt_or_ge, bump, walk_start, walk_suc, walk_total}
use Rattle.lines.proofs.Merge.{Laws, Within, OnLine, Next, Choice, Leads, done, itself, wins, reached, walk_on}
use Rattle.lines.proofs.Merge.{walk_end, step_on, choice_rule, Last, enters_by_last, last_unique}

-- 1 where rank r goes ahead of rank s in a tie, else 0
abbrev pub ahead : ℕ → ℕ → ℕ
ahead r s = 1 - (suc r - s)

-- `before` as one inequality
unfoldable pub Before : Course → Axis → ℕ → Axis → ℕ → Type 0
Before c a i b j = upper c a i * c.lower b < upper c b j * c.lower a + ahead (c.rank a) (c.rank b)

pub before_test : (c : Course) (a b : Axis) (i j : ℕ) →
    before c a i b j ≡ ltb (upper c a i * c.lower b) (upper c b j * c.lower a + ahead (c.rank a) (c.rank b))
unfolding before
before_test c a b i j = go (upper c a i * c.lower b) (upper c b j * c.lower a) (c.rank a) (c.rank b)
  where
    go : (x y r s : ℕ) → (ltb x y || (eqb x y && ltb r s)) ≡ ltb x (y + ahead r s)
    go x y r s =
        ⊎_elim (λ l. simp (lt-ltb x y l, lt-ltb x (y + ahead r s) (omega arith)))
        (λ g.
        ⊎_elim
        (λ p. simp (le-ltb x y g, lt-ltb r s p)
        (⊎_elim (λ l. simp (ne_eqb x y (λ e. omega arith), le-ltb x (y + ahead r s) (omega arith)))
        (λ k. simp (eq-eqb x y (omega arith), lt-ltb x (y + ahead r s) (omega arith)))
        (lt_or_ge y x)))
        (λ p. simp (le-ltb x y g, le-ltb r s p, le-ltb x (y + ahead r s) (omega arith)) (and_none (eqb x y)))
        (lt_or_ge r s))
        (lt_or_ge x y)
      where
        and_none : (t : Bool) → (t && false) ≡ false
        and_none true = refl
        and_none false = refl

-- a crossing comes before another exactly where the test says so
pub before_true : (c : Course) (a b : Axis) (i j : ℕ) → before c a i b j ≡ true → Before c a i b j
unfolding Before
before_true c a b i j h = ltb-true _ _ (sym (before_test c a b i j) ∙ h)

pub true_before : (c : Course) (a b : Axis) (i j : ℕ) → Before c a i b j → before c a i b j ≡ true
unfolding Before
true_before c a b i j h = before_test c a b i j ∙ lt-ltb _ _ h

-- P and Q lie inside their cells, and no two axes have the same rank
pub record Good (c : Course) : Type 0 where
  pub steps : 0 < c.step
  pub starts : (a : Axis) → c.first a ≤ c.step
  pub inside : (a : Axis) {i : ℕ} → i < c.count a → upper c a i < c.lower a
  pub ends : (a : Axis) → c.lower a < upper c a (c.count a)
  pub axis : ℕ → Axis
  pub ranked : (a : Axis) → axis (c.rank a) ≡ a

-- fractions x/D, y/E, z/F compared by products
pub chain_le : (x y z D E F : ℕ) → 0 < E → x * E ≤ y * D → y * F ≤ z * E → x * F ≤ z * D
chain_le x y z D E F e p q =
    by_contra (x * F) (z * D) (λ n.
    omega (arith, mul-le-mul_right F p, mul-le-mul_right D q, mul-le-mul_right E n))

pub chain_lt_le : (x y z D E F : ℕ) → 0 < F → x * E < y * D → y * F ≤ z * E → x * F < z * D
chain_lt_le x y z D E F f p q =
    by_contra (suc (x * F)) (z * D) (λ n.
    omega (arith, mul-le-mul_right F p, mul-le-mul_right D q, mul-le-mul_right E n))

pub chain_le_lt : (x y z D E F : ℕ) → 0 < D → x * E ≤ y * D → y * F < z * E → x * F < z * D
chain_le_lt x y z D E F d p q =
    by_contra (suc (x * F)) (z * D) (λ n.
    omega (arith, mul-le-mul_right F p, mul-le-mul_right D q, mul-le-mul_right E n))

chain : (x y z D E F r s u : ℕ) → 0 < D → 0 < E → 0 < F → x * E < y * D + ahead r s → y * F < z * E + ahead s u → x * F < z * D + ahead r u
chain x y z D E F r s u d e f p q =
    ⊎_elim (λ l.
    ⊎_elim (λ m. omega (arith, chain_le x y z D E F e (omega arith) (omega arith)))
    (λ m. omega (arith, chain_le_lt x y z D E F d (omega arith) (omega arith)))
    (lt_or_ge s u))
    (λ l. omega (arith, chain_lt_le x y z D E F f (omega arith) (omega arith)))
    (lt_or_ge r s)

-- how many crossings of a lie at fractions up to and including n over d
unfoldable pub after : Course → ℕ → ℕ → Steps
after c n d a = (c.lower a * n + (c.step - c.first a) * d) / (c.step * d)

-- at n over d of the way the line has gone length·n/d towards Q; cell t of an axis reaches from (first + step·(t - 1)) to (first + step·t)
pub record InClosedSteps (c : Course) (n d : ℕ) (t : Steps) : Type 0 where
  pub from : (a : Axis) → upper c a (t a) * d ≤ c.lower a * n + c.step * d
  pub upto : (a : Axis) → c.lower a * n ≤ upper c a (t a) * d

pub record InOpenSteps (c : Course) (n d : ℕ) (t : Steps) : Type 0 where
  pub from : (a : Axis) → upper c a (t a) * d < c.lower a * n + c.step * d
  pub upto : (a : Axis) → c.lower a * n < upper c a (t a) * d

pub place_start : (c : Course) (a : Axis) → place c 0 a ≡ 0
unfolding place
place_start c = walk_start (next c)

-- place number n has n crossings behind it
pub place_total : (c : Course) (n : ℕ) → total (place c n) ≡ n
unfolding place
place_total c = walk_total (next c)

pub place_suc : (c : Course) (n : ℕ) → place c (suc n) ≡ bump (place c n) (next c (place c n))
unfolding place
place_suc c = walk_suc (next c)

module _ (c : Course) (good : Good c) where
  some_lower : (a : Axis) {i : ℕ} → i < c.count a → 0 < c.lower a
  some_lower a p = omega (arith, good.inside a p)

  ranks_differ : (a b : Axis) → same a b ≡ 0 → c.rank a ≢ c.rank b
  ranks_differ a b e p =
      let q : a ≡ b = sym (good.ranked a) ∙ ap good.axis p ∙ good.ranked b in
      omega (arith, same_self a, ap (same a) q)

  upper_grows : (a : Axis) {i j : ℕ} → i < j → upper c a i < upper c a j
  upper_grows a p = omega (arith, mul-le-mul_left c.step p, good.steps)

  pub laws : Laws c.count (Before c)
  unfolding Before
  laws = record {
    trans = λ {a} {b} {c = d} {i} {j} {k} p q r. chain (upper c a i) (upper c b j) (upper c d k) (c.lower a) (c.lower b) (c.lower d) (c.rank a)
        (c.rank b) (c.rank d) (some_lower a p) (some_lower b q) (some_lower d r);
    asym = λ p q. omega arith;
    either = λ a b i j e. ⊎_elim inl (λ h. inr (omega (arith, ranks_differ a b e)))
        (lt_or_ge (upper c a i * c.lower b) (upper c b j * c.lower a + ahead (c.rank a) (c.rank b)));
    mono = λ a {i} {j} p q. omega (arith, mul-lt-mul_of_pos_right (upper_grows a p) (some_lower a q));
  }

  -- of two crossings of different axes one comes before the other
  not_before : (a b : Axis) (i j : ℕ) → same a b ≡ 0 → before c a i b j ≡ false → Before c b j a i
  unfolding Before
  not_before a b i j e w =
      omega (
        arith,
        ltb-false (upper c a i * c.lower b) (upper c b j * c.lower a + ahead (c.rank a) (c.rank b))
            (sym (before_test c a b i j) ∙ w),
        ranks_differ a b e,
      )

  -- the sooner of two axes leads both
  sooner_leads : (t : Steps) (a b : Axis) → Leads c.count (Before c) t (sooner c t a b) a × Leads c.count (Before c) t (sooner c t a b) b
  unfolding sooner
  sooner_leads t a b = go (cmp a b) (has_more c t a) (has_more c t b) (before c a (t a) b (t b)) refl refl refl
    where
      go :
          {b : Axis} → Cmp a b → (l m w : Bool) → has_more c t a ≡ l → has_more c t b ≡ m → before c a (t a) b (t b) ≡ w →
          Leads c.count (Before c) t (cond (l && (not m || w)) a b) a × Leads c.count (Before c) t (cond (l && (not m || w)) a b) b
      go here false m w l _ _ = (itself, itself)
      go here true false w l _ _ = (itself, itself)
      go here true true true l _ _ = (itself, itself)
      go here true true false l _ _ = (itself, itself)
      go (other e f) false m w l _ _ = (done (ltb-false _ _ l), itself)
      go (other e f) true false w l m _ = (itself, done (ltb-false _ _ m))
      go {b} (other e f) true true true l m w = (itself, wins (ltb-true _ _ l) (ltb-true _ _ m) (before_true c a b (t a) (t b) w))
      go {b} (other e f) true true false l m w = (wins (ltb-true _ _ m) (ltb-true _ _ l) (not_before a b (t a) (t b) e w), itself)

  -- a crossing past the last of its axis comes before no real one
  real_first : (a b : Axis) (i j : ℕ) → i < c.count a → c.count b ≤ j → Before c b j a i → ⊥
  unfolding Before
  real_first a b i j p q h =
      let beyond : suc (c.lower b) ≤ upper c b j = omega (arith, good.ends b, mul-le-mul_left c.step q) in
      let real : upper c a i ≤ c.lower a = omega (arith, good.inside a p) in
      omega (arith, mul-le-mul_right (c.lower a) beyond, mul-le-mul_right (c.lower b) real, some_lower a p)

  -- so `before` alone, asked of two axes that need have no crossing left, tells which of them leads
  leads_by : (t : Steps) {a b : Axis} → Before c a (t a) b (t b) → Leads c.count (Before c) t a b
  leads_by t {a} {b} h =
      ⊎_elim (λ q. wins (by_contra (suc (t a)) (c.count a) (λ k. real_first b a (t b) (t a) q (omega arith) h)) q h) done (lt_or_ge (t b) (c.count b))

  pub before_leads : (t : Steps) (a b : Axis) → before c a (t a) b (t b) ≡ true → Leads c.count (Before c) t a b
  before_leads t a b h = leads_by t (before_true c a b (t a) (t b) h)

  pub other_leads : (t : Steps) (a b : Axis) → same a b ≡ 0 → before c a (t a) b (t b) ≡ false → Leads c.count (Before c) t b a
  other_leads t a b e h = leads_by t (not_before a b (t a) (t b) e h)

  pub next_rule : Choice c.count (Before c) (next c)
  unfolding next
  next_rule = choice_rule c.count (Before c) laws (sooner c) sooner_leads

  pub place_on : (n : ℕ) → n ≤ total c.count → OnLine c.count (Before c) (place c n) × Within c.count (place c n)
  unfolding place
  place_on = walk_on c.count (Before c) laws (next c) next_rule

  -- a place on the line is place number i + j + k
  pub on_is_place : (t : Steps) → Within c.count t → OnLine c.count (Before c) t → (a : Axis) → t a ≡ place c (total t) a
  unfolding place
  on_is_place = reached c.count (Before c) laws (next c) next_rule

  pub place_end : (a : Axis) → place c (total c.count) a ≡ c.count a
  unfolding place
  place_end = walk_end c.count (Before c) laws (next c) next_rule

  pub upto_on : (n d : ℕ) (t : Steps) → 0 < d → MadeUpto c n d t → OnLine c.count (Before c) t
  unfolding OnLine Before
  upto_on n d t some up a b i j p q r =
      let (real, h) = up.made a i p in
      omega (arith, chain_le_lt (upper c a i) n (upper c b j) (c.lower a) d (c.lower b) (some_lower a real) h (up.rest b j r q))

  -- a place that has made just the crossings up to n over d is on the line, whatever the order of preference
  pub upto_is_place : (n d : ℕ) (t : Steps) → 0 < d → Within c.count t → MadeUpto c n d t → (a : Axis) → t a ≡ place c (total t) a
  upto_is_place n d t some wi up = on_is_place t wi (upto_on n d t some up)

  -- the threshold law
  pub after_iff : (n d : ℕ) (a : Axis) (i : ℕ) → 0 < d → (i < after c n d a) ↔ (upper c a i * d ≤ n * c.lower a)
  unfolding after
  after_iff n d a i some =
      let s : ℕ = c.step - c.first a in
      let u : s * d + c.first a * d ≡ c.step * d = omega (arith, ap (λ v. v * d) (rest (good.starts a))) in
      let e = le-div_iff_mul-le {k = c.step * d} {x = suc i} {y = c.lower a * n + s * d} (one-le-mul good.steps some) in
      (λ p. omega (arith, e.0 p), λ q. e.1 (omega arith))
    where
      rest : {f k : ℕ} → f ≤ k → k - f + f ≡ k
      rest h = omega arith

  pub after_within : (n d : ℕ) → 0 < d → n ≤ d → Within c.count (after c n d)
  after_within n d some le a =
      by_contra (after c n d a) (c.count a) (λ p.
      omega (arith, (after_iff n d a (c.count a) some).0 p, mul-le-mul_right (c.lower a) le, mul-le-mul_right d (good.ends a)))

  pub after_upto : (n d : ℕ) → 0 < d → n ≤ d → MadeUpto c n d (after c n d)
  after_upto n d some le =
      record {
        made = λ a i p. (omega (arith, after_within n d some le a), (after_iff n d a i some).0 p);
        rest = λ a i real p. by_contra (suc (n * c.lower a)) (upper c a i * d) (λ k. omega (arith, (after_iff n d a i some).1 (omega arith)));
      }

  -- no cell beyond Q has the point in its inside
  inside_within : (n d : ℕ) (t : Steps) → n ≤ d → InOpenSteps c n d t → Within c.count t
  inside_within n d t le h a =
      by_contra (t a) (c.count a) (λ p.
      let beyond : (c.lower a) * d ≤ upper c a (c.count a) * d = mul-le-mul_right d (omega (arith, good.ends a)) in
      omega (arith, h.from a, mul-le-mul_right d (mul-le-mul_left c.step p), mul-le-mul_left (c.lower a) le))

  -- a cell whose inside has the point is past just the crossings up to it
  inside_upto : (n d : ℕ) (t : Steps) → n ≤ d → InOpenSteps c n d t → MadeUpto c n d t
  inside_upto n d t le h =
      record {
        made = λ a i p. (omega (arith, inside_within n d t le h a), omega (arith, h.from a, mul-le-mul_right d (mul-le-mul_left c.step p)));
        rest = λ a i real p. omega (arith, h.upto a, mul-le-mul_right d (mul-le-mul_left c.step p));
      }

  -- no cell whose inside has a point of the segment is left out
  pub none_left_out : (n d : ℕ) (t : Steps) → 0 < d → n ≤ d → InOpenSteps c n d t → Within c.count t × ((a : Axis) → t a ≡ place c (total t) a)
  none_left_out n d t some le h = (inside_within n d t le h, upto_is_place n d t some (inside_within n d t le h) (inside_upto n d t le h))

  -- P is touched at 0
  pub start_touched : (d : ℕ) (t : Steps) → ((a : Axis) → t a ≡ 0) → InClosedSteps c 0 d t
  start_touched d t z =
      record { from = λ a. rw (z a) (omega (arith, mul-le-mul_right d (good.starts a))); upto = λ a. omega arith }

  -- a cell that is entered is touched at the fraction of the crossing by which it is entered
  pub entered_touched :
      (t : Steps) (m : Axis) → Within c.count t → OnLine c.count (Before c) t → Next c.count (Before c) t m →
      InClosedSteps c (upper c m (t m)) (c.lower m) (bump t m)
  unfolding OnLine Next Before
  entered_touched t m wi on nx = record { from = λ a. from_axis (cmp m a); upto = λ a. upto_axis a }
    where
      behind : (a : Axis) (v : ℕ) → t a ≡ v → upper c a v * c.lower m ≤ c.lower a * upper c m (t m) + c.step * c.lower m
      behind a zero e = omega (arith, mul-le-mul_right (c.lower m) (good.starts a))
      behind a (suc v) e = omega (arith, on a m v (t m) (omega arith) (omega arith) nx.0)

      from_axis : {a : Axis} → Cmp m a → upper c a (bump t m a) * c.lower m ≤ c.lower a * upper c m (t m) + c.step * c.lower m
      from_axis here = rw same_self (omega arith)
      from_axis {a} (other e f) = rw e (rw add-zero (behind a (t a) refl))

      upto_axis : (a : Axis) → c.lower a * upper c m (t m) ≤ upper c a (bump t m a) * c.lower m
      upto_axis a =
          ⊎_elim
          (λ p. omega (arith, step_on c.count (Before c) laws t m on nx m a (t m) (bump t m a) (omega (arith, same_self m)) (omega arith) p))
          (λ p.
          let beyond : c.lower a ≤ upper c a (bump t m a) = omega (arith, good.ends a, mul-le-mul_left c.step p) in
          let real : upper c m (t m) ≤ c.lower m = omega (arith, good.inside m nx.0) in
          mul-le-mul beyond real)
          (lt_or_ge (bump t m a) (c.count a))

  -- ---- the same, as `before` says it

  pub place_in_order : (n : ℕ) → n ≤ total c.count → InOrder c (place c n)
  unfolding OnLine
  place_in_order n le =
      let (on, wi) = place_on n le in
      record { fits = wi; order = λ a b i j p q r. true_before c a b i j (on a b i j p q r) }

  -- a place in order is place number i + j + k: one place for each number of crossings
  pub in_order_is_place : (t : Steps) → InOrder c t → (a : Axis) → t a ≡ place c (total t) a
  unfolding OnLine
  in_order_is_place t h = on_is_place t h.fits (λ a b i j p q r. before_true c a b i j (h.order a b i j p q r))

  pub entered_by_last : (n : ℕ) → n < total c.count → LastMade c (place c (suc n)) (next c (place c n))
  unfolding place Last
  entered_by_last n lt =
      let (some, last) = enters_by_last c.count (Before c) laws (next c) next_rule n lt in
      record { some = some; last = λ b e p. true_before c b _ _ _ (last b e p) }

  pub last_made_one : (t : Steps) (m n : Axis) → LastMade c t m → LastMade c t n → m ≡ n
  unfolding Last
  last_made_one t m n p q = last_unique c.count (Before c) laws t m n (as_last p) (as_last q)
    where
      as_last : {a : Axis} → LastMade c t a → Last (Before c) t a
      as_last {a} h = (h.some, λ b e k. before_true c b a (t b - 1) (t a - 1) (h.last b e k))
