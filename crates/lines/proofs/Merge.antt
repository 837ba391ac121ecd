-- The abstract order. Each axis a has N a crossings, and `B a i b j` says that crossing i of a comes before crossing j of b. From four laws of B
-- alone: a place on the line is told by its number of crossings, and the walk that always takes the crossing that comes first goes through just
-- these places. Knows nothing of fractions. Assumes nothing.
use mathlib.Core.Path.{◌≡◌, refl, sym}
use mathlib.Core.Logic.{◌⊎◌, ⊎_elim}
use Prim.Native.Nat.{ℕ, zero, suc, ◌+◌, ◌-◌, ◌≤◌, ◌<◌}
use native.Mathlib.Omega.{arith, by_contra, both_ways}
use native.Mathlib.Nat.{eq-or-lt_of_le}
use Rattle.lines.specs.Steps.{Axis, X, Y, Z, Steps, total, same, after_steps}
use Rattle.lines.proofs.Steps.{Cmp, here, other, cmp, same_self, lt_or_ge, bump, bump_within, walk_start, walk_suc, walk_total, total_lt, open_axis}

pub record Laws (N : Steps) (B : Axis → ℕ → Axis → ℕ → Type 0) : Type 0 where
  pub trans : {a b c : Axis} {i j k : ℕ} → i < N a → j < N b → k < N c → B a i b j → B b j c k → B a i c k
  pub asym : {a b : Axis} {i j : ℕ} → B a i b j → B b j a i → ⊥
  pub either : (a b : Axis) (i j : ℕ) → same a b ≡ 0 → B a i b j ⊎ B b j a i
  pub mono : (a : Axis) {i j : ℕ} → i < j → j < N a → B a i a j

abbrev pub Within : Steps → Steps → Type 0
Within N t = (a : Axis) → t a ≤ N a

-- each crossing taken comes before each not taken
unfoldable pub OnLine : Steps → (Axis → ℕ → Axis → ℕ → Type 0) → Steps → Type 0
OnLine N B t = (a b : Axis) (i j : ℕ) → i < t a → t b ≤ j → j < N b → B a i b j

-- n has a crossing left, and its next comes before the next of every other axis that has one
unfoldable pub Next : Steps → (Axis → ℕ → Axis → ℕ → Type 0) → Steps → Axis → Type 0
Next N B t n = (t n < N n) × ((b : Axis) → same n b ≡ 0 → t b < N b → B n (t n) b (t b))

-- a rule that gives the next axis wherever a crossing is left
unfoldable pub Choice : Steps → (Axis → ℕ → Axis → ℕ → Type 0) → (Steps → Axis) → Type 0
Choice N B next = (t : Steps) → Within N t → total t < total N → Next N B t (next t)

-- n has a crossing behind it, and its last-taken one comes after the last-taken one of every other axis
unfoldable pub Last : (Axis → ℕ → Axis → ℕ → Type 0) → Steps → Axis → Type 0
Last B t n = (0 < t n) × ((b : Axis) → same n b ≡ 0 → 0 < t b → B b (t b - 1) n (t n - 1))

-- axis n's next crossing comes no later than b's
pub data Leads (N : Steps) (B : Axis → ℕ → Axis → ℕ → Type 0) (t : Steps) (n : Axis) : Axis → Type 0 where
  done : {b : Axis} → N b ≤ t b → Leads N B t n b
  itself : Leads N B t n n
  wins : {b : Axis} → t n < N n → t b < N b → B n (t n) b (t b) → Leads N B t n b

module _ (N : Steps) (B : Axis → ℕ → Axis → ℕ → Type 0) (laws : Laws N B) where
  -- of two places on the line, none is ahead on one axis and behind on another
  never_crossed : (s t : Steps) → Within N s → Within N t → OnLine N B s → OnLine N B t → (a b : Axis) → s a < t a → t b < s b → ⊥
  unfolding OnLine
  never_crossed s t ws wt os ot a b p q =
      laws.asym
      (ot a b (s a) (t b) p (omega arith) (omega (arith, ws b)))
      (os b a (t b) (s a) q (omega arith) (omega (arith, wt a)))

  pub fewer_is_below : (s t : Steps) → Within N s → Within N t → OnLine N B s → OnLine N B t → total s ≤ total t → (a : Axis) → s a ≤ t a
  fewer_is_below s t ws wt os ot le a =
      by_contra (s a) (t a) (λ q.
      let h : (b : Axis) → t b ≤ s b = λ b. by_contra (t b) (s b) (λ p. never_crossed s t ws wt os ot b a p q) in
      omega (arith, total_lt t s a h q))

  pub one_place_for_each_number : (s t : Steps) → Within N s → Within N t → OnLine N B s → OnLine N B t → total s ≡ total t → (a : Axis) → s a ≡ t a
  one_place_for_each_number s t ws wt os ot e a =
      both_ways (s a) (t a) (fewer_is_below s t ws wt os ot (omega arith) a) (fewer_is_below t s wt ws ot os (omega arith) a)

  later : {a b : Axis} {i j k : ℕ} → i < N a → B a i b j → j ≤ k → k < N b → B a i b k
  later {b} r h le lt =
      ⊎_elim (λ e. rw (← e) h) (λ l. laws.trans r (omega arith) lt h (laws.mono b l lt)) (eq-or-lt_of_le le)

  next_before_rest : (t : Steps) (n : Axis) {b : Axis} (j : ℕ) → Next N B t n → Cmp n b → t b + same n b ≤ j → j < N b → B n (t n) b j
  unfolding Next
  next_before_rest t n j nx here le lt = laws.mono n (omega (arith, same_self n)) lt
  next_before_rest t n {b} j nx (other e f) le lt = later nx.0 (nx.1 b e (omega arith)) (omega arith) lt

  pub step_on : (t : Steps) (n : Axis) → OnLine N B t → Next N B t n → OnLine N B (bump t n)
  unfolding OnLine
  step_on t n on nx a b i j p q r = ⊎_elim (λ l. on a b i j l (omega arith) r) (λ g. taken (cmp n a) p g) (lt_or_ge i (t a))
    where
      taken : {a : Axis} → Cmp n a → i < bump t n a → t a ≤ i → B a i b j
      taken here p g =
          let e : i ≡ t n = omega (arith, same_self n) in
          rw e (next_before_rest t n j nx (cmp n b) q r)
      taken (other e f) p g = absurd (omega arith)

  start_on : (t : Steps) → ((a : Axis) → t a ≡ 0) → OnLine N B t
  unfolding OnLine
  start_on t z a b i j p q r = absurd (omega (arith, z a))

  end_on : OnLine N B N
  unfolding OnLine
  end_on a b i j p q r = absurd (omega arith)

  pub walk_on : (next : Steps → Axis) → Choice N B next → (n : ℕ) → n ≤ total N → OnLine N B (after_steps next n) × Within N (after_steps next n)
  unfolding Choice Next
  walk_on next rule zero le = (start_on (after_steps next 0) (walk_start next), λ a. omega (arith, walk_start next a))
  walk_on next rule (suc n) le =
      let t : Steps = after_steps next n in
      let (on, wi) = walk_on next rule n (omega arith) in
      let nx : Next N B t (next t) = rule t wi (omega (arith, walk_total next n)) in
      rw (walk_suc next n) (step_on t (next t) on nx, bump_within N t (next t) nx.0 wi)

  -- used everywhere: a place on the line is the walk's, after as many steps as it has crossings
  pub reached : (next : Steps → Axis) → Choice N B next → (t : Steps) → Within N t → OnLine N B t → (a : Axis) → t a ≡ after_steps next (total t) a
  reached next rule t wi on a =
      let le : total t ≤ total N = omega (arith, wi X, wi Y, wi Z) in
      let w = walk_on next rule (total t) le in
      one_place_for_each_number t (after_steps next (total t)) wi w.1 on w.0 (omega (arith, walk_total next (total t))) a

  pub walk_end : (next : Steps → Axis) → Choice N B next → (a : Axis) → after_steps next (total N) a ≡ N a
  walk_end next rule a = sym (reached next rule N (λ b. omega arith) end_on a)

  pub next_unique : (t : Steps) (m n : Axis) → Next N B t m → Next N B t n → m ≡ n
  unfolding Next
  next_unique t m n p q = go q (cmp m n)
    where
      go : {n : Axis} → Next N B t n → Cmp m n → m ≡ n
      go q here = refl
      go {n} q (other e f) = absurd (laws.asym (p.1 n e q.0) (q.1 m f p.0))

  -- the crossing by which the walk enters a place is the last of the last-taken ones
  pub enters_by_last : (next : Steps → Axis) → Choice N B next → (n : ℕ) → n < total N → Last B (after_steps next (suc n)) (next (after_steps next n))
  unfolding OnLine Choice Next Last
  enters_by_last next rule n lt =
      let t : Steps = after_steps next n in
      let m : Axis = next t in
      let (on, wi) = walk_on next rule n (omega arith) in
      let real = (rule t wi (omega (arith, walk_total next n))).0 in
      let e = same_self m in
      rw (walk_suc next n)
      (omega arith, λ b f h. rw (here_at (same m m) (t m) e, other_at (same m b) (t b) f) (on b m (t b - 1) (t m) (omega arith) (omega arith) real))
    where
      here_at : (s k : ℕ) → s ≡ 1 → k + s - 1 ≡ k
      here_at s k e = omega arith

      other_at : (s k : ℕ) → s ≡ 0 → k + s - 1 ≡ k - 1
      other_at s k e = omega arith

  pub last_unique : (t : Steps) (m n : Axis) → Last B t m → Last B t n → m ≡ n
  unfolding Last
  last_unique t m n p q = go q (cmp m n)
    where
      go : {n : Axis} → Last B t n → Cmp m n → m ≡ n
      go q here = refl
      go {n} q (other e f) = absurd (laws.asym (q.1 m f p.0) (p.1 n e q.0))

  pub leads_trans : (t : Steps) {a b c : Axis} → Leads N B t a b → Leads N B t b c → Leads N B t a c
  leads_trans t p (done h) = done h
  leads_trans t p itself = p
  leads_trans t itself (wins g h w) = wins g h w
  leads_trans t (done k) (wins g h w) = absurd (omega arith)
  leads_trans t (wins k l v) (wins g h w) = wins k h (laws.trans k g h v w)

  -- an axis that leads every other, where one has a crossing left, is the next
  pub leader_is_next : (t : Steps) (n b : Axis) → ((c : Axis) → Leads N B t n c) → t b < N b → Next N B t n
  unfolding Next
  leader_is_next t n b l h = (has_left (l b) h, λ c e k. wins_other (l c) e k)
    where
      has_left : {b : Axis} → Leads N B t n b → t b < N b → t n < N n
      has_left (done k) h = absurd (omega arith)
      has_left itself h = h
      has_left (wins g k w) h = g

      wins_other : {c : Axis} → Leads N B t n c → same n c ≡ 0 → t c < N c → B n (t n) c (t c)
      wins_other (done k) e h = absurd (omega arith)
      wins_other itself e h = absurd (omega (arith, same_self n))
      wins_other (wins g k w) e h = w

  -- a choice between two axes that gives one that leads both, made twice, is a rule
  pub choice_rule :
      (sooner : Steps → Axis → Axis → Axis) → ((t : Steps) (a b : Axis) → Leads N B t (sooner t a b) a × Leads N B t (sooner t a b) b) →
      Choice N B (λ t. sooner t X (sooner t Y Z))
  unfolding Choice
  choice_rule sooner leads t wi lt = leader_is_next t _ (open_axis t N lt).0 all (open_axis t N lt).1
    where
      all : (c : Axis) → Leads N B t (sooner t X (sooner t Y Z)) c
      all X = (leads t X (sooner t Y Z)).0
      all Y = leads_trans t (leads t X (sooner t Y Z)).1 (leads t Y Z).0
      all Z = leads_trans t (leads t X (sooner t Y Z)).1 (leads t Y Z).1
