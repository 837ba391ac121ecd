-- The two listing loops fill alike: cells f 0, f 1, .. are stored one a turn. And a turn of the 6-line's. Assumes nothing.
use mathlib.Core.Path.{◌≡◌, refl, sym, ap, ap₂, ◌∙◌, subst, fun_ext}
use mathlib.Core.List.{List}
use Prim.Native.Nat.{ℕ, ◌+◌, ◌*◌, ◌≤◌, ◌<◌}
use native.Mathlib.Omega.{arith}
use native.Mathlib.Numerals.{add-one}
use lib.IntN.{ℤ}
use lib.ListN.{length, length-set}
use Rattle.cells.specs.declared.Cell.{Cell}
use Rattle.lines.specs.Steps.{Axis, X, Y, Z, at, total}
use Rattle.lines.specs.Crossings.{Course, next, place}
use Rattle.lines.specs.declared.Order.{Order}
use Rattle.lines.specs.Preference.{prefers}
use Rattle.lines.specs.Lines.{differences, centres}
use Rattle.cells.specs.Tabulate.{tabulate}
use Rattle.lines.proofs.Steps.{bump}
use Rattle.lines.proofs.Fractions.{place_start, place_suc, place_on, place_total}
use Rattle.lines.proofs.Centres.{centres_good}
use Rattle.tripod.specs.Tripod.{NextFace}
use Rattle.lists.specs.declared.six.SixWay.{SixWay}
use Rattle.lists.specs.declared.six.SixSpot.{SixSpot}
use Rattle.lists.specs.Lists.{filled}
use Rattle.lists.specs.Kept.{SixWayOf, SixSpotAt, put3, crossed_six}
use Rattle.lists.proofs.Line.{spot_crossed}
use Rattle.lists.proofs.Front.{front, put_next, front_filled}

-- after m turns m cells are stored
pub record Filling (f : ℕ → Cell) (last : ℕ) (out₀ out : List ℤ) (m at : ℕ) : Type 0 where
  pub most : m ≤ last
  pub stored : out ≡ front f m out₀
  pub long : length out ≡ length out₀
  pub next_at : at ≡ 3 * m

pub filled_none : (f : ℕ → Cell) (last : ℕ) (out₀ : List ℤ) → Filling f last out₀ out₀ 0 0
filled_none f last out₀ = record { most = omega arith; stored = refl; long = refl; next_at = refl }

module _ (f : ℕ → Cell) (last : ℕ) (out₀ : List ℤ) (room : 3 * (last + 1) ≤ length out₀) where
  -- a turn
  pub filled_one :
      (out out' : List ℤ) (c : Cell) (m at : ℕ) → Filling f last out₀ out m at → m < last → out' ≡ put3 out at c → c ≡ f m →
      Filling f last out₀ out' (m + 1) (at + 3)
  filled_one out out' c m at h lt e is =
      record {
        most = omega arith;
        stored = e ∙ ap₂ (λ l k. put3 l k c) h.stored h.next_at ∙ ap (put3 (front f m out₀) (3 * m)) is ∙ put_next f out₀ m (omega arith);
        long = ap length e ∙ simp length-set h.long;
        next_at = omega (arith, h.next_at);
      }

  -- a turn of a loop that counts cells alone
  pub filled_next :
      (out out' : List ℤ) (c : Cell) (m : ℕ) → Filling f last out₀ out m (3 * m) → m < last → out' ≡ put3 out (3 * m) c → c ≡ f m →
      Filling f last out₀ out' (m + 1) (3 * (m + 1))
  filled_next out out' c m h lt e is =
      let n = filled_one out out' c m (3 * m) h lt e is in
      record { most = n.most; stored = n.stored; long = n.long; next_at = refl }

  -- the last cell
  pub filled_last :
      (out out' : List ℤ) (q : Cell) (m at : ℕ) → Filling f last out₀ out m at → last ≤ m → f last ≡ q → out' ≡ put3 out at q →
      out' ≡ filled (tabulate f (last + 1)) out₀
  filled_last out out' q m at h ge end e =
      let n : m ≡ last = omega (arith, h.most) in
      e ∙ ap₂ (λ l k. put3 l k q) h.stored h.next_at ∙ ap (put3 (front f m out₀) (3 * m)) (sym end ∙ ap f (sym n)) ∙ put_next f out₀ m (omega arith)
      ∙ ap (λ k. front f (k + 1) out₀) n ∙ front_filled f (last + 1) out₀

  -- after a loop that counts cells alone
  pub filled_end :
      (out out' : List ℤ) (q : Cell) (m : ℕ) → Filling f last out₀ out m (3 * m) → last ≤ m → f last ≡ q → out' ≡ put3 out (3 * last) q →
      out' ≡ filled (tabulate f (last + 1)) out₀
  filled_end out out' q m h ge end e =
      let n : last ≡ m = omega (arith, h.most) in
      filled_last out out' q m (3 * m) h ge end (e ∙ ap (λ k. put3 out (3 * k) q) n)

-- ---- the 6-line

pub no_steps : (a : Axis) → at 0 0 0 a ≡ 0
no_steps X = refl
no_steps Y = refl
no_steps Z = refl

abbrev pub C : Order → Cell → Cell → Course
C o p q = centres (prefers o) (differences p q)

-- with no step taken P is place 0
pub six_start : (o : Order) (p q : Cell) (s : SixSpot) → SixSpotAt o p q (at 0 0 0) s → SixSpotAt o p q (place (C o p q) 0) s
six_start o p q s = subst (λ t. SixSpotAt o p q t s) (fun_ext (λ a. no_steps a ∙ sym (place_start (C o p q) a)))

-- the loop starts at P, on its way to q, with so many crossings before it
pub record Begun (o : Order) (p q : Cell) (w : SixWay) (s : SixSpot) (crossings : ℕ) : Type 0 where
  pub way : SixWayOf p q w
  pub spot : SixSpotAt o p q (place (C o p q) 0) s
  pub count : crossings ≡ total (differences p q)

pub begins : (o : Order) (p q : Cell) (w : SixWay) (s : SixSpot) (crossings : ℕ) → SixWayOf p q w → SixSpotAt o p q (at 0 0 0) s →
    crossings ≡ total (differences p q) → Begun o p q w s crossings
begins o p q w s crossings way spot count =
    record {
      way = way;
      spot = subst (λ t. SixSpotAt o p q t s) (fun_ext (λ a. no_steps a ∙ sym (place_start (C o p q) a))) spot;
      count = count;
    }

module _ (o : Order) (p q : Cell) (w : SixWay) (way : SixWayOf p q w) where
  pub six_turn :
      (m : ℕ) (s : SixSpot) (n : Axis) → m < total (differences p q) → SixSpotAt o p q (place (C o p q) m) s → NextFace s.e n →
      SixSpotAt o p q (place (C o p q) (m + 1)) (crossed_six w n s)
  six_turn m s n lt h face =
      let (on, wi) = place_on (C o p q) (centres_good (prefers o) (differences p q)) m (omega arith) in
      let t = place (C o p q) m in
      let e : n ≡ next (C o p q) t = face.comes_first o (differences p q) t wi (omega (arith, place_total (C o p q) m)) h.value in
      subst (λ u. SixSpotAt o p q u (crossed_six w n s)) (ap (bump t) e ∙ sym (place_suc (C o p q) m) ∙ ap (place (C o p q)) (sym (add-one m)))
      (spot_crossed o p q w way t s n h)
