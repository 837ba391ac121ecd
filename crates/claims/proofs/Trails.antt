-- The claims about the trail and its list. Assumes nothing.
use Rattle.std.specs.Prelude.{Ok, Err, Result}
use Prim.Native.Nat.{ℕ, suc, ◌-◌, ◌*◌, ◌<◌}
use native.Mathlib.Omega.{arith}
use mathlib.Core.Path.{◌≡◌, refl, sym, ap, ◌∙◌}
use mathlib.Core.List.{List, [], ◌∷◌}
use lib.IntN.{ℤ, pos, nat_abs}
use lib.ListN.{length, get_or}
use Rattle.cells.specs.declared.Cell.{Cell}
use Rattle.cells.specs.declared.Counts.{Counts}
use Rattle.cells.specs.declared.Manner.{Manner}
use Rattle.cells.specs.declared.Refusal.{Refusal}
use Rattle.cells.specs.Checks.{Verdict, by_verdict}
use Rattle.cells.specs.Refusals.{told}
use Rattle.lines.specs.Preference.{order_of, comes_before}
use Rattle.lists.specs.Lists.{list_check}
use Rattle.grids.specs.Inside.{walk_check}
use Rattle.walks.specs.declared.Walker.TheVariants.{Adaptive}
use Rattle.walks.specs.declared.FirstHit.{FirstHit}
use Rattle.walks.specs.Walks.{conduct, walk_of}
use Rattle.walks.specs.Answers.{last_of, Finds}
use Rattle.walks.proofs.Numbers.{walk_length}
use Rattle.walks.proofs.Story.{reads_most}
use Rattle.trails.specs.Trails.{trail, AdaptiveCells}
use Rattle.claims.specs.Lists.{three_at, CellsAt}
use Rattle.claims.specs.Tables.{no_more, ◌and◌}
use Rattle.claims.specs.Trails.{trail_cell, TrailListed, BesideFirstHit, TrailRows, WrongTrails}
use Rattle.claims.proofs.Lists.{cells_at, accepted, said}
use Rattle.claims.proofs.Story.{found, not_refused, as_its_walk, step_by_step}

-- the last cell by its number
last_at : (c d : Cell) (l : List Cell) → 0 < length l → get_or l (length l - 1) d ≡ last_of c l
last_at c d [] some = absurd (omega arith)
last_at c d (e ∷ []) some = refl
last_at c d (e ∷ f ∷ l) some =
    let i : length (e ∷ f ∷ l) - 1 ≡ suc (length (f ∷ l) - 1) = omega arith in
    ap (λ j. get_or (e ∷ f ∷ l) j d) i ∙ last_at e d (f ∷ l) (omega arith)

module _ (how : Manner) (n : Counts) (l : List ℕ) (p q : Cell) (entry exit : List ℤ) (k : ℕ) where
  listed : AdaptiveCells how n l p q entry (Ok k) exit → CellsAt (length (trail how n l p q)) (trail_cell how n l p q) entry exit k
  listed h = cells_at (trail how n l p q) (walk_check n (length l) p q) entry exit k h (length (trail how n l p q)) (trail_cell how n l p q) p refl (λ i lt. refl)

  some : 0 < length (trail how n l p q)
  some = ((step_by_step how n l p q).starts Adaptive).0

  pub trail_listed : TrailListed how n l p q entry exit k
  trail_listed =
      record {
        few = omega (arith, walk_length (conduct how p q) n l p q Adaptive, reads_most (conduct how p q) n l p q Adaptive);
        cells = listed;
        starts = λ h.
            let lt : 0 < k = omega (arith, some, (listed h).all) in
            (lt, (listed h).each 0 lt ∙ ((step_by_step how n l p q).starts Adaptive).1);
      }

  -- the last cell that is listed is the trail's
  ends_at : AdaptiveCells how n l p q entry (Ok k) exit → three_at exit (3 * (k - 1)) ≡ last_of p (trail how n l p q)
  ends_at h =
      let c = listed h in
      c.each (k - 1) (omega (arith, some, c.all)) ∙ ap (λ m. trail_cell how n l p q (m - 1)) c.all ∙ last_at p p (trail how n l p q) some

  pub beside_first_hit : BesideFirstHit how n l p q entry exit k
  beside_first_hit =
      record {
        hit = λ h a f. let (last, reads) = (as_its_walk how n l p q).hit Adaptive a f in ((listed h).all ∙ sym reads, ends_at h ∙ sym last);
        clear = λ h reads f. let (last, many) = (as_its_walk how n l p q).clear Adaptive reads f in ((listed h).all ∙ sym many, ends_at h ∙ last);
        refused = λ r h e f. by r e h f (walk_check n (length l) p q) refl;
      }
    where
      why : Refusal → Result FirstHit Refusal → Refusal
      why e (Err x) = x
      why e (Ok (FirstHit.Hit h)) = e
      why e (Ok (FirstHit.Clear m)) = e

      by : (r : Result ℕ Refusal) (e : Refusal) → AdaptiveCells how n l p q entry r exit → Finds Adaptive how n l p q (Err e) →
          (v : Verdict) → walk_check n (length l) p q ≡ v → r ≡ Err e
      by r e h f (Ok _) is = absurd (not_refused how n l p q Adaptive is e f)
      by r e h f (Err x) is =
          h.says ∙ ap (λ v. by_verdict Err (Ok (length (trail how n l p q))) (list_check v (length (trail how n l p q)) (length entry))) is
          ∙ ap Err (sym (ap (why e) (found how n l p q f ∙ ap (by_verdict Err _) is)))

pub trails_worked : TrailRows
unfolding walk_of order_of comes_before
trails_worked = record { trails = refl and refl and refl and refl and refl and refl and refl and no_more }

-- the number of a list's refusal
unfoldable why_not : Result ℕ Refusal → ℕ
why_not (Ok many) = 0
why_not (Err r) = (told r).number

pub wrong_trails : WrongTrails
unfolding walk_of order_of comes_before walk_check accepted said why_not
wrong_trails =
    record {
      passed_over = λ exit h. absurd (let z : ◌≡◌ {A = ℕ} 4 3 = ap said h.says in omega arith);
      near_stepped = λ exit h. absurd (let z : ◌≡◌ {A = ℕ} 3 4 = ap said h.says in omega arith);
      past_the_hit = λ exit h. absurd (let z : ◌≡◌ {A = ℕ} 5 3 = ap said h.says in omega arith);
      q_for_the_hit = λ r h. absurd (let z : ◌≡◌ {A = ℕ} 3 1 = ap (λ l. nat_abs (get_or l 6 (pos 0))) h.holds in omega arith);
      start_left_out = λ r h. absurd (let z : ◌≡◌ {A = ℕ} 1 0 = ap (λ l. nat_abs (get_or l 0 (pos 0))) h.holds in omega arith);
      turned_round = λ r h. absurd (let z : ◌≡◌ {A = ℕ} 1 0 = ap (λ l. nat_abs (get_or l 0 (pos 0))) h.holds in omega arith);
      plain_in_list = λ r h. absurd (let z : ◌≡◌ {A = ℕ} 1 2 = ap (λ l. nat_abs (get_or l 6 (pos 0))) h.holds in omega arith);
      other_rule = λ r h. absurd (let z : ◌≡◌ {A = ℕ} 1 0 = ap (λ l. nat_abs (get_or l 3 (pos 0))) h.holds in omega arith);
      always_tested = λ exit h. absurd (let z : ◌≡◌ {A = ℕ} 1 3 = ap said h.says in omega arith);
      never_tested = λ exit h. absurd (let z : ◌≡◌ {A = ℕ} 3 1 = ap said h.says in omega arith);
      room_first = λ exit h. absurd (let z : ◌≡◌ {A = ℕ} 6 5 = ap why_not h.says in omega arith);
      refuses = λ r exit h. absurd (let z : ◌≡◌ {A = ℕ} 0 1 = ap accepted h.says in omega arith);
      one_less = λ many exit h. absurd (let z : ◌≡◌ {A = ℕ} 1 0 = ap accepted h.says in omega arith);
      writes = λ r h. absurd (let z : ◌≡◌ {A = ℕ} 0 7 = ap (λ l. nat_abs (get_or l 0 (pos 0))) h.holds in omega arith);
    }
