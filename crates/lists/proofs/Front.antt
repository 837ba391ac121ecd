-- The front of the lent slice: cells stored one after another, and what each way out of a list call answers and leaves. Assumes nothing.
use Rattle.std.specs.Prelude.{Ok, Err}
use mathlib.Core.Path.{◌≡◌, refl, sym, ap, ap₂, ◌∙◌, subst}
use mathlib.Core.Bool.{true, not}
use mathlib.Core.List.{List, [], ◌∷◌, ◌++◌}
use Prim.Native.Nat.{ℕ, ◌+◌, ◌*◌, ◌≤◌, ◌<◌}
use native.Mathlib.Omega.{arith}
use native.Mathlib.Numerals.{add-one, add-two}
use lib.IntN.{ℤ}
use lib.ListN.{length, drop, length-append, length-drop}
use lib.Seq.{sets-eq, take_at, drop-append-add, drop-drop}
use borrow.Author.Tests.{lt-ltb, le-ltb, not-false}
use Rattle.cells.specs.declared.Cell.{Cell}
use Rattle.cells.specs.declared.Refusal.{Refusal}
use Rattle.cells.specs.declared.Refusal.TheVariants.{Limit, Room}
use Rattle.cells.specs.declared.Axis.{Axis}
use Rattle.cells.specs.declared.Axis.TheVariants.{X, Y, Z}
use Rattle.cells.specs.declared.End.{End}
use Rattle.cells.specs.declared.End.TheVariants.{P, Q}
use Rattle.cells.specs.Checks.{refuse_when, Verdict}
use Rattle.cells.specs.Touching.{on}
use Rattle.cells.proofs.Checks.{fine_first, fine_rest, passed}
use Rattle.lines.specs.Lines.{in_limit, InLimit}
use Rattle.cells.specs.Tabulate.{tabulate}
use Rattle.cells.proofs.Tabulate.{tabulate_length}
use Rattle.lists.specs.declared.segment.Segment.{Segment}
use Rattle.lists.specs.Lists.{end_check, ends_check, numbers, filled, Lists}
use Rattle.lists.specs.Kept.{put3}

-- ---- numbers

pub numbers_length : (l : List Cell) → length (numbers l) ≡ 3 * length l
numbers_length [] = refl
numbers_length (c ∷ l) = omega (arith, numbers_length l)

pub numbers_append : (l k : List Cell) → numbers (l ++ k) ≡ numbers l ++ numbers k
numbers_append [] k = refl
numbers_append (c ∷ l) k = ap (λ m. c.x ∷ c.y ∷ c.z ∷ m) (numbers_append l k)

-- the first m cells at the front
abbrev pub front : (ℕ → Cell) → ℕ → List ℤ → List ℤ
front f m entry = numbers (tabulate f m) ++ drop (3 * m) entry

-- a cell stored where the front ends lengthens the front
pub put_after : (F d : List ℤ) (n : ℕ) (c : Cell) → length F ≡ n → n + 3 ≤ length d → put3 (F ++ drop n d) n c ≡ (F ++ numbers (c ∷ [])) ++ drop (n + 3) d
put_after F d n c e h =
    rw (add-one n, add-two n)
    (sets-eq (numbers (c ∷ [])) (F ++ drop n d) n (omega (arith, length-append F (drop n d), length-drop n d))
    ∙ ap₂ (λ a b. (a ++ numbers (c ∷ [])) ++ b) (take_at F (drop n d) n e) past)
  where
    past : drop (n + 3) (F ++ drop n d) ≡ drop (n + 3) d
    past = subst (λ k. drop (k + 3) (F ++ drop k d) ≡ drop (k + 3) d) e (drop-append-add F (drop (length F) d) 3 ∙ drop-drop 3 (length F) d)

pub put_next : (f : ℕ → Cell) (entry : List ℤ) (m : ℕ) → 3 * (m + 1) ≤ length entry → put3 (front f m entry) (3 * m) (f m) ≡ front f (m + 1) entry
put_next f entry m h =
    let e : 3 * m + 3 ≡ 3 * (m + 1) = omega arith in
    put_after (numbers (tabulate f m)) entry (3 * m) (f m) (numbers_length (tabulate f m) ∙ ap (λ k. 3 * k) (tabulate_length f m)) (omega arith)
    ∙ ap₂ (λ a k. a ++ drop k entry) (sym (numbers_append (tabulate f m) (f m ∷ [])) ∙ ap (λ k. numbers (tabulate f k)) (sym (add-one m))) e

-- all its cells at the front: the line is filled in
pub front_filled : (f : ℕ → Cell) (n : ℕ) (entry : List ℤ) → front f n entry ≡ filled (tabulate f n) entry
front_filled f n entry = ap (λ k. numbers (tabulate f n) ++ drop (3 * k) entry) (sym (tabulate_length f n))

-- ---- the ways out

module _ (line : List Cell) (first : Verdict) (entry : List ℤ) where
  pub refused_first : (r : Refusal) → first ≡ Err r → Lists line first entry (Err r) entry
  refused_first r h = record { says = sym (simp h); holds = sym (simp h) }

  pub refused_room : first ≡ Ok tt → length entry < 3 * length line → Lists line first entry (Err Room) entry
  refused_room h short = record {
    says = sym (simp (h, lt-ltb (length entry) (3 * length line) short));
    holds = sym (simp (h, lt-ltb (length entry) (3 * length line) short));
  }

  pub listed_all : (exit : List ℤ) → first ≡ Ok tt → 3 * length line ≤ length entry → exit ≡ filled line entry →
      Lists line first entry (Ok (length line)) exit
  listed_all exit h room e =
      record { says = sym (simp (h, le-ltb (length entry) (3 * length line) room)); holds = e ∙ sym (simp (h, le-ltb (length entry) (3 * length line) room)) }

-- ---- ends that passed

end_fine : (e : End) (c : Cell) → end_check e c ≡ Ok tt → InLimit c
end_fine e c h =
    let yz = fine_rest (refuse_when (not (in_limit c.x)) (Limit e X)) _ h in
    let x = not-false _ (passed _ _ (fine_first (refuse_when (not (in_limit c.x)) (Limit e X)) _ h)) in
    let y = not-false _ (passed _ _ (fine_first (refuse_when (not (in_limit c.y)) (Limit e Y)) _ yz)) in
    let z = not-false _ (passed _ _ (fine_rest (refuse_when (not (in_limit c.y)) (Limit e Y)) _ yz)) in
    record { limit = limits x y z }
  where
    limits : in_limit c.x ≡ true → in_limit c.y ≡ true → in_limit c.z ≡ true → (a : Axis) → in_limit (on c a) ≡ true
    limits x y z X = x
    limits x y z Y = y
    limits x y z Z = z

pub ends_fine : (p q : Cell) → ends_check p q ≡ Ok tt → InLimit p × InLimit q
ends_fine p q h = (end_fine P p (fine_first (end_check P p) _ h), end_fine Q q (fine_rest (end_check P p) _ h))

-- and within the limit they pass, whichever is P
limit_fine : (e : End) (c : Cell) → InLimit c → end_check e c ≡ Ok tt
limit_fine e c h = rw (h.limit X, h.limit Y, h.limit Z)

pub limits_pass : (p q : Cell) → InLimit p → InLimit q → ends_check p q ≡ Ok tt
limits_pass p q hp hq = rw (limit_fine P p hp, limit_fine Q q hq)

pub segment_fine : (s : Segment) → ends_check s.p s.q ≡ Ok tt
segment_fine s = limits_pass s.p s.q s.measured.p_in s.measured.q_in
