-- The claims about the program's lines. Assumes nothing.
use mathlib.Core.Path.{◌≡◌, refl, sym, ap, ◌∙◌, subst}
use mathlib.Core.Bool.{Bool, true, false, cond}
use mathlib.Core.List.{List, [], ◌∷◌, ◌++◌}
use Prim.Native.Nat.{ℕ, zero, suc, ◌+◌, ◌-◌, ◌*◌, ◌/◌, ◌%◌, ◌≤◌, ◌<◌}
use native.Mathlib.Omega.{arith}
use lib.Dec.{ltb}
use lib.ListN.{length, get_or, length-append, get_or-append}
use lib.Seq.{get_or-append_seam}
use lib.IntN.{ℤ, pos, negsuc, neg_ℤ}
use borrow.Author.Tests.{ltb-true, ltb-false, ne_eqb}
use Rattle.texts.specs.Text.{digit, decimal_in, decimal, signed_decimal, hit_line, clear_line, pair_refused_line, venue_refused_line}
use Rattle.claims.specs.Texts.{value_after, signed_value, Decimal, Signed, OneLine, Examples}

-- one digit more
value_more : (n : ℕ) (l : List ℕ) (d : ℕ) → value_after n (l ++ (digit d ∷ [])) ≡ 10 * value_after n l + d
value_more n [] d = omega arith
value_more n (b ∷ l) d = value_more (10 * n + (b - 48)) l d

-- what is claimed of a text
record Right (n : ℕ) (l : List ℕ) : Type 0 where
  says : value_after 0 l ≡ n
  digits : (i : ℕ) → i < length l → (48 ≤ get_or l i 0) × (get_or l i 0 ≤ 57)
  no_leading_zero : 1 ≤ n → 48 < get_or l 0 0
  some : 1 ≤ length l

one_digit : (n : ℕ) → n < 10 → Right n (digit n ∷ [])
one_digit n h =
    record {
      says = omega arith;
      digits = digits;
      no_leading_zero = λ p. omega arith;
      some = omega arith;
    }
  where
    digits : (i : ℕ) → i < 1 → (48 ≤ get_or (digit n ∷ []) i 0) × (get_or (digit n ∷ []) i 0 ≤ 57)
    digits zero b = (omega arith, omega arith)
    digits (suc i) b = absurd (omega arith)

digit_more : (n : ℕ) (l : List ℕ) → 10 ≤ n → Right (n / 10) l → Right n (l ++ (digit (n % 10) ∷ []))
digit_more n l h r =
    record {
      says = value_more 0 l (n % 10) ∙ omega (arith, r.says);
      digits = λ i b. by_place i b (ltb i (length l)) refl;
      no_leading_zero = λ p. rw (get_or-append l (digit (n % 10) ∷ []) 0 0 r.some) (r.no_leading_zero (omega arith));
      some = omega (arith, r.some, length-append l (digit (n % 10) ∷ []));
    }
  where
    by_place : (i : ℕ) → i < length (l ++ (digit (n % 10) ∷ [])) → (t : Bool) → ltb i (length l) ≡ t
        → (48 ≤ get_or (l ++ (digit (n % 10) ∷ [])) i 0) × (get_or (l ++ (digit (n % 10) ∷ [])) i 0 ≤ 57)
    by_place i b true e = let inside = ltb-true i (length l) e in rw (get_or-append l (digit (n % 10) ∷ []) 0 i inside) (r.digits i inside)
    by_place i b false e =
        let last : length l ≡ i = omega (arith, ltb-false i (length l) e, length-append l (digit (n % 10) ∷ [])) in
        subst (λ (j : ℕ). (48 ≤ get_or (l ++ (digit (n % 10) ∷ [])) j 0) × (get_or (l ++ (digit (n % 10) ∷ [])) j 0 ≤ 57)) last
        (rw (get_or-append_seam l (digit (n % 10)) [] 0) (omega arith, omega arith))

in_turns : (turns n : ℕ) → n < turns → Right n (decimal_in turns n)
unfolding decimal_in
in_turns zero n h = absurd (omega arith)
in_turns (suc turns) n h = go (ltb n 10) refl (in_turns turns (n / 10))
  where
    go : (t : Bool) → ltb n 10 ≡ t → (n / 10 < turns → Right (n / 10) (decimal_in turns (n / 10)))
        → Right n (cond t (digit n ∷ []) (decimal_in turns (n / 10) ++ (digit (n % 10) ∷ [])))
    go true e ih = one_digit n (ltb-true n 10 e)
    go false e ih = let large = ltb-false n 10 e in digit_more n (decimal_in turns (n / 10)) large (ih (omega arith))

-- 0 has one digit
more_than_one : (n : ℕ) → 2 ≤ length (decimal n) → 1 ≤ n
unfolding decimal_in decimal
more_than_one zero h = absurd (omega arith)
more_than_one (suc n) h = omega arith

pub decimal_right : (n : ℕ) → Decimal n
unfolding decimal
decimal_right n =
    let r = in_turns (suc n) n (omega arith) in
    record { says = r.says; digits = r.digits; no_leading_zero = λ two. r.no_leading_zero (more_than_one n two); some = r.some }

-- a text that begins with a digit has no minus
unsigned : (l : List ℕ) → 1 ≤ length l → 48 ≤ get_or l 0 0 → signed_value l ≡ pos (value_after 0 l)
unsigned [] some least = absurd (omega arith)
unsigned (b ∷ l) some least = rw (ne_eqb b 45 (λ e. omega arith))

pub signed_right : (z : ℤ) → Signed z
unfolding signed_decimal
signed_right (pos n) =
    let r = decimal_right n in
    record { says = unsigned (decimal n) r.some (r.digits 0 r.some).0 ∙ ap pos r.says; no_minus = λ m e. ap signed_decimal e }
signed_right (negsuc n) =
    record { says = ap (λ m. neg_ℤ (pos m)) (decimal_right (suc n)).says; no_minus = λ m e. ap signed_decimal e }

pub one_line : (line : List ℕ) (at : ℕ) (entry : List ℕ) → OneLine line at entry
one_line line at entry = record { one = λ r t x y e f. (e.says ∙ sym f.says, e.holds ∙ sym f.holds) }

pub examples : Examples
unfolding decimal_in decimal signed_decimal hit_line clear_line pair_refused_line venue_refused_line
examples =
    record {
      hit = refl;
      all_different = refl;
      below_zero = refl;
      rising = (refl, refl, refl);
      falling = (refl, refl, refl);
      none = refl;
      clear = refl;
      pair = refl;
      venue = refl;
    }
