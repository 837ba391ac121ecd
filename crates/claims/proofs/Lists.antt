-- The claims about the list calls. Assumes nothing.
use Rattle.std.specs.Prelude.{Ok, Err, Result}
use Rattle.cells.specs.declared.Refusal.{Refusal}
use Prim.Native.Nat.{ℕ, zero, suc, ◌+◌, ◌-◌, ◌*◌, ◌≤◌, ◌<◌}
use mathlib.Core.Path.{◌≡◌, refl, sym, ap, ◌∙◌, subst}
use mathlib.Core.Bool.{true}
use mathlib.Core.List.{List, [], ◌∷◌, ◌++◌}
use native.Mathlib.Omega.{arith}
use native.Mathlib.Numerals.{unary_clauses}
use lib.IntN.{ℤ, pos, nat_abs}
use lib.ListN.{length, get_or, drop, length-append, length-drop}
use lib.Seq.{get_or-append-add, get_or-drop}
use borrow.Author.Tests.{ltb-false}
use Rattle.cells.specs.declared.Axis.{Axis}
use Rattle.cells.specs.declared.Axis.TheVariants.{X, Y, Z}
use Rattle.cells.specs.declared.Cell.{Cell}
use Rattle.cells.specs.declared.Rule.{Rule}
use Rattle.cells.specs.Checks.{Verdict, by_verdict}
use Rattle.cells.specs.Touching.{on}
use Rattle.cells.proofs.Checks.{by_refusal, by_fine, fine_rest, passed}
use Rattle.lines.specs.Preference.{y_z_x, comes_before, by_rule}
use Rattle.lines.specs.Lines.{six_line, line_26, in_limit, InLimit}
use Rattle.lines.proofs.Cells.{limited_difference, six_length, six_numbered, length_26, numbered_26}
use Rattle.lines.proofs.Mirror.{first_order}
use Rattle.lists.specs.Lists.{ends_check, list_check, numbers, filled, Lists, Line6}
use Rattle.lists.proofs.Front.{numbers_length}
use Rattle.claims.specs.Lists.{ListedOnce, three_at, CellsAt, CellsListed, Longest, LongestLists, lowest, highest, WrongLists, room}
use Rattle.claims.specs.Example.{at}
use Rattle.claims.proofs.Lines.{six_line_holds, line_26_holds}

-- 1 for an accepted list
unfoldable pub accepted : Result ℕ Refusal → ℕ
accepted (Ok n) = 1
accepted (Err r) = 0

pub listed_once : (line : List Cell) (first : Verdict) (entry : List ℤ) → ListedOnce line first entry
unfolding accepted
listed_once line first entry =
    record {
      answer = λ r s exit last h k. h.says ∙ sym k.says;
      memory = λ r s exit last h k. h.holds ∙ sym k.holds;
      untouched = λ r exit h.
          by_refusal Err (list_check first (length line) (length entry)) (Ok (length line)) (filled line entry)
          (λ e. let z : ◌≡◌ {A = ℕ} 1 0 = ap accepted e in omega arith) (sym h.says) h.holds;
    }

-- ---- the cells of an accepted list

-- how many cells an answer says
unfoldable pub said : Result ℕ Refusal → ℕ
said (Ok n) = n
said (Err r) = 0

-- three numbers further on
three_on : (c : Cell) (l : List ℤ) (i : ℕ) → three_at (c.x ∷ c.y ∷ c.z ∷ l) (suc (suc (suc i))) ≡ three_at l i
three_on c l i = simp unary_clauses

-- cell n stands at 3n, whatever comes behind the line
numbers_at : (line : List Cell) (l : List ℤ) (n : ℕ) (d : Cell) → n < length line → three_at (numbers line ++ l) (3 * n) ≡ get_or line n d
numbers_at [] l n d lt = absurd (omega arith)
numbers_at (c ∷ line) l zero d lt = refl
numbers_at (c ∷ line) l (suc n) d lt =
    let e : 3 * suc n ≡ suc (suc (suc (3 * n))) = omega arith in
    ap (three_at (numbers (c ∷ line) ++ l)) e ∙ three_on c (numbers line ++ l) (3 * n) ∙ numbers_at line l n d (omega arith)

-- of any line
module _ (line : List Cell) (first : Verdict) (entry exit : List ℤ) (k : ℕ) (h : Lists line first entry (Ok k) exit) where
  pub fits : (list_check first (length line) (length entry) ≡ Ok tt) × (◌≡◌ {A = Result ℕ Refusal} (Ok (length line)) (Ok k))
  unfolding accepted
  fits =
      by_fine Err (list_check first (length line) (length entry)) (Ok (length line))
      (λ r e. absurd (let z : ◌≡◌ {A = ℕ} 0 1 = ap accepted e in omega arith)) (sym h.says)

  whole : k ≡ length line
  unfolding said
  whole = ap said (sym fits.1)

  written : exit ≡ filled line entry
  written = h.holds ∙ ap (by_verdict (λ r. entry) (filled line entry)) fits.0

  pub roomy : 3 * length line ≤ length entry
  roomy = ltb-false (length entry) (3 * length line) (passed _ _ (fine_rest first _ fits.0))

  behind : (i : ℕ) → 3 * length line ≤ i → get_or (filled line entry) i (pos 0) ≡ get_or entry i (pos 0)
  behind i le =
      let j = i - 3 * length line in
      let e : i ≡ length (numbers line) + j = omega (arith, numbers_length line) in
      let e' : 3 * length line + j ≡ i = omega arith in
      ap (λ m. get_or (filled line entry) m (pos 0)) e ∙ get_or-append-add (numbers line) (drop (3 * length line) entry) j (pos 0)
      ∙ get_or-drop (3 * length line) entry j (pos 0) ∙ ap (λ m. get_or entry m (pos 0)) e'

  pub cells_at : (many : ℕ) (cell : ℕ → Cell) (d : Cell) → length line ≡ many → ((n : ℕ) → n < many → get_or line n d ≡ cell n) → CellsAt many cell entry exit k
  cells_at many cell d long is =
      record {
        all = whole ∙ long;
        each = λ n lt.
            ap (λ l. three_at l (3 * n)) written ∙ numbers_at line (drop (3 * length line) entry) n d (omega (arith, whole)) ∙ is n (omega (arith, whole));
        rest = λ i le. ap (λ l. get_or l i (pos 0)) written ∙ behind i (omega (arith, whole));
        long =
            ap length written
            ∙ omega (arith, length-append (numbers line) (drop (3 * length line) entry), numbers_length line, length-drop (3 * length line) entry, roomy);
      }

pub cells_listed : (p q : Cell) (entry exit : List ℤ) (k : ℕ) → CellsListed p q entry exit k
cells_listed p q entry exit k =
    record {
      six = λ rule h. cells_at (six_line (by_rule rule p q) p q) (ends_check p q) entry exit k h _ _ p (six_length (by_rule rule p q) p q)
          (λ n lt. six_numbered (by_rule rule p q) p q n (omega arith));
      twenty_six = λ h. cells_at (line_26 p q) (ends_check p q) entry exit k h _ _ p (length_26 p q)
          (λ n lt. numbered_26 p q n (omega arith));
    }

-- ---- the longest lists

-- the corners are accepted
corners : InLimit lowest × InLimit highest
corners = (record { limit = λ a. low a }, record { limit = λ a. high a })
  where
    low : (a : Axis) → in_limit (on lowest a) ≡ true
    low X = refl
    low Y = refl
    low Z = refl

    high : (a : Axis) → in_limit (on highest a) ≡ true
    high X = refl
    high Y = refl
    high Z = refl

-- three numbers for each cell
pub longest : (line : Cell → Cell → List Cell) (cells : ℕ) →
    ((p q : Cell) → InLimit p → InLimit q → length (line p q) ≤ cells) → length (line lowest highest) ≡ cells → Longest line cells (3 * cells)
longest line cells most reached =
    record {
      most = λ p q hp hq. (most p q hp hq, omega (arith, most p q hp hq, numbers_length (line p q)));
      reached = reached;
      takes = numbers_length (line lowest highest) ∙ ap (λ n. 3 * n) reached;
    }

pub longest_list : LongestLists
longest_list =
    record {
      accepted = corners;
      six = λ rule. longest (λ p q. six_line (by_rule rule p q) p q) 49150
          (λ p q hp hq.
          omega (
            arith,
            (six_line_holds (by_rule rule p q) p q).many,
            limited_difference p q hp hq X,
            limited_difference p q hp hq Y,
            limited_difference p q hp hq Z,
          ))
          (six_line_holds (by_rule rule lowest highest) lowest highest).many;
      twenty_six = longest line_26 16384
          (λ p q hp hq.
          omega (arith, (line_26_holds y_z_x p q).many, limited_difference p q hp hq X, limited_difference p q hp hq Y, limited_difference p q hp hq Z))
          (line_26_holds y_z_x lowest highest).many;
    }

-- from (0,0,0) to (2,1,0) both rules have the order y, z, x
by_one : (rule : Rule) (r : Result ℕ Refusal) (exit : List ℤ) → Line6 rule (at 0 0 0) (at 2 1 0) room r exit →
    Lists (six_line y_z_x (at 0 0 0) (at 2 1 0)) (ends_check (at 0 0 0) (at 2 1 0)) room r exit
unfolding comes_before
by_one rule r exit = subst (λ v. Lists (six_line v (at 0 0 0) (at 2 1 0)) (ends_check (at 0 0 0) (at 2 1 0)) room r exit) (first_order rule (at 0 0 0) (at 2 1 0) refl)

pub wrong_lists : WrongLists
unfolding six_line line_26 accepted
wrong_lists =
    record {
      repeats_q = λ rule r h.
          absurd (let z : ◌≡◌ {A = ℕ} 2 1 = ap (λ l. nat_abs (get_or l 6 (pos 0))) (by_one rule r _ h).holds in omega arith);
      refuses_6 = λ rule r exit h. absurd (let z : ◌≡◌ {A = ℕ} 0 1 = ap accepted (by_one rule _ exit h).says in omega arith);
      refuses_26 = λ r exit h. absurd (let z : ◌≡◌ {A = ℕ} 0 1 = ap accepted h.says in omega arith);
    }
