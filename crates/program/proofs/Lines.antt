-- The lines of a pair, one walk more at a time. Assumes nothing.
use Rattle.std.specs.Prelude.{Result}
use Rattle.cells.specs.declared.Refusal.{Refusal}
use mathlib.Core.Path.{◌≡◌, sym, ap, ◌∙◌}
use mathlib.Core.List.{List, [], ◌∷◌, ◌++◌, append_assoc, append-nil}
use Prim.Native.Nat.{ℕ, ◌≤◌}
use lib.ListN.{length}
use Rattle.walks.specs.declared.FirstHit.{FirstHit}
use Rattle.texts.specs.Text.{Puts}
use Rattle.texts.proofs.Pieces.{then_puts, same_piece}
use Rattle.program.specs.Program.{walk_line, walk_lines}
use Rattle.program.proofs.Front.{nothing_put}

-- the lines of these walks stand at the front, up to c
pub record Lines (k : ℕ) (found : List (ℕ × Result FirstHit Refusal)) (s : List ℕ) (c : ℕ) (l : List ℕ) : Type 0 where
  pub puts : Puts (walk_lines k found) 0 s c l

module _ (k : ℕ) where
  one_more : (found : List (ℕ × Result FirstHit Refusal)) (letter : ℕ) (a : Result FirstHit Refusal)
      → walk_lines k found ++ walk_line k letter a ≡ walk_lines k (found ++ ((letter, a) ∷ []))
  one_more [] letter a = sym (append-nil (walk_line k letter a))
  one_more (f ∷ found) letter a =
      append_assoc (walk_line k f.0 f.1) (walk_lines k found) (walk_line k letter a)
      ∙ ap (λ l. walk_line k f.0 f.1 ++ l) (one_more found letter a)

  pub no_line : {s : List ℕ} → Lines k [] s 0 s
  no_line {s} = record { puts = nothing_put 0 s }

  pub and_line : {found : List (ℕ × Result FirstHit Refusal)} {s m l : List ℕ} {b c : ℕ} {r a : Result FirstHit Refusal} (letter : ℕ) → b ≤ length s → Lines k found s b m
      → Puts (walk_line k letter r) b m c l → r ≡ a → Lines k (found ++ ((letter, a) ∷ [])) s c l
  and_line {found} {r = r} letter fits before line is =
      record { puts = same_piece (one_more found letter r ∙ ap (λ a. walk_lines k (found ++ ((letter, a) ∷ []))) is) (then_puts fits before.puts line) }
