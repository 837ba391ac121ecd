-- Pieces put one behind the other. Assumes nothing.
use mathlib.Core.Path.{◌≡◌, refl, sym, ◌∙◌, subst}
use mathlib.Core.List.{List, [], ◌∷◌, ◌++◌, append_assoc}
use Prim.Native.Nat.{ℕ, ◌+◌, ◌≤◌}
use native.Mathlib.Nat.{zero-add}
use native.Mathlib.Omega.{arith}
use lib.ListN.{length, drop, length-append}
use Rattle.buffers.proofs.Over.{over_front, then_over}
use Rattle.cells.specs.declared.Cell.{Cell}
use Rattle.cells.specs.declared.Face.{Face}
use Rattle.texts.specs.Text.{decimal, face_word, hit_word, clear_word, refused_word, venue_word, parted, ended, cell_fields}
use Rattle.texts.specs.Text.{hit_line, clear_line, pair_refused_line, venue_refused_line, Puts}
use Rattle.texts.specs.Writing.{HasRoom, Writes}
use Rattle.texts.specs.declared.Pen.{Pen}

pub then_puts : {p q s : List ℕ} {at b c : ℕ} {m l : List ℕ} → b ≤ length s → Puts p at s b m → Puts q b m c l → Puts (p ++ q) at s c l
then_puts {p} {q} {s} {at} fits first second =
    record {
      says = omega (arith, first.says, second.says, length-append p q);
      holds = then_over at p q s (omega (arith, first.says)) first.holds first.says second.holds;
    }

-- the same piece, said otherwise
pub same_piece : {p q : List ℕ} {at : ℕ} {s : List ℕ} {c : ℕ} {l : List ℕ} → p ≡ q → Puts p at s c l → Puts q at s c l
same_piece {at = at} {s = s} {c = c} {l = l} e h = subst (λ (r : List ℕ). Puts r at s c l) e h

-- a piece at the front
pub front_long : {p s : List ℕ} {c : ℕ} {l : List ℕ} → Puts p 0 s c l → c ≡ length p
front_long {p} h = h.says ∙ zero-add (length p)

pub front_holds : {p s : List ℕ} {c : ℕ} {l : List ℕ} → Puts p 0 s c l → l ≡ p ++ drop (length p) s
front_holds {p} {s} h = h.holds ∙ over_front p s

-- ---- pieces that are written

pub then_writes : {p q : List ℕ} {m n : ℕ} {a b c : Pen} → HasRoom m a → Writes p m a b → Writes q n b c → Writes (p ++ q) (m + n) a c
then_writes room first second =
    record {
      puts = then_puts (omega (arith, first.fits)) first.puts second.puts;
      fits = omega (arith, first.fits, second.fits);
      long = second.long ∙ first.long;
      same = second.same ∙ first.same;
    }

-- the same piece, said otherwise, and a larger bound
pub same_written : {p q : List ℕ} {m n : ℕ} {a b : Pen} → p ≡ q → m ≤ n → Writes p m a b → Writes q n a b
same_written e most h =
    record {
      puts = same_piece e h.puts;
      fits = omega (arith, h.fits);
      long = h.long;
      same = h.same;
    }

-- the piece that ends a line, and the lent bytes as the pen leaves them
pub ends_line : {p q l : List ℕ} {m n : ℕ} {a b c : Pen} {exit : List ℕ}
    → p ++ q ≡ l → exit ≡ c.out.now → HasRoom m a → Writes p m a b → Writes q n b c → Puts l a.at a.out.now c.at exit
ends_line {l = l} {a = a} {c = c} same left room first second =
    subst (λ (s : List ℕ). Puts l a.at a.out.now c.at s) (sym left) (same_piece same (then_writes room first second).puts)

-- ---- the lines, piece by piece

pub hit_pieces : (k letter : ℕ) (c : Cell) (code reads : ℕ) (face : Face)
    → parted (decimal k) ++ parted (letter ∷ []) ++ parted hit_word
    ++ cell_fields c ++ parted (decimal code) ++ parted (decimal reads) ++ ended (face_word face) ≡ hit_line k letter c code reads face
unfolding hit_line
hit_pieces k letter c code reads face = simp append_assoc

pub clear_pieces : (k letter reads : ℕ)
    → parted (decimal k) ++ parted (letter ∷ []) ++ (parted clear_word ++ ended (decimal reads)) ≡ clear_line k letter reads
unfolding clear_line
clear_pieces k letter reads = simp append_assoc

pub pair_pieces : (k number : ℕ) → parted (decimal k) ++ (parted refused_word ++ ended (decimal number)) ≡ pair_refused_line k number
unfolding pair_refused_line
pair_pieces k number = refl

pub venue_pieces : (number : ℕ) → parted venue_word ++ (parted refused_word ++ ended (decimal number)) ≡ venue_refused_line number
unfolding venue_refused_line
venue_pieces number = refl
