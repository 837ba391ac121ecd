-- Text at the front of lent bytes. Assumes nothing.
use Rattle.std.specs.Prelude.{Option}
use mathlib.Core.Path.{◌≡◌, refl, sym, ap, ◌∙◌}
use mathlib.Core.List.{List, [], ◌++◌}
use Prim.Native.Nat.{ℕ, ◌+◌, ◌≤◌}
use native.Mathlib.Nat.{add-zero}
use native.Mathlib.Omega.{arith}
use lib.ListN.{length, take, drop, length-append, length-take, take-append-drop}
use Rattle.std.specs.Counts.{IsPrefixLen}
use Rattle.buffers.specs.Over.{over}
use Rattle.texts.specs.Text.{Puts}
use Rattle.texts.proofs.Pieces.{front_long, front_holds}
use Rattle.program.specs.declared.Step.{Step}
use Rattle.program.specs.Program.{Said, Says}

-- nothing put
pub nothing_put : (at : ℕ) (s : List ℕ) → Puts [] at s at s
unfolding over
nothing_put at s = record { says = sym (add-zero at); holds = sym (take-append-drop at s) ∙ ap (λ k. take at s ++ drop k s) (sym (add-zero at)) }

-- a step that put its text from the front on, and says what comes next
pub front : {text entry exit : List ℕ} {long : ℕ} {next x : Option ℕ} → Puts text 0 entry long exit → x ≡ next
    → Says (record { text = text; next = next }) entry (record { long = long; next = x }) exit
front h e = record { long = front_long h; holds = front_holds h; next = e }

-- one that put nothing
pub silent : {next : Option ℕ} (s : List ℕ) → Says (record { text = []; next = next }) s (record { long = 0; next = next }) s
silent s = record { long = refl; holds = refl; next = refl }

-- the text lies within the lent bytes
pub counts : {said : Said} {s x : List ℕ} {r : Step} → Says said s r x → IsPrefixLen r.long x
counts {said} {s} {x} {r} h =
    let text = said.text in
    let long : length x ≡ length text + length (drop (length text) s) = ap length h.holds ∙ length-append text (drop (length text) s) in
    let within : r.long ≤ length x = omega (arith, h.long) in
    (within, simp length-take (omega arith))
