-- `sightlines::read_frame` meets its contract: the four bytes, then as many as they announce, which the lent bytes have room for. Assumes nothing.
use mathlib.Core.Path.{◌≡◌, refl, sym, ◌∙◌}
use mathlib.Core.Bool.{false}
use mathlib.Core.List.{List, ◌++◌}
use Prim.Native.Nat.{ℕ, ◌+◌, ◌-◌, ◌≤◌}
use native.Mathlib.Omega.{arith}
use lib.ListN.{length, take, drop, length-append, length-take, length-drop}
use borrow.Author.Tests.{ltb-false}
use Rattle.records.specs.Heads.{length_field, announced}
use Rattle.program.specs.Program.{beyond}
use Rattle.program.proofs.Frames.{beyond_is, front_announces}
use Rattle.program.proofs.Reading.{short_frame, full_frame}
use Rattle.sightlines.proofs.read_frame.Goals as goal

-- the bytes after the first reading: they are as many as were lent
abbrev held : List ℕ → List ℕ → List ℕ
held got buf = got ++ drop 4 buf

held_length : (got buf : List ℕ) → length_field ≤ length buf → length got ≡ length (take 4 buf) → length (held got buf) ≡ length buf
held_length got buf room e = omega (arith, length-append got (drop 4 buf), length-drop 4 buf, length-take 4 buf)

-- a length that is not above the most
fits : (most : ℕ) (l : List ℕ) → length_field ≤ length l → beyond most (take 4 l) ≡ false → announced l ≤ most
fits most l enough within =
    let four : length_field ≤ length (take 4 l) = omega (arith, length-take 4 l) in
    let le : announced (take 4 l) ≤ most = ltb-false most (announced (take 4 l)) (sym (beyond_is most (take 4 l) four) ∙ within) in
    omega (arith, front_announces 4 l (omega arith) enough)

-- no more comes than was asked for
no_more : {i a : ℕ} (l z : List ℕ) → length z ≡ length (take (4 + i - 4) l) → i ≡ a → length z ≤ a
no_more {i} l z e is = omega (arith, length-take (4 + i - 4) l)

pub returns-then-got-lt4-clause-one_frame : goal.returns-then-got-lt4-clause-one_frame
returns-then-got-lt4-clause-one_frame c = short_frame c.args.most c.read_full-got.result.0 (held c.read_full-got.new.buf c.args.buf.now) (omega (arith, c.if-got-lt4.true))

pub returns-then-beyond-clause-one_frame : goal.returns-then-beyond-clause-one_frame
returns-then-beyond-clause-one_frame c = short_frame c.args.most 4 (held c.read_full-got.new.buf c.args.buf.now) (omega arith)

pub slice_bounds-read_full-end-3 : goal.slice_bounds-read_full-end-3
slice_bounds-read_full-end-3 c =
    let room = c.requires in
    let read = held c.read_full-got.new.buf c.args.buf.now in
    let all = held_length c.read_full-got.new.buf c.args.buf.now (omega arith) c.read_full-got.auto.buf in
    let within : beyond c.args.most (take 4 read) ≡ false = sym c.beyond.ensures ∙ c.if-beyond.false in
    omega (arith, c.four_at-end.ensures.0, fits c.args.most read (omega arith) within)

pub returns-clause-one_frame : goal.returns-clause-one_frame
returns-clause-one_frame c =
    let room = c.requires in
    let most = c.args.most in
    let read = held c.read_full-got.new.buf c.args.buf.now in
    let all = held_length c.read_full-got.new.buf c.args.buf.now (omega arith) c.read_full-got.auto.buf in
    let within : beyond most (take 4 read) ≡ false = sym c.beyond.ensures ∙ c.if-beyond.false in
    let z = c.read_full-more.new.buf in
    let m = c.read_full-more.result.0 in
    let some : m ≤ length z = c.read_full-more.ensures.0 in
    full_frame most read z _ _ m (omega arith) within some (no_more _ z c.read_full-more.auto.buf c.four_at-end.ensures.0) refl
