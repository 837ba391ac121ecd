-- `records::writing::put_head` meets its contract: the length, the version and the counts are stored one behind the other. Assumes nothing.
use native.Mathlib.Omega.{arith}
use Prim.Native.Nat.{◌+◌, ◌≤◌}
use mathlib.Core.Path.{◌≡◌, refl, ap, ap₂, ◌∙◌}
use mathlib.Core.List.{[], ◌∷◌, ◌++◌}
use lib.ListN.{length}
use Rattle.grids.specs.Grid.{size}
use Rattle.grids.proofs.Shapes.{shaped}
use Rattle.buffers.specs.Over.{over}
use Rattle.buffers.proofs.Over.{then_over}
use Rattle.buffers.specs.Numbers.{four}
use Rattle.records.specs.Venues.{venue_head}
use Rattle.records.specs.Writing.{written_version, count_bytes}
use Rattle.records.proofs.HeadTests.{head_least}
use Rattle.records.proofs.writing.put_head.Goals as goal

pub returns : goal.returns
returns c =
    let n = c.args.n in
    let out = c.args.out.now in
    let room : 11 ≤ length out = omega (arith, head_least written_version) in
    let length_is : c.venue_head.result + c.args.bytes ≡ venue_head written_version + size n =
    ap₂ (λ h b. h + b) c.venue_head.ensures (shaped _ _ c.requires.0).bytes_are in
    let long = four (venue_head written_version + size n) in
    then_over 0 (long ++ (written_version ∷ [])) (count_bytes n) out (omega arith)
    (then_over 0 long (written_version ∷ []) out (omega arith) (c.put_four.ensures ∙ ap (λ v. over 0 (four v) out) length_is) refl
    c.put_byte.ensures)
    refl c.put_counts.ensures
