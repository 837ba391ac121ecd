-- `touching::list::put_three` meets its contract: three cells stored, each behind the one before. Assumes nothing.
use mathlib.Core.Path.{◌≡◌, ap, ap₂, ◌∙◌}
use Prim.Native.Nat.{◌+◌}
use native.Mathlib.Omega.{arith}
use Rattle.lists.specs.Kept.{put3}
use Rattle.touching.specs.Listing.{put_cells}
use Rattle.touching.proofs.list.put_three.Goals as goal

pub returns : goal.returns
unfolding put_cells
returns c =
    let a = c.args in
    let e : a.at + 6 ≡ a.at + 3 + 3 = omega arith in
    c.put-3.ensures ∙ ap₂ (λ l i. put3 l i a.c) (c.put-2.ensures ∙ ap (λ l. put3 l (a.at + 3) a.b) c.put.ensures) e
