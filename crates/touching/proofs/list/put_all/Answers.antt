-- `touching::list::put_all` meets its contract: the cells of the seven ways through a tie of three axes. Assumes nothing.
use mathlib.Core.Path.{◌≡◌, ap, ◌∙◌}
use mathlib.Core.List.{List, [], ◌∷◌}
use Prim.Native.Nat.{ℕ, ◌+◌}
use native.Mathlib.Omega.{arith}
use lib.IntN.{ℤ}
use Rattle.cells.specs.declared.Cell.{Cell}
use Rattle.lines.specs.Steps.{X, Z}
use Rattle.lists.specs.Kept.{crossed_six, put3}
use Rattle.touching.specs.Listing.{put_cells}
use Rattle.touching.proofs.list.put_all.Goals as goal

-- seven cells, stored three, three and one
three_three_one : (l m n : List ℤ) (at : ℕ) (a b c d e f g : Cell) → m ≡ put_cells l at (a ∷ b ∷ c ∷ []) → n ≡ put_cells m (at + 9) (d ∷ e ∷ f ∷ []) →
    put3 n (at + 18) g ≡ put_cells l at (a ∷ b ∷ c ∷ d ∷ e ∷ f ∷ g ∷ [])
unfolding put_cells
three_three_one l m n at a b c d e f g first second =
    let i : at + 9 ≡ at + 3 + 3 + 3 = omega arith in
    let j : at + 18 ≡ at + 3 + 3 + 3 + 3 + 3 + 3 = omega arith in
    ap (λ l. put3 l (at + 18) g) second ∙ ap (λ l. put3 (put_cells l (at + 9) (d ∷ e ∷ f ∷ [])) (at + 18) g) first
    ∙ (λ k. put3 (put_cells (put_cells l at (a ∷ b ∷ c ∷ [])) (i k) (d ∷ e ∷ f ∷ [])) (j k) g)

pub returns : goal.returns
returns c =
    let go = crossed_six c.args.w in
    let y = c.crossed-y.ensures in
    let z = c.crossed-z.ensures in
    let x = c.crossed-x.ensures in
    let yz = c.crossed-yz.ensures ∙ ap (go Z) y in
    let yx = c.crossed-yx.ensures ∙ ap (go X) y in
    let zx = c.crossed-zx.ensures ∙ ap (go X) z in
    let yzx = c.crossed-yzx.ensures ∙ ap (go X) yz in (
      c.put.ensures ∙ three_three_one _ _ _ c.args.at _ _ _ _ _ _ _ c.put_three.ensures c.put_three-2.ensures
          ∙ (λ i. put_cells c.args.out.now c.args.at ((y i).at ∷ (z i).at ∷ (x i).at ∷ (yz i).at ∷ (yx i).at ∷ (zx i).at ∷ (yzx i).at ∷ [])),
      yzx,
    )
