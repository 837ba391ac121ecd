-- What holds in each case holds of all: of the three axes, of the two walks. Assumes nothing.
use Rattle.lines.specs.Steps.{Axis, X, Y, Z}
use Rattle.walks.specs.declared.Walker.{Walker}
use Rattle.walks.specs.declared.Walker.TheVariants.{Plain, Adaptive}

pub on_axes : (P : Axis → Type 0) → P X → P Y → P Z → (a : Axis) → P a
on_axes P x y z X = x
on_axes P x y z Y = y
on_axes P x y z Z = z

pub of_walks : (P : Walker → Type 0) → P Plain → P Adaptive → (w : Walker) → P w
of_walks P plain adaptive Plain = plain
of_walks P plain adaptive Adaptive = adaptive
