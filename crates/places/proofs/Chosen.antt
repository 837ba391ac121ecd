-- What is chosen axis by axis is that of the axis chosen. Assumes nothing.
use mathlib.Core.Path.{◌≡◌, refl}
use mathlib.Core.Bool.{Bool, true, false, cond}
use Rattle.lines.specs.Steps.{Axis, X, Y, Z}
use Rattle.places.specs.declared.Last.{Last}
use Rattle.places.specs.Entered.{of_last}

pub of_last_at : {A : Type 0} (f : Axis → A) (w : Last) → of_last w (f X) (f Y) (f Z) ≡ f (of_last w X Y Z)
of_last_at {A} f w = by w.x w.z
  where
    by : (x z : Bool) → cond x (f X) (cond z (f Z) (f Y)) ≡ f (cond x X (cond z Z Y))
    by true z = refl
    by false true = refl
    by false false = refl
