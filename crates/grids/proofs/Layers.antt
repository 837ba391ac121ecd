-- A layer that is not refused lies within the bytes and is not empty. Assumes nothing.
use Rattle.std.specs.Prelude.{Ok, Err, Result}
use Prim.Native.Nat.{ℕ, suc, ◌+◌, ◌*◌, ◌≤◌, ◌<◌}
use native.Mathlib.Nat.{mul-le-mul_left}
use native.Mathlib.Omega.{arith}
use mathlib.Core.Path.{◌≡◌, refl, ap}
use mathlib.Core.Bool.{false, true≢false}
use mathlib.Core.Logic.{◌↔◌}
use mathlib.Core.List.{List, []}
use lib.Dec.{T}
use lib.IntN.{ℤ, pos, negsuc, nat_abs}
use lib.ListN.{length, get_or, drop, length-take, length-drop}
use lib.Seq.{get_or-take, get_or-drop}
use lib.Signed.{lt_z, non_neg}
use borrow.Author.Tests.{le-ltb, leb-false}
use Rattle.cells.specs.declared.Counts.{Counts}
use Rattle.cells.specs.declared.Refusal.{Refusal}
use Rattle.cells.specs.declared.Refusal.TheVariants.{Layer}
use Rattle.grids.specs.declared.LayerPart.{LayerPart}
use Rattle.grids.specs.Grid.{part_at, shape, bad_layer, layer_check, layer_start, layer_length, layer_part, layer}
use Rattle.grids.specs.Inside.{Shaped}
use Rattle.grids.proofs.Shapes.{shaped}
use Rattle.cells.proofs.Checks.{fine_first, fine_rest, passed, by_fine}

-- ---- the signed z

pub not_below : (z : ℤ) → lt_z z (pos 0) ≡ false → T (non_neg z)
not_below (pos k) h = tt
not_below (negsuc k) h = absurd (true≢false h)

-- ---- a fine check

pub layer_shape : (n : Counts) (bytes : ℕ) (z : ℤ) → layer_check n bytes z ≡ Ok tt → Shaped n bytes
unfolding layer_check
layer_shape n bytes z e = shaped n bytes (fine_first (shape n bytes) _ e)

-- the layer asked for is there
pub layer_there : (n : Counts) (bytes : ℕ) (z : ℤ) → layer_check n bytes z ≡ Ok tt → T (non_neg z) × (nat_abs z < n.nz)
unfolding layer_check
layer_there n bytes z e = there z (passed (bad_layer n z) Layer (fine_rest (shape n bytes) _ e))
  where
    there : (z : ℤ) → bad_layer n z ≡ false → T (non_neg z) × (nat_abs z < n.nz)
    there (pos k) h = (tt, leb-false n.nz k (rw (le-ltb k 0 (omega arith)) at h))
    there (negsuc k) h = absurd (true≢false h)

-- and lies within the bytes
pub layer_within : (n : Counts) (bytes : ℕ) (z : ℤ) → layer_check n bytes z ≡ Ok tt → layer_start n z + layer_length n ≤ bytes
layer_within n bytes z e =
    let s = layer_shape n bytes z e in
    let lifted : n.nx * n.ny * suc (nat_abs z) ≤ n.nx * n.ny * n.nz = mul-le-mul_left (n.nx * n.ny) (layer_there n bytes z e).1 in
    omega (arith, s.bytes_are, lifted)

-- ---- the partner's answer

-- a part that the partner names
pub record Named (n : Counts) (bytes start long : ℕ) : Type 0 where
  pub within : start + long ≤ bytes
  pub some : 1 ≤ long

pub part_named : (n : Counts) (bytes : ℕ) (z : ℤ) (start long : ℕ) → layer_part n bytes z ≡ Ok (part_at start long) → Named n bytes start long
unfolding layer_part
part_named n bytes z start long e =
    let (f, same) = by_fine Err (layer_check n bytes z) (Ok (part_at (layer_start n z) (layer_length n)))
    (λ r no. let z : ◌≡◌ {A = ℕ} 0 1 = cc no in omega arith) e in
    let is : part_at (layer_start n z) (layer_length n) ≡ part_at start long = cc same in
    let a : layer_start n z ≡ start = ap (λ (p : LayerPart). p.start) is in
    let b : layer_length n ≡ long = ap (λ (p : LayerPart). p.long) is in
    record { within = omega (arith, layer_within n bytes z f); some = omega (arith, (layer_shape n bytes z f).layer_some) }

-- the layer has as many bytes as the partner says
pub layer_long : (n : Counts) (l : List ℕ) (z : ℤ) (start long : ℕ) → layer_part n (length l) z ≡ Ok (part_at start long) → length (layer n l z) ≡ long
unfolding layer
layer_long n l z start long e =
    let w = (part_named n (length l) z start long e).within in
    rw (e, length-take long (drop start l), length-drop start l) (omega arith)

-- and they are the caller's, from where the partner says
pub layer_own :
    (n : Counts) (l : List ℕ) (z : ℤ) (start long : ℕ) → layer_part n (length l) z ≡ Ok (part_at start long) → (i : ℕ) → i < long →
    get_or (layer n l z) i 0 ≡ get_or l (start + i) 0
unfolding layer
layer_own n l z start long e i h = rw (e, get_or-take long (drop start l) i 0 h, get_or-drop start l i 0)

refused_empty : (n : Counts) (l : List ℕ) (z : ℤ) (r : Refusal) → layer_part n (length l) z ≡ Err r → layer n l z ≡ []
unfolding layer
refused_empty n l z r f = rw f

-- it is empty exactly when the partner refuses
pub layer_empty : (n : Counts) (l : List ℕ) (z : ℤ) → (layer n l z ≡ []) ↔ ((r : Refusal) × (layer_part n (length l) z ≡ Err r))
layer_empty n l z = (λ e. why (layer_part n (length l) z) refl e, none)
  where
    why : (p : Result LayerPart Refusal) → layer_part n (length l) z ≡ p → layer n l z ≡ [] → (r : Refusal) × (layer_part n (length l) z ≡ Err r)
    why (Ok p) f e =
        absurd (omega (arith, (part_named n (length l) z p.start p.long f).some, layer_long n l z p.start p.long f, ap length e))
    why (Err r) f e = (r, f)

    none : (r : Refusal) × (layer_part n (length l) z ≡ Err r) → layer n l z ≡ []
    none (r, f) = refused_empty n l z r f
