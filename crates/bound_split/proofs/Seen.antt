-- The least and the greatest depth of points.
use Rattle.std.proofs.Common.{◌≡◌, ℕ, zero, suc, ◌<◌, arith, false, List, [], ◌∷◌, length, slice_index_or, ℤ, pos, ◌-ℤ◌, ◌≤ℤ◌, int_lt}
use Rattle.std.specs.Int.{int_min}
use Rattle.std.specs.List.{fold}
use Rattle.std.proofs.lemmas.Int.{ints, clamps}
use Rattle.fixed_math.specs.declared.vec3.Vec3.{Vec3}
use Rattle.fixed_math.specs.declared.vec3.Axis.TheVariants.{Z}
use Rattle.fixed_math.specs.Axes.{least, part_of}

abbrev lower : ℤ → Vec3 → ℤ
lower m q = int_min m (part_of Z q)

-- a fold of the lesser is at most where it began
fold-start : (m : ℤ) (ps : List Vec3) → fold lower m ps ≤ℤ m
fold-start m [] = omega (arith, ints)
fold-start m (p ∷ ps) =
    let h = fold-start (lower m p) ps in
    omega (arith, ints, clamps)

-- and at most each item
fold-each : (m : ℤ) (ps : List Vec3) (k : ℕ) (d : Vec3) → k < length ps → fold lower m ps ≤ℤ (slice_index_or ps k d).z
fold-each m [] k d h = absurd (omega arith)
fold-each m (p ∷ ps) zero d h =
    let low = fold-start (lower m p) ps in
    omega (arith, ints, clamps)
fold-each m (p ∷ ps) (suc k) d h = fold-each (lower m p) ps k d (omega arith)

least-each : (ps : List Vec3) (k : ℕ) (d : Vec3) → k < length ps → least Z ps ≤ℤ (slice_index_or ps k d).z
least-each [] k d h = absurd (omega arith)
least-each (p ∷ ps) zero d h = fold-start p.z ps
least-each (p ∷ ps) (suc k) d h = fold-each p.z ps k d (omega arith)

not_below : (a b : ℤ) → int_lt a b ≡ false → b ≤ℤ a
not_below a b h = omega (arith, ints)

-- where no point may be moved before the near plane, none lies before it
pub all_seen : (near bound : ℤ) (ps : List Vec3) → pos 0 ≤ℤ bound → int_lt (least Z ps -ℤ bound) near ≡ false → (k : ℕ) (d : Vec3) → k < length ps → near ≤ℤ (slice_index_or ps k d).z
all_seen near bound ps low crosses k d h =
    let whole = least-each ps k d h in
    let behind = not_below (least Z ps -ℤ bound) near crosses in
    omega (arith, ints)
