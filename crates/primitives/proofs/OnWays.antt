-- Points on their way to as many others.
use Rattle.std.proofs.Common.{◌≡◌, refl, ap, ◌∙◌, ℕ, zero, suc, ◌<◌, ◌≤◌, List, [], ◌∷◌, length, get_or, map, arith}
use Rattle.std.specs.Prelude.{ℤ, zip, unsigned_abs}
use Rattle.std.proofs.lemmas.Int.{ints, clamps}
use Rattle.fixed_math.specs.declared.vec3.Vec3.{Vec3}
use Rattle.fixed_math.specs.declared.vec3.Axis.TheVariants.{X, Y, Z}
use Rattle.fixed_math.specs.Axes.{AreWithin, part_of}
use Rattle.moving.specs.Ways.{place_on_way, IsBetween}
use Rattle.moving.specs.WayLaws.{place-within}
use Rattle.primitives.specs.Moving.{points_on_way}

-- a list of what a function gives of each pair of items of two others
pub all_zipped : {A : Type 0} (f : A × A → A) (xs ps qs : List A) → length ps ≡ length xs → length qs ≡ length xs →
    ((k : ℕ) (d : A) → k < length xs → get_or xs k d ≡ f (get_or ps k d, get_or qs k d)) → xs ≡ map f (zip ps qs)
all_zipped f [] [] qs long same at = refl
all_zipped f [] (p ∷ ps) qs long same at = absurd cc
all_zipped f (x ∷ xs) [] qs long same at = absurd cc
all_zipped f (x ∷ xs) (p ∷ ps) [] long same at = absurd cc
all_zipped f (x ∷ xs) (p ∷ ps) (q ∷ qs) long same at =
    let first : x ≡ f (p, q) = at 0 x (omega arith) in
    let rest : xs ≡ map f (zip ps qs) = all_zipped f xs ps qs (cc) (cc) (λ k d h. at (suc k) d (omega (arith, h))) in
    ap (λ y. y ∷ xs) first ∙ ap (λ ys. f (p, q) ∷ ys) rest

between_within : (m : ℕ) (x y z : ℤ) → IsBetween x y z → unsigned_abs x ≤ m → unsigned_abs y ≤ m → unsigned_abs z ≤ m
between_within m x y z b i j =
    let low = b.0 in
    let high = b.1 in
    omega (arith, ints, clamps, low, high, i, j)

none_within : (m : ℕ) → AreWithin m []
none_within m k X = omega arith
none_within m k Y = omega arith
none_within m k Z = omega arith

-- what lies between points in range is in range
pub ways_within : (n m : ℕ) (ps qs : List Vec3) → n ≤ 65536 → AreWithin m ps → AreWithin m qs → AreWithin m (points_on_way n ps qs)
ways_within n m [] qs h i j k a = none_within m k a
ways_within n m (p ∷ ps) [] h i j k a = none_within m k a
ways_within n m (p ∷ ps) (q ∷ qs) h i j zero a = between_within m (part_of a p) (part_of a q) (part_of a (place_on_way n p q)) (place-within n p q a h) (i 0 a) (j 0 a)
ways_within n m (p ∷ ps) (q ∷ qs) h i j (suc k) a = ways_within n m ps qs h (λ l b. i (suc l) b) (λ l b. j (suc l) b) k a
