-- Places read back from fewer bits.
use Rattle.std.proofs.Common.{◌≡◌, ◌∙◌, ℕ, ◌+◌, ◌≤◌, ◌<◌, ◌^◌, ap, sym, arith, map, ◌++◌, List, [], ◌∷◌, take, get_or, length, ℤ, unsigned_abs, to_z, of_z, w32, w64}
use Rattle.std.proofs.lemmas.Int.{ints}
use Rattle.std.proofs.lemmas.List.{map_more}
use Rattle.fixed_math.specs.declared.vec3.Vec3.{Vec3}
use Rattle.transforms.specs.declared.view.View.{View}
use Rattle.transforms.specs.Raster.{raster_x, raster_y}
use Rattle.bound_split.specs.declared.lengths.Place.{Place}
use Rattle.bound_split.specs.Lengths.{place_of}

-- a small number is read back from 64 and 32 bits
pub read_small : (z : ℤ) → unsigned_abs z ≤ 2 ^ 28 → to_z w32 (of_z w32 (to_z w64 (of_z w64 z))) ≡ z
read_small z h = omega (arith, ints)

-- one more place behind the places of the points before it
pub one_more : (v : View) (ps : List Vec3) (n : ℕ) (p : Vec3) (at_x at_y : ℤ) (old new : List Place) → n < length ps → p ≡ get_or ps n p → old ≡ map (place_of v) (take n ps) → at_x ≡ raster_x v p → at_y ≡ raster_y v p
    → new ≡ old ++ record { x = at_x; y = at_y } ∷ [] → new ≡ map (place_of v) (take (n + 1) ps)
unfolding place_of
one_more v ps n p at_x at_y old new inside is so_far ex ey grown =
    grown ∙ rw (so_far, ex, ey) (ap (λ q. map (place_of v) (take n ps) ++ place_of v q ∷ []) is) ∙ sym (map_more (place_of v) ps n p inside)
