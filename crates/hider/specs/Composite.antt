-- The colour of a sample: its fragments laid over one another, the nearest first.
use Rattle.std.specs.Prelude.{ℤ, pos, negsuc, ◌-ℤ◌, Bool, false, cond, ◌&&◌, ◌==◌, List, [], ◌∷◌, ◌≡◌, refl}
use Rattle.fixed_math.specs.Fixed.{add, mul}
use Rattle.fixed_math.specs.declared.vec3.Vec3.{Vec3}
use Rattle.fixed_math.specs.declared.vec3.Axis.{Axis}
use Rattle.fixed_math.specs.Axes.{part_of, by_axes}
use Rattle.hider.specs.declared.fragment.Fragment.{Fragment}

-- one channel of the fragments laid behind a colour, through which `passed` of 65536 passes
abbrev pub composite_from : Axis → ℤ → ℤ → List Fragment → ℤ
composite_from a colour passed [] = colour
composite_from a colour passed (f ∷ fs) =
    composite_from a (add colour (mul passed (part_of a f.colour))) (mul passed (pos 65536 -ℤ part_of a f.opacity)) fs

unfoldable pub composite : List Fragment → Vec3
composite fs = by_axes (λ a. composite_from a (pos 0) (pos 65536) fs)

abbrev pub is_one : ℤ → Bool
is_one (pos n) = n == 65536
is_one (negsuc n) = false

-- nothing passes through it in any channel
unfoldable pub is_opaque : Fragment → Bool
is_opaque f = is_one f.opacity.x && (is_one f.opacity.y && is_one f.opacity.z)

-- the list up to and with the first opaque fragment
abbrev pub cut : List Fragment → List Fragment
cut [] = []
cut (f ∷ fs) = f ∷ cond (is_opaque f) [] (cut fs)

-- half-transparent red before opaque green
half_red_before_green :
    composite (record { depth = pos 1; colour = record { x = pos 32768; y = pos 0; z = pos 0 }; opacity = record { x = pos 32768; y = pos 32768; z = pos 32768 } }
    ∷ record { depth = pos 2; colour = record { x = pos 0; y = pos 65536; z = pos 0 }; opacity = record { x = pos 65536; y = pos 65536; z = pos 65536 } } ∷ [])
    ≡ record { x = pos 32768; y = pos 32768; z = pos 0 }
unfolding composite
half_red_before_green = refl
