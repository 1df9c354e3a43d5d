-- Points and control nets of patches in Bernstein form. A point is one floor of one exact fraction: the sum of the Bernstein
-- weights times the control numbers, over the whole of the weights (Farin, Curves and Surfaces, on Bernstein form and blossoms).
use Rattle.std.specs.Prelude.{ℕ, zero, suc, ◌*◌, ◌+◌, ◌^◌, ℤ, pos, neg_ℤ, List, [], ◌∷◌, ◌++◌, replicate, slice_index_or, ◌≡◌, refl}
use Rattle.fixed_math.specs.declared.vec3.Vec3.{Vec3}
use Rattle.fixed_math.specs.declared.vec3.Axis.{Axis}
use Rattle.fixed_math.specs.Axes.{part_of, by_axes, origin}
use Rattle.fixed_math.specs.Blossom.{denominator, ends, blossom}
use Rattle.fixed_math.specs.Tensor.{blossom_net, weighted_net, weights_1, weights_3}
use Rattle.fixed_math.specs.Whole.{floor_by}
use Rattle.patches.specs.Rects.{Rect}
use Rattle.patches.specs.Lists.{grid}

-- a coordinate of the control point in column x and row y, of w columns
abbrev pub control : ℕ → List Vec3 → Axis → ℕ → ℕ → ℤ
control w ps a x y = part_of a (slice_index_or ps (w * y + x) origin)

-- the point of a bilinear patch at u and v
abbrev pub bilinear_point : List Vec3 → ℕ → ℕ → Vec3
bilinear_point ps u v = by_axes (λ a. floor_by (weighted_net (weights_1 u) (weights_1 v) (control 2 ps a)) (denominator ^ 2))

-- the point of a bicubic patch, of sixteen control points in rows of four
abbrev pub bicubic_point : List Vec3 → ℕ → ℕ → Vec3
bicubic_point ps u v = by_axes (λ a. floor_by (weighted_net (weights_3 u) (weights_3 v) (control 4 ps a)) (denominator ^ 6))

-- the blossom in both directions as a point: w columns of control points, d the whole of the weights
abbrev pub blossom_point : ℕ → ℕ → List Vec3 → List ℕ → List ℕ → Vec3
blossom_point w d ps us vs = by_axes (λ a. floor_by (blossom_net us vs (control w ps a)) d)

-- a and then fewer times l, b and then more times h, down to 0 times l
abbrev pub all_ends : ℕ → ℕ → ℕ → ℕ → List (List ℕ)
all_ends zero b l h = ends 0 b l h ∷ []
all_ends (suc a) b l h = ends (suc a) b l h ∷ all_ends a (suc b) l h

-- the control points over a rectangle, by rows: the blossom of degree n at n + 1 lists of the rectangle's ends, both ways
abbrev pub net_points : ℕ → ℕ → ℕ → List Vec3 → Rect → List Vec3
net_points n w d ps r = grid (blossom_point w d ps) (all_ends n 0 r.left r.right) (all_ends n 0 r.bottom r.top)

-- the control net of a bilinear patch over a rectangle: two by two points
abbrev pub bilinear_net : List Vec3 → Rect → List Vec3
bilinear_net ps r = net_points 1 2 (denominator ^ 2) ps r

-- that of a bicubic patch: four by four
abbrev pub bicubic_net : List Vec3 → Rect → List Vec3
bicubic_net ps r = net_points 3 4 (denominator ^ 6) ps r

-- worked values: the flat square of points (0,0,1), (1,0,1), (0,1,1), (1,1,1)
abbrev square : List Vec3
square =
    record { x = pos 0; y = pos 0; z = pos 65536 } ∷ record { x = pos 65536; y = pos 0; z = pos 65536 } ∷
    record { x = pos 0; y = pos 65536; z = pos 65536 } ∷ record { x = pos 65536; y = pos 65536; z = pos 65536 } ∷ []

point_of_square : bilinear_point square 1024 2048 ≡ record { x = pos 16384; y = pos 32768; z = pos 65536 }
point_of_square = refl

-- a number between 0 and -1 goes down
point_rounded_down : bilinear_point (origin ∷ by_axes (λ _. neg_ℤ (pos 1)) ∷ origin ∷ origin ∷ []) 1 1 ≡ by_axes (λ _. neg_ℤ (pos 1))
point_rounded_down = refl

net_of_square : bilinear_net square (record { left = 0; right = 2048; bottom = 2048; top = 4096 }) ≡
    record { x = pos 0; y = pos 32768; z = pos 65536 } ∷ record { x = pos 32768; y = pos 32768; z = pos 65536 } ∷
    record { x = pos 0; y = pos 65536; z = pos 65536 } ∷ record { x = pos 32768; y = pos 65536; z = pos 65536 } ∷ []
unfolding blossom
net_of_square = refl

-- only the last control point is raised: at the middle it has one part in 64, rounded down once
abbrev peak : ℤ → List Vec3
peak z = replicate 15 origin ++ by_axes (λ _. z) ∷ []

point_of_peak : bicubic_point (peak (pos 640)) 2048 2048 ≡ by_axes (λ _. pos 10)
point_of_peak = refl

peak_rounded_down : bicubic_point (peak (neg_ℤ (pos 1))) 2048 2048 ≡ by_axes (λ _. neg_ℤ (pos 1))
peak_rounded_down = refl

-- over the whole of the parameters the net is the control points
net_of_peak : bicubic_net (peak (pos 640)) (record { left = 0; right = 4096; bottom = 0; top = 4096 }) ≡ peak (pos 640)
unfolding blossom
net_of_peak = refl
