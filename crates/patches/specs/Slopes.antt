-- Partial derivatives of patches in Bernstein form, per unit of the parameter: each one floor of one exact fraction.
-- That of degree n is n times the sum of the weights of degree n - 1 times the differences of neighbouring control numbers.
use Rattle.std.specs.Prelude.{ℕ, ◌≤◌, ◌+◌, ◌-◌, ◌*◌, ◌^◌, ℤ, pos, neg_ℤ, ◌-ℤ◌, ◌*ℤ◌, List, [], ◌∷◌, ◌++◌, replicate, unsigned_abs, slice_index_or, ◌≡◌, refl}
use Rattle.fixed_math.specs.declared.vec3.Vec3.{Vec3}
use Rattle.fixed_math.specs.declared.vec3.Axis.{Axis}
use Rattle.fixed_math.specs.declared.vec3.Axis.TheVariants.{X, Y, Z}
use Rattle.fixed_math.specs.Axes.{by_axes, origin}
use Rattle.fixed_math.specs.Blossom.{denominator}
use Rattle.fixed_math.specs.Tensor.{weighted_net, weights_1, weights_3}
use Rattle.fixed_math.specs.Whole.{floor_by}
use Rattle.patches.specs.Nets.{control}

-- the differences of neighbours in a row and in a column
abbrev pub steps_u : (ℕ → ℕ → ℤ) → ℕ → ℕ → ℤ
steps_u c x y = c (x + 1) y -ℤ c x y

-- the difference of neighbours along v
abbrev pub steps_v : (ℕ → ℕ → ℤ) → ℕ → ℕ → ℤ
steps_v c x y = c x (y + 1) -ℤ c x y

-- the Bernstein weights of degree 0
abbrev pub weights_0 : List ℕ
weights_0 = 1 ∷ []

-- those of degree 2, at u over the denominator, times its square
abbrev pub weights_2 : ℕ → List ℕ
weights_2 u = (denominator - u) * (denominator - u) ∷ 2 * ((denominator - u) * u) ∷ u * u ∷ []

-- a number for each axis
abbrev pub triple : (Axis → ℤ) → List ℤ
triple f = f X ∷ f Y ∷ f Z ∷ []

-- the derivative of a bilinear patch along u
abbrev pub bilinear_du : List Vec3 → ℕ → ℕ → List ℤ
bilinear_du ps u v = triple (λ a. floor_by (weighted_net weights_0 (weights_1 v) (steps_u (control 2 ps a))) denominator)

-- that along v
abbrev pub bilinear_dv : List Vec3 → ℕ → ℕ → List ℤ
bilinear_dv ps u v = triple (λ a. floor_by (weighted_net (weights_1 u) weights_0 (steps_v (control 2 ps a))) denominator)

-- the derivative of a bicubic patch along u
abbrev pub bicubic_du : List Vec3 → ℕ → ℕ → List ℤ
bicubic_du ps u v = triple (λ a. floor_by (pos 3 *ℤ weighted_net (weights_2 u) (weights_3 v) (steps_u (control 4 ps a))) (denominator ^ 5))

-- that along v
abbrev pub bicubic_dv : List Vec3 → ℕ → ℕ → List ℤ
bicubic_dv ps u v = triple (λ a. floor_by (pos 3 *ℤ weighted_net (weights_3 u) (weights_2 v) (steps_v (control 4 ps a))) (denominator ^ 5))

-- each number has a magnitude of at most m
abbrev pub AreBelow : ℕ → List ℤ → Type 0
AreBelow m zs = (k : ℕ) → unsigned_abs (slice_index_or zs k (pos 0)) ≤ m

-- worked values: only the corner at u = 1, v = 1 is raised, by 3
abbrev raised : List Vec3
raised = origin ∷ origin ∷ origin ∷ by_axes (λ _. pos 3) ∷ []

du_of_raised : bilinear_du raised 4096 2048 ≡ triple (λ _. pos 1)
du_of_raised = refl

dv_of_raised : bilinear_dv raised 4096 2048 ≡ triple (λ _. pos 3)
dv_of_raised = refl

du_rounded_down : bilinear_du (origin ∷ origin ∷ origin ∷ by_axes (λ _. neg_ℤ (pos 3)) ∷ []) 0 2048 ≡ triple (λ _. neg_ℤ (pos 2))
du_rounded_down = refl

-- of a bicubic patch whose last control point alone is raised: at that corner the slopes are three times the step to it
abbrev peak : ℤ → List Vec3
peak z = replicate 15 origin ++ by_axes (λ _. z) ∷ []

du_of_peak : bicubic_du (peak (pos 64)) 4096 4096 ≡ triple (λ _. pos 192)
du_of_peak = refl

dv_of_peak : bicubic_dv (peak (pos 64)) 4096 2048 ≡ triple (λ _. pos 48)
dv_of_peak = refl

du_of_peak_rounded_down : bicubic_du (peak (neg_ℤ (pos 1))) 2048 2048 ≡ triple (λ _. neg_ℤ (pos 1))
du_of_peak_rounded_down = refl
