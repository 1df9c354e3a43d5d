-- Blossoms of degree 2, and the weights of slopes of degree 3.
use Rattle.std.proofs.Common.{◌≡◌, ◌∙◌, ap, ℕ, ◌+◌, ◌-◌, ◌*◌, ◌^◌, ◌≤◌, arith, List, [], ◌∷◌, slice_index_or, unsigned_abs, to_z, of_z}
use Rattle.std.specs.Prelude.{ℤ, pos, ◌+ℤ◌, ◌*ℤ◌}
use Rattle.std.specs.Int.{w64}
use Rattle.std.proofs.lemmas.Int.{ints}
use Rattle.fixed_math.specs.declared.vec3.Vec3.{Vec3}
use Rattle.fixed_math.specs.declared.vec3.Axis.{Axis}
use Rattle.fixed_math.specs.Axes.{part_of, origin}
use Rattle.fixed_math.specs.Blossom.{denominator, blossom}
use Rattle.fixed_math.specs.Tensor.{weights_3, weighted, weighted_net, blossom_net}
use Rattle.fixed_math.proofs.Weights.{mul-add, mul-mul}
use Rattle.fixed_math.proofs.Tensors.{blossom_same, weighted-weights_3}
use Rattle.patches.proofs.Fractions.{same_64}
use Rattle.patches.specs.Slopes.{weights_2}

quadratic : (p s : ℕ) (a b c : ℤ) →
    pos (p * p) *ℤ a +ℤ (pos (2 * (p * s)) *ℤ b +ℤ (pos (s * s) *ℤ c +ℤ pos 0)) ≡ pos p *ℤ (pos p *ℤ a +ℤ pos s *ℤ b) +ℤ pos s *ℤ (pos p *ℤ b +ℤ pos s *ℤ c)
quadratic p s a b c = simp (mul-add, mul-mul) (omega (arith, ints))

weighted-weights_2 : (u : ℕ) (c : ℕ → ℤ) (k : ℕ) → weighted (weights_2 u) c k ≡ blossom (u ∷ u ∷ []) c k
unfolding blossom
weighted-weights_2 u c k = quadratic (denominator - u) u (c k) (c (k + 1)) (c (k + 1 + 1))

pub weighted_net_2_3 : (u v : ℕ) (c : ℕ → ℕ → ℤ) → weighted_net (weights_2 u) (weights_3 v) c ≡ blossom_net (u ∷ u ∷ []) (v ∷ v ∷ v ∷ []) c
weighted_net_2_3 u v c =
    weighted-weights_3 v (λ y. weighted (weights_2 u) (λ x. c x y) 0) 0
    ∙ blossom_same (v ∷ v ∷ v ∷ []) (λ y. weighted (weights_2 u) (λ x. c x y) 0) (λ y. blossom (u ∷ u ∷ []) (λ x. c x y) 0) 0 (λ y. weighted-weights_2 u (λ x. c x y) 0)

pub weighted_net_3_2 : (u v : ℕ) (c : ℕ → ℕ → ℤ) → weighted_net (weights_3 u) (weights_2 v) c ≡ blossom_net (u ∷ u ∷ u ∷ []) (v ∷ v ∷ []) c
weighted_net_3_2 u v c =
    weighted-weights_2 v (λ y. weighted (weights_3 u) (λ x. c x y) 0) 0
    ∙ blossom_same (v ∷ v ∷ []) (λ y. weighted (weights_3 u) (λ x. c x y) 0) (λ y. blossom (u ∷ u ∷ u ∷ []) (λ x. c x y) 0) 0 (λ y. weighted-weights_3 u (λ x. c x y) 0)

-- a coordinate of a control point, by another name of its place
pub control_read : (ps : List Vec3) (a : Axis) (k m : ℕ) (z : ℤ) → unsigned_abs z ≤ 2 ^ 31 → z ≡ part_of a (slice_index_or ps k origin) → k ≡ m → to_z w64 (of_z w64 z) ≡ part_of a (slice_index_or ps m origin)
control_read ps a k m z h e f = same_64 z (omega arith) ∙ e ∙ ap (λ i. part_of a (slice_index_or ps i origin)) f
