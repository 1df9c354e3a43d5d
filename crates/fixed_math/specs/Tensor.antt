-- Surfaces of Bernstein form in two directions, by whole numbers.
use Rattle.std.specs.Prelude.{ℕ, ◌+◌, ◌-◌, ◌*◌, ℤ, pos, ◌+ℤ◌, ◌*ℤ◌, List, [], ◌∷◌}
use Rattle.fixed_math.specs.Blossom.{denominator, blossom}

-- the Bernstein weights of degree 1 and 3 at u/denominator, times denominator and denominator ^ 3
abbrev pub weights_1 : ℕ → List ℕ
weights_1 u = (denominator - u) ∷ u ∷ []

abbrev pub weights_3 : ℕ → List ℕ
weights_3 u = (denominator - u) * (denominator - u) * (denominator - u) ∷ 3 * ((denominator - u) * (denominator - u) * u) ∷ 3 * ((denominator - u) * u * u) ∷ u * u * u ∷ []

-- the sum of the weights times the numbers c k, c (k + 1), ..
abbrev pub weighted : List ℕ → (ℕ → ℤ) → ℕ → ℤ
weighted [] c k = pos 0
weighted (w ∷ ws) c k = pos w *ℤ c k +ℤ weighted ws c (k + 1)

-- the sum over the net: c x y is the control number in column x and row y
abbrev pub weighted_net : List ℕ → List ℕ → (ℕ → ℕ → ℤ) → ℤ
weighted_net us vs c = weighted vs (λ y. weighted us (λ x. c x y) 0) 0

-- the blossom in both directions
abbrev pub blossom_net : List ℕ → List ℕ → (ℕ → ℕ → ℤ) → ℤ
blossom_net us vs c = blossom vs (λ y. blossom us (λ x. c x y) 0) 0
