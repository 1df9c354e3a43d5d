-- The level of a step.
use Rattle.std.specs.Prelude.{ℕ, ◌*◌, ◌^◌, nat_le, ℤ, pos, int_le, ◌≡◌, refl}
use Rattle.fixed_math.specs.Whole.{first_passing}
use Rattle.texture.specs.Pyramid.{four}
use Rattle.texture.specs.Images.{Image, most_side}

-- the least l with 2 ^ l at least the greater side; an image's sides are at most 2 ^ 11
abbrev pub last_level : Image → ℕ
last_level p = first_passing 11 (λ l. nat_le (most_side p) (2 ^ l))

-- the least l with step at most 65536 * 2 ^ l, or the last one where that is less
abbrev pub level_of : Image → ℤ → ℕ
level_of p step = first_passing (last_level p) (λ l. int_le step (pos (65536 * 2 ^ l)))

-- worked values: a step of one texel, one of a bit more, and one past the last level
step_of_one : level_of four (pos 65536) ≡ 0
unfolding first_passing
step_of_one = refl

step_past_one : level_of four (pos 65537) ≡ 1
unfolding first_passing
step_past_one = refl

step_of_four : level_of four (pos 262144) ≡ 1
unfolding first_passing
step_of_four = refl
