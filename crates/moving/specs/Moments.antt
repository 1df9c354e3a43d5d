-- How far on its way something is at a moment, when it moves from one time to another (RenderMan Interface 3.2, section 6, on motion).
use Rattle.std.specs.Prelude.{ℕ, ◌≡◌, refl, ℤ, pos, neg_ℤ, unsigned_abs}
use Rattle.fixed_math.specs.Fixed.{sub, div}
use Rattle.fixed_math.specs.Whole.{clamp}

-- of 65536 steps from the time `from` to the time `to`, those that are made at the moment: none before, and all behind
abbrev pub steps_at : ℤ → ℤ → ℤ → ℕ
steps_at from to moment = unsigned_abs (clamp (pos 0) (pos 65536) (div (sub moment from) (sub to from)))

-- worked values: a moment between, before and behind the times 1 and 3
a_quarter : steps_at (pos 65536) (pos 196608) (pos 98304) ≡ 16384
a_quarter = refl

before : steps_at (pos 65536) (pos 196608) (neg_ℤ (pos 65536)) ≡ 0
before = refl

behind : steps_at (pos 65536) (pos 196608) (pos 196609) ≡ 65536
behind = refl
