-- The sine, by a series on a folded angle.
use Rattle.std.specs.Prelude.{ℕ, ℤ, pos, negsuc, ◌-ℤ◌, int_lt, cond, ◌≡◌, refl}
use Rattle.std.specs.Int.{int_rem_euclid}
use Rattle.fixed_math.specs.Whole.{floor_by}
use Rattle.fixed_math.specs.Fixed.{mul, add}

-- x less whole turns, from -205886 to 205887
unfoldable pub reduced : ℤ → ℤ
reduced x = let r = int_rem_euclid x (pos 411774) in cond (int_lt (pos 205887) r) (r -ℤ pos 411774) r

-- an angle with the same sine, from -102943 to 102943
unfoldable pub folded : ℤ → ℤ
folded r = cond (int_lt (pos 102943) r) (pos 205887 -ℤ r) (cond (int_lt r (negsuc 102942)) (negsuc 205886 -ℤ r) r)

-- 1 less the nth part of p
unfoldable pub one_less : ℤ → ℕ → ℤ
one_less p n = pos 65536 -ℤ floor_by p n

-- the series of a sine, by the angle and its square
unfoldable pub series : ℤ → ℤ → ℤ
series r s = mul r (one_less (mul s (one_less (mul s (one_less (mul s (one_less s 72)) 42)) 20)) 6)

-- the sine of an angle in radians: less whole turns, folded to a quarter turn, and a series
unfoldable pub sin : ℤ → ℤ
sin x = let r = folded (reduced x) in series r (mul r r)

-- the cosine: the sine a quarter turn further
unfoldable pub cos : ℤ → ℤ
cos x = sin (add x (pos 102944))

sin_at_right_angle : sin (pos 102943) ≡ pos 65536
unfolding sin series one_less folded reduced
sin_at_right_angle = refl
