-- Parts of a vector by an inverse of its length that is a little too great.
use Rattle.std.proofs.Common.{◌≡◌, refl, ap, ◌∙◌, ℕ, zero, suc, ◌+◌, ◌-◌, ◌*◌, ◌/◌, ◌%◌, ◌<◌, ◌≤◌, ◌^◌, arith, true, nat_lt, ℤ, pos, ◌+ℤ◌, ◌-ℤ◌, ◌*ℤ◌}
use Rattle.std.proofs.lemmas.Int.{ints}
use Rattle.std.proofs.lemmas.Bool.Decides.{nat_tests}
use Rattle.std.proofs.lemmas.Nat.{pow_pos, shl_whole}
use Rattle.std.proofs.Math.Nat.{mul-le-mul, mul-le-mul_right, div-le_of_le-mul, le_of_mul-le-mul_right, lt_of_mul-lt-mul_right}
use Rattle.fixed_math.specs.Whole.{floor_by}
use Rattle.fixed_math.specs.Unit.{part}
use Rattle.fixed_math.proofs.Floor.{floor_by-add}
use Rattle.lanes.specs.Directions.{IsFine}

-- x and n are scaled by p; the factor is above 2 ^ 83 over n p by e over n p
module _ (x n p f e : ℕ) (some : 0 < n) (le : x ≤ 2 * n) (small : n * p < 4294967296) (split : n * p * f ≡ 9671406556917033397649408 + e) (bound : e ≤ 17179869184 * p) where
  scaled : x * p * f * n ≡ 9671406556917033397649408 * x + x * e
  scaled =
      let turned : x * p * f * n ≡ x * (n * p * f) = omega arith in
      let spread : x * (9671406556917033397649408 + e) ≡ 9671406556917033397649408 * x + x * e = omega arith in
      turned ∙ ap (λ k. x * k) split ∙ spread

  excess : x * e < 147573952589676412928
  excess =
      let product : x * e ≤ 2 * n * (17179869184 * p) = mul-le-mul le bound in
      let regrouped : 2 * n * (17179869184 * p) ≡ 34359738368 * (n * p) = omega arith in
      omega (arith, product, regrouped, small)

  pub steps_are : x * p * f / 147573952589676412928 ≡ x * 65536 / n
  steps_are =
      let q = x * 65536 / n in
      let low : q * n ≤ x * 65536 = omega (arith, some) in
      let high : x * 65536 < q * n + n = omega (arith, some) in
      let under : q * 147573952589676412928 * n ≤ x * p * f * n = rw scaled (omega (arith, low)) in
      let over : x * p * f * n < (q * 147573952589676412928 + 147573952589676412928) * n = rw scaled (omega (arith, high, excess)) in
      let a : q * 147573952589676412928 ≤ x * p * f = le_of_mul-le-mul_right under some in
      let b : x * p * f < q * 147573952589676412928 + 147573952589676412928 = lt_of_mul-lt-mul_right n over in
      omega (arith, a, b)

pub fine_some : (n z f : ℕ) → IsFine n f z → 0 < n
fine_some zero z f fine = absurd (omega (arith, fine.least))
fine_some (suc n) z f fine = omega arith

steps_is : (x n z f : ℕ) → x ≤ 2 * n → IsFine n f z → x * 2 ^ z * f / 147573952589676412928 ≡ x * 65536 / n
steps_is x n z f le fine =
    let e = n * 2 ^ z * f - 9671406556917033397649408 in
    let split : n * 2 ^ z * f ≡ 9671406556917033397649408 + e = omega (arith, fine.least) in
    let bound : e ≤ 17179869184 * 2 ^ z = omega (arith, fine.least, fine.most) in
    steps_are x n (2 ^ z) f e (fine_some n z f fine) le fine.small split bound

pub steps_shifted : (x n z f : ℕ) → x ≤ 2 * n → n < 4294967296 → z < 32 → IsFine n f z → x * 2 ^ z % 18446744073709551616 * f / 147573952589676412928 ≡ x * 65536 / n
steps_shifted x n z f le small few fine =
    let whole : x * 2 ^ z % 18446744073709551616 ≡ x * 2 ^ z = shl_whole x 33 z 64 (omega arith) (omega arith) in
    ap (λ k. k * f / 147573952589676412928) whole ∙ steps_is x n z f le fine

pub steps_small : (x n : ℕ) → x ≤ 2 * n → x * 65536 / n ≤ 131072
steps_small x n le = div-le_of_le-mul n (omega (arith, le))

rest_below : (lo p : ℕ) → 0 < p → lo / p < 17179869184 → lo < 17179869184 * p
rest_below lo p some h =
    let up : lo < lo / p * p + p = omega (arith, some) in
    let le : (lo / p + 1) * p ≤ 17179869184 * p = mul-le-mul_right p (omega (arith, h)) in
    omega (arith, up, le)

pub fine_by : (n z f : ℕ) → n * 2 ^ z < 4294967296 → n * 2 ^ z * f / 18446744073709551616 ≡ 524288 → n * 2 ^ z * f % 18446744073709551616 / 2 ^ z < 17179869184 → IsFine n f z
fine_by n z f small high low =
    let rest = rest_below (n * 2 ^ z * f % 18446744073709551616) (2 ^ z) (pow_pos z) low in
    record { small = small; least = omega (arith, high); most = omega (arith, high, rest) }

below : (a b : ℕ) → nat_lt a b ≡ true → a < b
below a b h = grind (arith, nat_tests)

pub fine_shifted : (n z f : ℕ) → n < 4294967296 → z < 32 → n * 2 ^ z % 18446744073709551616 < 4294967296
    → n * 2 ^ z % 18446744073709551616 * f / 18446744073709551616 ≡ 524288 → nat_lt (n * 2 ^ z % 18446744073709551616 * f % 18446744073709551616 / 2 ^ z) 17179869184 ≡ true → IsFine n f z
fine_shifted n z f small few short high low =
    let whole : n * 2 ^ z % 18446744073709551616 ≡ n * 2 ^ z = shl_whole n 32 z 64 small (omega arith) in
    let rest = below (n * 2 ^ z % 18446744073709551616 * f % 18446744073709551616 / 2 ^ z) 17179869184 low in
    fine_by n z f (rw whole at short) (rw whole at high) (rw whole at rest)

pub part_shifted : (c : ℤ) (n x : ℕ) → 0 < n → pos x ≡ c +ℤ pos n → pos (x * 65536 / n) -ℤ pos 65536 ≡ floor_by (c *ℤ pos 65536) n
part_shifted c n x h e =
    let whole : pos (x * 65536) ≡ c *ℤ pos 65536 +ℤ pos 65536 *ℤ pos n = omega (arith, ints, e) in
    let sum : pos (x * 65536 / n) ≡ floor_by (c *ℤ pos 65536) n +ℤ pos 65536 = ap (λ z. floor_by z n) whole ∙ floor_by-add (c *ℤ pos 65536) (pos 65536) n h in
    omega (arith, ints, sum)

pub part_of : (c : ℤ) (n : ℕ) → 0 < n → floor_by (c *ℤ pos 65536) n ≡ part c n
part_of c zero h = absurd (omega arith)
part_of c (suc n) h = refl
