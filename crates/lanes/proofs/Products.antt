-- Products of numbers of 32 bits.
use Rattle.std.proofs.Common.{◌≡◌, ◌≤◌, ◌<◌, ◌+◌, ◌*◌, ℕ, ℤ, pos, negsuc, ◌*ℤ◌, refl, arith}
use Rattle.std.specs.Int.RustNames.{unsigned_abs}
use Rattle.std.proofs.lemmas.Int.{unsigned_abs-mul}
use Rattle.std.proofs.Math.Nat.{mul-le-mul}

pub product_small : (a b : ℤ) → unsigned_abs a ≤ 2147483648 → unsigned_abs b ≤ 2147483648 → unsigned_abs (a *ℤ b) ≤ 4611686018427387904
product_small a b h k = rw (unsigned_abs-mul a b) (mul-le-mul h k)

pub room_of_halves : (q d : ℕ) → q < 4294967296 → d < 4294967296 → q * d + d ≤ 18446744073709551616
room_of_halves q d h k =
    let a : q ≤ 4294967295 = omega arith in
    let b : d ≤ 4294967295 = omega arith in
    let le = mul-le-mul a b in omega arith

pub room_of_part : (q d : ℕ) → q < 131072 → d < 140737488355328 → q * d + d ≤ 18446744073709551616
room_of_part q d h k =
    let a : q ≤ 131071 = omega arith in
    let b : d ≤ 140737488355327 = omega arith in
    let le = mul-le-mul a b in omega arith

pub square_small : (c : ℕ) → c < 70368744177664 → c * c < 4951760157141521099596496896
square_small c h =
    let a : c ≤ 70368744177663 = omega arith in
    let le = mul-le-mul a a in omega arith

pub square_is : (c : ℤ) → c *ℤ c ≡ pos (unsigned_abs c * unsigned_abs c)
square_is (pos n) = refl
square_is (negsuc n) = refl
