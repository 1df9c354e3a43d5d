-- The size of a slope's numbers.
use Rattle.std.proofs.Common.{ℕ, ◌+◌, ◌*◌, ◌^◌, ◌≤◌, ◌<◌, ℤ, pos, ◌-ℤ◌, ◌*ℤ◌, unsigned_abs, arith}
use Rattle.std.proofs.Math.Nat.{mul-le-mul}
use Rattle.std.proofs.lemmas.Int.{ints}
use Rattle.fixed_math.proofs.Fits.{scaled_size}

less_abs : (a b : ℤ) → unsigned_abs (b -ℤ a) ≤ unsigned_abs a + unsigned_abs b
less_abs a b = omega (arith, ints)

pub cube_positive : (a b : ℕ) → 0 < a → 0 < b → 0 < a * a * b
cube_positive a b h k = let e : 1 * 1 ≤ a * a = mul-le-mul h h in let f : 1 * 1 * 1 ≤ a * a * b = mul-le-mul e k in omega (arith, f)

pub exact_abs : (s n : ℤ) (a d : ℕ) → unsigned_abs (pos 4096 *ℤ (pos a *ℤ s -ℤ pos d *ℤ n)) ≤ 4096 * (a * unsigned_abs s + d * unsigned_abs n)
exact_abs s n a d =
    let e = less_abs (pos d *ℤ n) (pos a *ℤ s) in
    let f = scaled_size a s in
    let g = scaled_size d n in
    let h = scaled_size 4096 (pos a *ℤ s -ℤ pos d *ℤ n) in
    omega (arith, e, f, g, h)

-- the bounds of the steps, for two factors of quarters
pub sums_fit : (a s d n : ℕ) → a ≤ 2 ^ 25 → s ≤ 2 ^ 72 → d ≤ 2 ^ 13 → n ≤ 2 ^ 81 → a * s + d * n ≤ 2 ^ 98
sums_fit a s d n ha hs hd hn =
    let e : a * s ≤ 2 ^ 25 * 2 ^ 72 = mul-le-mul ha hs in
    let f : d * n ≤ 2 ^ 13 * 2 ^ 81 = mul-le-mul hd hn in
    omega (arith, e, f)

pub round_room : (a b m : ℕ) → 2 ^ 24 ≤ a → 2 ^ 24 ≤ b → m ≤ 2 ^ 98 → 4096 * m ≤ a * a * b * 2 ^ 40
round_room a b m ha hb hm =
    let e : 2 ^ 24 * 2 ^ 24 ≤ a * a = mul-le-mul ha ha in
    let f : 2 ^ 24 * 2 ^ 24 * 2 ^ 24 ≤ a * a * b = mul-le-mul e hb in
    omega (arith, f)

-- the same, where one factor is that of a line
pub ruled_sums_u : (a s d n : ℕ) → a ≤ 2 ^ 25 → s ≤ 2 ^ 59 → d ≤ 2 ^ 13 → n ≤ 2 ^ 68 → a * s + d * n ≤ 2 ^ 85
ruled_sums_u a s d n ha hs hd hn =
    let e : a * s ≤ 2 ^ 25 * 2 ^ 59 = mul-le-mul ha hs in
    let f : d * n ≤ 2 ^ 13 * 2 ^ 68 = mul-le-mul hd hn in
    omega (arith, e, f)

pub ruled_room_u : (a m : ℕ) → 2 ^ 24 ≤ a → m ≤ 2 ^ 85 → 4096 * m ≤ a * a * 4096 * 2 ^ 40
ruled_room_u a m ha hm =
    let e : 2 ^ 24 * 2 ^ 24 ≤ a * a = mul-le-mul ha ha in
    omega (arith, e)

pub ruled_sums_v : (s n : ℕ) → s ≤ 2 ^ 57 → 4096 * s + 0 * n ≤ 2 ^ 70
ruled_sums_v s n hs = omega arith

pub ruled_room_v : (b m : ℕ) → 2 ^ 24 ≤ b → m ≤ 2 ^ 70 → 4096 * m ≤ 4096 * 4096 * b * 2 ^ 40
ruled_room_v b m hb hm = omega arith
