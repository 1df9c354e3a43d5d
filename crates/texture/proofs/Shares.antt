-- Parts of a whole of 65536, and their mixes.
use Rattle.std.proofs.Common.{◌≡◌, ◌∙◌, ap, sym, subst, ℕ, ◌+◌, ◌-◌, ◌*◌, ◌/◌, ◌%◌, ◌≤◌, ◌<◌, ℤ, pos, ◌-ℤ◌, arith}
use Rattle.std.proofs.lemmas.Int.{ints}
use Rattle.std.proofs.Math.Nat.{mul-le-mul}
use Rattle.fixed_math.specs.Fixed.{sat, mul, add, sub}
use Rattle.fixed_math.proofs.Fits.{sat_same}
use Rattle.fixed_math.specs.declared.vec3.Vec3.{Vec3}
use Rattle.texture.specs.declared.texel.Texel.{Texel}
use Rattle.texture.specs.Looks.{blend, blend_all, colour_of}

pub part_most : (n t : ℕ) → n ≤ 65536 → n * t / 65536 ≤ t
part_most n t h = let e : n * t ≤ 65536 * t = mul-le-mul h (omega arith) in omega (arith, e)

pub parts_most : (n m t : ℕ) → n ≤ 65536 → m ≤ 65536 → t ≤ 65536 → n * (65536 - t) / 65536 + m * t / 65536 ≤ 65536
parts_most n m t a b h =
    let c = part_most n (65536 - t) a in
    let d = part_most m t b in
    omega (arith, c, d, h)

mul_is : (n t : ℕ) → n ≤ 65536 → t ≤ 65536 → mul (pos n) (pos t) ≡ pos (n * t / 65536)
mul_is n t h k = let e = part_most n t h in sat_same (pos (n * t / 65536)) (omega (arith, ints, e, k))

sub_is : (t : ℕ) → t ≤ 65536 → sub (pos 65536) (pos t) ≡ pos (65536 - t)
sub_is t h =
    let e : pos 65536 -ℤ pos t ≡ pos (65536 - t) = omega (arith, ints, h) in
    ap sat e ∙ sat_same (pos (65536 - t)) (omega (arith, ints))

blend_nat : (n m t : ℕ) → n ≤ 65536 → m ≤ 65536 → t ≤ 65536 → blend (pos n) (pos m) (pos t) ≡ pos (n * (65536 - t) / 65536 + m * t / 65536)
blend_nat n m t a b h =
    let c = parts_most n m t a b h in
    let s : 65536 - t ≤ 65536 = omega arith in
    ap (λ z. add (mul (pos n) z) (mul (pos m) (pos t))) (sub_is t h)
    ∙ ap (λ z. add z (mul (pos m) (pos t))) (mul_is n (65536 - t) a s)
    ∙ ap (λ z. add (pos (n * (65536 - t) / 65536)) z) (mul_is m t b h)
    ∙ sat_same (pos (n * (65536 - t) / 65536 + m * t / 65536)) (omega (arith, ints, c))

-- what 32 bits compute of it: what the first loses is rounded up
pub product_most : (n t : ℕ) → n ≤ 65536 → t < 65536 → n * t ≤ 4294901760
product_most n t h k = let l : t ≤ 65535 = omega (arith, k) in let e : n * t ≤ 65536 * 65535 = mul-le-mul h l in omega (arith, e)

pub lost_most : (n t : ℕ) → t < 65536 → (n * t + 65535) / 65536 ≤ n
lost_most n t k = let s : n ≤ n = omega arith in let l : t ≤ 65535 = omega (arith, k) in let e : n * t ≤ n * 65535 = mul-le-mul s l in omega (arith, e)

kept_of : (n u t : ℕ) → u + t ≡ 65536 → n * u / 65536 ≡ n - (n * t + 65535) / 65536
kept_of n u t h =
    let d : n * u + n * t ≡ n * (u + t) = omega arith in
    let e : n * u + n * t ≡ n * 65536 = d ∙ ap (λ k. n * k) h in
    omega (arith, e)

mix_nat : (n m t : ℕ) → t < 65536 → n - (n * t + 65535) / 65536 + m * t / 65536 ≡ n * (65536 - t) / 65536 + m * t / 65536
mix_nat n m t h = ap (λ k. k + m * t / 65536) (sym (kept_of n (65536 - t) t (omega (arith, h))))

pub mix_is : (n m t : ℕ) → n ≤ 65536 → m ≤ 65536 → t < 65536 → pos (n - (n * t + 65535) / 65536 + m * t / 65536) ≡ blend (pos n) (pos m) (pos t)
mix_is n m t a b h = ap pos (mix_nat n m t h) ∙ sym (blend_nat n m t a b (omega (arith, h)))

pub mix_most : (n m t : ℕ) → n ≤ 65536 → m ≤ 65536 → t < 65536 → n - (n * t + 65535) / 65536 + m * t / 65536 ≤ 65536
mix_most n m t a b h = subst (λ k. k ≤ 65536) (sym (mix_nat n m t h)) (parts_most n m t a b (omega (arith, h)))

-- the same in lanes of 32 bits, whose operators wrap
abbrev pub lane : ℕ → ℕ → ℕ → ℕ
lane n m t = ((n + (4294967296 - (n * t % 4294967296 + 65535) % 4294967296 / 65536)) % 4294967296 + m * t % 4294967296 / 65536) % 4294967296

pub lane_is : (n m t : ℕ) → n ≤ 65536 → m ≤ 65536 → t < 65536 → lane n m t ≡ n - (n * t + 65535) / 65536 + m * t / 65536
lane_is n m t a b h =
    let p = product_most n t a h in
    let q = product_most m t b h in
    let l = lost_most n t h in
    let e = mix_most n m t a b h in
    let G : ℕ → ℕ → ℕ = λ x y. ((n + (4294967296 - (x + 65535) % 4294967296 / 65536)) % 4294967296 + y / 65536) % 4294967296 in
    let P : n * t % 4294967296 ≡ n * t = omega (arith, p) in
    let Q : m * t % 4294967296 ≡ m * t = omega (arith, q) in
    let R : G (n * t) (m * t) ≡ n - (n * t + 65535) / 65536 + m * t / 65536 = omega (arith, p, l, e) in
    ap (λ x. G x (m * t % 4294967296)) P ∙ ap (G (n * t)) Q ∙ R

pub lane_most : (n m t : ℕ) → n ≤ 65536 → m ≤ 65536 → t < 65536 → lane n m t ≤ 65536
lane_most n m t a b h = subst (λ k. k ≤ 65536) (sym (lane_is n m t a b h)) (mix_most n m t a b h)

lane_blend : (n m t : ℕ) → n ≤ 65536 → m ≤ 65536 → t < 65536 → pos (lane n m t) ≡ blend (pos n) (pos m) (pos t)
lane_blend n m t a b h = ap pos (lane_is n m t a b h) ∙ mix_is n m t a b h

abbrev parts : ℤ → ℤ → ℤ → Vec3
parts x y z = record { x = x; y = y; z = z }

pub lanes_are : (a b : Texel) (t : ℕ) → t < 65536 → parts (pos (lane a.red b.red t)) (pos (lane a.green b.green t)) (pos (lane a.blue b.blue t)) ≡ blend_all (colour_of a) (colour_of b) (pos t)
lanes_are a b t h =
    let r = lane_blend a.red b.red t a.red_most b.red_most h in
    let g = lane_blend a.green b.green t a.green_most b.green_most h in
    let u = lane_blend a.blue b.blue t a.blue_most b.blue_most h in
    ap (λ z. parts z (pos (lane a.green b.green t)) (pos (lane a.blue b.blue t))) r
    ∙ ap (λ z. parts (blend (pos a.red) (pos b.red) (pos t)) z (pos (lane a.blue b.blue t))) g
    ∙ ap (parts (blend (pos a.red) (pos b.red) (pos t)) (blend (pos a.green) (pos b.green) (pos t))) u
