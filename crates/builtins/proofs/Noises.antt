-- Noise, by points that share the hashes of their first words.
use Rattle.std.proofs.Common.{◌≡◌, sym, refl, ℕ, ℤ, pos, ◌+ℤ◌, ◌-ℤ◌, ap, ◌∙◌, ◌+◌, ◌-◌, ◌*◌, ◌/◌, ◌<◌, ◌≤◌, arith}
use Rattle.std.proofs.lemmas.Int.{ints}
use Rattle.std.proofs.Math.Nat.{mul-le-mul, mul-le-mul_left, div-le_of_le-mul}
use Rattle.fixed_math.specs.Fixed.{sat, sub, mul}
use Rattle.fixed_math.proofs.Sat.{sat_of_raw}
use Rattle.builtins.specs.Numbers.{mix, hermite}
use Rattle.builtins.specs.Noise.{word, lattice, along_x, along_y, row_of, of_row}

point_is : (row row' third third' : ℕ) → row ≡ row' → third ≡ third' → of_row row third ≡ of_row row' third'
point_is row row' third third' e f = ap (λ k. of_row k third) e ∙ ap (λ k. of_row row' k) f

pair_is : (p q p' q' u : ℤ) → p ≡ p' → q ≡ q' → mix p q u ≡ mix p' q' u
pair_is p q p' q' u e f = ap (λ t. mix t q u) e ∙ ap (λ t. mix p' t u) f

plane_of : (u v x y z : ℤ) → ℤ
plane_of u v x y z =
    mix (mix (of_row (row_of x y) (word z)) (of_row (row_of (x +ℤ pos 1) y) (word z)) u) (mix (of_row (row_of x (y +ℤ pos 1)) (word z)) (of_row (row_of (x +ℤ pos 1) (y +ℤ pos 1)) (word z)) u) v

plane_same : (u v x y z : ℤ) → plane_of u v x y z ≡ along_y u v x y z
unfolding plane_of along_y along_x lattice
plane_same u v x y z = refl

pub plane_is : (u v x y z : ℤ) (near next far_near far_next third : ℕ) (a b c d low high r : ℤ)
    → near ≡ row_of x y → next ≡ row_of (x +ℤ pos 1) y → far_near ≡ row_of x (y +ℤ pos 1) → far_next ≡ row_of (x +ℤ pos 1) (y +ℤ pos 1) → third ≡ word z
    → a ≡ of_row near third → b ≡ of_row next third → c ≡ of_row far_near third → d ≡ of_row far_next third
    → low ≡ mix a b u → high ≡ mix c d u → r ≡ mix low high v → r ≡ along_y u v x y z
unfolding plane_of
plane_is u v x y z near next far_near far_next third a b c d low high r hn hx hf hg ht ha hb hc hd hl hh hr =
    hr
    ∙ pair_is low high (mix (of_row (row_of x y) (word z)) (of_row (row_of (x +ℤ pos 1) y) (word z)) u) (mix (of_row (row_of x (y +ℤ pos 1)) (word z)) (of_row (row_of (x +ℤ pos 1) (y +ℤ pos 1)) (word z)) u) v
    (hl ∙ pair_is a b (of_row (row_of x y) (word z)) (of_row (row_of (x +ℤ pos 1) y) (word z)) u (ha ∙ point_is near (row_of x y) third (word z) hn ht) (hb ∙ point_is next (row_of (x +ℤ pos 1) y) third (word z) hx ht))
    (hh
    ∙ pair_is c d (of_row (row_of x (y +ℤ pos 1)) (word z)) (of_row (row_of (x +ℤ pos 1) (y +ℤ pos 1)) (word z)) u (hc ∙ point_is far_near (row_of x (y +ℤ pos 1)) third (word z) hf ht)
    (hd ∙ point_is far_next (row_of (x +ℤ pos 1) (y +ℤ pos 1)) third (word z) hg ht))
    ∙ plane_same u v x y z

-- ---- mixes and weights of numbers from 0 to 1, of which nothing is cut
sat_is : (n : ℕ) → n ≤ 2147483647 → sat (pos n) ≡ pos n
sat_is n h = sat_of_raw (pos n) (omega (arith, ints)) (omega (arith, ints))

product_is : (a b : ℕ) → a * b / 65536 ≤ 2147483647 → mul (pos a) (pos b) ≡ pos (a * b / 65536)
product_is a b h = sat_is (a * b / 65536) h

rest_is : (m t : ℕ) → m ≤ 2147483647 → t ≤ m → sub (pos m) (pos t) ≡ pos (m - t)
rest_is m t h k =
    let e : pos m -ℤ pos t ≡ pos (m - t) = omega (arith, ints) in ap sat e ∙ sat_is (m - t) (omega arith)

-- what two parts of a mix give
low_part : (a t : ℕ) → a < 65536 → t ≤ 65536 → a * (65536 - t) / 65536 ≤ a
low_part a t h k = let le = mul-le-mul_left a (let l : 65536 - t ≤ 65536 = omega arith in l) in div-le_of_le-mul 65536 (omega (arith, le))

high_part : (b t : ℕ) → b < 65536 → t ≤ 65536 → b * t / 65536 ≤ b
high_part b t h k = let le = mul-le-mul_left b k in div-le_of_le-mul 65536 (omega (arith, le))

pub blend_small : (a b t : ℕ) → a < 65536 → b < 65536 → t ≤ 65536 → a * (65536 - t) / 65536 + b * t / 65536 < 65536
blend_small a b t h k l =
    let low = mul-le-mul (let x : a ≤ 65535 = omega arith in x) (let y : 65536 - t ≤ 65536 - t = omega arith in y) in
    let high = mul-le-mul (let x : b ≤ 65535 = omega arith in x) (let y : t ≤ t = omega arith in y) in
    omega (arith, low, high)

pub blend_is : (a b t : ℕ) → a < 65536 → b < 65536 → t ≤ 65536 → pos (a * (65536 - t) / 65536 + b * t / 65536) ≡ mix (pos a) (pos b) (pos t)
unfolding mix
blend_is a b t h k l =
    let small = blend_small a b t h k l in
    rw (rest_is 65536 t (omega arith) l, product_is a (65536 - t) (omega (arith, small)), product_is b t (omega (arith, small)))
    (sym (sat_is (a * (65536 - t) / 65536 + b * t / 65536) (omega (arith, small))))

-- t t (3 - 2 t) is at most 1: with d = 1 - t what is missing is 3 t d d + d d d
cube_is : (t d : ℕ) → t + d ≡ 65536 → t * t * (t + 3 * d) ≤ 281474976710656
cube_is t d e =
    let whole : (t + d) * (t + d) * (t + d) ≡ 281474976710656 = rw e refl in
    let parts : (t + d) * (t + d) * (t + d) ≡ t * t * (t + 3 * d) + (3 * (t * (d * d)) + d * (d * d)) = omega arith in
    omega (arith, whole, parts)

pub weight_small : (t : ℕ) → t < 65536 → t * t / 65536 * (196608 - 2 * t) / 65536 ≤ 65536
weight_small t h =
    let d = 65536 - t in
    let sum : t + d ≡ 65536 = omega arith in
    let cube = cube_is t d sum in
    let factor : 196608 - 2 * t ≡ t + 3 * d = omega arith in
    let below : t * t / 65536 * 65536 ≤ t * t = omega arith in
    let le = mul-le-mul below (let x : t + 3 * d ≤ t + 3 * d = omega arith in x) in
    rw factor (div-le_of_le-mul 65536 (omega (arith, le, cube)))

pub weight_is : (t : ℕ) → t < 65536 → pos (t * t / 65536 * (196608 - 2 * t) / 65536) ≡ hermite (pos t)
unfolding hermite
weight_is t h =
    let small = weight_small t h in
    let le = mul-le-mul (let x : t ≤ 65536 = omega arith in x) (let y : t ≤ 65536 = omega arith in y) in
    sym (
    rw (product_is t t (omega (arith, le)), product_is 131072 t (omega arith), rest_is 196608 (131072 * t / 65536) (omega arith) (omega arith))
    (ap (λ n. mul (pos (t * t / 65536)) (pos n)) (let e : 196608 - 131072 * t / 65536 ≡ 196608 - 2 * t = omega arith in e) ∙ product_is (t * t / 65536) (196608 - 2 * t) (omega (arith, small)))
    )
