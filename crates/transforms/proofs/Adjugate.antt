-- The rows of a matrix times the columns of its adjugate.
use Rattle.std.proofs.Common.{◌≡◌, ◌∙◌, refl, ap, ℕ, ◌+◌, ◌*◌, ℤ, pos, neg_ℤ, ◌+ℤ◌, ◌-ℤ◌, ◌*ℤ◌, arith}
use borrow.Author.Differences.{up, down, sum_is_lem, product_is, neg_is, same_in}
use Rattle.fixed_math.specs.declared.vec3.Vec3.{Vec3}
use Rattle.transforms.specs.Concat.{cross, determinant, dot_of, IsAdjugate}

-- a whole number as the difference of two natural ones
pub record Rep (z : ℤ) (p n : ℕ) : Type 0 where
  pub same : up z + n ≡ down z + p

var : (z : ℤ) → Rep z (up z) (down z)
var z = record { same = omega arith }

nat : (n : ℕ) → Rep (pos n) n 0
nat n = record { same = omega arith }

add : {a b : ℤ} {p n q m : ℕ} → Rep a p n → Rep b q m → Rep (a +ℤ b) (p + q) (n + m)
add {a} {b} x y = record { same = omega (arith, sum_is_lem a b, x.same, y.same) }

opp : {a : ℤ} {p n : ℕ} → Rep a p n → Rep (neg_ℤ a) n p
opp {a} x = record { same = omega (arith, neg_is a, x.same) }

diff : {a b : ℤ} {p n q m : ℕ} → Rep a p n → Rep b q m → Rep (a -ℤ b) (p + m) (n + q)
diff x y = add x (opp y)

prod : {a b : ℤ} {p n q m : ℕ} → Rep a p n → Rep b q m → Rep (a *ℤ b) (p * q + n * m) (p * m + n * q)
prod {a} {b} {p} {n} {q} {m} x y = record {
  same = omega (
    arith,
    product_is a b,
    ap (λ (t : ℕ). t * up b) x.same,
    ap (λ (t : ℕ). t * down b) x.same,
    ap (λ (t : ℕ). p * t) y.same,
    ap (λ (t : ℕ). n * t) y.same,
  );
}

equal : {a b : ℤ} {p n q m : ℕ} → Rep a p n → Rep b q m → p + m ≡ q + n → a ≡ b
equal {a} {b} x y e = same_in a b (omega (arith, x.same, y.same))

minor : (a d b c : ℤ) → Rep (a *ℤ d -ℤ b *ℤ c) ((up a * up d + down a * down d) + (up b * down c + down b * up c)) ((up a * down d + down a * up d) + (up b * up c + down b * down c))
minor a d b c = diff (prod (var a) (var d)) (prod (var b) (var c))

-- a row is at right angles to a product that it is part of
first : (a b : Vec3) → dot_of a (cross a b) ≡ pos 0
unfolding cross
first a b =
    equal
    (add (add (prod (var a.x) (minor a.y b.z a.z b.y)) (prod (var a.y) (minor a.z b.x a.x b.z))) (prod (var a.z) (minor a.x b.y a.y b.x)))
    (nat 0) (omega arith)

second : (a b : Vec3) → dot_of b (cross a b) ≡ pos 0
unfolding cross
second a b =
    equal
    (add (add (prod (var b.x) (minor a.y b.z a.z b.y)) (prod (var b.y) (minor a.z b.x a.x b.z))) (prod (var b.z) (minor a.x b.y a.y b.x)))
    (nat 0) (omega arith)

-- the determinant is the same for the rows in a circle
round : (a b c : Vec3) → dot_of b (cross c a) ≡ dot_of a (cross b c)
unfolding cross
round a b c =
    equal
    (add (add (prod (var b.x) (minor c.y a.z c.z a.y)) (prod (var b.y) (minor c.z a.x c.x a.z))) (prod (var b.z) (minor c.x a.y c.y a.x)))
    (add (add (prod (var a.x) (minor b.y c.z b.z c.y)) (prod (var a.y) (minor b.z c.x b.x c.z))) (prod (var a.z) (minor b.x c.y b.y c.x)))
    (omega arith)

pub rows_times_adjugate : (a b c : Vec3) → IsAdjugate a b c
unfolding determinant
rows_times_adjugate a b c = record {
  a_first = refl;
  b_first = first b c;
  c_first = second b c;
  a_second = second c a;
  b_second = round a b c;
  c_second = first c a;
  a_third = first a b;
  b_third = second a b;
  c_third = round b c a ∙ round a b c;
}
