-- Coordinates kept near, and shares, are raws.
use Rattle.std.proofs.Common.{◌≡◌, ℤ, pos, neg_ℤ, ◌+ℤ◌, ◌-ℤ◌, ◌≤ℤ◌, to_z, of_z, arith, ap, ◌∙◌}
use Rattle.std.specs.Int.{int_max, int_min, w64, w128}
use Rattle.std.proofs.lemmas.Int.{ints}
use Rattle.fixed_math.specs.Fixed.{sat}
use Rattle.fixed_math.specs.declared.vec3.Vec3.{Vec3}
use Rattle.fixed_math.proofs.Sat.{sat_of_raw}
use Rattle.grid_variables.specs.Kept.{kept_near, moved, share}

max_low : (m x y : ℤ) → m ≤ℤ y → m ≤ℤ int_max x y
max_low m x y h = grind (arith, ints)

max_high : (m x y : ℤ) → x ≤ℤ m → y ≤ℤ m → int_max x y ≤ℤ m
max_high m x y h k = grind (arith, ints)

min_low : (m x y : ℤ) → m ≤ℤ x → m ≤ℤ y → m ≤ℤ int_min x y
min_low m x y h k = grind (arith, ints)

min_high : (m x y : ℤ) → x ≤ℤ m → int_min x y ≤ℤ m
min_high m x y h = grind (arith, ints)

sum_low : (m x b : ℤ) → m ≤ℤ x → pos 0 ≤ℤ b → m ≤ℤ (x +ℤ b)
sum_low m x b h k = grind (arith, ints)

difference_high : (m x b : ℤ) → x ≤ℤ m → pos 0 ≤ℤ b → (x -ℤ b) ≤ℤ m
difference_high m x b h k = grind (arith, ints)

pub kept_low : (bound old new : ℤ) → pos 0 ≤ℤ bound → neg_ℤ (pos 2147483647) ≤ℤ old → neg_ℤ (pos 2147483647) ≤ℤ new → neg_ℤ (pos 2147483647) ≤ℤ kept_near bound old new
kept_low bound old new b ol nl = max_low (neg_ℤ (pos 2147483647)) (old -ℤ bound) (int_min new (old +ℤ bound)) (min_low (neg_ℤ (pos 2147483647)) new (old +ℤ bound) nl (sum_low _ old bound ol b))

pub kept_high : (bound old new : ℤ) → pos 0 ≤ℤ bound → old ≤ℤ pos 2147483647 → new ≤ℤ pos 2147483647 → kept_near bound old new ≤ℤ pos 2147483647
kept_high bound old new b oh nh = max_high (pos 2147483647) (old -ℤ bound) (int_min new (old +ℤ bound)) (difference_high _ old bound oh b) (min_high (pos 2147483647) new (old +ℤ bound) nh)

-- sums, differences and raws, as the code reads them
module _ (b o n : ℤ) (bl : pos 0 ≤ℤ b) (bh : b ≤ℤ pos 2147483647) (ol : neg_ℤ (pos 2147483647) ≤ℤ o) (oh : o ≤ℤ pos 2147483647) (nl : neg_ℤ (pos 2147483647) ≤ℤ n) (nh : n ≤ℤ pos 2147483647) where
  b_read : to_z w64 (of_z w64 b) ≡ b
  b_read = grind (arith, ints)

  o_read : to_z w64 (of_z w64 o) ≡ o
  o_read = grind (arith, ints)

  n_read : to_z w64 (of_z w64 n) ≡ n
  n_read = grind (arith, ints)

  sum_read : to_z w64 (of_z w64 (o +ℤ b)) ≡ o +ℤ b
  sum_read = grind (arith, ints)

  difference_read : to_z w64 (of_z w64 (o -ℤ b)) ≡ o -ℤ b
  difference_read = grind (arith, ints)

  least_of : (m : ℤ) → m ≡ int_min (to_z w64 (of_z w64 n)) (to_z w64 (of_z w64 (to_z w64 (of_z w64 o) +ℤ to_z w64 (of_z w64 b)))) → m ≡ int_min n (o +ℤ b)
  least_of m e = e ∙ ap (λ x. int_min x (to_z w64 (of_z w64 (to_z w64 (of_z w64 o) +ℤ to_z w64 (of_z w64 b))))) n_read ∙ ap (λ x. int_min n (to_z w64 (of_z w64 (x +ℤ to_z w64 (of_z w64 b))))) o_read
      ∙ ap (λ x. int_min n (to_z w64 (of_z w64 (o +ℤ x)))) b_read ∙ ap (λ x. int_min n x) sum_read

  least_read : to_z w64 (of_z w64 (int_min n (o +ℤ b))) ≡ int_min n (o +ℤ b)
  least_read = grind (arith, ints)

  kept_read : to_z w64 (of_z w64 (kept_near b o n)) ≡ kept_near b o n
  kept_read = let l = kept_low b o n bl ol nl in let h = kept_high b o n bl oh nh in same (kept_near b o n) l h
    where
      same : (z : ℤ) → neg_ℤ (pos 2147483647) ≤ℤ z → z ≤ℤ pos 2147483647 → to_z w64 (of_z w64 z) ≡ z
      same z l h = grind (arith, ints)

  pub near_is : (m x : ℤ) → m ≡ int_min (to_z w64 (of_z w64 n)) (to_z w64 (of_z w64 (to_z w64 (of_z w64 o) +ℤ to_z w64 (of_z w64 b)))) →
      x ≡ int_max (to_z w64 (of_z w64 (to_z w64 (of_z w64 o) -ℤ to_z w64 (of_z w64 b)))) (to_z w64 (of_z w64 m)) → to_z w64 (of_z w64 x) ≡ kept_near b o n
  near_is m x e f =
      let g : x ≡ kept_near b o n =
      f ∙ ap (λ y. int_max (to_z w64 (of_z w64 (to_z w64 (of_z w64 o) -ℤ to_z w64 (of_z w64 b)))) (to_z w64 (of_z w64 y))) (least_of m e)
      ∙ ap (λ y. int_max (to_z w64 (of_z w64 (to_z w64 (of_z w64 o) -ℤ to_z w64 (of_z w64 b)))) y) least_read
      ∙ ap (λ y. int_max (to_z w64 (of_z w64 (y -ℤ to_z w64 (of_z w64 b)))) (int_min n (o +ℤ b))) o_read
      ∙ ap (λ y. int_max (to_z w64 (of_z w64 (o -ℤ y))) (int_min n (o +ℤ b))) b_read
      ∙ ap (λ y. int_max y (int_min n (o +ℤ b))) difference_read in
      ap (λ y. to_z w64 (of_z w64 y)) g ∙ kept_read

pub raw_read : (z : ℤ) → neg_ℤ (pos 2147483647) ≤ℤ z → z ≤ℤ pos 2147483647 → to_z w64 (of_z w64 z) ≡ z
raw_read z l h = grind (arith, ints)

pub sat_kept : (x : ℤ) → neg_ℤ (pos 2147483647) ≤ℤ x → x ≤ℤ pos 2147483647 → sat (to_z w128 (of_z w128 (to_z w64 (of_z w64 x)))) ≡ x
sat_kept x l h = ap sat same ∙ sat_of_raw x l h
  where
    same : to_z w128 (of_z w128 (to_z w64 (of_z w64 x))) ≡ x
    same = grind (arith, ints)

share_low : (x : ℤ) → neg_ℤ (pos 2147483647) ≤ℤ share x
share_low x = grind (arith, ints)

share_high : (x : ℤ) → share x ≤ℤ pos 2147483647
share_high x = grind (arith, ints)

pub share_raw : (x : ℤ) → sat (share x) ≡ share x
share_raw x = sat_of_raw (share x) (share_low x) (share_high x)

-- what doesn't move stays
unmoved_coordinate : (bound x : ℤ) → pos 0 ≤ℤ bound → kept_near bound x x ≡ x
unmoved_coordinate bound x h = grind (arith, ints)

pub unmoved : (bound : ℤ) (p : Vec3) → pos 0 ≤ℤ bound → moved bound p p ≡ p
unmoved bound p h =
    ap (λ x. triple x (kept_near bound p.y p.y) (kept_near bound p.z p.z)) (unmoved_coordinate bound p.x h)
    ∙ ap (λ y. triple p.x y (kept_near bound p.z p.z)) (unmoved_coordinate bound p.y h) ∙ ap (λ z. triple p.x p.y z) (unmoved_coordinate bound p.z h)
  where
    triple : ℤ → ℤ → ℤ → Vec3
    triple x y z = record { x = x; y = y; z = z }
