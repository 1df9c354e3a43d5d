-- The box on the raster by four places across and four down: a place across depends on a point's x and z alone, one down on y and z.
use Rattle.std.proofs.Common.{◌≡◌, ◌∙◌, ap, refl, ◌^◌, ◌<◌, ◌≤◌, arith, to_z, of_z, slice_index_or, List, [], ◌∷◌, ℕ}
use Rattle.std.specs.Prelude.{ℤ, pos, unsigned_abs}
use Rattle.std.specs.Int.{int_min, int_max, w64}
use lib.Signed.{mag}
use Rattle.std.proofs.lemmas.Int.{ints, clamps, to_z-of_z, fits_signed_from_abs}
use Rattle.transforms.specs.Raster.{clamped, box_of_places}

-- ---- each of four numbers twice
min_self : (a : ℤ) → int_min a a ≡ a
min_self a = omega (arith, ints, clamps)

max_self : (a : ℤ) → int_max a a ≡ a
max_self a = omega (arith, ints, clamps)

min_again : (m b : ℤ) → int_min (int_min m b) b ≡ int_min m b
min_again m b = omega (arith, ints, clamps)

max_again : (m b : ℤ) → int_max (int_max m b) b ≡ int_max m b
max_again m b = omega (arith, ints, clamps)

min_first : (a b : ℤ) → int_min (int_min a b) a ≡ int_min a b
min_first a b = omega (arith, ints, clamps)

max_first : (a b : ℤ) → int_max (int_max a b) a ≡ int_max a b
max_first a b = omega (arith, ints, clamps)

min_past : (m c d : ℤ) → int_min (int_min (int_min m c) d) c ≡ int_min (int_min m c) d
min_past m c d = omega (arith, ints, clamps)

max_past : (m c d : ℤ) → int_max (int_max (int_max m c) d) c ≡ int_max (int_max m c) d
max_past m c d = omega (arith, ints, clamps)

least_twice : (a b c d : ℤ) → int_min (int_min (int_min (int_min (int_min (int_min (int_min a b) a) b) c) d) c) d ≡ int_min (int_min (int_min a b) c) d
least_twice a b c d =
    ap (λ m. int_min (int_min (int_min (int_min (int_min m b) c) d) c) d) (min_first a b)
    ∙ ap (λ m. int_min (int_min (int_min (int_min m c) d) c) d) (min_again a b)
    ∙ ap (λ m. int_min m d) (min_past (int_min a b) c d) ∙ min_again (int_min (int_min a b) c) d

greatest_twice : (a b c d : ℤ) → int_max (int_max (int_max (int_max (int_max (int_max (int_max a b) a) b) c) d) c) d ≡ int_max (int_max (int_max a b) c) d
greatest_twice a b c d =
    ap (λ m. int_max (int_max (int_max (int_max (int_max m b) c) d) c) d) (max_first a b)
    ∙ ap (λ m. int_max (int_max (int_max (int_max m c) d) c) d) (max_again a b)
    ∙ ap (λ m. int_max m d) (max_past (int_max a b) c d) ∙ max_again (int_max (int_max a b) c) d

least_pairs : (a b c d : ℤ) → int_min (int_min (int_min (int_min (int_min (int_min (int_min a a) b) b) c) c) d) d ≡ int_min (int_min (int_min a b) c) d
least_pairs a b c d =
    ap (λ m. int_min (int_min (int_min (int_min (int_min (int_min m b) b) c) c) d) d) (min_self a)
    ∙ ap (λ m. int_min (int_min (int_min (int_min m c) c) d) d) (min_again a b)
    ∙ ap (λ m. int_min (int_min m d) d) (min_again (int_min a b) c) ∙ min_again (int_min (int_min a b) c) d

greatest_pairs : (a b c d : ℤ) → int_max (int_max (int_max (int_max (int_max (int_max (int_max a a) b) b) c) c) d) d ≡ int_max (int_max (int_max a b) c) d
greatest_pairs a b c d =
    ap (λ m. int_max (int_max (int_max (int_max (int_max (int_max m b) b) c) c) d) d) (max_self a)
    ∙ ap (λ m. int_max (int_max (int_max (int_max m c) c) d) d) (max_again a b)
    ∙ ap (λ m. int_max (int_max m d) d) (max_again (int_max a b) c) ∙ max_again (int_max (int_max a b) c) d

-- the box by four places across and four down
pub box_of_eight : (a b c d e f g h : ℤ) →
    box_of_places ((a ∷ e ∷ []) ∷ (b ∷ e ∷ []) ∷ (a ∷ f ∷ []) ∷ (b ∷ f ∷ []) ∷ (c ∷ g ∷ []) ∷ (d ∷ g ∷ []) ∷ (c ∷ h ∷ []) ∷ (d ∷ h ∷ []) ∷ []) ≡
    (int_min (int_min (int_min a b) c) d ∷ int_min (int_min (int_min e f) g) h ∷ []) ∷ (int_max (int_max (int_max a b) c) d ∷ int_max (int_max (int_max e f) g) h ∷ []) ∷ []
unfolding box_of_places
box_of_eight a b c d e f g h = rw (least_twice a b c d, least_pairs e f g h, greatest_twice a b c d, greatest_pairs e f g h) refl

-- what the code's least and greatest of two pairs of places are
read : (r : ℤ) → mag r < 2 ^ 63 → to_z w64 (of_z w64 r) ≡ r
read r h = to_z-of_z w64 r (record { sfits = h })

clamped_small : (z : ℤ) → unsigned_abs (clamped z) ≤ 268435456
clamped_small z = grind (arith, ints)

back : (z : ℤ) → to_z w64 (of_z w64 (clamped z)) ≡ clamped z
back z = let h = clamped_small z in to_z-of_z w64 (clamped z) (fits_signed_from_abs w64 (clamped z) (omega (arith, h)))

abbrev item : List ℤ → ℕ → ℤ
item xs k = to_z w64 (of_z w64 (slice_index_or xs k (pos 0)))

pub least_read : (r : ℤ) (xs ys : List ℤ) (a b c d : ℤ) → mag r < 2 ^ 63 → r ≡ int_min (int_min (int_min (item xs 0) (item xs 1)) (item ys 0)) (item ys 1) →
    xs ≡ clamped a ∷ clamped b ∷ [] → ys ≡ clamped c ∷ clamped d ∷ [] → to_z w64 (of_z w64 r) ≡ int_min (int_min (int_min (clamped a) (clamped b)) (clamped c)) (clamped d)
least_read r xs ys a b c d t e f g =
    read r t ∙ e
    ∙ ap (λ xs. int_min (int_min (int_min (item xs 0) (item xs 1)) (item ys 0)) (item ys 1)) f
    ∙ ap (λ ys. int_min (int_min (int_min (to_z w64 (of_z w64 (clamped a))) (to_z w64 (of_z w64 (clamped b)))) (item ys 0)) (item ys 1)) g
    ∙ rw (back a, back b, back c, back d) refl

pub greatest_read : (r : ℤ) (xs ys : List ℤ) (a b c d : ℤ) → mag r < 2 ^ 63 → r ≡ int_max (int_max (int_max (item xs 0) (item xs 1)) (item ys 0)) (item ys 1) →
    xs ≡ clamped a ∷ clamped b ∷ [] → ys ≡ clamped c ∷ clamped d ∷ [] → to_z w64 (of_z w64 r) ≡ int_max (int_max (int_max (clamped a) (clamped b)) (clamped c)) (clamped d)
greatest_read r xs ys a b c d t e f g =
    read r t ∙ e
    ∙ ap (λ xs. int_max (int_max (int_max (item xs 0) (item xs 1)) (item ys 0)) (item ys 1)) f
    ∙ ap (λ ys. int_max (int_max (int_max (to_z w64 (of_z w64 (clamped a))) (to_z w64 (of_z w64 (clamped b)))) (item ys 0)) (item ys 1)) g
    ∙ rw (back a, back b, back c, back d) refl

pub four_places : (a b c d e f g h : ℤ) → a ≡ e → b ≡ f → c ≡ g → d ≡ h → (a ∷ b ∷ []) ∷ (c ∷ d ∷ []) ∷ [] ≡ (e ∷ f ∷ []) ∷ (g ∷ h ∷ []) ∷ []
four_places a b c d e f g h p q r s = cc
