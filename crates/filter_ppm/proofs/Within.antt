-- The numbers of a picture's pixels are at most the full channel.
use Rattle.std.proofs.Common.{ℕ, zero, suc, ◌≤◌, List, [], ◌∷◌, map, arith}
use Rattle.std.specs.Prelude.{ℤ, All}
use Rattle.std.proofs.lemmas.Int.{ints}
use Rattle.fixed_math.specs.Spots.{PixelRect, pixel_x, pixel_y}
use Rattle.filter_ppm.specs.Levels.{levels, limited}
use Rattle.filter_ppm.specs.Film.{FilmValues, pixel, pixels}

pub limited_below : (low high : ℕ) (n : ℤ) → low ≤ high → limited low high n ≤ high
unfolding limited
limited_below low high n h = grind (arith, ints)

all_three : (P : ℕ → Type 0) (a b c : ℕ) → P a → P b → P c → All P (a ∷ b ∷ c ∷ [])
all_three P a b c x y z zero d lt = x
all_three P a b c x y z (suc zero) d lt = y
all_three P a b c x y z (suc (suc zero)) d lt = z
all_three P a b c x y z (suc (suc (suc k))) d lt = absurd (omega arith)

all_map : {A B : Type 0} (g : A → B) (P : B → Type 0) → ((x : A) → P (g x)) → (xs : List A) → All P (map g xs)
all_map g P h [] k d lt = absurd (omega arith)
all_map g P h (x ∷ xs) zero d lt = h x
all_map g P h (x ∷ xs) (suc k) d lt = all_map g P h xs k d (omega arith)

pixel_within : (f : FilmValues) → f.options.min ≤ f.options.max → f.options.max ≤ f.options.one → (x y : ℕ) → All (λ v. v ≤ f.options.one) (pixel f x y)
unfolding pixel levels
pixel_within f h k x y =
    let below : (n : ℤ) → limited f.options.min f.options.max n ≤ f.options.one = λ n. omega (arith, limited_below f.options.min f.options.max n h) in
    all_three (λ v. v ≤ f.options.one) _ _ _ (below _) (below _) (below _)

pub pixels_within : (f : FilmValues) → f.options.min ≤ f.options.max → f.options.max ≤ f.options.one → (r : PixelRect) → All (λ p. All (λ v. v ≤ f.options.one) p) (pixels f r)
pixels_within f h k r = all_map (λ p. pixel f (pixel_x r p) (pixel_y r p)) (λ p. All (λ v. v ≤ f.options.one) p) (λ p. pixel_within f h k (pixel_x r p) (pixel_y r p)) _
