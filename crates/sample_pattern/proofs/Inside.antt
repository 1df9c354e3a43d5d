-- The sample of a cell lies in its pixel.
use Rattle.std.proofs.Common.{ℕ, ◌+◌, ◌*◌, ◌/◌, ◌%◌, ◌<◌, ◌≤◌, arith}
use Rattle.std.proofs.lemmas.Grind.{common_steps}
use Rattle.sample_pattern.specs.Pattern.{along, place_x, place_y, hash_at}

pub along-low : (p s n j : ℕ) → 256 * p ≤ along p s n j
along-low p s n j = omega arith

pub along-high : (p s n j : ℕ) → s < n → j < 256 → along p s n j < 256 * p + 256
along-high p s n j h g = grind (arith, common_steps)

pub place_x-low : (x y c xs : ℕ) → 256 * x ≤ place_x x y c xs
place_x-low x y c xs = along-low x (c % xs) xs (hash_at x y c 0 % 256)

pub place_x-high : (x y c xs ys : ℕ) → c < xs * ys → place_x x y c xs < 256 * x + 256
place_x-high x y c xs ys h = along-high x (c % xs) xs (hash_at x y c 0 % 256) (grind (arith, common_steps)) (omega arith)

pub place_y-low : (x y c xs ys : ℕ) → 256 * y ≤ place_y x y c xs ys
place_y-low x y c xs ys = along-low y (c / xs) ys (hash_at x y c 1 % 256)

pub place_y-high : (x y c xs ys : ℕ) → c < xs * ys → place_y x y c xs ys < 256 * y + 256
place_y-high x y c xs ys h = along-high y (c / xs) ys (hash_at x y c 1 % 256) (grind (arith, common_steps)) (omega arith)
