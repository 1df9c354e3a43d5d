-- The jittered sample pattern of a frame: every pixel is cut into xs by ys cells, and each cell has one sample.
use Rattle.std.specs.Prelude.{ℕ, ℤ, pos, ◌+◌, ◌*◌, ◌/◌, ◌%◌, ◌^◌, List, [], ◌∷◌}
use Rattle.fixed_math.specs.Hash.{hash32}

-- the hash number k of cell c of the pixel x, y
unfoldable pub hash_at : ℕ → ℕ → ℕ → ℕ → ℕ
hash_at x y c k = hash32 (x ∷ y ∷ c ∷ k ∷ [])

-- the place along an axis, in 1/256 pixel: cell s of the n cells of pixel p, at j / 256 of the cell
abbrev pub along : ℕ → ℕ → ℕ → ℕ → ℕ
along p s n j = 256 * p + (256 * s + j) / n

-- the place of the sample of cell c of the pixel x, y: x and y in 1/256 pixel; cells go by rows
abbrev pub place_x : ℕ → ℕ → ℕ → ℕ → ℕ
place_x x y c xs = along x (c % xs) xs (hash_at x y c 0 % 256)

-- the same from above
abbrev pub place_y : ℕ → ℕ → ℕ → ℕ → ℕ → ℕ
place_y x y c xs ys = along y (c / xs) ys (hash_at x y c 1 % 256)

-- both coordinates of a sample's place
abbrev pub position : ℕ → ℕ → ℕ → ℕ → ℕ → List ℤ
position x y c xs ys = pos (place_x x y c xs) ∷ pos (place_y x y c xs ys) ∷ []

-- the moment of the sample within the shutter's interval, in 1/65536 of it
abbrev pub time : ℕ → ℕ → ℕ → ℕ
time x y c = hash_at x y c 2 / 2 ^ 16
