-- Lengths on the raster of the rows and columns of a control net, in 1/256 pixel.
use Rattle.std.specs.Prelude.{◌≡◌, refl, ℕ, zero, suc, ◌+◌, ◌-◌, ◌*◌, ◌/◌, max, pos, ◌-ℤ◌, unsigned_abs, List, [], ◌∷◌, length, slice_index_or}
use Rattle.fixed_math.specs.declared.vec3.Vec3.{Vec3}
use Rattle.transforms.specs.declared.view.View.{View}
use Rattle.transforms.specs.Raster.{raster_x, raster_y}
use Rattle.bound_split.specs.declared.lengths.Place.{Place}

-- where a point lies on the raster
unfoldable pub place_of : View → Vec3 → Place
place_of v p = record { x = raster_x v p; y = raster_y v p }

-- the greater of the distances across and down between two places
abbrev pub step_length : Place → Place → ℕ
step_length a b = max (unsigned_abs (b.x -ℤ a.x)) (unsigned_abs (b.y -ℤ a.y))

-- f 0 + .. + f (n - 1)
unfoldable pub sum_below : ℕ → (ℕ → ℕ) → ℕ
sum_below zero f = 0
sum_below (suc n) f = sum_below n f + f n

-- the greatest of f 0 .. f (n - 1), and 0 where there is none
unfoldable pub most_below : ℕ → (ℕ → ℕ) → ℕ
most_below zero f = 0
most_below (suc n) f = max (most_below n f) (f n)

abbrev pub place_at : List Place → ℕ → Place
place_at ps k = slice_index_or ps k (record { x = pos 0; y = pos 0 })

-- the length of the line of n steps that begins at index s of the places and goes k on with each step
unfoldable pub line_length : List Place → ℕ → ℕ → ℕ → ℕ
line_length ps s k n = sum_below n (λ m. step_length (place_at ps (s + k * m)) (place_at ps (s + k * (m + 1))))

-- the greatest length of a row, of places in rows of w
unfoldable pub rows_length : ℕ → List Place → ℕ
rows_length w ps = most_below (length ps / w) (λ y. line_length ps (w * y) 1 (w - 1))

-- the greatest length of a column, of places in rows of w
unfoldable pub columns_length : ℕ → List Place → ℕ
columns_length w ps = most_below w (λ x. line_length ps x w (length ps / w - 1))

-- worked values: three columns and two rows
abbrev six : List Place
six =
    record { x = pos 0; y = pos 0 } ∷ record { x = pos 5; y = pos 2 } ∷ record { x = pos 6; y = pos 9 } ∷
    record { x = pos 0; y = pos 4 } ∷ record { x = pos 1; y = pos 4 } ∷ record { x = pos 2; y = pos 30 } ∷ []

rows_of_six : rows_length 3 six ≡ 27
unfolding rows_length line_length most_below sum_below
rows_of_six = refl

columns_of_six : columns_length 3 six ≡ 21
unfolding columns_length line_length most_below sum_below
columns_of_six = refl
