-- The demonstration scene: bicubic patches of many colours, whose numbers are drawn by a hash, under two lights.
use Rattle.std.specs.Prelude.{◌≡◌, refl, ℕ, ◌+◌, ◌*◌, ◌/◌, ◌%◌, ℤ, pos, negsuc, ◌-ℤ◌, List, [], ◌∷◌, ◌++◌, codes, decimal, unsigned_abs}
use Rattle.std.specs.List.{range_with_len, flat_map}
use Rattle.fixed_math.specs.Hash.{hash32}

abbrev pub sign_of : ℤ → List ℕ
sign_of (pos n) = []
sign_of (negsuc n) = codes "-"

-- a number of tenths, written with one digit behind the point
abbrev pub tenths : ℤ → List ℕ
tenths x = sign_of x ++ (decimal (unsigned_abs x / 10) ++ (codes "." ++ decimal (unsigned_abs x % 10)))

-- drawn number `which` of patch k, below m
abbrev pub drawn : ℕ → ℕ → ℕ → ℕ
drawn k which m = hash32 (k ∷ which ∷ []) % m

abbrev pub spaced : List ℕ → List ℕ → List ℕ → List ℕ
spaced a b c = a ++ (codes " " ++ (b ++ (codes " " ++ c)))

-- part m of the colour of patch k: a tenth below 1
abbrev pub part_text : ℕ → ℕ → List ℕ
part_text k m = codes "0." ++ decimal (drawn k m 10)

abbrev pub colour_line : ℕ → List ℕ
colour_line k = codes "Color [" ++ (spaced (part_text k 0) (part_text k 1) (part_text k 2) ++ codes "]\n")

-- the coordinates of point n of patch k, in tenths: it is point i of row j, n being 4j + i
abbrev pub x_at : ℕ → ℕ → ℤ
x_at k n = pos (drawn k 100 60 + 4 * (n % 4)) -ℤ pos 30

abbrev pub y_at : ℕ → ℕ → ℤ
y_at k n = pos (drawn k 101 40 + 4 * (n / 4)) -ℤ pos 20

abbrev pub z_at : ℕ → ℕ → ℤ
z_at k n = pos (drawn k 102 40 + drawn k (200 + n) 8)

-- the text of point n of patch k
abbrev pub point_text : ℕ → ℕ → List ℕ
point_text k n = spaced (tenths (x_at k n)) (tenths (y_at k n)) (tenths (z_at k n))

-- the first point, and each of the others behind a space
abbrev pub next_point : ℕ → ℕ → List ℕ
next_point k n = codes " " ++ point_text k n

abbrev pub points_text : ℕ → List ℕ
points_text k = point_text k 0 ++ flat_map (next_point k) (range_with_len 1 15)

abbrev pub patch_line : ℕ → List ℕ
patch_line k = codes "Patch \"bicubic\" \"P\" [" ++ (points_text k ++ codes "]\n")

-- the lines of patch k: its colour and its points
abbrev pub patch_lines : ℕ → List ℕ
patch_lines k = colour_line k ++ patch_line k

-- the picture, the camera, two lights and the surface
abbrev pub first_lines : List ℕ
first_lines = codes "Display \"demo.ppm\" \"file\" \"rgb\"\nFormat 160 120 1\nProjection \"perspective\" \"fov\" [45]\nTranslate 0 0 8\nWorldBegin\nLightSource \"ambientlight\" 1 \"intensity\" [0.2]\nLightSource \"distantlight\" 2 \"from\" [1 1 -1] \"to\" [0 0 0]\nSurface \"plastic\"\n"

abbrev pub last_line : List ℕ
last_line = codes "WorldEnd\n"

-- the scene with so many patches
abbrev pub demo : ℕ → List ℕ
demo count = (first_lines ++ flat_map patch_lines (range_with_len 0 count)) ++ last_line

abbrev first_corner : x_at 0 0 ≡ pos 22
first_corner = refl

abbrev an_inner_point : z_at 7 5 ≡ pos 27
an_inner_point = refl
