-- Bands of pixels, and the picture that they are.
use Rattle.std.proofs.Common.{◌≡◌, ℕ, zero, suc, ◌+◌, ◌-◌, ◌*◌, ◌/◌, ◌%◌, ◌<◌, ◌≤◌, arith, refl, sym, ◌∙◌, ap, inl, List, [], ◌∷◌, ◌++◌, map, length, get_or, append_assoc}
use Rattle.std.specs.List.{range_with_len}
use Rattle.std.proofs.lemmas.Int.{ints, by_lt_z}
use Rattle.std.specs.Prelude.{pos}
use Rattle.std.proofs.Math.Nat.{mod-lt, mul_comm, mul-add, mul-add-div, mul-add-mod_self_left}
use Rattle.std.proofs.lemmas.List.{append-nil}
use Rattle.std.proofs.lemmas.List.Concat.{flat_map-append}
use Rattle.std.proofs.lemmas.List.FromFn.{fill_by_all, map-range_with_len_more}
use Rattle.fixed_math.specs.Spots.{PixelRect, pixel_x, pixel_y}
use Rattle.scene.specs.Settings.{crop_of}
use Rattle.filter_ppm.specs.Film.{FilmValues, pixel, pixels}
use Rattle.filter_ppm.specs.Levels.{pixel_bytes, band}
use Rattle.filter_ppm.specs.Sampled.{format_of}
use Rattle.filter_ppm.specs.Bands.{rows, PutsPixels, ArePixels}
use Rattle.filter_ppm.proofs.Grids.{before_pixel}

by_lt : {P : Type 0} (a b : ℕ) → (a < b → P) → (b ≤ a → P) → P
by_lt a b f g = by_lt_z (pos a) (pos b) (λ l. f (omega (arith, ints))) (λ l. g (omega (arith, ints)))

-- ---- column by column
pub columns_none : (f : FilmValues) (top bottom : ℕ) (band : List (List ℕ)) → ArePixels f top bottom (crop_of f.options).left band
columns_none f top bottom band = λ x y g h t b. absurd (omega (arith, g, h))

pub columns_more : (f : FilmValues) (r : PixelRect) (old new : List (List ℕ)) → ArePixels f r.top r.bottom r.left old → PutsPixels f r old new → r.right ≤ (crop_of f.options).right →
    ArePixels f r.top r.bottom r.right new
columns_more f r old new a p w = λ x y g h t b.
    by_lt x r.left
    (λ l. p.beside x y (inl l) g (omega (arith, h, w)) t b ∙ a x y g l t b)
    (λ k. p.inside x y k h t b)

-- the number of a picture's columns
abbrev pub columns : FilmValues → ℕ
columns f = (crop_of f.options).right - (crop_of f.options).left

-- a band of pixels is those of its rows
row_entry : (f : FilmValues) (top bottom p : ℕ) (band : List (List ℕ)) → 0 < columns f → top ≤ bottom → ArePixels f top bottom (crop_of f.options).right band → p < columns f * (bottom - top) →
    get_or band p [] ≡ pixel f (pixel_x (rows (format_of f) top bottom) p) (pixel_y (rows (format_of f) top bottom) p)
row_entry f top bottom p band some order a h =
    let w = columns f in
    let l = (crop_of f.options).left in
    let turned : w * (bottom - top) ≡ (bottom - top) * w = mul_comm w (bottom - top) in
    let row : p / w < bottom - top = before_pixel p w (bottom - top) some (omega (arith, h, turned)) in
    let column : p % w < w = mod-lt p some in
    let parts : (p / w) * w + p % w ≡ p = omega arith in
    let down : top + p / w - top ≡ p / w = omega arith in
    let across : l + p % w - l ≡ p % w = omega arith in
    let place : (top + p / w - top) * w + (l + p % w - l) ≡ p = ap (λ n. n * w + (l + p % w - l)) down ∙ ap (λ n. (p / w) * w + n) across ∙ parts in
    ap (λ n. get_or band n []) (sym place)
    ∙ a (l + p % w) (top + p / w) (omega arith) (omega (arith, column)) (omega arith) (omega (arith, row))

pub band_done : (f : FilmValues) (top bottom : ℕ) (band : List (List ℕ)) → 0 < columns f → top ≤ bottom → length band ≡ columns f * (bottom - top) → ArePixels f top bottom (crop_of f.options).right band →
    band ≡ pixels f (rows (format_of f) top bottom)
band_done f top bottom band some order long a =
    fill_by_all _ band (columns f * (bottom - top)) [] long (λ k h. row_entry f top bottom k band some order a h)

-- ---- band by band
map_same : {A : Type 0} (g h : ℕ → A) → ((i : ℕ) → g i ≡ h i) → (is : List ℕ) → map g is ≡ map h is
map_same g h e [] = refl
map_same g h e (i ∷ is) = ap (λ x. x ∷ map g is) (e i) ∙ ap (λ xs. h i ∷ xs) (map_same g h e is)

map_range-add : {A : Type 0} (g : ℕ → A) (m n : ℕ) → map g (range_with_len 0 (m + n)) ≡ map g (range_with_len 0 m) ++ map (λ i. g (m + i)) (range_with_len 0 n)
map_range-add g m zero =
    let e : m + 0 ≡ m = omega arith in
    ap (λ k. map g (range_with_len 0 k)) e ∙ sym (append-nil (map g (range_with_len 0 m)))
map_range-add g m (suc n) =
    let front = map g (range_with_len 0 m) in
    let back = map (λ i. g (m + i)) (range_with_len 0 n) in
    let e : m + suc n ≡ (m + n) + 1 = omega arith in
    let one : n + 1 ≡ suc n = omega arith in
    let z : 0 + (m + n) ≡ m + n = omega arith in
    let y : 0 + n ≡ n = omega arith in
    ap (λ k. map g (range_with_len 0 k)) e
    ∙ map-range_with_len_more g 0 (m + n) (m + n) z
    ∙ ap (λ l. l ++ g (m + n) ∷ []) (map_range-add g m n)
    ∙ append_assoc front back (g (m + n) ∷ [])
    ∙ ap (λ l. front ++ l) (sym (map-range_with_len_more (λ i. g (m + i)) 0 n n y))
    ∙ ap (λ k. front ++ map (λ i. g (m + i)) (range_with_len 0 k)) one

-- the pixels of rows, and those of the rows below them
pub rows_more : (f : FilmValues) (top middle bottom : ℕ) → 0 < columns f → top ≤ middle → middle ≤ bottom →
    pixels f (rows (format_of f) top middle) ++ pixels f (rows (format_of f) middle bottom) ≡ pixels f (rows (format_of f) top bottom)
rows_more f top middle bottom some a b =
    let w = columns f in
    let l = (crop_of f.options).left in
    let m = w * (middle - top) in
    let n = w * (bottom - middle) in
    let g : ℕ → List ℕ = λ p. pixel f (l + p % w) (top + p / w) in
    let h : ℕ → List ℕ = λ p. pixel f (l + p % w) (middle + p / w) in
    let same : (i : ℕ) → g (m + i) ≡ h i = λ i.
    let row : (m + i) / w ≡ (middle - top) + i / w = mul-add-div some (middle - top) i in
    let down : top + ((middle - top) + i / w) ≡ middle + i / w = omega arith in
    ap (λ c. pixel f (l + c) (top + (m + i) / w)) (mul-add-mod_self_left w (middle - top) i)
    ∙ ap (λ q. pixel f (l + i % w) (top + q)) row
    ∙ ap (pixel f (l + i % w)) down in
    let all : (middle - top) + (bottom - middle) ≡ bottom - top = omega arith in
    let count : m + n ≡ w * (bottom - top) = sym (mul-add w (middle - top) (bottom - middle)) ∙ ap (λ k. w * k) all in
    ap (λ k. map g (range_with_len 0 m) ++ k) (sym (map_same (λ i. g (m + i)) h same (range_with_len 0 n)))
    ∙ sym (map_range-add g m n)
    ∙ ap (λ k. map g (range_with_len 0 k)) count

-- so are their bytes
pub bands_more : (f : FilmValues) (top middle bottom : ℕ) → 0 < columns f → top ≤ middle → middle ≤ bottom →
    band f.options.one (pixels f (rows (format_of f) top middle)) ++ band f.options.one (pixels f (rows (format_of f) middle bottom)) ≡ band f.options.one (pixels f (rows (format_of f) top bottom))
bands_more f top middle bottom some a b =
    sym (flat_map-append (pixel_bytes f.options.one) (pixels f (rows (format_of f) top middle)) (pixels f (rows (format_of f) middle bottom)))
    ∙ ap (band f.options.one) (rows_more f top middle bottom some a b)

pub bands_none : (f : FilmValues) (top : ℕ) → band f.options.one (pixels f (rows (format_of f) top top)) ≡ []
bands_none f top =
    let w = columns f in
    let e : w * (top - top) ≡ 0 = (let z : top - top ≡ 0 = omega arith in ap (λ k. w * k) z ∙ omega arith) in
    ap (λ k. band f.options.one (map (λ p. pixel f ((crop_of f.options).left + p % w) (top + p / w)) (range_with_len 0 k))) e
