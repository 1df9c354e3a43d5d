-- The pixels that a tile's samples tell.
use Rattle.std.proofs.Common.{◌≡◌, ℕ, ◌+◌, ◌-◌, ◌*◌, ◌/◌, ◌%◌, ◌<◌, ◌≤◌, ◌⊎◌, ap, sym, subst, ◌∙◌, arith, refl, zero, suc, List, [], ◌∷◌, ◌++◌, length, take, get_or}
use Rattle.std.proofs.Math.Nat.{mod-lt, mul_comm}
use Rattle.std.proofs.lemmas.List.FromFn.{fill_by_all}
use Rattle.fixed_math.specs.Spots.{PixelRect, pixel_count, pixel_x, pixel_y}
use Rattle.scene.specs.Settings.{AreOptions, crop_of, IsCrop}
use Rattle.hider.specs.Tiles.{IsSampleGrid, sample_count}
use Rattle.fixed_math.specs.declared.vec3.Vec3.{Vec3}
use Rattle.scene.specs.Settings.{OptionValues}
use Rattle.hider.specs.declared.sample.Sample.{Sample}
use Rattle.hider.specs.declared.sample_grid.SampleGrid.{SampleGrid}
use Rattle.filter_ppm.specs.declared.rect.Rect.{Rect}
use Rattle.filter_ppm.specs.declared.total.Total.{Total}
use Rattle.filter_ppm.specs.Film.{FilmValues, pixel, pixels}
use Rattle.filter_ppm.specs.Levels.{levels}
use Rattle.filter_ppm.specs.Sampled.{FilmFormat, IsFormat, format_of, film_with}
use Rattle.filter_ppm.specs.Bands.{IsPartOfPicture, HoldsWindow, PutsPixels, seen_from, grid_over, entry}
use Rattle.filter_ppm.specs.Sums.{IsRect, AreMeans, as_rect, mean_of, total_at}
use Rattle.filter_ppm.proofs.Windows.{pixel_from}
use Rattle.filter_ppm.proofs.Grids.{before_pixel}

-- a part of the picture is one of the frame
pub in_frame : (f : FilmFormat) (q : PixelRect) → IsFormat f → IsPartOfPicture f q → IsCrop f.width f.height q
in_frame f q v p =
    let c = v.crop in
    let w = c.in_width in
    let h = c.in_height in
    let a = p.right in
    let b = p.bottom in
    record { across = p.across; in_width = omega (arith, w, a); down = p.down; in_height = omega (arith, h, b) }

pub rect_is : (f : FilmFormat) (q : PixelRect) → IsFormat f → IsPartOfPicture f q → IsRect (as_rect q)
rect_is f q v part =
    let p = in_frame f q v part in
    let w = v.most_width in
    let h = v.most_height in
    let a = p.in_width in
    let b = p.in_height in
    record { across = p.across; right = omega (arith, w, a); down = p.down; bottom = omega (arith, h, b) }

pub seen_is : (f : FilmFormat) (q : PixelRect) → IsFormat f → AreOptions f.options → IsPartOfPicture f q → IsSampleGrid (grid_over (seen_from f q) f.options)
seen_is f q v o part =
    let p = in_frame f q v part in
    let w = v.most_width in
    let h = v.most_height in
    let a = p.in_width in
    let b = p.in_height in
    let c = p.across in
    let d = p.down in
    record {
      across = omega (arith, a, c);
      right = omega (arith, w);
      down = omega (arith, b, d);
      bottom = omega (arith, h);
      some_xs = o.some_across;
      most_xs = o.most_across;
      some_ys = o.some_down;
      most_ys = o.most_down;
    }

holds : (f : FilmFormat) (q : PixelRect) (x y : ℕ) → q.left ≤ x → x < q.right → q.top ≤ y → y < q.bottom → HoldsWindow f (seen_from f q) x y
holds f q x y a b c d = record {
  left = omega (arith, a);
  right = omega (arith, b);
  in_width = omega arith;
  top = omega (arith, c);
  bottom = omega (arith, d);
  in_height = omega arith;
}

-- the rows of entries and sums as the code has them
abbrev IsInside : ℕ → ℕ → OptionValues → Rect → List Total → List (List ℕ) → Type 0
IsInside left right o r totals new = (x y : ℕ) → r.left ≤ x → x < r.right → r.top ≤ y → y < r.bottom → entry left right r.top new x y ≡ levels o (mean_of (total_at r totals x y))

abbrev IsBeside : ℕ → ℕ → Rect → List (List ℕ) → List (List ℕ) → Type 0
IsBeside left right r old new = (x y : ℕ) → (x < r.left) ⊎ (r.right ≤ x) → left ≤ x → x < right → r.top ≤ y → y < r.bottom → entry left right r.top new x y ≡ entry left right r.top old x y

-- what the sums of the seen samples tell of a pixel
pixel_told : (f : FilmValues) (q : PixelRect) (totals : List Total) (x y : ℕ) → IsCrop f.width f.height q →
    (let g = grid_over (seen_from (format_of f) q) f.options in AreMeans f.options f.colour g (sample_count g) (as_rect q) totals) →
    q.left ≤ x → x < q.right → q.top ≤ y → y < q.bottom → levels f.options (mean_of (total_at (as_rect q) totals x y)) ≡ pixel f x y
pixel_told f q totals x y p means a b c d =
    let g = grid_over (seen_from (format_of f) q) f.options in
    let w = p.in_width in
    let h = p.in_height in
    ap (levels f.options) (means x y a b c d)
    ∙ sym (pixel_from f (seen_from (format_of f) q) x y (holds (format_of f) q x y a b c d) (omega (arith, b, w)) (omega (arith, d, h)))

pub puts : (f : FilmValues) (q : PixelRect) (totals : List Total) (old new : List (List ℕ)) → IsCrop f.width f.height q →
    (let g = grid_over (seen_from (format_of f) q) f.options in AreMeans f.options f.colour g (sample_count g) (as_rect q) totals) →
    IsInside (crop_of f.options).left (crop_of f.options).right f.options (as_rect q) totals new → IsBeside (crop_of f.options).left (crop_of f.options).right (as_rect q) old new → PutsPixels f q old new
puts f q totals old new p means inside beside = record {
  inside = λ x y a b c d. inside x y a b c d ∙ pixel_told f q totals x y p means a b c d;
  beside = beside;
}

pub puts_as : (f : FilmFormat) (colour : Sample → Vec3) (q : PixelRect) (r : Rect) (left right : ℕ) (o k : OptionValues) (g : SampleGrid) (totals : List Total) (old new : List (List ℕ)) →
    r ≡ as_rect q → left ≡ (crop_of o).left → right ≡ (crop_of o).right → o ≡ f.options → k ≡ f.options → g ≡ grid_over (seen_from f q) f.options → IsCrop f.width f.height q → AreMeans k colour g (sample_count g) r totals →
    IsInside left right o r totals new → IsBeside left right r old new → PutsPixels (film_with f colour) q old new
puts_as f colour q r left right o k g totals old new er el ei eo ek eg p means inside beside =
    let s = grid_over (seen_from f q) f.options in
    let means1 = subst (λ (z : Rect). AreMeans k colour g (sample_count g) z totals) er means in
    let means2 = subst (λ (z : SampleGrid). AreMeans k colour z (sample_count z) (as_rect q) totals) eg means1 in
    let means3 = subst (λ (z : OptionValues). AreMeans z colour s (sample_count s) (as_rect q) totals) ek means2 in
    let inside1 = subst (λ (z : Rect). IsInside left right o z totals new) er inside in
    let inside2 = subst (λ (z : ℕ). IsInside z right o (as_rect q) totals new) el inside1 in
    let inside3 = subst (λ (z : ℕ). IsInside (crop_of o).left z o (as_rect q) totals new) ei inside2 in
    let inside4 = subst (λ (z : OptionValues). IsInside (crop_of z).left (crop_of z).right z (as_rect q) totals new) eo inside3 in
    let beside1 = subst (λ (z : Rect). IsBeside left right z old new) er beside in
    let beside2 = subst (λ (z : ℕ). IsBeside z right (as_rect q) old new) el beside1 in
    let beside3 = subst (λ (z : ℕ). IsBeside (crop_of o).left z (as_rect q) old new) ei beside2 in
    let beside4 = subst (λ (z : OptionValues). IsBeside (crop_of z).left (crop_of z).right (as_rect q) old new) eo beside3 in
    puts (film_with f colour) q totals old new p means3 inside4 beside4

-- the pixels of a rectangle by themselves
alone_entry : (f : FilmValues) (q : PixelRect) (totals : List Total) (new : List (List ℕ)) (p : ℕ) → IsCrop f.width f.height q →
    (let g = grid_over (seen_from (format_of f) q) f.options in AreMeans f.options f.colour g (sample_count g) (as_rect q) totals) →
    IsInside q.left q.right f.options (as_rect q) totals new → p < pixel_count q → get_or new p [] ≡ pixel f (pixel_x q p) (pixel_y q p)
alone_entry f q totals new p crop means inside h =
    let w = q.right - q.left in
    let high = q.bottom - q.top in
    let wide = crop.across in
    let some : 0 < w = omega (arith, wide) in
    let turned : w * high ≡ high * w = mul_comm w high in
    let row : p / w < high = before_pixel p w high some (omega (arith, h, turned)) in
    let column : p % w < w = mod-lt p some in
    let parts : (p / w) * w + p % w ≡ p = omega arith in
    let down : q.top + p / w - q.top ≡ p / w = omega arith in
    let across : q.left + p % w - q.left ≡ p % w = omega arith in
    let place : (q.top + p / w - q.top) * w + (q.left + p % w - q.left) ≡ p = ap (λ n. n * w + (q.left + p % w - q.left)) down ∙ ap (λ n. (p / w) * w + n) across ∙ parts in
    let a : q.left ≤ q.left + p % w = omega arith in
    let b : q.left + p % w < q.right = omega (arith, column) in
    let c : q.top ≤ q.top + p / w = omega arith in
    let d : q.top + p / w < q.bottom = omega (arith, row) in
    ap (λ n. get_or new n []) (sym place) ∙ inside (q.left + p % w) (q.top + p / w) a b c d ∙ pixel_told f q totals (q.left + p % w) (q.top + p / w) crop means a b c d

alone : (f : FilmValues) (q : PixelRect) (totals : List Total) (new : List (List ℕ)) → IsCrop f.width f.height q →
    (let g = grid_over (seen_from (format_of f) q) f.options in AreMeans f.options f.colour g (sample_count g) (as_rect q) totals) →
    IsInside q.left q.right f.options (as_rect q) totals new → length new ≡ (q.bottom - q.top) * (q.right - q.left) → new ≡ pixels f q
alone f q totals new crop means inside long =
    fill_by_all _ new (pixel_count q) [] (long ∙ mul_comm (q.bottom - q.top) (q.right - q.left)) (λ k h. alone_entry f q totals new k crop means inside h)

pub alone_as : (f : FilmFormat) (colour : Sample → Vec3) (q : PixelRect) (r : Rect) (o k : OptionValues) (g : SampleGrid) (totals : List Total) (new : List (List ℕ)) →
    r ≡ as_rect q → o ≡ f.options → k ≡ f.options → g ≡ grid_over (seen_from f q) f.options → IsCrop f.width f.height q → AreMeans k colour g (sample_count g) r totals →
    IsInside r.left r.right o r totals new → length new ≡ (r.bottom - r.top) * (r.right - r.left) → new ≡ pixels (film_with f colour) q
alone_as f colour q r o k g totals new er eo ek eg p means inside long =
    let s = grid_over (seen_from f q) f.options in
    let means1 = subst (λ (z : Rect). AreMeans k colour g (sample_count g) z totals) er means in
    let means2 = subst (λ (z : SampleGrid). AreMeans k colour z (sample_count z) (as_rect q) totals) eg means1 in
    let means3 = subst (λ (z : OptionValues). AreMeans z colour s (sample_count s) (as_rect q) totals) ek means2 in
    let inside1 = subst (λ (z : Rect). IsInside z.left z.right o z totals new) er inside in
    let inside2 = subst (λ (z : OptionValues). IsInside q.left q.right z (as_rect q) totals new) eo inside1 in
    let long1 = subst (λ (z : Rect). length new ≡ (z.bottom - z.top) * (z.right - z.left)) er long in
    alone (film_with f colour) q totals new p means3 inside2 long1

-- what a slice is put back as
pub take_front : {A : Type 0} (n : ℕ) (xs ys : List A) → length xs ≡ n → take n (xs ++ ys) ≡ xs
take_front zero [] ys h = refl
take_front zero (x ∷ xs) ys h = absurd (omega (arith, h))
take_front (suc n) [] ys h = absurd (omega (arith, h))
take_front (suc n) (x ∷ xs) ys h = ap (λ l. x ∷ l) (take_front n xs ys (omega (arith, h)))
