-- The mean about a pixel is that over the samples of any rectangle that holds the pixel's window.
use Rattle.std.proofs.Common.{◌≡◌, ℕ, ◌+◌, ◌-◌, ◌*◌, ◌<◌, ◌≤◌, arith, refl, sym, ◌∙◌, ap, inl, inr}
use Rattle.std.specs.Prelude.{ℤ, pos, ◌*ℤ◌, ◌⊎◌}
use Rattle.std.proofs.lemmas.Int.{ints}
use Rattle.std.proofs.Math.Nat.{mul_comm}
use Rattle.fixed_math.specs.Spots.{PixelRect, pixel_x, pixel_y, pixel_count, whole_frame}
use Rattle.hider.specs.declared.sample.Sample.{Sample}
use Rattle.hider.specs.Samples.{sample_at, sample_in, samples_in}
use Rattle.hider.proofs.Pixels.{sample_inside}
use Rattle.filter_ppm.specs.Weight.{weight_at}
use Rattle.filter_ppm.specs.Mean.{sum_of, weighted_mean}
use Rattle.filter_ppm.specs.Film.{FilmValues, samples, pixel}
use Rattle.filter_ppm.specs.Levels.{levels}
use Rattle.filter_ppm.specs.Sampled.{format_of, per_pixel}
use Rattle.filter_ppm.specs.Bands.{HoldsWindow}
use Rattle.filter_ppm.proofs.Filters.{far_left, far_right, no_weight_x, no_weight_y}
use Rattle.filter_ppm.proofs.Grids.{IsAt, row_of}
use Rattle.filter_ppm.proofs.SumsBelow.{sum_below, below_same, below_none, below_between, below_times, sum_of_range}

-- the sum over the samples of the pixel x, y
abbrev over_pixel : (Sample → ℤ) → ℕ → ℕ → ℕ → ℕ → ℤ
over_pixel g xs ys x y = sum_below (λ c. g (sample_at xs ys x y c)) (xs * ys)

-- number c of run p, of runs of k
at_part : (p k c : ℕ) → c < k → IsAt (p * k + c) k p c
at_part p k c h =
    let i = row_of (p * k + c) k p (omega arith) (omega arith) (omega arith) in
    let a = i.in_column in
    record { in_row = i.in_row; in_column = omega (arith, a) }

sample_part : (xs ys : ℕ) (r : PixelRect) (p c : ℕ) → c < xs * ys → sample_in xs ys r (p * (xs * ys) + c) ≡ sample_at xs ys (pixel_x r p) (pixel_y r p) c
unfolding sample_in
sample_part xs ys r p c h =
    let i = at_part p (xs * ys) c h in
    rw (i.in_row, i.in_column) refl

pixel_part : (g : ℕ → ℕ → ℤ) (r : PixelRect) (j i : ℕ) → i < r.right - r.left →
    g (pixel_x r (j * (r.right - r.left) + i)) (pixel_y r (j * (r.right - r.left) + i)) ≡ g (r.left + i) (r.top + j)
pixel_part g r j i h =
    let e = at_part j (r.right - r.left) i h in
    rw (e.in_row, e.in_column) refl

-- the sum over the samples of a rectangle, pixel by pixel in rows
rows_sum : (g : Sample → ℤ) (xs ys : ℕ) (r : PixelRect) →
    sum_of g (samples_in xs ys r) ≡ sum_below (λ j. sum_below (λ i. over_pixel g xs ys (r.left + i) (r.top + j)) (r.right - r.left)) (r.bottom - r.top)
rows_sum g xs ys r =
    let k = xs * ys in
    let w = r.right - r.left in
    let h = r.bottom - r.top in
    let at : ℕ → ℤ = λ p. over_pixel g xs ys (pixel_x r p) (pixel_y r p) in
    sum_of_range g (sample_in xs ys r) (pixel_count r * k)
    ∙ below_times (λ n. g (sample_in xs ys r n)) (pixel_count r) k
    ∙ below_same _ at (pixel_count r) (λ p l. below_same _ _ k (λ c m. ap g (sample_part xs ys r p c m)))
    ∙ ap (sum_below at) (mul_comm w h)
    ∙ below_times at h w
    ∙ below_same _ _ h (λ j l. below_same _ _ w (λ i m. pixel_part (over_pixel g xs ys) r j i m))

-- numbers of pixels that are 0 outside a rectangle
abbrev Vanishes : (ℕ → ℕ → ℤ) → ℕ → ℕ → PixelRect → Type 0
Vanishes g w h r = (x y : ℕ) → x < w → y < h → (x < r.left) ⊎ (r.right ≤ x) ⊎ (y < r.top) ⊎ (r.bottom ≤ y) → g x y ≡ pos 0

part_sum : (g : ℕ → ℕ → ℤ) (w h : ℕ) (r : PixelRect) → r.left ≤ r.right → r.right ≤ w → r.top ≤ r.bottom → r.bottom ≤ h → Vanishes g w h r →
    sum_below (λ y. sum_below (λ x. g x y) w) h ≡ sum_below (λ j. sum_below (λ i. g (r.left + i) (r.top + j)) (r.right - r.left)) (r.bottom - r.top)
part_sum g w h r across in_width down in_height v =
    below_between (λ y. sum_below (λ x. g x y) w) r.top r.bottom h down in_height
    (λ y l o. below_none (λ x. g x y) w (λ x m. v x y m l (elim o [ inl a ↦ inr (inr (inl a)) | inr b ↦ inr (inr (inr b)) ])))
    ∙ below_same _ _ (r.bottom - r.top)
    (λ j l. below_between (λ x. g x (r.top + j)) r.left r.right w across in_width
    (λ x m o. v x (r.top + j) m (omega arith) (elim o [ inl a ↦ inl a | inr b ↦ inr (inl b) ])))

whole_rows : (g : ℕ → ℕ → ℤ) (w h : ℕ) → sum_below (λ j. sum_below (λ i. g (0 + i) (0 + j)) (w - 0)) (h - 0) ≡ sum_below (λ y. sum_below (λ x. g x y) w) h
whole_rows g w h =
    let a : w - 0 ≡ w = omega arith in
    let b : h - 0 ≡ h = omega arith in
    let z : (n : ℕ) → 0 + n ≡ n = λ n. omega arith in
    rw (a, b) (below_same _ _ h (λ j l. below_same _ _ w (λ i m. ap (λ x. g x (0 + j)) (z i) ∙ ap (g i) (z j))))

-- a number of samples that is 0 outside the rectangle
abbrev Ignores : (Sample → ℤ) → FilmValues → PixelRect → Type 0
Ignores g f r = Vanishes (over_pixel g f.options.xs f.options.ys) f.width f.height r

sums_same : (g : Sample → ℤ) (f : FilmValues) (r : PixelRect) → r.left ≤ r.right → r.right ≤ f.width → r.top ≤ r.bottom → r.bottom ≤ f.height → Ignores g f r →
    sum_of g (samples_in f.options.xs f.options.ys r) ≡ sum_of g (samples f)
sums_same g f r across in_width down in_height v =
    rows_sum g f.options.xs f.options.ys r
    ∙ sym (part_sum (over_pixel g f.options.xs f.options.ys) f.width f.height r across in_width down in_height v)
    ∙ sym (whole_rows (over_pixel g f.options.xs f.options.ys) f.width f.height)
    ∙ sym (rows_sum g f.options.xs f.options.ys (whole_frame f.width f.height))

-- a sample of a pixel outside the window has no weight
outside : (f : FilmValues) (r : PixelRect) (x y px py c : ℕ) → HoldsWindow (format_of f) r x y → c < per_pixel f.options → px < f.width → py < f.height →
    (px < r.left) ⊎ (r.right ≤ px) ⊎ (py < r.top) ⊎ (r.bottom ≤ py) → weight_at f.options x y (sample_at f.options.xs f.options.ys px py c).place ≡ pos 0
unfolding weight_at
outside f r x y px py c w h a b (inl o) =
    let i = sample_inside f.options.xs f.options.ys px py c h in
    let l = w.left in
    no_weight_x f.options _ _ (far_left f.options.wx px x _ i.right (omega (arith, o, l)))
outside f r x y px py c w h a b (inr (inl o)) =
    let i = sample_inside f.options.xs f.options.ys px py c h in
    let l = w.right in
    no_weight_x f.options _ _ (far_right f.options.wx px x _ i.left (omega (arith, o, l, a)))
outside f r x y px py c w h a b (inr (inr (inl o))) =
    let i = sample_inside f.options.xs f.options.ys px py c h in
    let l = w.top in
    no_weight_y f.options _ _ (far_left f.options.wy py y _ i.bottom (omega (arith, o, l)))
outside f r x y px py c w h a b (inr (inr (inr o))) =
    let i = sample_inside f.options.xs f.options.ys px py c h in
    let l = w.bottom in
    no_weight_y f.options _ _ (far_right f.options.wy py y _ i.top (omega (arith, o, l, b)))

times_nothing : (w z : ℤ) → w ≡ pos 0 → w *ℤ z ≡ pos 0
times_nothing w z e = let p : pos 0 *ℤ z ≡ pos 0 = omega (arith, ints) in ap (λ v. v *ℤ z) e ∙ p

ignored : (f : FilmValues) (r : PixelRect) (x y : ℕ) (c : Sample → ℤ) → HoldsWindow (format_of f) r x y → Ignores (λ s. weight_at f.options x y s.place *ℤ c s) f r
ignored f r x y c w = λ px py a b o. below_none _ (per_pixel f.options) (λ k h. times_nothing _ _ (outside f r x y px py k w h a b o))

-- the law: a rectangle of samples that holds the window tells the mean about the pixel
pub mean_from : (f : FilmValues) (r : PixelRect) (x y : ℕ) → HoldsWindow (format_of f) r x y → x < f.width → y < f.height →
    weighted_mean (λ s. weight_at f.options x y s.place) f.colour (samples_in f.options.xs f.options.ys r) ≡ weighted_mean (λ s. weight_at f.options x y s.place) f.colour (samples f)
unfolding weighted_mean
mean_from f r x y w hx hy =
    let l = w.left in
    let u = w.right in
    let t = w.top in
    let b = w.bottom in
    let across : r.left ≤ r.right = omega (arith, l, u, hx) in
    let down : r.top ≤ r.bottom = omega (arith, t, b, hy) in
    let same : (c : Sample → ℤ) → sum_of (λ s. weight_at f.options x y s.place *ℤ c s) (samples_in f.options.xs f.options.ys r) ≡ sum_of (λ s. weight_at f.options x y s.place *ℤ c s) (samples f)
    = λ c. sums_same _ f r across w.in_width down w.in_height (ignored f r x y c w) in
    let weights = sums_same (λ s. weight_at f.options x y s.place) f r across w.in_width down w.in_height
    (λ px py a e o. below_none _ (per_pixel f.options) (λ k h. outside f r x y px py k w h a e o)) in
    rw (weights, same (λ s. (f.colour s).x), same (λ s. (f.colour s).y), same (λ s. (f.colour s).z)) refl

-- and so the pixel
pub pixel_from : (f : FilmValues) (r : PixelRect) (x y : ℕ) → HoldsWindow (format_of f) r x y → x < f.width → y < f.height →
    pixel f x y ≡ levels f.options (weighted_mean (λ s. weight_at f.options x y s.place) f.colour (samples_in f.options.xs f.options.ys r))
unfolding pixel
pixel_from f r x y w hx hy = ap (levels f.options) (sym (mean_from f r x y w hx hy))
