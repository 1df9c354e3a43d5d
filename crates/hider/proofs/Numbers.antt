-- Samples by the numbers of their pixels.
use Rattle.std.proofs.Common.{◌≡◌, ℕ, ◌+◌, ◌-◌, ◌*◌, ◌<◌, ◌≤◌, ap, arith, refl, ◌∙◌, List, length, slice_index_or}
use Rattle.std.proofs.lemmas.Nat.{div-mul-add, mod-mul-add}
use Rattle.std.proofs.Math.Nat.{mul-le-mul_right}
use Rattle.fixed_math.specs.Spots.{pixel_count, pixel_x, pixel_y}
use Rattle.sample_pattern.specs.Pattern.{time}
use Rattle.hider.specs.declared.sample.Sample.{Sample}
use Rattle.hider.specs.declared.sample_grid.SampleGrid.{SampleGrid}
use Rattle.hider.specs.Samples.{sample_at, sample_in}
use Rattle.hider.specs.Tiles.{rect_of, sample_count, sample_of}
use Rattle.hider.proofs.Rows.{by_lt}

-- the sample of cell c of a pixel
numbered : (g : SampleGrid) (p c n : ℕ) → c < g.xs * g.ys → n ≡ p * (g.xs * g.ys) + c → sample_of g n ≡ sample_at g.xs g.ys (pixel_x (rect_of g) p) (pixel_y (rect_of g) p) c
unfolding sample_in
numbered g p c n h e =
    let d = div-mul-add p (g.xs * g.ys) c h in
    let m = mod-mul-add p (g.xs * g.ys) c h in
    rw (e, d, m) refl

-- there is room for those of a pixel more
pub room_more : (g : SampleGrid) (p l room : ℕ) → p < pixel_count (rect_of g) → l ≡ p * (g.xs * g.ys) → sample_count g ≤ room → l + g.xs * g.ys ≤ room
room_more g p l room h e r =
    let m : (p + 1) * (g.xs * g.ys) ≤ pixel_count (rect_of g) * (g.xs * g.ys) = mul-le-mul_right (g.xs * g.ys) (omega (arith, h)) in
    let s : (p + 1) * (g.xs * g.ys) ≡ p * (g.xs * g.ys) + g.xs * g.ys = omega arith in
    omega (arith, m, s, e, r)

-- what is known of the samples of the first pixels and of those of the next, of each the same
pub more_pixels : {A : Type 0} (of : Sample → A) (g : SampleGrid) (p : ℕ) (old new : List A) → length old ≡ p * (g.xs * g.ys) →
    ((m : ℕ) (d : A) → m < p * (g.xs * g.ys) → slice_index_or old m d ≡ of (sample_of g m)) →
    ((m : ℕ) (d : A) → m < length old → slice_index_or new m d ≡ slice_index_or old m d) →
    ((c : ℕ) (d : A) → c < g.xs * g.ys → slice_index_or new (length old + c) d ≡ of (sample_at g.xs g.ys (pixel_x (rect_of g) p) (pixel_y (rect_of g) p) c)) →
    (m : ℕ) (d : A) → m < (p + 1) * (g.xs * g.ys) → slice_index_or new m d ≡ of (sample_of g m)
more_pixels of g p old new l e kept each m d h =
    let k = g.xs * g.ys in
    let s : (p + 1) * k ≡ p * k + k = omega arith in
    by_lt m (p * k)
    (λ below. kept m d (omega (arith, below, l)) ∙ e m d below)
    (λ from.
    let c = m - p * k in
    let small : c < k = omega (arith, from, h, s) in
    let is : m ≡ p * k + c = omega (arith, from) in
    let at : m ≡ length old + c = omega (arith, from, l) in
    let n = numbered g p c m small is in
    rw n (ap (λ i. slice_index_or new i d) at ∙ each c d small))

pub time_at : (xs ys x y c : ℕ) → (sample_at xs ys x y c).time ≡ time x y c
unfolding sample_at
time_at xs ys x y c = refl
