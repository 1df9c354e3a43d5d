-- Black samples have a black mean.
use Rattle.std.proofs.Common.{◌≡◌, ◌∙◌, ap, sym, refl, arith, ℕ, zero, suc, ◌+◌, ◌*◌, ◌<◌, ◌/◌, List, map, get_or}
use Rattle.std.specs.Prelude.{ℤ, pos, negsuc, ◌*ℤ◌}
use Rattle.std.specs.List.{range_with_len}
use Rattle.std.proofs.lemmas.Int.{ints}
use Rattle.std.proofs.lemmas.Nat.{div-mul-add}
use Rattle.fixed_math.specs.Axes.{origin}
use Rattle.fixed_math.specs.declared.vec3.Vec3.{Vec3}
use Rattle.scene.specs.Settings.{OptionValues}
use Rattle.hider.specs.declared.sample.Sample.{Sample}
use Rattle.hider.specs.declared.sample_grid.SampleGrid.{SampleGrid}
use Rattle.hider.specs.Tiles.{sample_of, sample_count}
use Rattle.filter_ppm.specs.declared.rect.Rect.{Rect}
use Rattle.filter_ppm.specs.declared.total.Total.{Total}
use Rattle.filter_ppm.specs.Mean.{sum_of, mean_part, weighted_mean}
use Rattle.filter_ppm.specs.Sums.{none, mean_of, AreMeans}
use Rattle.filter_ppm.specs.Weight.{weight_at}
use Rattle.filter_ppm.proofs.SumsBelow.{below_none, sum_of_range}

none_over : (n : ℕ) → 0 / suc n ≡ 0
none_over n =
    let e : 0 * suc n + 0 ≡ 0 = omega arith in
    ap (λ m. m / suc n) (sym e) ∙ div-mul-add 0 (suc n) 0 (omega arith)

-- nothing over any weight
mean_none : (w : ℤ) → mean_part (pos 0) w ≡ pos 0
mean_none (pos zero) = refl
mean_none (pos (suc n)) = ap pos (none_over n)
mean_none (negsuc n) = ap pos (none_over n)

none_weighed : (w v : ℤ) → v ≡ pos 0 → w *ℤ v ≡ pos 0
none_weighed w v e = rw e (omega (arith, ints))

black_mean : (w : Sample → ℤ) (colour : Sample → Vec3) (h : ℕ → Sample) (n : ℕ) → ((i : ℕ) → i < n → colour (h i) ≡ origin) → weighted_mean w colour (map h (range_with_len 0 n)) ≡ origin
unfolding weighted_mean
black_mean w colour h n black =
    let x = sum_of_range (λ s. w s *ℤ (colour s).x) h n ∙ below_none (λ i. w (h i) *ℤ (colour (h i)).x) n (λ i l. none_weighed (w (h i)) _ (ap (λ (v : Vec3). v.x) (black i l))) in
    let y = sum_of_range (λ s. w s *ℤ (colour s).y) h n ∙ below_none (λ i. w (h i) *ℤ (colour (h i)).y) n (λ i l. none_weighed (w (h i)) _ (ap (λ (v : Vec3). v.y) (black i l))) in
    let z = sum_of_range (λ s. w s *ℤ (colour s).z) h n ∙ below_none (λ i. w (h i) *ℤ (colour (h i)).z) n (λ i l. none_weighed (w (h i)) _ (ap (λ (v : Vec3). v.z) (black i l))) in
    let m = mean_none (sum_of w (map h (range_with_len 0 n))) in
    rw (x, y, z, m) refl

-- sums over nothing have that mean
pub black_means : (o : OptionValues) (colour : Sample → Vec3) (g : SampleGrid) (r : Rect) (totals : List Total) → ((p : ℕ) → get_or totals p none ≡ none) → ((i : ℕ) → i < sample_count g → colour (sample_of g i) ≡ origin) →
    AreMeans o colour g (sample_count g) r totals
black_means o colour g r totals empty black = λ x y a b c d.
    ap mean_of (empty _) ∙ sym (black_mean (λ s. weight_at o x y s.place) colour (sample_of g) (sample_count g) black)
