-- Samples that have all that a frame shows, and the account that they make.
use Rattle.std.proofs.Common.{◌≡◌, ℕ, zero, suc, ◌+◌, ◌*◌, ◌<◌, ◌≤◌, arith, refl, sym, ◌∙◌, ap, subst, true, false, List, [], ◌∷◌, length, map, get_or, append-nil}
use Rattle.std.specs.Prelude.{ℤ, pos, ◌≤ℤ◌, ◌+ℤ◌, ◌*ℤ◌, ◌-ℤ◌, All}
use Rattle.std.specs.Ordering.{int_eq}
use Rattle.std.proofs.lemmas.Int.{ints}
use Rattle.std.proofs.lemmas.Bool.Decides.{Decides-int_eq}
use Rattle.std.proofs.lemmas.List.{length-map, get_or-map, ext_get_or}
use Rattle.std.proofs.lemmas.List.Elements.{All-nil}
use Rattle.fixed_math.specs.declared.vec3.Vec3.{Vec3}
use Rattle.fixed_math.specs.Spots.{Spot, PixelRect}
use Rattle.scene.specs.Scene.{FrameValue}
use Rattle.scene.specs.Settings.{OptionValues, AreOptions}
use Rattle.shader_binding.specs.Sets.{AcceptedValue}
use Rattle.hider.specs.declared.sample.Sample.{Sample}
use Rattle.hider.specs.Cells.{Micropolygon}
use Rattle.hider.specs.Fragments.{covering, by_depth}
use Rattle.hider.specs.Kept.{keep_all}
use Rattle.hider.specs.Samples.{samples_in}
use Rattle.hider.proofs.Cuts.{by_bool}
use Rattle.hider.proofs.Keeps.{keep_all-cut}
use Rattle.filter_ppm.specs.Weight.{counts, weight_at}
use Rattle.filter_ppm.specs.Mean.{sum_of, weighted_mean}
use Rattle.filter_ppm.specs.Sums.{mean_of}
use Rattle.filter_ppm.specs.Levels.{exposed, levels, limited, band, pixel_bytes}
use Rattle.filter_ppm.specs.Film.{samples, pixel}
use Rattle.filter_ppm.specs.Sampled.{format_of}
use Rattle.filter_ppm.specs.Bands.{HoldsWindow}
use Rattle.filter_ppm.proofs.Filters.{no_weight_x, no_weight_y}
use Rattle.filter_ppm.proofs.Joins.{weight_low}
use Rattle.filter_ppm.proofs.Windows.{mean_from}
use Rattle.filter_ppm.proofs.Within.{limited_below}
use Rattle.buckets.specs.Pictures.{micropolygons, film_of}
use Rattle.pixel_record.specs.declared.sample.SampleAccount.{SampleAccount}
use Rattle.pixel_record.specs.declared.pixel.PixelAccount.{PixelAccount}
use Rattle.pixel_account.specs.declared.stacks.Stack.{Stack}
use Rattle.pixel_account.specs.Account.{brightened, window, weight_for, counts_for, counting_in, counting, shown_at, IsSample, IsFrameAccount, AreSums, IsAccount}
use Rattle.pixel_account.specs.Toning.{AreTonesOf}
use Rattle.pixel_account.specs.Summing.{as_total, IsSumOf}
use Rattle.pixel_account.specs.Traces.{fragments_in, IsTrace}
use Rattle.pixel_account.specs.Stacks.{PutIn, PutInAll, IsEmptyFor, IsDone}
use Rattle.pixel_account.proofs.Summed.{sum_map, sum_filter}

-- ---- samples
done_of : (a : AcceptedValue) (f : FrameValue) (x y : ℕ) (k l : Stack) → PutIn a f (micropolygons a f) k l → IsEmptyFor f.options x y k → IsDone a f x y l
unfolding shown_at by_depth
done_of a f x y k l p e = record {
  weight = p.weight ∙ e.weight ∙ ap (λ (s : Sample). weight_for f.options x y s) (sym p.sample);
  shown = p.shown ∙ ap (λ ts. keep_all (fragments_in ts) (covering f.camera (micropolygons a f) k.sample)) e.traces
      ∙ keep_all-cut (covering f.camera (micropolygons a f) k.sample) []
      ∙ ap (λ (s : Sample). shown_at a f s) (sym p.sample);
  each = subst (λ (s : Sample). All (IsTrace a f s) l.traces) (sym p.sample) (p.each (subst (All (IsTrace a f k.sample)) (sym e.traces) (All-nil (IsTrace a f k.sample))));
}

pub done_all : (a : AcceptedValue) (f : FrameValue) (x y : ℕ) (ks ls : List Stack) → PutInAll a f (micropolygons a f) ks ls → All (IsEmptyFor f.options x y) ks → All (IsDone a f x y) ls
done_all a f x y ks ls put empty = λ k d lt.
    let long = put.long in
    let low : k < length ks = omega (arith, lt, long) in
    done_of a f x y (get_or ks k d) (get_or ls k d) (put.each k d low) (empty k d low)

some_sample : Sample
some_sample = record { place = record { x = pos 0; y = pos 0 }; time = 0 }

some_stack : Stack
some_stack = record { sample = some_sample; weight = pos 0; traces = [] }

pub samples_stay : (a : AcceptedValue) (f : FrameValue) (ns : List Micropolygon) (ks ls : List Stack) → PutInAll a f ns ks ls → map (λ k. k.sample) ls ≡ map (λ k. k.sample) ks
samples_stay a f ns ks ls put =
    let s : Stack → Sample = λ k. k.sample in
    let long = put.long in
    let l1 = length-map ls s in
    let l2 = length-map ks s in
    ext_get_or some_sample (map s ls) (map s ks) (omega (arith, long, l1, l2))
    (λ i lt.
    let low : i < length ls = omega (arith, lt, l1) in
    let old : i < length ks = omega (arith, low, long) in
    get_or-map s ls i some_stack some_sample low ∙ (put.each i some_stack old).sample ∙ sym (get_or-map s ks i some_stack some_sample old))

-- ---- weights
low_weight : (o : OptionValues) (x y : ℕ) (s : Spot) → AreOptions o → pos 0 ≤ℤ weight_at o x y s
unfolding weight_at
low_weight o x y s h =
    let dx = s.x -ℤ pos (256 * x + 128) in
    let dy = s.y -ℤ pos (256 * y + 128) in
    let zero : pos 0 ≤ℤ pos 0 = omega (arith, ints) in
    by_bool (counts o.wx dx)
    (λ t. by_bool (counts o.wy dy) (λ u. weight_low o x y s h.some_width h.some_height t u) (λ u. subst (λ z. pos 0 ≤ℤ z) (sym (no_weight_y o dx dy u)) zero))
    (λ t. subst (λ z. pos 0 ≤ℤ z) (sym (no_weight_x o dx dy t)) zero)

pub low_weights : (a : AcceptedValue) (f : FrameValue) (x y : ℕ) (ss : List SampleAccount) → AreOptions f.options → All (IsSample a f x y) ss → All (λ s. pos 0 ≤ℤ s.weight) ss
low_weights a f x y ss h each = λ k d lt. subst (λ z. pos 0 ≤ℤ z) (sym (each k d lt).weight) (low_weight f.options x y (get_or ss k d).sample.place h)

-- ---- numbers of the picture
all_three : (P : ℕ → Type 0) (a b c : ℕ) → P a → P b → P c → All P (a ∷ b ∷ c ∷ [])
all_three P a b c x y z zero d lt = x
all_three P a b c x y z (suc zero) d lt = y
all_three P a b c x y z (suc (suc zero)) d lt = z
all_three P a b c x y z (suc (suc (suc k))) d lt = absurd (omega arith)

levels_within : (o : OptionValues) (m : Vec3) → AreOptions o → All (λ v. v ≤ o.one) (levels o m)
unfolding levels
levels_within o m h =
    let below : (n : ℤ) → limited o.min o.max n ≤ o.one = λ n. omega (arith, limited_below o.min o.max n h.order, h.within) in
    all_three (λ v. v ≤ o.one) _ _ _ (below _) (below _) (below _)

only : {A : Type 0} (P : A → Type 0) (x : A) → P x → All P (x ∷ [])
only P x h zero d lt = h
only P x h (suc k) d lt = absurd (omega arith)

pub tones_within : (o : OptionValues) (m : Vec3) (l : List ℕ) → AreOptions o → l ≡ levels o m → All (λ p. All (λ v. v ≤ o.one) p) (l ∷ [])
tones_within o m l h is = only (λ p. All (λ v. v ≤ o.one) p) l (subst (All (λ v. v ≤ o.one)) (sym is) (levels_within o m h))

-- ---- sums
sum_each : {A : Type 0} (g h : A → ℤ) (xs : List A) → All (λ x. g x ≡ h x) xs → sum_of g xs ≡ sum_of h xs
sum_each g h [] e = refl
sum_each g h (x ∷ xs) e = ap (λ z. z +ℤ sum_of g xs) (e 0 x (omega arith)) ∙ ap (λ z. h x +ℤ z) (sum_each g h xs (λ k d lt. e (suc k) d (omega (arith, lt))))

-- a number of the accounts of samples that is one of their samples
sum_told : (f : FrameValue) (x y : ℕ) (ss : List SampleAccount) (g : SampleAccount → ℤ) (h : Sample → ℤ) → map (λ s. s.sample) ss ≡ counting f x y → All (λ s. g s ≡ h s.sample) ss → sum_of g ss ≡ sum_of h (counting f x y)
sum_told f x y ss g h is each = sum_each g (λ s. h s.sample) ss each ∙ sym (sum_map h (λ s. s.sample) ss) ∙ ap (sum_of h) is

sums_told : (a : AcceptedValue) (f : FrameValue) (x y : ℕ) (r : PixelAccount) → map (λ s. s.sample) r.samples ≡ counting f x y → All (IsSample a f x y) r.samples → IsSumOf r.samples (as_total r.sums) → AreSums a f x y r.sums
sums_told a f x y r is each sum =
    let c = (film_of a f).colour in
    let w = weight_for f.options x y in
    record {
      weight = sum.weight ∙ sum_told f x y r.samples (λ s. s.weight) w is (λ k d lt. (each k d lt).weight);
      red = sum.x ∙ sum_told f x y r.samples (λ s. s.weight *ℤ s.colour.x) (λ s. w s *ℤ (c s).x) is (λ k d lt. let e = each k d lt in ap (λ z. z *ℤ (get_or r.samples k d).colour.x) e.weight ∙ ap (λ (v : Vec3). w (get_or r.samples k d).sample *ℤ v.x) e.colour);
      green = sum.y ∙ sum_told f x y r.samples (λ s. s.weight *ℤ s.colour.y) (λ s. w s *ℤ (c s).y) is (λ k d lt. let e = each k d lt in ap (λ z. z *ℤ (get_or r.samples k d).colour.y) e.weight ∙ ap (λ (v : Vec3). w (get_or r.samples k d).sample *ℤ v.y) e.colour);
      blue = sum.z ∙ sum_told f x y r.samples (λ s. s.weight *ℤ s.colour.z) (λ s. w s *ℤ (c s).z) is (λ k d lt. let e = each k d lt in ap (λ z. z *ℤ (get_or r.samples k d).colour.z) e.weight ∙ ap (λ (v : Vec3). w (get_or r.samples k d).sample *ℤ v.z) e.colour);
    }

-- ---- the mean
no_weight : (o : OptionValues) (x y : ℕ) (s : Sample) → counts_for o x y s ≡ false → weight_for o x y s ≡ pos 0
unfolding counts_for
no_weight o x y s e =
    by_bool (int_eq (weight_for o x y s) (pos 0))
    (λ t. (Decides-int_eq (weight_for o x y s) (pos 0)).0 t)
    (λ n. absurd (let k : true ≡ false = rw n at e in cc))

times_none : (w z : ℤ) → w ≡ pos 0 → w *ℤ z ≡ pos 0
times_none w z e = let p : pos 0 *ℤ z ≡ pos 0 = omega (arith, ints) in ap (λ v. v *ℤ z) e ∙ p

left_out_none : (o : OptionValues) (r : PixelRect) (x y : ℕ) (g : Sample → ℤ) → sum_of (λ s. weight_for o x y s *ℤ g s) (counting_in o r x y) ≡ sum_of (λ s. weight_for o x y s *ℤ g s) (samples_in o.xs o.ys r)
unfolding counting_in
left_out_none o r x y g = sum_filter (λ s. weight_for o x y s *ℤ g s) (counts_for o x y) (samples_in o.xs o.ys r) (λ s e. times_none _ _ (no_weight o x y s e))

weights_same : (o : OptionValues) (r : PixelRect) (x y : ℕ) → sum_of (weight_for o x y) (counting_in o r x y) ≡ sum_of (weight_for o x y) (samples_in o.xs o.ys r)
unfolding counting_in
weights_same o r x y = sum_filter (weight_for o x y) (counts_for o x y) (samples_in o.xs o.ys r) (λ s e. no_weight o x y s e)

holds : (a : AcceptedValue) (f : FrameValue) (x y : ℕ) → HoldsWindow (format_of (film_of a f)) (window f x y) x y
holds a f x y = record { left = omega arith; right = omega arith; in_width = omega arith; top = omega arith; bottom = omega arith; in_height = omega arith }

mean_in : (a : AcceptedValue) (f : FrameValue) (x y : ℕ) (r : PixelAccount) → AreSums a f x y r.sums
    → mean_of (as_total r.sums) ≡ weighted_mean (weight_for f.options x y) (film_of a f).colour (samples_in f.options.xs f.options.ys (window f x y))
unfolding weighted_mean
mean_in a f x y r sums =
    let o = f.options in
    let c = (film_of a f).colour in
    let w = sums.weight ∙ weights_same o (window f x y) x y in
    let rx = sums.red ∙ left_out_none o (window f x y) x y (λ s. (c s).x) in
    let ry = sums.green ∙ left_out_none o (window f x y) x y (λ s. (c s).y) in
    let rz = sums.blue ∙ left_out_none o (window f x y) x y (λ s. (c s).z) in
    rw (w, rx, ry, rz) refl

mean_told : (a : AcceptedValue) (f : FrameValue) (x y : ℕ) (r : PixelAccount) → AreSums a f x y r.sums → x < f.camera.width → y < f.camera.height
    → mean_of (as_total r.sums) ≡ weighted_mean (weight_for f.options x y) (film_of a f).colour (samples (film_of a f))
mean_told a f x y r sums hx hy = mean_in a f x y r sums ∙ mean_from (film_of a f) (window f x y) x y (holds a f x y) hx hy

one_band : (one : ℕ) (l : List ℕ) → band one (l ∷ []) ≡ pixel_bytes one l
one_band one l = append-nil (pixel_bytes one l)

pub is_account : (a : AcceptedValue) (f : FrameValue) (n x y : ℕ) (r : PixelAccount) → IsFrameAccount f n r.frame → r.x ≡ x → r.y ≡ y → map (λ s. s.sample) r.samples ≡ counting f x y → All (IsSample a f x y) r.samples
    → IsSumOf r.samples (as_total r.sums) → AreTonesOf f.options (mean_of (as_total r.sums)) r.tones → r.bytes ≡ band f.options.one (r.tones.levels ∷ []) → x < f.camera.width → y < f.camera.height → IsAccount a f n x y r
unfolding pixel
is_account a f n x y r frame column row is each sum tones bytes hx hy =
    let sums = sums_told a f x y r is each sum in
    let mean = mean_told a f x y r sums hx hy in
    let same : r.tones.mean ≡ mean_of (as_total r.sums) = tones.mean in
    let all : r.tones.levels ≡ pixel (film_of a f) x y = tones.levels ∙ ap (levels f.options) mean in
    record {
      frame = frame;
      column = column;
      row = row;
      counting = is;
      samples = each;
      sums = sums;
      tones = record {
        mean = same ∙ mean;
        bright = tones.bright ∙ ap (brightened f.options) (sym same);
        exposed = tones.exposed ∙ ap (exposed f.options) (sym same);
        rounded = tones.rounded;
        levels = all;
      };
      bytes = bytes ∙ one_band f.options.one r.tones.levels ∙ ap (pixel_bytes f.options.one) all;
    }
