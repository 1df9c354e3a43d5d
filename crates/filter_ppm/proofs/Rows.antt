-- The sums of a rectangle's pixels as samples are added.
use Rattle.std.proofs.Common.{◌≡◌, ℕ, ◌+◌, ◌-◌, ◌*◌, ◌<◌, ◌≤◌, ◌⊎◌, inl, inr, ap, sym, ◌∙◌, arith, refl, List, [], ◌∷◌, ◌++◌, length, get_or, false}
use Rattle.std.specs.Prelude.{pos, ◌+ℤ◌, ◌-ℤ◌, ◌*ℤ◌}
use Rattle.std.proofs.lemmas.Nat.{mul-le, mul-add-lt}
use Rattle.std.proofs.lemmas.List.{get_or-set_same, get_or-set_other}
use Rattle.std.proofs.lemmas.List.FromFn.{map-range_with_len_more}
use Rattle.std.proofs.Math.ListN.{set, length-set}
use Rattle.std.proofs.Math.Nat.{mul-le-mul_right, mul_comm}
use Rattle.fixed_math.specs.declared.vec3.Vec3.{Vec3}
use Rattle.fixed_math.specs.Spots.{Spot}
use Rattle.scene.specs.Settings.{OptionValues}
use Rattle.hider.specs.declared.sample.Sample.{Sample}
use Rattle.hider.specs.declared.sample_grid.SampleGrid.{SampleGrid}
use Rattle.hider.specs.Tiles.{IsSampleGrid, sample_of, sample_count}
use Rattle.filter_ppm.specs.declared.rect.Rect.{Rect}
use Rattle.filter_ppm.specs.declared.shown.ShownSample.{ShownSample}
use Rattle.filter_ppm.specs.declared.total.Total.{Total}
use Rattle.filter_ppm.specs.Weight.{counts, weight_at}
use Rattle.filter_ppm.specs.Mean.{weighted_mean}
use Rattle.filter_ppm.specs.Sampled.{shown_with}
use Rattle.filter_ppm.specs.Sums.{none, with_weighed, mean_of, IsOver, AreSums, row_start, total_at, AddsInRow, AddsSample, AreOver, AreTotals, first_samples}
use Rattle.filter_ppm.proofs.Filters.{no_weight_x, no_weight_y}
use Rattle.filter_ppm.proofs.Spans.{by_lt, by_place}
use Rattle.filter_ppm.proofs.SumsBelow.{sum_of-more}
use Rattle.filter_ppm.proofs.Totals.{nothing_added, over_none, over_more}

-- ---- places by rows of w
pub earlier_row : (a b w i : ℕ) → a < b → i < w → a * w + i < b * w
earlier_row a b w i h k =
    let m : (a + 1) * w ≤ b * w = mul-le-mul_right w (omega (arith, h)) in
    let s : (a + 1) * w ≡ a * w + w = omega arith in
    omega (arith, m, s, k)

pub later_row : (a b w i : ℕ) → b < a → b * w + w ≤ a * w + i
later_row a b w i h =
    let m : (b + 1) * w ≤ a * w = mul-le-mul_right w (omega (arith, h)) in
    let s : (b + 1) * w ≡ b * w + w = omega arith in
    omega (arith, m, s)

pub place_inside : (r : Rect) (x y : ℕ) → r.left ≤ x → x < r.right → r.top ≤ y → y < r.bottom → row_start r y + (x - r.left) < (r.bottom - r.top) * (r.right - r.left)
place_inside r x y a b c d =
    let e = mul-add-lt (y - r.top) (r.right - r.left) (x - r.left) (r.bottom - r.top) (omega arith) (omega arith) in
    let t = mul_comm (r.right - r.left) (r.bottom - r.top) in
    omega (arith, e, t)

-- ---- a place that doesn't count has no weight
none_across : (o : OptionValues) (x y : ℕ) (s : Spot) → counts o.wx (s.x -ℤ pos (256 * x + 128)) ≡ false → weight_at o x y s ≡ pos 0
unfolding weight_at
none_across o x y s e = no_weight_x o _ _ e

none_down : (o : OptionValues) (x y : ℕ) (s : Spot) → counts o.wy (s.y -ℤ pos (256 * y + 128)) ≡ false → weight_at o x y s ≡ pos 0
unfolding weight_at
none_down o x y s e = no_weight_y o _ _ e

-- ---- along a row, so far as the pixel x of those from `first` on
pub record IsSoFar (o : OptionValues) (s : ShownSample) (r : Rect) (y n first x : ℕ) (old new : List Total) : Type 0 where
  pub long : length new ≡ length old
  pub done : (i : ℕ) → first ≤ i → i < x → total_at r new i y ≡ with_weighed (total_at r old i y) (weight_at o i y s.place) s.colour
  pub over : (i : ℕ) → first ≤ i → i < x → IsOver (n + 1) (total_at r new i y)
  pub rest : (p : ℕ) → (p < row_start r y + (first - r.left)) ⊎ (row_start r y + (x - r.left) ≤ p) → get_or new p none ≡ get_or old p none

pub row_more : (o : OptionValues) (s : ShownSample) (r : Rect) (y n first x p : ℕ) (old new : List Total) (t : Total) → IsSoFar o s r y n first x old new →
    r.left ≤ first → first ≤ x → p ≡ row_start r y + (x - r.left) → p < length old → t ≡ with_weighed (get_or new p none) (weight_at o x y s.place) s.colour → IsOver (n + 1) t →
    IsSoFar o s r y n first (x + 1) old (set new p t)
row_more o s r y n first x p old new t was left from at inside is over =
    let long = was.long in
    let start = row_start r y in
    let here : get_or (set new p t) p none ≡ t = get_or-set_same new p t none (omega (arith, inside, long)) in
    let before : get_or new p none ≡ get_or old p none = was.rest p (inr (omega (arith, at))) in
    let now : t ≡ with_weighed (get_or old p none) (weight_at o x y s.place) s.colour = is ∙ ap (λ u. with_weighed u (weight_at o x y s.place) s.colour) before in
    record {
      long = length-set new p t ∙ long;
      done = λ i h k. by_place i x
          (λ lt. get_or-set_other new p (start + (i - r.left)) t none (λ e. omega (arith, e, at)) ∙ was.done i h lt)
          (λ e. rw (e, ← at) (here ∙ now))
          (λ gt. absurd (omega arith));
      over = λ i h k. by_place i x
          (λ lt. rw (get_or-set_other new p (start + (i - r.left)) t none (λ e. omega (arith, e, at))) (was.over i h lt))
          (λ e. rw (e, ← at, here) over)
          (λ gt. absurd (omega arith));
      rest = λ q h. get_or-set_other new p q t none (λ e. elim h [ inl l ↦ omega (arith, e, l, at) | inr l ↦ omega (arith, e, l, at) ])
          ∙ was.rest q (elim h [ inl l ↦ inl l | inr l ↦ inr (omega (arith, l)) ]);
    }

pub row_begun : (o : OptionValues) (s : ShownSample) (r : Rect) (y n first : ℕ) (old : List Total) → IsSoFar o s r y n first first old old
row_begun o s r y n first old = record {
  long = refl;
  done = λ i h k. absurd (omega (arith, h, k));
  over = λ i h k. absurd (omega (arith, h, k));
  rest = λ p h. refl;
}

pub row_added : (o : OptionValues) (s : ShownSample) (r : Rect) (y n first x : ℕ) (old new : List Total) → IsSoFar o s r y n first x old new → r.left ≤ first → first ≤ x →
    ((i : ℕ) → r.left ≤ i → i < r.right → (i < first) ⊎ (x ≤ i) → counts o.wx (s.place.x -ℤ pos (256 * i + 128)) ≡ false) → AddsInRow o s r y old new
row_added o s r y n first x old new was left order beside = λ i h k.
    by_lt i first
    (λ lt. was.rest _ (inl (omega arith)) ∙ nothing_added _ _ s.colour (none_across o i y s.place (beside i h k (inl lt))))
    (λ from. by_lt i x
    (λ lt. was.done i from lt)
    (λ ge. was.rest _ (inr (omega arith)) ∙ nothing_added _ _ s.colour (none_across o i y s.place (beside i h k (inr ge)))))

pub row_over : (o : OptionValues) (s : ShownSample) (r : Rect) (y n first x : ℕ) (old new : List Total) → IsSoFar o s r y n first x old new → r.left ≤ first → first ≤ x →
    ((i : ℕ) → r.left ≤ i → i < r.right → IsOver n (total_at r old i y)) → (i : ℕ) → r.left ≤ i → i < r.right → IsOver (n + 1) (total_at r new i y)
row_over o s r y n first x old new was left order over i h k =
    by_lt i first
    (λ lt. rw (was.rest (row_start r y + (i - r.left)) (inl (omega arith))) (over_more n _ (over i h k)))
    (λ from. by_lt i x
    (λ lt. was.over i from lt)
    (λ ge. rw (was.rest (row_start r y + (i - r.left)) (inr (omega arith))) (over_more n _ (over i h k))))

-- ---- row by row, so far as row y
pub record AreSoFar (o : OptionValues) (s : ShownSample) (r : Rect) (n y : ℕ) (old new : List Total) : Type 0 where
  pub long : length new ≡ length old
  pub done : (j : ℕ) → r.top ≤ j → j < y → AddsInRow o s r j old new
  pub over : (x j : ℕ) → r.left ≤ x → x < r.right → r.top ≤ j → j < y → IsOver (n + 1) (total_at r new x j)
  pub rest : (x j : ℕ) → r.left ≤ x → x < r.right → r.top ≤ j → y ≤ j → total_at r new x j ≡ total_at r old x j

-- what adding to row y changes
pub record ChangesRow (o : OptionValues) (s : ShownSample) (r : Rect) (n y : ℕ) (old new : List Total) : Type 0 where
  pub long : length new ≡ length old
  pub row : AddsInRow o s r y old new
  pub over : (x : ℕ) → r.left ≤ x → x < r.right → IsOver (n + 1) (total_at r new x y)
  pub others : (p : ℕ) → (p < row_start r y) ⊎ (row_start r y + (r.right - r.left) ≤ p) → get_or new p none ≡ get_or old p none

other_row : (r : Rect) (old new : List Total) (x y j : ℕ) → ((p : ℕ) → (p < row_start r y) ⊎ (row_start r y + (r.right - r.left) ≤ p) → get_or new p none ≡ get_or old p none) →
    r.left ≤ x → x < r.right → r.top ≤ y → r.top ≤ j → (j < y) ⊎ (y < j) → total_at r new x j ≡ total_at r old x j
other_row r old new x y j others a b c d (inl h) = others _ (inl (earlier_row (j - r.top) (y - r.top) (r.right - r.left) (x - r.left) (omega arith) (omega arith)))
other_row r old new x y j others a b c d (inr h) = others _ (inr (later_row (j - r.top) (y - r.top) (r.right - r.left) (x - r.left) (omega arith)))

-- the sample doesn't count for the rows before the first
pub rows_begun : (o : OptionValues) (s : ShownSample) (r : Rect) (n first : ℕ) (old : List Total) → first ≤ r.bottom → AreOver n r old →
    ((j : ℕ) → r.top ≤ j → j < r.bottom → j < first → counts o.wy (s.place.y -ℤ pos (256 * j + 128)) ≡ false) → AreSoFar o s r n first old old
rows_begun o s r n first old high over beside = record {
  long = refl;
  done = λ j h k x a b. nothing_added _ _ s.colour (none_down o x j s.place (beside j h (omega arith) k));
  over = λ x j a b h k. over_more n _ (over x j a b h (omega arith));
  rest = λ x j a b c h. refl;
}

pub rows_next : (o : OptionValues) (s : ShownSample) (r : Rect) (n y : ℕ) (old mid new : List Total) → AreSoFar o s r n y old mid → r.top ≤ y →
    ChangesRow o s r n y mid new → AreSoFar o s r n (y + 1) old new
rows_next o s r n y old mid new was top c = record {
  long = c.long ∙ was.long;
  done = λ j h k x a b. by_place j y
      (λ lt. other_row r mid new x y j c.others a b top h (inl lt) ∙ was.done j h lt x a b)
      (λ e. rw e (c.row x a b ∙ ap (λ t. with_weighed t (weight_at o x y s.place) s.colour) (was.rest x y a b top (omega arith))))
      (λ gt. absurd (omega arith));
  over = λ x j a b h k. by_place j y
      (λ lt. rw (other_row r mid new x y j c.others a b top h (inl lt)) (was.over x j a b h lt))
      (λ e. rw e (c.over x a b))
      (λ gt. absurd (omega arith));
  rest = λ x j a b t h. other_row r mid new x y j c.others a b top t (inr (omega arith)) ∙ was.rest x j a b t (omega arith);
}

pub sample_added : (o : OptionValues) (s : ShownSample) (r : Rect) (n y : ℕ) (old new : List Total) → AreSoFar o s r n y old new →
    ((j : ℕ) → r.top ≤ j → j < r.bottom → y ≤ j → counts o.wy (s.place.y -ℤ pos (256 * j + 128)) ≡ false) → AddsSample o s r old new
sample_added o s r n y old new was beside = λ j h k x a b.
    by_lt j y
    (λ lt. was.done j h lt x a b)
    (λ ge. was.rest x j a b h ge ∙ nothing_added _ _ s.colour (none_down o x j s.place (beside j h k ge)))

pub sample_over : (o : OptionValues) (s : ShownSample) (r : Rect) (n y : ℕ) (old new : List Total) → AreSoFar o s r n y old new → AreOver n r old → AreOver (n + 1) r new
sample_over o s r n y old new was over = λ x j a b h k.
    by_lt j y
    (λ lt. was.over x j a b h lt)
    (λ ge. rw (was.rest x j a b h ge) (over_more n _ (over x j a b h k)))

-- ---- sample by sample
pub totals_none : (o : OptionValues) (colour : Sample → Vec3) (g : SampleGrid) (r : Rect) (totals : List Total) → ((p : ℕ) → get_or totals p none ≡ none) → AreTotals o colour g 0 r totals
totals_none o colour g r totals e = λ x y a b c d.
    let t : total_at r totals x y ≡ none = e _ in
    record {
      weights = ap (λ (u : Total). u.weight) t;
      xs = ap (λ (u : Total). u.x) t;
      ys = ap (λ (u : Total). u.y) t;
      zs = ap (λ (u : Total). u.z) t;
    }

pub all_over_none : (r : Rect) (totals : List Total) → ((p : ℕ) → get_or totals p none ≡ none) → AreOver 0 r totals
all_over_none r totals e = λ x y a b c d. over_none _ (e _)

sums_more : (o : OptionValues) (colour : Sample → Vec3) (x y : ℕ) (ss : List Sample) (s : Sample) (t u : Total) → AreSums o colour x y ss t →
    u ≡ with_weighed t (weight_at o x y s.place) (colour s) → AreSums o colour x y (ss ++ s ∷ []) u
unfolding with_weighed
sums_more o colour x y ss s t u a e = record {
  weights = ap (λ (v : Total). v.weight) e ∙ ap (λ z. z +ℤ weight_at o x y s.place) a.weights ∙ sym (sum_of-more (λ q. weight_at o x y q.place) ss s);
  xs = ap (λ (v : Total). v.x) e ∙ ap (λ z. z +ℤ weight_at o x y s.place *ℤ (colour s).x) a.xs ∙ sym (sum_of-more (λ q. weight_at o x y q.place *ℤ (colour q).x) ss s);
  ys = ap (λ (v : Total). v.y) e ∙ ap (λ z. z +ℤ weight_at o x y s.place *ℤ (colour s).y) a.ys ∙ sym (sum_of-more (λ q. weight_at o x y q.place *ℤ (colour q).y) ss s);
  zs = ap (λ (v : Total). v.z) e ∙ ap (λ z. z +ℤ weight_at o x y s.place *ℤ (colour s).z) a.zs ∙ sym (sum_of-more (λ q. weight_at o x y q.place *ℤ (colour q).z) ss s);
}

pub totals_more : (o : OptionValues) (colour : Sample → Vec3) (g : SampleGrid) (n : ℕ) (r : Rect) (s : ShownSample) (old new : List Total) → s ≡ shown_with colour (sample_of g n) →
    AddsSample o s r old new → AreTotals o colour g n r old → AreTotals o colour g (n + 1) r new
totals_more o colour g n r s old new e added was = λ x y a b c d.
    let z : 0 + n ≡ n = omega arith in
    let more = map-range_with_len_more (sample_of g) 0 n n z in
    let now = added y c d x a b ∙ ap (λ (q : ShownSample). with_weighed (total_at r old x y) (weight_at o x y q.place) q.colour) e in
    rw more (sums_more o colour x y (first_samples g n) (sample_of g n) (total_at r old x y) (total_at r new x y) (was x y a b c d) now)

-- the mean by the sums
pub mean_is : (o : OptionValues) (colour : Sample → Vec3) (x y : ℕ) (ss : List Sample) (t : Total) → AreSums o colour x y ss t →
    mean_of t ≡ weighted_mean (λ s. weight_at o x y s.place) colour ss
unfolding weighted_mean
mean_is o colour x y ss t a = rw (a.weights, a.xs, a.ys, a.zs) refl

-- a tile's samples are at most 2 ^ 32
pub few_samples : (g : SampleGrid) → IsSampleGrid g → sample_count g ≤ 4294967296
few_samples g v =
    let right = v.right in
    let bottom = v.bottom in
    let pixels : (g.right - g.left) * (g.bottom - g.top) ≤ 4096 * 4096 = mul-le _ _ 4096 4096 (omega (arith, right)) (omega (arith, bottom)) in
    let each : g.xs * g.ys ≤ 16 * 16 = mul-le _ _ 16 16 v.most_xs v.most_ys in
    mul-le _ _ (4096 * 4096) (16 * 16) pixels each
