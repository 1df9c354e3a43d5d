-- Which tiles are drawn: from one to the next, and past all between.
use Rattle.std.proofs.Common.{◌≡◌, ℕ, zero, suc, ◌+◌, ◌-◌, ◌/◌, ◌%◌, ◌^◌, ◌<◌, ◌≤◌, min, max, arith, refl, sym, ◌∙◌, ap, subst, Bool, true, false, cond, List, [], ◌∷◌, ◌++◌, length, length-append, append_assoc, ⊎_elim}
use Rattle.std.specs.Prelude.{filter}
use Rattle.std.specs.List.{range_with_len}
use Rattle.std.proofs.lemmas.Bool.{cases_lt, eqb-true, eq-eqb, ne_eqb}
use Rattle.std.proofs.lemmas.List.{append-nil}
use Rattle.std.proofs.lemmas.List.Elements.{filter-append}
use Rattle.std.proofs.Math.Nat.{div-add-mod, mod-eq_of_lt, add-mod_right, mul-le-mul_left, mul-add}
use Rattle.patches.specs.Parts.{Part}
use Rattle.hider.specs.declared.seen_grid.SeenGrid.{SeenGrid}
use Rattle.bound_split.specs.Lengths.{most_below}
use Rattle.hider.specs.Tiles.{sample_count}
use Rattle.buckets.specs.declared.share.Share.{Share}
use Rattle.buckets.specs.declared.share.Share.TheVariants.{Whole, Nth}
use Rattle.buckets.specs.Shares.{is_in, first_in, step_in, IsShare, numbers_in}
use Rattle.buckets.specs.TileWalk.{Drawing, Counts, draws, samples_at, tile_count, tile_grid, past_tile, past_tiles}
use Rattle.buckets.specs.declared.shown.Shown.{Shown}
use Rattle.buckets.specs.Standing.{Begun, InEpoch, IsDrawn, IsFirstDrawn, Before}
use Rattle.buckets.specs.Rows.{TellsSamples}

by_lt : {P : Type 0} (a b : ℕ) → (a < b → P) → (b ≤ a → P) → P
by_lt a b f g = ⊎_elim f g (cases_lt a b)

-- ---- the numbers of a share
none_before : (s : Share) (k : ℕ) → IsShare s → k < first_in s → is_in s k ≡ false
none_before Whole k h lt = absurd (omega (arith, lt))
none_before (Nth part parts) k h lt =
    let below = h.0 in
    let same : k % parts ≡ k = mod-eq_of_lt (omega (arith, lt, below)) in
    ne_eqb (k % parts) part (λ e. omega (arith, e, same, lt))

first_is : (s : Share) → IsShare s → is_in s (first_in s) ≡ true
first_is Whole h = refl
first_is (Nth part parts) h = eq-eqb (part % parts) part (mod-eq_of_lt h.0)

-- numbers with one remainder lie apart
apart : (at j n : ℕ) → at % n ≡ j % n → at < j → j < at + n → ⊥
apart at j n same more less =
    let a = div-add-mod at n in
    let b = div-add-mod j n in
    by_lt (at / n) (j / n)
    (λ l.
    let up : at / n + 1 ≤ j / n = omega (arith, l) in
    let far = mul-le-mul_left n up in
    let one = mul-add n (at / n) 1 in
    omega (arith, a, b, far, one, same, less))
    (λ l. let near = mul-le-mul_left n l in omega (arith, a, b, near, same, more))

none_between : (s : Share) (at j : ℕ) → is_in s at ≡ true → at < j → j < at + step_in s → is_in s j ≡ false
none_between Whole at j h more less = absurd (omega (arith, more, less))
none_between (Nth part parts) at j h more less =
    let here = eqb-true (at % parts) part h in
    ne_eqb (j % parts) part (λ e. apart at j parts (here ∙ sym e) more less)

next_is : (s : Share) (at : ℕ) → is_in s at ≡ true → is_in s (at + step_in s) ≡ true
next_is Whole at h = refl
next_is (Nth part parts) at h = eq-eqb ((at + parts) % parts) part (add-mod_right at parts ∙ eqb-true (at % parts) part h)

some_step : (s : Share) → IsShare s → 0 < step_in s
some_step Whole h = omega arith
some_step (Nth part parts) h = let l = h.0 in omega (arith, l)

-- ---- the tiles that are drawn
pub first_drawn : (d : Drawing) → IsShare d.share → IsFirstDrawn d 0 (min (first_in d.share) (tile_count d))
first_drawn d h = record {
  from = omega arith;
  within = omega arith;
  none = λ k low less. none_before d.share k h (omega (arith, less));
  drawn = λ less. let is : first_in d.share ≡ min (first_in d.share) (tile_count d) = omega (arith, less) in subst (λ k. is_in d.share k ≡ true) is (first_is d.share h);
}

pub next_drawn : (d : Drawing) (at : ℕ) → IsShare d.share → at < tile_count d → draws d at ≡ true → IsFirstDrawn d (at + 1) (min (at + step_in d.share) (tile_count d))
next_drawn d at h low here =
    let some = some_step d.share h in
    record {
      from = omega (arith, some, low);
      within = omega arith;
      none = λ k more less. none_between d.share at k here (omega (arith, more)) (omega (arith, less));
      drawn = λ less. let is : at + step_in d.share ≡ min (at + step_in d.share) (tile_count d) = omega (arith, less) in subst (λ k. is_in d.share k ≡ true) is (next_is d.share at here);
    }

-- as the code reckons them
pub first_as : (b : Begun) (s : Shown) (first m : ℕ) → IsDrawn b s → first ≡ first_in s.share → m ≡ min first s.tiles → IsFirstDrawn b.drawing 0 m
first_as b s first m q is least =
    let share : first ≡ first_in b.drawing.share = is ∙ ap (λ (t : Share). first_in t) q.share in
    let same : m ≡ min (first_in b.drawing.share) (tile_count b.drawing) = least ∙ ap (λ k. min k s.tiles) share ∙ ap (λ k. min (first_in b.drawing.share) k) q.tiles in
    subst (IsFirstDrawn b.drawing 0) (sym same) (first_drawn b.drawing q.drawable.share)

pub next_as : (b : Begun) (s : Shown) (at step m : ℕ) → IsDrawn b s → at < tile_count b.drawing → draws b.drawing at ≡ true → step ≡ step_in s.share → m ≡ min (at + step) s.tiles → IsFirstDrawn b.drawing (at + 1) m
next_as b s at step m q low here is least =
    let share : step ≡ step_in b.drawing.share = is ∙ ap (λ (t : Share). step_in t) q.share in
    let same : m ≡ min (at + step_in b.drawing.share) (tile_count b.drawing) = least ∙ ap (λ k. min (at + k) s.tiles) share ∙ ap (λ k. min (at + step_in b.drawing.share) k) q.tiles in
    subst (IsFirstDrawn b.drawing (at + 1)) (sym same) (next_drawn b.drawing at q.drawable.share low here)

-- a step is less than 2 ^ 32
pub small_step : (b : Begun) (s : Shown) (step : ℕ) → IsDrawn b s → step ≡ step_in s.share → step < 2 ^ 32
small_step b s step q is = by_share b.drawing.share q.drawable.share (is ∙ ap (λ (t : Share). step_in t) q.share)
  where
    by_share : (t : Share) → IsShare t → step ≡ step_in t → step < 2 ^ 32
    by_share Whole h e = omega (arith, e)
    by_share (Nth part parts) h e = let l = h.1 in omega (arith, e, l)

-- all tiles of a whole picture are
pub whole_first : (d : Drawing) (n m : ℕ) → d.share ≡ Whole → IsFirstDrawn d n m → m ≡ n
whole_first d n m whole f =
    let from = f.from in
    by_lt n m (λ l. let none : is_in d.share n ≡ false = f.none n (omega arith) l in let all : is_in d.share n ≡ true = ap (λ (s : Share). is_in s n) whole in absurd (cc)) (λ l. omega (arith, l, from))

pub whole_drawn : (d : Drawing) → d.share ≡ Whole → IsFirstDrawn d 0 0
whole_drawn d whole = record { from = omega arith; within = omega arith; none = λ k low less. absurd (omega (arith, less)); drawn = λ l. ap (λ (s : Share). is_in s 0) whole }

-- ---- the list of numbers
last_number : (a n j : ℕ) → a + n ≡ j → range_with_len a (suc n) ≡ range_with_len a n ++ j ∷ []
last_number a zero j e = let same : a ≡ j = omega (arith, e) in ap (λ k. k ∷ []) same
last_number a (suc n) j e = ap (λ l. a ∷ l) (last_number (a + 1) n j (omega (arith, e)))

numbers_more : (s : Share) (n : ℕ) → numbers_in s (n + 1) ≡ numbers_in s n ++ cond (is_in s n) (n ∷ []) []
numbers_more s n =
    let one : n + 1 ≡ suc n = omega arith in
    let zero' : 0 + n ≡ n = omega arith in
    ap (λ k. filter (is_in s) (range_with_len 0 k)) one ∙ ap (filter (is_in s)) (last_number 0 n n zero') ∙ filter-append (is_in s) (range_with_len 0 n) (n ∷ [])

pub numbers_drawn : (s : Share) (n : ℕ) → is_in s n ≡ true → numbers_in s (n + 1) ≡ numbers_in s n ++ n ∷ []
numbers_drawn s n h = numbers_more s n ∙ ap (λ (b : Bool). numbers_in s n ++ cond b (n ∷ []) []) h

numbers_undrawn : (s : Share) (n : ℕ) → is_in s n ≡ false → numbers_in s (n + 1) ≡ numbers_in s n
numbers_undrawn s n h = numbers_more s n ∙ ap (λ (b : Bool). numbers_in s n ++ cond b (n ∷ []) []) h ∙ append-nil (numbers_in s n)

numbers_past : (s : Share) (n j : ℕ) → ((k : ℕ) → n ≤ k → k < n + j → is_in s k ≡ false) → numbers_in s (n + j) ≡ numbers_in s n
numbers_past s n zero none = let e : n + 0 ≡ n = omega arith in ap (numbers_in s) e
numbers_past s n (suc j) none =
    let e : n + suc j ≡ (n + j) + 1 = omega arith in
    ap (numbers_in s) e ∙ numbers_undrawn s (n + j) (none (n + j) (omega arith) (omega arith)) ∙ numbers_past s n j (λ k more less. none k more (omega (arith, less)))

pub numbers_skip : (d : Drawing) (n m : ℕ) → IsFirstDrawn d n m → numbers_in d.share m ≡ numbers_in d.share n
numbers_skip d n m f =
    let from = f.from in
    let e : n + (m - n) ≡ m = omega (arith, from) in
    ap (numbers_in d.share) (sym e) ∙ numbers_past d.share n (m - n) (λ k more less. f.none k more (omega (arith, less, e)))

-- those below a greater number go on from those below a number
pub numbers_further : (s : Share) (n j : ℕ) → (more : List ℕ) × (numbers_in s (n + j) ≡ numbers_in s n ++ more)
numbers_further s n zero = let e : n + 0 ≡ n = omega arith in ([], ap (numbers_in s) e ∙ sym (append-nil (numbers_in s n)))
numbers_further s n (suc j) =
    let e : n + suc j ≡ (n + j) + 1 = omega arith in
    let r = numbers_further s n j in
    let last = cond (is_in s (n + j)) ((n + j) ∷ []) [] in
    (r.0 ++ last, ap (numbers_in s) e ∙ numbers_more s (n + j) ∙ ap (λ l. l ++ last) r.1 ∙ append_assoc (numbers_in s n) r.0 last)

-- ---- counting
-- how many are drawn, tile after tile
pub counts_first : (d : Drawing) (first : ℕ) → IsFirstDrawn d 0 first → 0 ≡ length (numbers_in d.share first)
counts_first d first f = sym (ap length (numbers_skip d 0 first f))

pub counts_next : (d : Drawing) (at next count : ℕ) → draws d at ≡ true → IsFirstDrawn d (at + 1) next → count ≡ length (numbers_in d.share at) → count + 1 ≡ length (numbers_in d.share next)
counts_next d at next count here f is =
    let one = ap length (numbers_drawn d.share at here) in
    let more = length-append (numbers_in d.share at) (at ∷ []) in
    let past = ap length (numbers_skip d (at + 1) next f) in
    omega (arith, one, more, past, is)

-- ---- the walk
past_skips : (d : Drawing) (j k n : ℕ) (c : Counts) → ((i : ℕ) → n ≤ i → i < n + j → draws d i ≡ false) → past_tiles d (j + k) n c ≡ past_tiles d k (n + j) c
past_skips d zero k n c none =
    let e : 0 + k ≡ k = omega arith in
    let z : n ≡ n + 0 = omega arith in
    ap (λ m. past_tiles d m n c) e ∙ ap (λ m. past_tiles d k m c) z
past_skips d (suc j) k n c none =
    let e : suc j + k ≡ suc (j + k) = omega arith in
    let on : (n + 1) + j ≡ n + suc j = omega arith in
    let here : draws d n ≡ false = none n (omega arith) (omega arith) in
    ap (λ m. past_tiles d m n c) e ∙ ap (λ (b : Bool). past_tiles d (j + k) (n + 1) (cond b (past_tile d n c) c)) here
    ∙ past_skips d j k (n + 1) c (λ i more less. none i (omega (arith, more)) (omega (arith, less))) ∙ ap (λ m. past_tiles d k m c) on

pub before_skips : (e : InEpoch) (n m : ℕ) (kept : List (Part × SeenGrid)) (count : ℕ) → IsFirstDrawn e.begun.drawing n m → Before e n kept count → Before e m kept count
before_skips e n m kept count f b =
    let d = e.begun.drawing in
    let from = f.from in
    let within = f.within in
    let on : n + (m - n) ≡ m = omega (arith, from) in
    let all : (m - n) + (tile_count d - m) ≡ tile_count d - n = omega (arith, from, within) in
    record {
      counts = b.counts;
      grids = b.grids;
      keeps = b.keeps;
      counted = b.counted;
      walk = ap (λ i. past_tiles d (tile_count d - m) i b.counts) (sym on)
          ∙ sym (past_skips d (m - n) (tile_count d - m) n b.counts (λ i more less. f.none i more (omega (arith, less, on)))) ∙ ap (λ k. past_tiles d k n b.counts) all ∙ b.walk;
    }

-- ---- the most samples
most_past : (d : Drawing) (n j : ℕ) → ((k : ℕ) → n ≤ k → k < n + j → draws d k ≡ false) → most_below (n + j) (samples_at d) ≡ most_below n (samples_at d)
unfolding most_below
most_past d n zero none = let e : n + 0 ≡ n = omega arith in ap (λ k. most_below k (samples_at d)) e
most_past d n (suc j) none =
    let e : n + suc j ≡ suc (n + j) = omega arith in
    let last : most_below (suc (n + j)) (samples_at d) ≡ max (most_below (n + j) (samples_at d)) (samples_at d (n + j)) = refl in
    let none' : samples_at d (n + j) ≡ 0 = ap (λ (h : Bool). cond h (sample_count (tile_grid d (n + j))) 0) (none (n + j) (omega arith) (omega arith)) in
    let rest = most_past d n j (λ k more less. none k more (omega (arith, less))) in
    ap (λ k. most_below k (samples_at d)) e ∙ (let is : most_below (suc (n + j)) (samples_at d) ≡ most_below n (samples_at d) = omega (arith, last, none', rest) in is)

pub tells_skip : (b : Begun) (n m most : ℕ) → IsFirstDrawn b.drawing n m → TellsSamples b n most → TellsSamples b m most
tells_skip b n m most f tells =
    let from = f.from in
    let on : n + (m - n) ≡ m = omega (arith, from) in
    let same = most_past b.drawing n (m - n) (λ k more less. f.none k more (omega (arith, less, on))) in
    tells ∙ ap (λ k. max b.most_samples k) (sym same) ∙ ap (λ k. max b.most_samples (most_below k (samples_at b.drawing))) on
