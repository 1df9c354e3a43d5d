-- Samples by the steps of the shutter's interval.
use Rattle.std.proofs.Common.{◌≡◌, ℕ, zero, suc, ◌+◌, ◌-◌, ◌*◌, ◌/◌, ◌<◌, ◌≤◌, ap, arith, refl, sym, subst, ◌∙◌, true, false, List, [], ◌∷◌, ◌++◌, inl, inr, length, slice_index_or, slice_set}
use Rattle.std.specs.Prelude.{◌⊎◌, Option, None, cond, nat_eq, nat_lt}
use Rattle.std.specs.List.{cons_option}
use Rattle.std.proofs.lemmas.List.{get_or-set_other, get_or_push, get_or_append_left, get_or_default, length_push}
use Rattle.std.proofs.lemmas.Bool.Decides.{nat_tests}
use Rattle.std.proofs.lemmas.Grind.{get_or-set_at}
use Rattle.std.proofs.Math.Nat.{mul-le-mul_right}
use Rattle.fixed_math.specs.Spots.{pixel_count}
use Rattle.hider.specs.declared.bounds.Bounds.{Bounds}
use Rattle.hider.specs.declared.fragment.Fragment.{Fragment}
use Rattle.hider.specs.declared.sample.Sample.{Sample}
use Rattle.hider.specs.declared.sample_grid.SampleGrid.{SampleGrid}
use Rattle.hider.specs.Kept.{keep_all}
use Rattle.hider.specs.Searching.{IsNear, StaysIn, StaysInsideFrom}
use Rattle.hider.specs.Steps.{is_in_step, in_step, count_in, AreFirstOfStep, AreStarts}
use Rattle.hider.specs.Tiles.{IsSampleGrid, HasPut, HavePut, HavePutBetween, rect_of, sample_count, sample_of}
use Rattle.hider.proofs.Cuts.{by_bool}
use Rattle.hider.proofs.Pixels.{near_stays, sample_time}
use Rattle.hider.proofs.Rows.{by_lt}

-- ---- counting
one_more : (g : SampleGrid) (k n : ℕ) → is_in_step k (sample_of g n) ≡ true → count_in g k (n + 1) ≡ count_in g k n + 1
one_more g k n e =
    let s : n + 1 ≡ suc n = omega arith in
    let t : suc (count_in g k n) ≡ count_in g k n + 1 = omega arith in
    rw s (rw e t)

none_more : (g : SampleGrid) (k n : ℕ) → is_in_step k (sample_of g n) ≡ false → count_in g k (n + 1) ≡ count_in g k n
none_more g k n e =
    let s : n + 1 ≡ suc n = omega arith in
    rw s (rw e refl)

count_grows : (g : SampleGrid) (k n : ℕ) → count_in g k n ≤ count_in g k (n + 1)
count_grows g k n =
    by_bool (is_in_step k (sample_of g n))
    (λ t. let e = one_more g k n t in omega (arith, e))
    (λ f. let e = none_more g k n f in omega (arith, e))

count_up : (g : SampleGrid) (k n d : ℕ) → count_in g k n ≤ count_in g k (n + d)
count_up g k n zero = let e : n + 0 ≡ n = omega arith in rw e (omega arith)
count_up g k n (suc d) =
    let e : n + suc d ≡ n + d + 1 = omega arith in
    let i = count_up g k n d in
    let j = count_grows g k (n + d) in
    rw e (omega (arith, i, j))

pub count_rises : (g : SampleGrid) (k n m : ℕ) → n ≤ m → count_in g k n ≤ count_in g k m
count_rises g k n m h =
    let e : n + (m - n) ≡ m = omega (arith, h) in
    rw e at (count_up g k n (m - n))

pub count_before : (g : SampleGrid) (k n m : ℕ) → is_in_step k (sample_of g n) ≡ true → n < m → count_in g k n < count_in g k m
count_before g k n m t h =
    let e = one_more g k n t in
    let r = count_rises g k (n + 1) m (omega (arith, h)) in
    omega (arith, e, r)

-- the place in the order tells the sample
same_place : (g : SampleGrid) (k n m : ℕ) → is_in_step k (sample_of g n) ≡ true → is_in_step k (sample_of g m) ≡ true → count_in g k n ≡ count_in g k m → n ≡ m
same_place g k n m t u e =
    by_lt n m
    (λ below. let l = count_before g k n m t below in absurd (omega (arith, l, e)))
    (λ from. by_lt m n
    (λ above. let l = count_before g k m n u above in absurd (omega (arith, l, e)))
    (λ to. omega (arith, from, to)))

-- ---- rows of numbers
pub none_yet : (g : SampleGrid) (k : ℕ) → AreFirstOfStep g k 0 []
none_yet g k = record {
  count = refl;
  below = λ i d l. absurd (omega (arith, l));
  timed = λ i d l. absurd (omega (arith, l));
  order = λ i d l. absurd (omega (arith, l));
}

pub first_other : (g : SampleGrid) (k n : ℕ) (l : List ℕ) → AreFirstOfStep g k n l → is_in_step k (sample_of g n) ≡ false → AreFirstOfStep g k (n + 1) l
first_other g k n l f e = record {
  count = f.count ∙ sym (none_more g k n e);
  below = λ i d h. let b = f.below i d h in omega (arith, b);
  timed = f.timed;
  order = f.order;
}

-- what holds of the items of a list and of one more holds of the list with that pushed
each_pushed : (P : ℕ → ℕ → Type 0) (l : List ℕ) (n : ℕ) → ((i d : ℕ) → i < length l → P i (slice_index_or l i d)) → P (length l) n →
    (i d : ℕ) → i < length (l ++ n ∷ []) → P i (slice_index_or (l ++ n ∷ []) i d)
each_pushed P l n each last i d h =
    let long = length_push l n in
    by_lt i (length l)
    (λ low. subst (P i) (sym (get_or_append_left l (n ∷ []) d i low)) (each i d low))
    (λ high.
    let is : i ≡ length l = omega (arith, h, high, long) in
    subst (P i) (sym (get_or_push l n d i (sym is))) (subst (λ (j : ℕ). P j n) (sym is) last))

pub first_more : (g : SampleGrid) (k n : ℕ) (l : List ℕ) → AreFirstOfStep g k n l → is_in_step k (sample_of g n) ≡ true → AreFirstOfStep g k (n + 1) (l ++ n ∷ [])
first_more g k n l f e = record {
  count = length_push l n ∙ ap (λ (c : ℕ). c + 1) f.count ∙ sym (one_more g k n e);
  below = each_pushed (λ i m. m < n + 1) l n (λ i d h. let b = f.below i d h in omega (arith, b)) (omega arith);
  timed = each_pushed (λ i m. is_in_step k (sample_of g m) ≡ true) l n f.timed e;
  order = each_pushed (λ i m. count_in g k m ≡ i) l n f.order (sym f.count);
}

pub one_start : (g : SampleGrid) (k : ℕ) → AreStarts g k 1 (0 ∷ [])
one_start g k = record {
  count = refl;
  each = λ p d h.
      let e : p ≡ 0 = omega (arith, h) in
      let z : 0 * (g.xs * g.ys) ≡ 0 = omega arith in
      rw (e, z) refl;
}

pub start_more : (g : SampleGrid) (k pixel c : ℕ) (l : List ℕ) → AreStarts g k pixel l → c ≡ count_in g k (pixel * (g.xs * g.ys)) → AreStarts g k (pixel + 1) (l ++ c ∷ [])
start_more g k pixel c l s e = record {
  count = length_push l c ∙ ap (λ (m : ℕ). m + 1) s.count;
  each = λ p d h.
      let long = s.count in
      by_lt p pixel
      (λ low. get_or_append_left l (c ∷ []) d p (omega (arith, low, long)) ∙ s.each p d low)
      (λ high.
      let is : p ≡ pixel = omega (arith, h, high) in
      get_or_push l c d p (long ∙ sym is) ∙ e ∙ ap (λ (q : ℕ). count_in g k (q * (g.xs * g.ys))) (sym is));
}

-- ---- samples put in step by step
-- the samples of a step are put in from number `from` on, of the first `at` in order; the others are as they were
pub record StepDone (g : SampleGrid) (k from : ℕ) (shown : Sample → Option Fragment) (at : ℕ) (old new : List (List Fragment)) : Type 0 where
  pub done : (n : ℕ) (d : List Fragment) → from ≤ n → is_in_step k (sample_of g n) ≡ true → count_in g k n < at → HasPut (λ s. cons_option (shown s) []) (sample_of g n) (slice_index_or old n d) (slice_index_or new n d)
  pub still : (n : ℕ) (d : List Fragment) → is_in_step k (sample_of g n) ≡ false → slice_index_or new n d ≡ slice_index_or old n d
  pub rest : (n : ℕ) (d : List Fragment) → at ≤ count_in g k n → slice_index_or new n d ≡ slice_index_or old n d

pub nothing_done : (g : SampleGrid) (k from at : ℕ) (shown : Sample → Option Fragment) (a : List (List Fragment)) → at ≡ count_in g k from → StepDone g k from shown at a a
nothing_done g k from at shown a e = record {
  done = λ n d low t before. let r = count_rises g k from n low in absurd (omega (arith, r, before, e));
  still = λ n d f. refl;
  rest = λ n d h. refl;
}

-- sample m is number `at` of the step
pub record IsOfStep (g : SampleGrid) (k at m : ℕ) : Type 0 where
  pub inside : m < sample_count g
  pub timed : is_in_step k (sample_of g m) ≡ true
  pub order : count_in g k m ≡ at

pub of_step : (g : SampleGrid) (k at m : ℕ) (l : List ℕ) → AreFirstOfStep g k (sample_count g) l → m ≡ slice_index_or l at m → at < length l → IsOfStep g k at m
of_step g k at m l f e h = record {
  inside = subst (λ (x : ℕ). x < sample_count g) (sym e) (f.below at m h);
  timed = subst (λ (x : ℕ). is_in_step k (sample_of g x) ≡ true) (sym e) (f.timed at m h);
  order = subst (λ (x : ℕ). count_in g k x ≡ at) (sym e) (f.order at m h);
}

pub row_holds : (g : SampleGrid) (k to at : ℕ) (l : List ℕ) → AreFirstOfStep g k (sample_count g) l → to ≤ pixel_count (rect_of g) → at < count_in g k (to * (g.xs * g.ys)) → at < length l
row_holds g k to at l f h b =
    let m : to * (g.xs * g.ys) ≤ sample_count g = mul-le-mul_right (g.xs * g.ys) h in
    let r = count_rises g k (to * (g.xs * g.ys)) (sample_count g) m in
    let c = f.count in
    omega (arith, r, c, b)

-- it lies between those that are before and behind it in the order
pub apart_from : (g : SampleGrid) (k from to at m n : ℕ) → IsOfStep g k at m → count_in g k from ≤ at → at < count_in g k to → (n < from) ⊎ (to ≤ n) → n ≡ m → ⊥
apart_from g k from to at m n s low high (inl before) e =
    let b : m < from = omega (arith, before, e) in
    let c = count_before g k m from s.timed b in
    let o = s.order in
    omega (arith, c, o, low)
apart_from g k from to at m n s low high (inr behind) e =
    let b : to ≤ m = omega (arith, behind, e) in
    let c = count_rises g k to m b in
    let o = s.order in
    omega (arith, c, o, high)

other_order : (g : SampleGrid) (k at m n : ℕ) → IsOfStep g k at m → (count_in g k n ≡ at → ⊥) → n ≡ m → ⊥
other_order g k at m n s h e = h (ap (count_in g k) e ∙ s.order)

pub one_done : (g : SampleGrid) (k from at m : ℕ) (shown : Sample → Option Fragment) (a b : List (List Fragment)) (o l : List Fragment) → m < length b → IsOfStep g k at m →
    HasPut (λ s. cons_option (shown s) []) (sample_of g m) (slice_index_or b m o) l → StepDone g k from shown at a b → StepDone g k from shown (at + 1) a (slice_set b m l)
one_done g k from at m shown a b o l inside is put s =
    let h : Sample → List Fragment = λ s. cons_option (shown s) [] in
    record {
      done = λ n d low u before.
          by_lt (count_in g k n) at
          (λ earlier. subst (HasPut h (sample_of g n) (slice_index_or a n d)) (sym (get_or-set_other b m n l d (other_order g k at m n is (λ c. omega (arith, c, earlier))))) (s.done n d low u earlier))
          (λ now.
          let same : n ≡ m = same_place g k n m u is.timed (let c : count_in g k n ≡ at = omega (arith, before, now) in c ∙ sym is.order) in
          let order = is.order in
          let old : slice_index_or b m o ≡ slice_index_or a m d = get_or_default b m o d inside ∙ s.rest m d (omega (arith, order)) in
          let core : HasPut h (sample_of g m) (slice_index_or a m d) (slice_index_or (slice_set b m l) m d) = get_or-set_at b m m l d refl inside ∙ put ∙ ap (λ (x : List Fragment). keep_all x (h (sample_of g m))) old in
          subst (λ (j : ℕ). HasPut h (sample_of g j) (slice_index_or a j d) (slice_index_or (slice_set b m l) j d)) (sym same) core);
      still = λ n d f. get_or-set_other b m n l d (λ q. let c : false ≡ true = sym f ∙ ap (λ (x : ℕ). is_in_step k (sample_of g x)) q ∙ is.timed in absurd (cc)) ∙ s.still n d f;
      rest = λ n d later. get_or-set_other b m n l d (other_order g k at m n is (λ c. omega (arith, c, later))) ∙ s.rest n d (omega (arith, later));
    }

pub run_done : (g : SampleGrid) (k from to at : ℕ) (shown : Sample → Option Fragment) (a b : List (List Fragment)) → StepDone g k from shown at a b → count_in g k to ≤ at →
    HavePutBetween from to g (λ s. cons_option (in_step k shown s) []) a b
run_done g k from to at shown a b s end n d low high =
    by_bool (is_in_step k (sample_of g n))
    (λ t. let c = count_before g k n to t high in rw t (s.done n d low t (omega (arith, c, end))))
    (λ f. rw f (s.still n d f))

-- ---- step by step
lt_is : (a b : ℕ) → a < b → nat_lt a b ≡ true
lt_is a b h = grind (arith, nat_tests, h)

lt_isnt : (a b : ℕ) → b ≤ a → nat_lt a b ≡ false
lt_isnt a b h = grind (arith, nat_tests, h)

eq_is : (a b : ℕ) → a ≡ b → nat_eq a b ≡ true
eq_is a b h = grind (arith, nat_tests, h)

eq_from : (a b : ℕ) → nat_eq a b ≡ true → a ≡ b
eq_from a b h = grind (arith, nat_tests, h)

eq_isnt : (a b : ℕ) → (a ≡ b → ⊥) → nat_eq a b ≡ false
eq_isnt a b h = by_bool (nat_eq a b) (λ t. absurd (h (eq_from a b t))) (λ f. f)

pub step_stays : (b : Bounds) (part g : SampleGrid) (k : ℕ) (shown : Sample → Option Fragment) → IsSampleGrid g → IsNear b part g → StaysInsideFrom (8192 * k) (8192 * k + 8191) b shown → StaysIn part g (in_step k shown)
step_stays b part g k shown valid near stays =
    near_stays b part g (in_step k shown) valid near
    (λ s t outside. by_bool (is_in_step k s)
    (λ e. let q = eq_from (s.time / 8192) k e in rw e (stays s (omega (arith, q)) (omega (arith, q)) outside))
    (λ e. rw e refl))

-- what shows in the first steps
abbrev pub before_step : ℕ → (Sample → Option Fragment) → Sample → Option Fragment
before_step k shown s = cond (nat_lt (s.time / 8192) k) (shown s) None

pub none_before : (g : SampleGrid) (shown : Sample → Option Fragment) (a : List (List Fragment)) → HavePut g (λ s. cons_option (before_step 0 shown s) []) a a
none_before g shown a n d h = let e = lt_isnt ((sample_of g n).time / 8192) 0 (omega arith) in rw e refl

pub before_next : (g : SampleGrid) (k : ℕ) (shown : Sample → Option Fragment) (a b c : List (List Fragment)) → HavePut g (λ s. cons_option (before_step k shown s) []) a b → HavePut g (λ s. cons_option (in_step k shown s) []) b c →
    HavePut g (λ s. cons_option (before_step (k + 1) shown s) []) a c
before_next g k shown a b c first next n d h =
    let s = sample_of g n in
    let q = s.time / 8192 in
    let x = slice_index_or a n d in
    let y = slice_index_or b n d in
    let z = slice_index_or c n d in
    let f = first n d h in
    let e = next n d h in
    by_lt q k
    (λ low.
    let p : y ≡ keep_all x (cons_option (shown s) []) = rw (lt_is q k low) at f in
    let r : z ≡ y = rw (eq_isnt q k (λ i. omega (arith, i, low))) at e in
    rw (lt_is q (k + 1) (omega (arith, low))) (r ∙ p))
    (λ from. by_lt k q
    (λ high.
    let p : y ≡ x = rw (lt_isnt q k from) at f in
    let r : z ≡ y = rw (eq_isnt q k (λ i. omega (arith, i, high))) at e in
    rw (lt_isnt q (k + 1) (omega (arith, high))) (r ∙ p))
    (λ to.
    let i : q ≡ k = omega (arith, from, to) in
    let p : y ≡ x = rw (lt_isnt q k from) at f in
    let r : z ≡ keep_all y (cons_option (shown s) []) = rw (eq_is q k i) at e in
    rw (lt_is q (k + 1) (omega (arith, i))) (r ∙ ap (λ (o : List Fragment). keep_all o (cons_option (shown s) [])) p)))

pub all_steps : (g : SampleGrid) (k : ℕ) (shown : Sample → Option Fragment) (a b : List (List Fragment)) → 8 ≤ k → HavePut g (λ s. cons_option (before_step k shown s) []) a b → HavePut g (λ s. cons_option (shown s) []) a b
all_steps g k shown a b all put n d h =
    let s = sample_of g n in
    let t = sample_time g.xs g.ys (rect_of g) n in
    let f = put n d h in
    rw (lt_is (s.time / 8192) k (omega (arith, t, all))) at f
