-- Sums over samples.
use Rattle.std.proofs.Common.{◌≡◌, ℕ, ◌+◌, ◌*◌, ◌^◌, ◌<◌, ◌≤◌, FitsSigned, ap, arith, refl, sym, ◌∙◌, false, List, [], ◌∷◌, ◌++◌, take, length, get_or, filter, map}
use Rattle.std.specs.Prelude.{ℤ, pos, ◌+ℤ◌, ◌*ℤ◌, ◌≤ℤ◌, unsigned_abs}
use Rattle.std.specs.Int.{w128}
use Rattle.std.proofs.lemmas.Int.{ints}
use Rattle.std.proofs.lemmas.List.{take_more}
use Rattle.filter_ppm.specs.Mean.{sum_of}
use Rattle.filter_ppm.specs.Sums.{none, with_weighed, IsOver}
use Rattle.filter_ppm.specs.declared.total.Total.{Total}
use Rattle.hider.proofs.Cuts.{by_bool}
use Rattle.pixel_record.specs.declared.sample.SampleAccount.{SampleAccount}
use Rattle.pixel_account.specs.Summing.{IsSumOf}

pub sum_more : {A : Type 0} (g : A → ℤ) (xs : List A) (x : A) → sum_of g (xs ++ x ∷ []) ≡ sum_of g xs +ℤ g x
sum_more g [] x = omega (arith, ints)
sum_more g (y ∷ ys) x = let e = sum_more g ys x in omega (arith, ints, e)

-- the same numbers have the same sum
pub sum_same : {A : Type 0} (g h : A → ℤ) (xs : List A) → ((x : A) → g x ≡ h x) → sum_of g xs ≡ sum_of h xs
sum_same g h [] e = refl
sum_same g h (x ∷ xs) e = ap (λ z. z +ℤ sum_of g xs) (e x) ∙ ap (λ z. h x +ℤ z) (sum_same g h xs e)

pub sum_map : {A B : Type 0} (g : B → ℤ) (f : A → B) (xs : List A) → sum_of g (map f xs) ≡ sum_of (λ x. g (f x)) xs
sum_map g f [] = refl
sum_map g f (x ∷ xs) = ap (λ z. g (f x) +ℤ z) (sum_map g f xs)

-- what is 0 outside a part of a list may be left out
pub sum_filter : {A : Type 0} (g : A → ℤ) (p : A → _) (xs : List A) → ((x : A) → p x ≡ false → g x ≡ pos 0) → sum_of g (filter p xs) ≡ sum_of g xs
sum_filter g p [] none = refl
sum_filter g p (x ∷ xs) none =
    let rest = sum_filter g p xs none in
    by_bool (p x)
    (λ t. rw t (ap (λ z. g x +ℤ z) rest))
    (λ f. let zero = none x f in rw f (omega (arith, ints, rest, zero)))

-- ---- sums as samples are added
pub over_nothing : (t : Total) → t ≡ none → IsOver 0 t
over_nothing t e = rw e (record { low = omega (arith, ints); high = omega arith; x_high = omega arith; y_high = omega arith; z_high = omega arith })

pub sums_begin : (ss : List SampleAccount) (t : Total) → t ≡ none → IsSumOf (take 0 ss) t
sums_begin ss t e = rw e (record { weight = refl; x = refl; y = refl; z = refl })

pub sums_more : (ss : List SampleAccount) (s : SampleAccount) (k : ℕ) (t u : Total) → k < length ss → s ≡ get_or ss k s → u ≡ with_weighed t s.weight s.colour → IsSumOf (take k ss) t → IsSumOf (take (k + 1) ss) u
unfolding with_weighed
sums_more ss s k t u lt is with_s before =
    let front : take (k + 1) ss ≡ take k ss ++ s ∷ [] = take_more ss k s lt ∙ ap (λ r. take k ss ++ r ∷ []) (sym is) in
    rw (with_s, front) (record {
      weight = ap (λ z. z +ℤ s.weight) before.weight ∙ sym (sum_more (λ r. r.weight) (take k ss) s);
      x = ap (λ z. z +ℤ s.weight *ℤ s.colour.x) before.x ∙ sym (sum_more (λ r. r.weight *ℤ r.colour.x) (take k ss) s);
      y = ap (λ z. z +ℤ s.weight *ℤ s.colour.y) before.y ∙ sym (sum_more (λ r. r.weight *ℤ r.colour.y) (take k ss) s);
      z = ap (λ z. z +ℤ s.weight *ℤ s.colour.z) before.z ∙ sym (sum_more (λ r. r.weight *ℤ r.colour.z) (take k ss) s);
    })

-- one colour more
pub over_next : (n : ℕ) (t r : Total) (w : ℤ) → IsOver n t → pos 0 ≤ℤ w → unsigned_abs w ≤ 2147483647 → r.weight ≡ t.weight +ℤ w →
    unsigned_abs r.x ≤ unsigned_abs t.x + unsigned_abs w * 2147483647 →
    unsigned_abs r.y ≤ unsigned_abs t.y + unsigned_abs w * 2147483647 →
    unsigned_abs r.z ≤ unsigned_abs t.z + unsigned_abs w * 2147483647 → IsOver (n + 1) r
over_next n t r w h low small weight x y z =
    let l = h.low in
    let a = h.high in
    let hx = h.x_high in
    let hy = h.y_high in
    let hz = h.z_high in
    let s : unsigned_abs r.weight ≡ unsigned_abs t.weight + unsigned_abs w = omega (arith, ints) in
    record { low = omega (arith, ints); high = omega arith; x_high = omega arith; y_high = omega arith; z_high = omega arith }

-- the sums fit 128 bits
pub fits_weight : (n : ℕ) (t : Total) → n < 2 ^ 64 → IsOver n t → FitsSigned w128 t.weight
fits_weight n t few over = let h = over.high in omega (arith, ints, few, h)

pub fits_part : (n : ℕ) (t : Total) (v : ℤ) → n < 2 ^ 64 → IsOver n t → unsigned_abs v ≤ unsigned_abs t.weight * 2147483647 → FitsSigned w128 v
fits_part n t v few over high = let h = over.high in omega (arith, ints, few, h, high)
