-- The items of values at some places of a list, one by one.
use Rattle.std.proofs.Common.{◌≡◌, ◌∙◌, ap, sym, refl, arith, ℕ, zero, suc, ◌+◌, ◌*◌, ◌/◌, ◌%◌, ◌<◌, ◌≤◌, List, [], ◌∷◌, length, take, drop, Some, None, All, get_or, slice_get}
use Rattle.std.proofs.Math.Nat.{div-add-mod, mod-lt}
use Rattle.std.proofs.lemmas.List.{get_or_append_left, get_or-append-add, get_or-take, get_or-drop, get_or_default, length-take-le, length-drop}
use Rattle.std.proofs.lemmas.Option.{slice_get-get_or, slice_get_past}
use Rattle.scene.specs.Seats.{items_at}

-- w items at a place are there
abbrev pub AreIn : {A : Type 0} → ℕ → List A → ℕ → Type 0
AreIn w xs n = w * n + w ≤ length xs

pub all_head : {A : Type 0} (P : A → Type 0) (x : A) (xs : List A) → All P (x ∷ xs) → P x
all_head P x xs all = all 0 x (omega arith)

pub all_tail : {A : Type 0} (P : A → Type 0) (x : A) (xs : List A) → All P (x ∷ xs) → All P xs
all_tail P x xs all k d h = all (suc k) d (omega (arith, h))

pub front : {A : Type 0} (w : ℕ) (xs : List A) (n : ℕ) → AreIn w xs n → length (take w (drop (w * n) xs)) ≡ w
front w xs n fits = let behind = length-drop (w * n) xs in length-take-le w (drop (w * n) xs) (omega (arith, fits, behind))

-- item r of the value at place i
item_of : {A : Type 0} (w : ℕ) (xs : List A) (ns : List ℕ) (i r n : ℕ) (d : A) → slice_get ns i ≡ Some n → r < w → All (AreIn w xs) ns → get_or (items_at w xs ns) (w * i + r) d ≡ get_or xs (w * n + r) d
item_of w xs [] i r n d at few all = absurd cc
item_of w xs (m ∷ ms) zero r n d at few all =
    let here = take w (drop (w * m) xs) in
    let same : m ≡ n = cc in
    let long = front w xs m (all_head (AreIn w xs) m ms all) in
    let begin : w * 0 + r ≡ r = grind arith in
    ap (λ k. get_or (items_at w xs (m ∷ ms)) k d) begin
    ∙ get_or_append_left here (items_at w xs ms) d r (omega (arith, few, long))
    ∙ get_or-take w (drop (w * m) xs) r d few ∙ get_or-drop (w * m) xs r d ∙ ap (λ p. get_or xs (w * p + r) d) same
item_of w xs (m ∷ ms) (suc i) r n d at few all =
    let here = take w (drop (w * m) xs) in
    let long = front w xs m (all_head (AreIn w xs) m ms all) in
    let step : w * suc i + r ≡ w + (w * i + r) = grind arith in
    ap (λ k. get_or (items_at w xs (m ∷ ms)) k d) (step ∙ ap (λ l. l + (w * i + r)) (sym long))
    ∙ get_or-append-add here (items_at w xs ms) (w * i + r) d
    ∙ item_of w xs ms i r n d at few (all_tail (AreIn w xs) m ms all)

-- no value stands behind the last place
item_past : {A : Type 0} (w : ℕ) (xs : List A) (ns : List ℕ) (i r : ℕ) (d : A) → slice_get ns i ≡ None → All (AreIn w xs) ns → get_or (items_at w xs ns) (w * i + r) d ≡ d
item_past w xs [] i r d at all = refl
item_past w xs (m ∷ ms) zero r d at all = absurd cc
item_past w xs (m ∷ ms) (suc i) r d at all =
    let here = take w (drop (w * m) xs) in
    let long = front w xs m (all_head (AreIn w xs) m ms all) in
    let step : w * suc i + r ≡ w + (w * i + r) = grind arith in
    ap (λ k. get_or (items_at w xs (m ∷ ms)) k d) (step ∙ ap (λ l. l + (w * i + r)) (sym long))
    ∙ get_or-append-add here (items_at w xs ms) (w * i + r) d
    ∙ item_past w xs ms i r d at (all_tail (AreIn w xs) m ms all)

-- item k of all
item_is : {A : Type 0} (w : ℕ) (xs : List A) (ns : List ℕ) (k e : ℕ) (d : A) → 1 ≤ w → k / w < length ns → All (AreIn w xs) ns → get_or (items_at w xs ns) k d ≡ get_or xs (w * get_or ns (k / w) e + k % w) d
item_is w xs ns k e d some few all =
    ap (λ j. get_or (items_at w xs ns) j d) (sym (div-add-mod k w))
    ∙ item_of w xs ns (k / w) (k % w) (get_or ns (k / w) e) d (slice_get-get_or ns (k / w) e few) (mod-lt k some) all

pub no_item : {A : Type 0} (w : ℕ) (xs : List A) (ns : List ℕ) (k : ℕ) (d : A) → length ns ≤ k / w → All (AreIn w xs) ns → get_or (items_at w xs ns) k d ≡ d
no_item w xs ns k d few all = ap (λ j. get_or (items_at w xs ns) j d) (sym (div-add-mod k w)) ∙ item_past w xs ns (k / w) (k % w) d (slice_get_past ns (k / w) few) all

-- the item is there
item_there : {A : Type 0} (w : ℕ) (xs : List A) (ns : List ℕ) (k e : ℕ) → 1 ≤ w → k / w < length ns → All (AreIn w xs) ns → w * get_or ns (k / w) e + k % w < length xs
item_there w xs ns k e some few all = let low = mod-lt k some in let fits = all (k / w) e few in omega (arith, fits, low)

-- what is read there is the item
pub item_read : {A : Type 0} (w : ℕ) (xs : List A) (ns : List ℕ) (k e : ℕ) (d x : A) → 1 ≤ w → k / w < length ns → All (AreIn w xs) ns → x ≡ get_or xs (w * get_or ns (k / w) e + k % w) x → x ≡ get_or (items_at w xs ns) k d
item_read w xs ns k e d x some few all is =
    is ∙ get_or_default xs (w * get_or ns (k / w) e + k % w) x d (item_there w xs ns k e some few all) ∙ sym (item_is w xs ns k e d some few all)
