-- Places of a grid, and rows of registers where a row is stored at the places that are live.
use Rattle.std.proofs.Common.{◌≡◌, ℕ, zero, suc, ◌+◌, ◌-◌, ◌*◌, ◌/◌, ◌%◌, ◌<◌, ◌≤◌, Bool, false, cond, List, length, get_or, take, drop, sym, ap, ◌∙◌, arith, ⊎_elim}
use Rattle.std.specs.Prelude.{◌&&◌, ◌==◌}
use Rattle.std.proofs.Math.Nat.{div-lt_iff_lt-mul, mul_comm}
use Rattle.std.proofs.lemmas.Nat.{mul-add-lt, mul-le}
use Rattle.std.proofs.lemmas.List.{get_or_append_left, get_or-append-add, get_or-take, get_or-drop, length-take-le}
use Rattle.std.proofs.lemmas.Slice.{drop-put_mid}
use Rattle.std.proofs.lemmas.Bool.{and_left, cond-false, ne_eqb, eq-eqb, cases_eq, cases_lt}
use borrow.Rule.Slice.PartMut.{mid_of, put_mid}

-- the next place of a row lies on the grid
pub next_in : (c w lines i : ℕ) → c ≡ w * lines → 2 ≤ w → i < c → i % w + 1 < w → i + 1 < c
next_in c w lines i shape wide l h =
    let pos : 0 < w = omega arith in
    let at : i < lines * w = omega (arith, mul_comm w lines) in
    let q : i / w < lines = (div-lt_iff_lt-mul {k = w} {x = i} {y = lines} pos).1 at in
    omega (arith, mul-add-lt (i / w) w (i % w + 1) lines q h)

next_multiple : (m w : ℕ) → suc m * w ≡ m * w + w
next_multiple m w = omega arith

-- a list whose part from one on was put anew, before that part, in it, and behind it
module _ {A : Type 0} (xs ys : List A) (a n : ℕ) (d : A) (fits : a + n ≤ length xs) (long : length ys ≡ n) where
  put_before : (i : ℕ) → i < a → get_or (put_mid a n xs ys) i d ≡ get_or xs i d
  put_before i l = get_or_append_left (take a xs) _ d i (let e = length-take-le a xs (omega arith) in omega arith) ∙ get_or-take a xs i d l

  put_here : (j : ℕ) → j < n → get_or (put_mid a n xs ys) (a + j) d ≡ get_or ys j d
  put_here j l =
      ap (λ m. get_or (put_mid a n xs ys) (m + j) d) (sym (length-take-le a xs (omega arith))) ∙ get_or-append-add (take a xs) _ j d ∙ get_or_append_left ys _ d j (omega arith)

  put_behind : (i : ℕ) → get_or (put_mid a n xs ys) (a + n + i) d ≡ get_or xs (a + n + i) d
  put_behind i =
      sym (get_or-drop (a + n) (put_mid a n xs ys) i d) ∙ ap (λ zs. get_or zs i d) (drop-put_mid a n xs ys (a + n) (omega arith) (omega arith) long) ∙ get_or-drop (a + n) xs i d

  put_mid_of : (j : ℕ) → j < n → get_or (mid_of a n xs) j d ≡ get_or xs (a + j) d
  put_mid_of j l = get_or-take n (drop a xs) j d l ∙ get_or-drop a xs j d

-- places of other rows than that one
module _ {A : Type 0} (xs ys : List A) (k P : ℕ) (d : A) (fits : k * P + P ≤ length xs) (long : length ys ≡ P) where
  put_others : (r j : ℕ) → j < P → (r ≡ k → ⊥) → get_or (put_mid (k * P) P xs ys) (r * P + j) d ≡ get_or xs (r * P + j) d
  put_others r j l ne =
      ⊎_elim
      (λ below. let e = mul-le (suc r) P k P (omega arith) (omega arith) in let f = next_multiple r P in put_before xs ys (k * P) P d fits long (r * P + j) (omega arith))
      (λ above.
      let e = mul-le (suc k) P r P (omega arith) (omega arith) in
      let f = next_multiple k P in
      let at : r * P + j ≡ k * P + P + (r * P + j - (k * P + P)) = omega arith in
      ap (λ m. get_or (put_mid (k * P) P xs ys) m d) at ∙ put_behind xs ys (k * P) P d fits long (r * P + j - (k * P + P)) ∙ ap (λ m. get_or xs m d) (sym at))
      (cases_lt r k)

-- a row of registers that took another row's elements at the places that are live
pub stored : {A : Type 0} (xs row ys : List A) (live : List Bool) (k P n : ℕ) (d : A) → n ≡ P → k * P + P ≤ length xs → length ys ≡ P → ((j : ℕ) → j < P → get_or ys j d ≡ cond (get_or live j false) (get_or row j d) (get_or (mid_of (k * P) n xs) j d)) →
    (r j : ℕ) → j < P → get_or (put_mid (k * P) n xs ys) (r * P + j) d ≡ cond (r == k && get_or live j false) (get_or row j d) (get_or xs (r * P + j) d)
stored xs row ys live k P n d same fits long h r j l =
    let q = get_or live j false in
    ap (λ m. get_or (put_mid (k * P) m xs ys) (r * P + j) d) same
    ∙ ⊎_elim
    (λ e.
    ap (λ m. get_or (put_mid (k * P) P xs ys) (m * P + j) d) e ∙ put_here xs ys (k * P) P d fits long j l ∙ h j l
    ∙ ap (λ x. cond q (get_or row j d) x) (ap (λ m. get_or (mid_of (k * P) m xs) j d) same ∙ put_mid_of xs ys (k * P) P d fits long j l ∙ ap (λ m. get_or xs (m * P + j) d) (sym e))
    ∙ ap (λ b. cond (b && q) (get_or row j d) (get_or xs (r * P + j) d)) (sym (eq-eqb r k e)))
    (λ ne. put_others xs ys k P d fits long r j l ne ∙ sym (cond-false _ _ _ (and_left (r == k) q (ne_eqb r k ne))))
    (cases_eq r k)

-- the place under one that isn't in the last row lies on the grid, and so does the one over a place of the last row
pub under_in : (c w lines i : ℕ) → c ≡ w * lines → 2 ≤ w → i < c → i / w + 1 < lines → i + w < c
under_in c w zero i shape wide l h = absurd (omega arith)
under_in c w (suc m) i shape wide l h =
    let pos : 0 < w = omega arith in
    let q : i < m * w = (div-lt_iff_lt-mul {k = w} {x = i} {y = m} pos).0 (omega arith) in
    omega (arith, shape, mul_comm w (suc m), next_multiple m w)

pub over_in : (c w lines i : ℕ) → 2 ≤ w → 2 ≤ lines → lines ≤ i / w + 1 → w ≤ i
over_in c w lines i wide tall h =
    ⊎_elim
    (λ l. let pos : 0 < w = omega arith in let z : i / w < 1 = (div-lt_iff_lt-mul {k = w} {x = i} {y = 1} pos).1 (omega arith) in absurd (omega arith))
    (λ g. g)
    (cases_lt i w)
