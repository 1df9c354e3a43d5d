-- Samples by rows of pixels.
use Rattle.std.proofs.Common.{◌≡◌, ℕ, zero, suc, ◌+◌, ◌-◌, ◌*◌, ◌/◌, ◌%◌, ◌<◌, ◌≤◌, ap, arith, refl, ◌∙◌, List, [], inl, inr, slice_index_or}
use Rattle.std.specs.Prelude.{Option, None}
use Rattle.std.specs.List.{cons_option}
use Rattle.std.proofs.Math.Nat.{mod-lt, div-add-mod, div-lt_iff_lt-mul, le-div_iff_mul-le, mul-le-mul_right, mul_comm, mul-pos}
use Rattle.hider.specs.declared.fragment.Fragment.{Fragment}
use Rattle.hider.specs.declared.sample.Sample.{Sample}
use Rattle.hider.specs.declared.sample_grid.SampleGrid.{SampleGrid}
use Rattle.hider.specs.Searching.{column_of, row_of, IsPartOf, LiesBeside, StaysIn}
use Rattle.hider.specs.Tiles.{IsSampleGrid, HasPut, HavePutBetween, HaveKept, sample_count, sample_of}

pub by_lt : {P : Type 0} (a b : ℕ) → (a < b → P) → (b ≤ a → P) → P
by_lt a zero f g = g (omega arith)
by_lt zero (suc b) f g = f (omega arith)
by_lt (suc a) (suc b) f g = by_lt a b (λ h. f (omega (arith, h))) (λ h. g (omega (arith, h)))

-- ---- numbers of samples by the row and column of their pixels: k samples a pixel, w pixels a row
low_number : (k w n row l : ℕ) → 0 < k → n / k < row * w + l → n < (row * w + l) * k
low_number k w n row l h e = (div-lt_iff_lt-mul {k = k} {x = n} {y = row * w + l} h).0 e

high_number : (k w n row r : ℕ) → 0 < k → row * w + r ≤ n / k → (row * w + r) * k ≤ n
high_number k w n row r h e = (le-div_iff_mul-le {k = k} {x = row * w + r} {y = n} h).0 e

parts : (p w : ℕ) → p / w * w + p % w ≡ p
parts p w = let e = div-add-mod p w in let f = mul_comm w (p / w) in omega (arith, e, f)

-- in an earlier row
earlier : (k w n row l : ℕ) → 0 < k → 0 < w → n / k / w < row → n < (row * w + l) * k
earlier k w n row l hk hw h =
    let p = n / k in
    let e = parts p w in
    let c : p % w < w = mod-lt p hw in
    let m : (p / w + 1) * w ≤ row * w = mul-le-mul_right w (omega (arith, h)) in
    let s : (p / w + 1) * w ≡ p / w * w + w = omega arith in
    low_number k w n row l hk (omega (arith, e, c, m, s))

-- in a later one
later : (k w n row r : ℕ) → 0 < k → r ≤ w → row < n / k / w → (row * w + r) * k ≤ n
later k w n row r hk hr h =
    let p = n / k in
    let e = parts p w in
    let m : (row + 1) * w ≤ p / w * w = mul-le-mul_right w (omega (arith, h)) in
    let s : (row + 1) * w ≡ row * w + w = omega arith in
    high_number k w n row r hk (omega (arith, e, m, s, hr))

-- in the row, by column
on_left : (k w n row l : ℕ) → 0 < k → n / k / w ≡ row → n / k % w < l → n < (row * w + l) * k
on_left k w n row l hk h c =
    let e = parts (n / k) w in
    let f : n / k / w * w ≡ row * w = ap (λ q. q * w) h in
    low_number k w n row l hk (omega (arith, e, f, c))

on_right : (k w n row r : ℕ) → 0 < k → n / k / w ≡ row → r ≤ n / k % w → (row * w + r) * k ≤ n
on_right k w n row r hk h c =
    let e = parts (n / k) w in
    let f : n / k / w * w ≡ row * w = ap (λ q. q * w) h in
    high_number k w n row r hk (omega (arith, e, f, c))

pub row_inside : (w h k row r : ℕ) → row < h → r ≤ w → (row * w + r) * k ≤ w * h * k
row_inside w h k row r a b =
    let m : (row + 1) * w ≤ h * w = mul-le-mul_right w (omega (arith, a)) in
    let s : (row + 1) * w ≡ row * w + w = omega arith in
    let c : h * w ≡ w * h = mul_comm h w in
    mul-le-mul_right k (omega (arith, m, s, c, b))

-- ---- row by row
pub nothing_put : (shown : Sample → Option Fragment) (s : Sample) (o : List Fragment) → shown s ≡ None → HasPut (λ s. cons_option (shown s) []) s o o
nothing_put shown s o e = rw e refl

-- what is to be put in is in the samples of the first rows, and the others are as they were
pub record RowsDone (g : SampleGrid) (row : ℕ) (h : Sample → List Fragment) (old new : List (List Fragment)) : Type 0 where
  pub done : (n : ℕ) (d : List Fragment) → n < sample_count g → row_of g n < g.top + row → HasPut h (sample_of g n) (slice_index_or old n d) (slice_index_or new n d)
  pub rest : (n : ℕ) (d : List Fragment) → n < sample_count g → g.top + row ≤ row_of g n → slice_index_or new n d ≡ slice_index_or old n d

-- the samples of one row, between the numbers of the first and behind the last of its part
pub record IsRowPart (g part : SampleGrid) (row first last : ℕ) : Type 0 where
  pub first_is : first ≡ (row * (g.right - g.left) + (part.left - g.left)) * (g.xs * g.ys)
  pub last_is : last ≡ (row * (g.right - g.left) + (part.right - g.left)) * (g.xs * g.ys)

pub some_samples : (g : SampleGrid) → IsSampleGrid g → 0 < g.xs * g.ys
some_samples g v = mul-pos (let h = v.some_xs in omega (arith, h)) (let h = v.some_ys in omega (arith, h))

-- where sample n stands to a part of a row
number_before : (g part : SampleGrid) (row first last n : ℕ) → IsSampleGrid g → IsRowPart g part row first last → row_of g n < g.top + row → n < first
number_before g part row first last n v e h =
    let w = v.across in
    rw (e.first_is) (earlier (g.xs * g.ys) (g.right - g.left) n row (part.left - g.left) (some_samples g v) (omega (arith, w)) (omega (arith, h)))

number_behind : (g part : SampleGrid) (row first last n : ℕ) → IsSampleGrid g → IsPartOf part g → IsRowPart g part row first last → g.top + (row + 1) ≤ row_of g n → last ≤ n
number_behind g part row first last n v p e h =
    let a = p.right in
    rw (e.last_is) (later (g.xs * g.ys) (g.right - g.left) n row (part.right - g.left) (some_samples g v) (omega (arith, a)) (omega (arith, h)))

number_left : (g part : SampleGrid) (row first last n : ℕ) → IsSampleGrid g → IsRowPart g part row first last → row_of g n ≡ g.top + row → column_of g n < part.left → n < first
number_left g part row first last n v e y x =
    rw (e.first_is) (on_left (g.xs * g.ys) (g.right - g.left) n row (part.left - g.left) (some_samples g v) (omega (arith, y)) (omega (arith, x)))

number_from : (g part : SampleGrid) (row first last n : ℕ) → IsSampleGrid g → IsRowPart g part row first last → row_of g n ≡ g.top + row → part.left ≤ column_of g n → first ≤ n
number_from g part row first last n v e y x =
    rw (e.first_is) (on_right (g.xs * g.ys) (g.right - g.left) n row (part.left - g.left) (some_samples g v) (omega (arith, y)) (omega (arith, x)))

number_to : (g part : SampleGrid) (row first last n : ℕ) → IsSampleGrid g → IsRowPart g part row first last → row_of g n ≡ g.top + row → column_of g n < part.right → n < last
number_to g part row first last n v e y x =
    rw (e.last_is) (on_left (g.xs * g.ys) (g.right - g.left) n row (part.right - g.left) (some_samples g v) (omega (arith, y)) (omega (arith, x)))

number_right : (g part : SampleGrid) (row first last n : ℕ) → IsSampleGrid g → IsRowPart g part row first last → row_of g n ≡ g.top + row → part.right ≤ column_of g n → last ≤ n
number_right g part row first last n v e y x =
    rw (e.last_is) (on_right (g.xs * g.ys) (g.right - g.left) n row (part.right - g.left) (some_samples g v) (omega (arith, y)) (omega (arith, x)))

-- at a sample beside the part nothing is put in
beside : (g part : SampleGrid) (shown : Sample → Option Fragment) (n : ℕ) (l : List Fragment) → StaysIn part g shown → n < sample_count g → LiesBeside part g n → HasPut (λ s. cons_option (shown s) []) (sample_of g n) l l
beside g part shown n l s h b = nothing_put shown (sample_of g n) l (s n h b)

put_same : (h : Sample → List Fragment) (s : Sample) (a b c : List Fragment) → c ≡ b → HasPut h s a b → HasPut h s a c
put_same h s a b c e p = rw e p

pub rows_done_next : (g part : SampleGrid) (row first last : ℕ) (shown : Sample → Option Fragment) (a b c : List (List Fragment)) → IsSampleGrid g → IsPartOf part g → StaysIn part g shown →
    IsRowPart g part row first last → RowsDone g row (λ s. cons_option (shown s) []) a b → HaveKept first last b c → HavePutBetween first last g (λ s. cons_option (shown s) []) b c →
    RowsDone g (row + 1) (λ s. cons_option (shown s) []) a c
rows_done_next g part row first last shown a b c v p s e r others put =
    let h : Sample → List Fragment = λ t. cons_option (shown t) [] in
    record {
      done = λ n d l y.
          let o = slice_index_or a n d in
          let m = slice_index_or b n d in
          let z = slice_index_or c n d in
          let t = sample_of g n in
          by_lt (row_of g n) (g.top + row)
          (λ before. put_same h t o m z (others n d (inl (number_before g part row first last n v e before))) (r.done n d l before))
          (λ further.
          let same : row_of g n ≡ g.top + row = omega (arith, y, further) in
          let kept = r.rest n d l further in
          by_lt (column_of g n) part.left
          (λ left. put_same h t o o z (others n d (inl (number_left g part row first last n v e same left)) ∙ kept) (beside g part shown n o s l (inl left)))
          (λ from. by_lt (column_of g n) part.right
          (λ to. rw (kept) at (put n d (number_from g part row first last n v e same from) (number_to g part row first last n v e same to)))
          (λ right. put_same h t o o z (others n d (inr (number_right g part row first last n v e same right)) ∙ kept) (beside g part shown n o s l (inr (inl right))))));
      rest = λ n d l y. others n d (inr (number_behind g part row first last n v p e y)) ∙ r.rest n d l (omega (arith, y));
    }
