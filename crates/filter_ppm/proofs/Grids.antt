-- Numbers of pixels and samples, by rows.
use Rattle.std.proofs.Common.{◌≡◌, ℕ, ◌+◌, ◌-◌, ◌*◌, ◌/◌, ◌%◌, ◌<◌, ◌≤◌, arith, ◌∙◌, ap}
use Rattle.std.proofs.Math.Nat.{div-lt_iff_lt-mul, add-mul, mod-eq-sub-div-mul, div-eq_of_lt-le}

-- the samples before those of pixel a
pub before_pixel : (n k a : ℕ) → 0 < k → n < a * k → n / k < a
before_pixel n k a h l = (div-lt_iff_lt-mul {k = k} {x = n} {y = a} h).1 l

-- the row and the column of a pixel
pub record IsAt (q w row column : ℕ) : Type 0 where
  pub in_row : q / w ≡ row
  pub in_column : q % w ≡ column

pub row_of : (q w row : ℕ) → 0 < w → row * w ≤ q → q < row * w + w → IsAt q w row (q - row * w)
row_of q w row some low high =
    let wide : (row + 1) * w ≡ row * w + 1 * w = add-mul row (1) w in
    let d : q / w ≡ row = div-eq_of_lt-le {k = row} w {m = q} low (omega (arith, high, wide)) in
    let m : q % w ≡ q - q / w * w = mod-eq-sub-div-mul q w in
    record { in_row = d; in_column = m ∙ ap (λ r. q - r * w) d }
