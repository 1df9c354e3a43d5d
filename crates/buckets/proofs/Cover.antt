-- Buckets along a line of pixels, and their numbers by rows.
use Rattle.std.proofs.Common.{◌≡◌, ℕ, zero, suc, ◌+◌, ◌-◌, ◌*◌, ◌/◌, ◌%◌, ◌<◌, ◌≤◌, ◌⊎◌, inl, inr, arith, ◌∙◌, ap}
use Rattle.std.proofs.Math.Nat.{div-add-mod, mod-lt, mul-le-mul_left, mul-le-mul_right, mul-add, mul_comm, eq-or-lt_of_le}
use Rattle.filter_ppm.proofs.Grids.{row_of}

-- c buckets of side s just cover w pixels
pub record Cover (s w c : ℕ) : Type 0 where
  pub enough : w ≤ s * c
  pub few : s * c < w + s

pub along_covers : (s w : ℕ) → 0 < s → Cover s w ((w + (s - 1)) / s)
along_covers s w some =
    let m = w + (s - 1) in
    let e = div-add-mod m s in
    let r = mod-lt m {m = s} some in
    record { enough = omega (arith, e, r, some); few = omega (arith, e, some) }

-- there is one where there are pixels, and there are no more than a quarter of 4096
pub some_along : (s w c : ℕ) → 0 < w → Cover s w c → 0 < c
some_along s w zero h k = let e = k.enough in absurd (omega (arith, e, h))
some_along s w (suc c) h k = omega arith

pub few_along : (s w c : ℕ) → 4 ≤ s → w ≤ 4096 → Cover s w c → c ≤ 1024
few_along s w zero low high k = omega arith
few_along s w (suc c) low high k =
    let four = mul-le-mul_right c low in
    let one : s * suc c ≡ s * c + s = grind arith in
    let few = k.few in
    omega (arith, four, one, few, high)

-- the bucket in a column begins among the pixels, and the last one ends with them
pub begins_inside : (s w c column : ℕ) → Cover s w c → column < c → s * column < w
begins_inside s w c column k low =
    let most : s * (column + 1) ≤ s * c = mul-le-mul_left s (omega (arith, low)) in
    let one = mul-add s column 1 in
    let few = k.few in
    omega (arith, most, one, few)

pub ends_with : (s w c column : ℕ) → Cover s w c → column + 1 ≡ c → w ≤ s * column + s
ends_with s w c column k is =
    let one = mul-add s column 1 in
    let all = ap (λ n. s * n) is in
    let enough = k.enough in
    omega (arith, one, all, enough)

-- the number behind n, in the same row or at the start of the next
pub record SameRow (c n : ℕ) : Type 0 where
  pub row : (n + 1) / c ≡ n / c
  pub column : (n + 1) % c ≡ n % c + 1
  pub inside : n % c + 1 < c

pub record NextRow (c n : ℕ) : Type 0 where
  pub row : (n + 1) / c ≡ n / c + 1
  pub column : (n + 1) % c ≡ 0
  pub last : n % c + 1 ≡ c

same_row : (c n : ℕ) → 0 < c → n % c + 1 < c → SameRow c n
same_row c n some low =
    let e = div-add-mod n c in
    let turned = mul_comm c (n / c) in
    let at = row_of (n + 1) c (n / c) some (omega (arith, e, turned)) (omega (arith, e, turned, low)) in
    let row = at.in_row in
    let column = at.in_column in
    record { row = row; column = omega (arith, column, e, turned); inside = low }

next_row : (c n : ℕ) → 0 < c → n % c + 1 ≡ c → NextRow c n
next_row c n some is =
    let e = div-add-mod n c in
    let turned = mul_comm c (n / c) in
    let more : (n / c + 1) * c ≡ c * (n / c) + c = mul_comm (n / c + 1) c ∙ mul-add c (n / c) 1 ∙ (let one : c * 1 ≡ c = omega arith in ap (λ k. c * (n / c) + k) one) in
    let at = row_of (n + 1) c (n / c + 1) some (omega (arith, e, more, is)) (omega (arith, e, more, is, some)) in
    let row = at.in_row in
    let column = at.in_column in
    record { row = row; column = omega (arith, column, e, more, is); last = is }

pub behind : (c n : ℕ) → 0 < c → SameRow c n ⊎ NextRow c n
behind c n some =
    let low = mod-lt n {m = c} some in
    by_order (eq-or-lt_of_le {n = n % c + 1} {m = c} (omega (arith, low)))
  where
    by_order : (n % c + 1 ≡ c) ⊎ (n % c + 1 < c) → SameRow c n ⊎ NextRow c n
    by_order (inl is) = inr (next_row c n some is)
    by_order (inr low) = inl (same_row c n some low)
