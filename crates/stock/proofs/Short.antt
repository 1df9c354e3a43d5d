-- The demonstration scene is shorter than the longest scene text.
use Rattle.std.proofs.Common.{◌≡◌, ℕ, zero, suc, ◌+◌, ◌*◌, ◌/◌, ◌%◌, ◌<◌, ◌≤◌, ℤ, pos, negsuc, ◌-ℤ◌, unsigned_abs, List, ◌++◌, length, codes, decimal, arith, length-append}
use Rattle.std.specs.List.{range_with_len, flat_map}
use Rattle.std.proofs.lemmas.Fmt.{length-decimal-le}
use Rattle.stock.specs.Demo.{sign_of, tenths, drawn, spaced, part_text, colour_line, x_at, y_at, z_at, point_text, next_point, points_text, patch_line, patch_lines, first_lines, last_line, demo}

short_decimal : (n : ℕ) → n < 1000 → length (decimal n) ≤ 3
short_decimal n few = length-decimal-le 3 n (omega arith) (omega (arith, few)) (omega (arith, few))

short_sign : (x : ℤ) → length (sign_of x) ≤ 1
short_sign (pos n) = omega arith
short_sign (negsuc n) = omega arith

short_tenths : (x : ℤ) → unsigned_abs x < 1000 → length (tenths x) ≤ 8
short_tenths x few =
    let n = unsigned_abs x in
    let whole = short_decimal (n / 10) (omega (arith, few)) in
    let digit = short_decimal (n % 10) (omega arith) in
    let a = length-append (sign_of x) (decimal (n / 10) ++ (codes "." ++ decimal (n % 10))) in
    let b = length-append (decimal (n / 10)) (codes "." ++ decimal (n % 10)) in
    let c = length-append (codes ".") (decimal (n % 10)) in
    omega (arith, whole, digit, a, b, c, short_sign x)

short_spaced : (m : ℕ) (a b c : List ℕ) → length a ≤ m → length b ≤ m → length c ≤ m → length (spaced a b c) ≤ 3 * m + 2
short_spaced m a b c x y z =
    let p = length-append a (codes " " ++ (b ++ (codes " " ++ c))) in
    let q = length-append b (codes " " ++ c) in
    omega (arith, p, q, x, y, z)

small_difference : (a b : ℕ) → a < 500 → b < 500 → unsigned_abs (pos a -ℤ pos b) < 1000
small_difference a b x y = grind (arith, x, y)

short_point : (k n : ℕ) → n < 16 → length (point_text k n) ≤ 26
short_point k n few =
    let x = short_tenths (x_at k n) (small_difference (drawn k 100 60 + 4 * (n % 4)) 30 (omega arith) (omega arith)) in
    let y = short_tenths (y_at k n) (small_difference (drawn k 101 40 + 4 * (n / 4)) 20 (omega (arith, few)) (omega arith)) in
    let z = short_tenths (z_at k n) (omega arith) in
    short_spaced 8 (tenths (x_at k n)) (tenths (y_at k n)) (tenths (z_at k n)) x y z

-- parts for each number of a row
short_parts : (part : ℕ → List ℕ) (most a n : ℕ) → ((k : ℕ) → k < a + n → length (part k) ≤ most) → length (flat_map part (range_with_len a n)) ≤ most * n
short_parts part most a zero few = omega arith
short_parts part most a (suc n) few =
    let rest = short_parts part most (a + 1) n (λ k low. few k (omega (arith, low))) in
    let one = few a (omega arith) in
    let sum = length-append (part a) (flat_map part (range_with_len (a + 1) n)) in
    let times : most * suc n ≡ most * n + most = grind arith in
    omega (arith, rest, one, sum, times)

short_points : (k : ℕ) → length (points_text k) ≤ 431
short_points k =
    let first = short_point k 0 (omega arith) in
    let others = short_parts (next_point k) 27 1 15 (λ n low. let p = short_point k n (omega (arith, low)) in omega (arith, p)) in
    let sum = length-append (point_text k 0) (flat_map (next_point k) (range_with_len 1 15)) in
    omega (arith, first, others, sum)

short_patch : (k : ℕ) → length (patch_line k) ≤ 454
short_patch k =
    let sum = length-append (points_text k) (codes "]\n") in
    omega (arith, sum, short_points k)

short_part : (k m : ℕ) → length (part_text k m) ≤ 5
short_part k m = let d = short_decimal (drawn k m 10) (omega arith) in omega (arith, d)

short_colour : (k : ℕ) → length (colour_line k) ≤ 26
short_colour k =
    let parts = short_spaced 5 (part_text k 0) (part_text k 1) (part_text k 2) (short_part k 0) (short_part k 1) (short_part k 2) in
    let sum = length-append (spaced (part_text k 0) (part_text k 1) (part_text k 2)) (codes "]\n") in
    omega (arith, parts, sum)

short_lines : (k : ℕ) → length (patch_lines k) ≤ 480
short_lines k =
    let sum = length-append (colour_line k) (patch_line k) in
    omega (arith, sum, short_colour k, short_patch k)

pub short_demo : (n : ℕ) → n ≤ 1000 → length (demo n) ≤ 16777216
short_demo n few =
    let patches = short_parts patch_lines 480 0 n (λ k low. short_lines k) in
    let front = length-append first_lines (flat_map patch_lines (range_with_len 0 n)) in
    let all = length-append (first_lines ++ flat_map patch_lines (range_with_len 0 n)) last_line in
    omega (arith, patches, front, all, few)
