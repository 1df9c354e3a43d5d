-- The digits at the front of a number, and its exponent.
use Rattle.std.proofs.Common.{◌≡◌, ℕ, ◌<◌, List, length, Bool, true, false, slice_index, arith, get_or, ap, ◌∙◌, min, pos, ◌+ℤ◌, ◌-ℤ◌}
use Rattle.std.proofs.lemmas.Int.{ints}
use Rattle.std.proofs.lemmas.List.{get_or-take}
use Rattle.std.proofs.lemmas.List.Sums.{prefix_len_passes}
use Rattle.std.proofs.lemmas.List.Folds.{length-prefix_len}
use Rattle.std.specs.List.{prefix_len, take_while}
use Rattle.fixed_math.specs.NumberBytes.{is_digit}
use Rattle.fixed_math.specs.Decimal.{signed}
use Rattle.fixed_math.specs.DecimalText.{digits_at, cut}

-- what is taken from the front while a test passes passes it
pub front_passes : (p : ℕ → Bool) (bs : List ℕ) (k d : ℕ) → k < length (take_while p bs) → p (get_or (take_while p bs) k d) ≡ true
front_passes p bs k d h =
    let within : k < prefix_len p bs = omega (arith, length-prefix_len p bs) in
    ap p (get_or-take (prefix_len p bs) bs k d within) ∙ prefix_len_passes p bs k d within

pub digits_pass : (bs : List ℕ) (k : ℕ) → k < length (digits_at bs) → is_digit (slice_index (digits_at bs) k) ≡ true
digits_pass bs k h = front_passes is_digit bs k 0 h

-- an exponent past 10^20 leaves the field at its limit, whatever the digits add or take away
pub capped_exponent : (negative : Bool) (v d p : ℕ) → d < 18446744073709551616 → p < 18446744073709551616 → cut ((signed negative (min v 100000000000000000000) +ℤ pos d) -ℤ pos p) ≡ cut ((signed negative v +ℤ pos d) -ℤ pos p)
capped_exponent true v d p few places = grind (arith, ints)
capped_exponent false v d p few places = grind (arith, ints)
