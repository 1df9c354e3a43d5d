use Rattle.std.proofs.Common.{arith, ◌≡◌, ◌≤◌, ◌<◌, ◌+ℤ◌, ◌-ℤ◌, ◌*ℤ◌, pos}
use Rattle.std.proofs.lemmas.Int.{ints, to_z-of_z}
use Rattle.fixed_math.specs.Power.{log_bits, log2_of}
use Rattle.fixed_math.proofs.power.log2_of.Goals as goal

pub returns : goal.returns
unfolding log2_of
returns c =
    let k = c.floor_log2-k.result in
    let bits = c.log_bits-bits.result in
    let place : k ≤ 30 = c.floor_log2-k.ensures.place in
    let few : bits < 65536 = omega (arith, c.log_bits-bits.ensures.bound) in
    let value : c.from_raw.result ≡ (pos k -ℤ pos 16) *ℤ pos 65536 +ℤ pos bits = search (to_z-of_z, ints, arith) in
    let bits_are : bits ≡ log_bits 16 c.mantissa.result = omega (arith, c.log_bits-bits.ensures.value) in
    rw (← c.floor_log2-k.ensures.value, ← c.mantissa.ensures.value, ← bits_are) value
