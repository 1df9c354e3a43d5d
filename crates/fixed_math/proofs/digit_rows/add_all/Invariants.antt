use Rattle.std.proofs.Common.{◌≤◌, ◌+◌, ◌++◌, ℕ, List, take}
use Rattle.fixed_math.specs.Digits.{IsDigitsOf}
use Rattle.fixed_math.proofs.digit_rows.add_all.Given as goal

abbrev pub invariant-loop-byte : goal.invariant-loop-byte
invariant-loop-byte l = record {
  more : (ds : List ℕ) → IsDigitsOf ds l.fn.digits → IsDigitsOf (ds ++ take l.byte-index l.bytes) l.all;
  dropped : l.all.dropped ≤ l.fn.digits.dropped + l.byte-index;
}
