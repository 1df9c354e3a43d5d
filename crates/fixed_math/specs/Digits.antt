-- The digits of a number: the first 18 behind leading zeros are kept, and those behind them count as zeros.
use Rattle.std.specs.Prelude.{◌≡◌, ℕ, ◌+◌, ◌-◌, ◌*◌, List, length, take, drop, ◌==◌}
use Rattle.std.specs.List.{fold, prefix_len}
use Rattle.fixed_math.specs.declared.digits.Digits.{Digits}

-- behind leading zeros
abbrev pub significant : List ℕ → List ℕ
significant ds = drop (prefix_len (λ d. d == 48) ds) ds

-- the number that a row of digits stands for
abbrev pub value_of : List ℕ → ℕ
value_of ds = fold (λ n d. n * 10 + (d - 48)) 0 ds

-- the number of the digits that are kept
abbrev pub kept_value : List ℕ → ℕ
kept_value ds = value_of (take 18 (significant ds))

-- how many digits aren't kept
abbrev pub dropped_count : List ℕ → ℕ
dropped_count ds = length (significant ds) - 18

-- what is known of these digits
pub record IsDigitsOf (ds : List ℕ) (d : Digits) : Type 0 where
  pub value : d.value ≡ kept_value ds
  pub kept : d.kept ≡ length (take 18 (significant ds))
  pub dropped : d.dropped ≡ dropped_count ds
