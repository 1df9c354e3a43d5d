-- The least size that is long enough.
use Rattle.std.proofs.Common.{◌≡◌, ℕ, zero, suc, ◌*◌, ◌^◌, ◌<◌, ◌≤◌, arith, Some}
use Rattle.std.proofs.lemmas.Bool.Decides.{nat_tests}
use Rattle.bound_split.specs.Decisions.{grid_size}

-- p is the least size where no smaller one is long enough
pub first_size : (e l p : ℕ) → p < 5 → ((k : ℕ) → k < p → e * 2 ^ k < l) → l ≤ e * 2 ^ p → grid_size e l ≡ Some p
unfolding grid_size
first_size e l zero h below here = grind (arith, nat_tests)
first_size e l (suc zero) h below here =
    let a : e * 2 ^ 0 < l = below 0 (omega arith) in
    grind (arith, nat_tests)
first_size e l (suc (suc zero)) h below here =
    let a : e * 2 ^ 0 < l = below 0 (omega arith) in
    let b : e * 2 ^ 1 < l = below 1 (omega arith) in
    grind (arith, nat_tests)
first_size e l (suc (suc (suc zero))) h below here =
    let a : e * 2 ^ 0 < l = below 0 (omega arith) in
    let b : e * 2 ^ 1 < l = below 1 (omega arith) in
    let c : e * 2 ^ 2 < l = below 2 (omega arith) in
    grind (arith, nat_tests)
first_size e l (suc (suc (suc (suc zero)))) h below here =
    let a : e * 2 ^ 0 < l = below 0 (omega arith) in
    let b : e * 2 ^ 1 < l = below 1 (omega arith) in
    let c : e * 2 ^ 2 < l = below 2 (omega arith) in
    let d : e * 2 ^ 3 < l = below 3 (omega arith) in
    grind (arith, nat_tests)
first_size e l (suc (suc (suc (suc (suc p))))) h below here = absurd (omega arith)
