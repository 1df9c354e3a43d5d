use Rattle.std.proofs.Common.{◌≡◌, ◌≤ℤ◌, pos, neg_ℤ, to_z, of_z, sym, subst}
use Rattle.std.specs.Int.{w64}
use Rattle.grid_variables.specs.Kept.{kept_near}
use Rattle.grid_variables.proofs.Bounded.{kept_low, kept_high, near_is}
use Rattle.grid_variables.proofs.kept.nearest.Goals as goal

pub returns-clause-value : goal.returns-clause-value
returns-clause-value c = near_is c.args.bound c.args.old c.args.new c.requires.least_bound c.requires.greatest_bound c.requires.least_old c.requires.greatest_old c.requires.least_new c.requires.greatest_new c.min.result c.max.result c.min.ensures.value c.max.ensures.value

pub returns-clause-low : goal.returns-clause-low
returns-clause-low c =
    let e : to_z w64 (of_z w64 c.max.result) ≡ kept_near c.args.bound c.args.old c.args.new =
    near_is c.args.bound c.args.old c.args.new c.requires.least_bound c.requires.greatest_bound c.requires.least_old c.requires.greatest_old c.requires.least_new c.requires.greatest_new c.min.result c.max.result c.min.ensures.value c.max.ensures.value in
    subst (λ z. neg_ℤ (pos 2147483647) ≤ℤ z) (sym e) (kept_low c.args.bound c.args.old c.args.new c.requires.least_bound c.requires.least_old c.requires.least_new)

pub returns-clause-high : goal.returns-clause-high
returns-clause-high c =
    let e : to_z w64 (of_z w64 c.max.result) ≡ kept_near c.args.bound c.args.old c.args.new =
    near_is c.args.bound c.args.old c.args.new c.requires.least_bound c.requires.greatest_bound c.requires.least_old c.requires.greatest_old c.requires.least_new c.requires.greatest_new c.min.result c.max.result c.min.ensures.value c.max.ensures.value in
    subst (λ z. z ≤ℤ pos 2147483647) (sym e) (kept_high c.args.bound c.args.old c.args.new c.requires.least_bound c.requires.greatest_old c.requires.greatest_new)
