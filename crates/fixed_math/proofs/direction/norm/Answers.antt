use Rattle.std.proofs.Common.{rules, ◌≡◌}
use Rattle.fixed_math.specs.Unit.{norm}
use Rattle.fixed_math.proofs.Units.{norm_ge}
use Rattle.fixed_math.proofs.direction.norm.Goals as goal

pub returns-clause-x_le : goal.returns-clause-x_le
unfolding norm
returns-clause-x_le c =
    let is : c.isqrt.result ≡ norm c.args.x c.args.y c.args.z = search rules in
    rw is (norm_ge c.args.x c.args.y c.args.z c.requires.x_small c.requires.y_small c.requires.z_small).0

pub returns-clause-y_le : goal.returns-clause-y_le
unfolding norm
returns-clause-y_le c =
    let is : c.isqrt.result ≡ norm c.args.x c.args.y c.args.z = search rules in
    rw is (norm_ge c.args.x c.args.y c.args.z c.requires.x_small c.requires.y_small c.requires.z_small).1

pub returns-clause-z_le : goal.returns-clause-z_le
unfolding norm
returns-clause-z_le c =
    let is : c.isqrt.result ≡ norm c.args.x c.args.y c.args.z = search rules in
    rw is (norm_ge c.args.x c.args.y c.args.z c.requires.x_small c.requires.y_small c.requires.z_small).2
