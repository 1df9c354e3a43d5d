use Rattle.std.proofs.Common.{rules, ◌≡◌, length}
use Rattle.scene.proofs.Taken.{is_variable}
use Rattle.scene.proofs.variable.Variable.new.Goals as goal

pub invariant_of-result : goal.invariant_of-result
invariant_of-result c =
    let seat = c.args.seat.now in
    let points : length seat.points ≡ 4 = search rules in
    let corner : length seat.corners ≡ 4 = search rules in
    (c.requires, is_variable seat c.args.param.now points corner c.requires)
