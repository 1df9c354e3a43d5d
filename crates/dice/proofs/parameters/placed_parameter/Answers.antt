use Rattle.std.proofs.Common.{◌∙◌, ap, ◌+◌, ◌*◌, ◌/◌, pos}
use Rattle.dice.proofs.Directions.{parameter_below, parameter_read}
use Rattle.dice.proofs.parameters.placed_parameter.Goals as goal

pub returns : goal.returns
returns c =
    c.sat.ensures
    ∙ parameter_read ((65536 * c.args.c + 16 * c.numerator.result) / c.args.m) (parameter_below c.args.c c.args.m c.numerator.result c.requires.place c.numerator.ensures.bound)
    ∙ ap (λ n. pos ((65536 * c.args.c + 16 * n) / c.args.m)) c.numerator.ensures.value
