use Rattle.std.proofs.Common.{◌∙◌, ap}
use Rattle.grid_variables.specs.ByPlace.{at_place}
use Rattle.grid_variables.proofs.Passing.{named_is}
use Rattle.grid_variables.proofs.named.variable_named.Goals as goal

pub returns : goal.returns
returns c = c.at_place.ensures ∙ ap (at_place c.args.variables.now) c.place_of.ensures.value ∙ named_is c.args.name.now c.args.variables.now
