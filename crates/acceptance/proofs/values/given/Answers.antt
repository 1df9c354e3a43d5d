use Rattle.std.proofs.Common.{ap, ◌∙◌, sym}
use Rattle.acceptance.proofs.BoundValues.{got, given_at}
use Rattle.acceptance.proofs.values.given.Goals as goal

pub returns-in-Some : goal.returns-in-Some
returns-in-Some c =
    c.param_at.ensures ∙ sym (given_at c.args.name.now c.args.params.now c.args.names.now c.place_of.result c.requires c.place_of.ensures ∙ ap (got c.args.params.now) c.in-Some.is)

pub returns-in-None : goal.returns-in-None
returns-in-None c =
    sym (given_at c.args.name.now c.args.params.now c.args.names.now c.place_of.result c.requires c.place_of.ensures ∙ ap (got c.args.params.now) c.in-None.is)
