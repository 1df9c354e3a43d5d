use Rattle.std.proofs.Common.{[], Ok, rules, subst}
use Rattle.sl_expressions.specs.TypedView.{typed_of}
use Rattle.sl_expressions.specs.Views.{GivesAll}
use Rattle.sl_expressions.proofs.Choices.{three_more}
use Rattle.sl_expressions.proofs.operations.three.Goals as goal

pub returns : goal.returns
returns c x y z p q r =
    let one = c.added-one.ensures typed_of (Ok []) x (search rules) p in
    let two = c.added-two.ensures typed_of _ y one q in
    subst (GivesAll typed_of c.added.result) (three_more x y z) (c.added.ensures typed_of _ z two r)
