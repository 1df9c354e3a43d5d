use Rattle.std.proofs.Common.{◌∙◌, ap, sym, subst, ◌<◌, length}
use Rattle.std.specs.Prelude.{IfSome}
use Rattle.grid_variables.specs.ByPlace.{at_place, later}
use Rattle.grid_variables.proofs.Passing.{setter_is, later_there}
use Rattle.grid_variables.proofs.named.setter.Goals as goal

pub returns : goal.returns
returns c =
    c.at_place.ensures
    ∙ ap (at_place c.args.variables.now) (c.later.ensures ∙ ap (λ p. later p c.place_of-2.result) c.place_of.ensures.value ∙ ap (later _) c.place_of-2.ensures.value)
    ∙ setter_is c.args.name.now c.args.variables.now

pub at_place-requires : goal.at_place-requires
at_place-requires c =
    let n = length c.args.variables.now in
    subst (λ p. IfSome p (λ k. k < n)) (sym c.later.ensures) (later_there n c.place_of.result c.place_of-2.result c.place_of.ensures.there c.place_of-2.ensures.there)
