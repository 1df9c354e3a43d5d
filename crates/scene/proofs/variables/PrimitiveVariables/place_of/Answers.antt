use Rattle.std.proofs.Common.{◌∙◌, ap}
use Rattle.std.proofs.lemmas.List.{length-map}
use Rattle.fixed_math.specs.Names.{last_place}
use Rattle.scene.specs.Seats.{names_in, names_of}
use Rattle.scene.proofs.NamesIn.{same_names, found_within}
use Rattle.scene.proofs.variables.PrimitiveVariables.place_of.Goals as goal

pub returns-clause-value : goal.returns-clause-value
returns-clause-value c =
    let same = ap names_of c.get.ensures ∙ same_names c.self.inside.seat c.self.inside.request ∙ ap names_in c.self.view_is in
    c.place_of.ensures ∙ ap (last_place c.args.name.now) same

pub returns-clause-there : goal.returns-clause-there
returns-clause-there c =
    let same = ap names_of c.get.ensures ∙ same_names c.self.inside.seat c.self.inside.request ∙ ap names_in c.self.view_is in
    found_within c.args.name.now (names_in c.args.self.now) _ c.place_of.result (c.place_of.ensures ∙ ap (last_place c.args.name.now) same)
    (length-map c.args.self.now (λ x. x.name))
