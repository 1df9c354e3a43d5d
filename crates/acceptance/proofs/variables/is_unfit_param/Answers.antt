use Rattle.std.proofs.Common.{◌∙◌, ap, sym}
use Rattle.fixed_math.specs.Names.{last_place}
use Rattle.scene.specs.Seats.{names_in}
use Rattle.sl_ast.specs.TypedView.{local_of}
use Rattle.acceptance.proofs.ByParameter.{unfit_seen, unfit_there, at_its_place, takes_none}
use Rattle.acceptance.proofs.variables.is_unfit_param.Goals as goal

pub returns-then-sets_predefined : goal.returns-then-sets_predefined
returns-then-sets_predefined c = takes_none (local_of c.args.param.now) c.args.variables.now (sym c.sets_predefined.ensures ∙ c.if-sets_predefined.true)

pub returns-in-Some : goal.returns-in-Some
returns-in-Some c =
    let l = local_of c.args.param.now in
    let xs = c.args.variables.now in
    c.is_unfit.ensures ∙ sym (ap (unfit_there l xs) c.in-Some.is ∙ ap (unfit_seen l) c.at.ensures)
    ∙ at_its_place l xs c.place_of.result c.names_known.ensures (sym c.sets_predefined.ensures ∙ c.if-sets_predefined.false) (c.place_of.ensures.value ∙ ap (λ n. last_place n (names_in xs)) c.as_str.ensures.value)

pub returns-in-None : goal.returns-in-None
returns-in-None c =
    let l = local_of c.args.param.now in
    let xs = c.args.variables.now in
    sym (ap (unfit_there l xs) c.in-None.is)
    ∙ at_its_place l xs c.place_of.result c.names_known.ensures (sym c.sets_predefined.ensures ∙ c.if-sets_predefined.false) (c.place_of.ensures.value ∙ ap (λ n. last_place n (names_in xs)) c.as_str.ensures.value)
