use Rattle.std.proofs.Common.{◌∙◌, Bool, Option, option_map, sym, ap}
use Rattle.std.specs.Borrow.{Bor}
use Rattle.fixed_math.specs.Names.{last_place}
use Rattle.scene.specs.Scene.{VariableValue}
use Rattle.sl_ast.specs.TypedView.{local_of}
use Rattle.sl_ast.specs.declared.typed.ParamDecl.{ParamDecl}
use Rattle.sl_look_ups.specs.Naming.{binding_params}
use Rattle.acceptance.specs.Reading.{tree_read}
use Rattle.acceptance.proofs.Declared.{unfit_with, unfit_at_place, found_in}
use Rattle.acceptance.proofs.variables.is_unfit_named.Goals as goal

-- what is seen of the parameter at a place
abbrev unfit_seen : VariableValue → Option (Bor ParamDecl) → Bool
unfit_seen x o = unfit_with x (option_map (λ p. local_of p.now) o)

pub returns-in_default : goal.returns-in_default
returns-in_default c =
    let x = c.args.variable.now in
    let t = tree_read c.args.shader.now in
    sym (ap (unfit_at_place x (binding_params t)) c.in_default.is)
    ∙ found_in x t c.args.names.now c.place_of.result c.requires.names c.requires.binds c.args.shader.now.distinct
    (c.place_of.ensures ∙ ap (λ n. last_place n c.args.names.now) c.name.ensures)

pub returns-in-Some-bound_at : goal.returns-in-Some-bound_at
returns-in-Some-bound_at c =
    let x = c.args.variable.now in
    let t = tree_read c.args.shader.now in
    c.is_unfit.ensures ∙ sym (ap (unfit_seen x) c.in-Some-bound_at.is) ∙ ap (unfit_with x) c.bound_at.ensures
    ∙ sym (ap (unfit_at_place x (binding_params t)) c.in-Some.is)
    ∙ found_in x t c.args.names.now c.place_of.result c.requires.names c.requires.binds c.args.shader.now.distinct
    (c.place_of.ensures ∙ ap (λ n. last_place n c.args.names.now) c.name.ensures)

pub returns-in-None : goal.returns-in-None
returns-in-None c =
    let x = c.args.variable.now in
    let t = tree_read c.args.shader.now in
    sym (ap (unfit_seen x) c.in-None.is) ∙ ap (unfit_with x) c.bound_at.ensures
    ∙ sym (ap (unfit_at_place x (binding_params t)) c.in-Some.is)
    ∙ found_in x t c.args.names.now c.place_of.result c.requires.names c.requires.binds c.args.shader.now.distinct
    (c.place_of.ensures ∙ ap (λ n. last_place n c.args.names.now) c.name.ensures)
