use Rattle.std.proofs.Common.{◌∙◌, ap, map}
use Rattle.std.specs.List.{list_any}
use Rattle.sl_ast.specs.TypedView.{local_of}
use Rattle.sl_look_ups.specs.Naming.{binding_params}
use Rattle.acceptance.specs.Reading.{tree_read}
use Rattle.acceptance.proofs.ByParameter.{unfits, by_parameter}
use Rattle.acceptance.proofs.variables.unfit_for.Goals as goal

pub returns-else-len-params : goal.returns-else-len-params
returns-else-len-params c =
    let xs = c.args.variables.now in
    let s = c.args.shader.now in
    c.unfit_by_params.ensures ∙ ap (λ ps. list_any (unfits xs) (map local_of ps)) c.as_slice-params.ensures ∙ ap (list_any (unfits xs)) s.bound
    ∙ by_parameter (binding_params (tree_read s)) xs
