use Rattle.std.proofs.Common.{◌≡◌, length, sym, ap, ◌∙◌}
use Rattle.std.proofs.lemmas.List.{length-map}
use Rattle.sl_ast.specs.TypedView.{local_of}
use Rattle.displace_shade.proofs.BoundLaws.{bound_count, bound_names}
use Rattle.displace_shade.proofs.runs.parameters_of.Goals as goal

pub invariant_of-result : goal.invariant_of-result
invariant_of-result c =
    let b = c.args.bound.now in
    let slots : length b.compiled.now.code.params ≡ length c.as_slice.result.now = ap (λ xs. length xs) (sym (c.as_slice.ensures ∙ ap (λ k. k.params) c.code-code.ensures.code)) in
    (sym (length-map c.binding_params.result.now local_of) ∙ ap (λ xs. length xs) c.binding_params.ensures ∙ bound_names b c.requires ∙ slots, bound_count b c.requires ∙ slots)
