use Rattle.std.proofs.Common.{◌≡◌, ◌++◌, false, ap, subst, ◌∙◌}
use Rattle.std.proofs.lemmas.Result.{IfOk-weaker}
use Rattle.grid_code.specs.View.{block_of}
use Rattle.mask_codegen.specs.Collected.{registers_of, IsSetOf}
use Rattle.mask_codegen.specs.Compiled.{is_among}
use Rattle.mask_codegen.proofs.Naming.{within_named}
use Rattle.mask_codegen.proofs.SetRows.{all_named}
use Rattle.mask_codegen.proofs.compiled.named_in.Goals as goal

pub returns : goal.returns
returns c =
    let x = block_of c.args.code.now.nodes in
    let are : c.deref.result.now ≡ registers_of x =
    c.deref.ensures.value ∙ c.in_ok-name_all.ensures ∙ ap (λ l. c.new-seen.result.items ++ registers_of (block_of l)) c.as_slice.ensures ∙ ap (λ l. l ++ registers_of x) c.new-seen.ensures.items in
    IfOk-weaker c.set_of.result _ _ (λ set h. within_named (is_among set) x ∙ all_named set (registers_of x) (subst (IsSetOf set false) are h)) c.set_of.ensures
