use Rattle.std.proofs.Common.{ap, ◌∙◌, sym, subst, Ok, Err, ◌≡◌}
use Rattle.std.proofs.lemmas.Result.{err_from_is_err_and}
use Rattle.outside.specs.Causes.{Told}
use Rattle.sl_ast.specs.TreeView.{tree_of}
use Rattle.acceptance.specs.Causes.{cause_in}
use Rattle.acceptance.specs.Shaders.{tree_of_bytes}
use Rattle.acceptance.specs.Reading.{ReadsShader}
use Rattle.acceptance.specs.Answers.{Because}
use Rattle.acceptance.proofs.Fetched.{text_read, text_refused, tree_refused, no_memory}
use Rattle.acceptance.proofs.shaders.read_shader.Goals as goal

pub returns-in_err-text-clause-reads : goal.returns-in_err-text-clause-reads
returns-in_err-text-clause-reads g c =
    let p = err_from_is_err_and c.from_residual-in_err-text.result c.from_residual-in_err-text.ensures.1 in
    let held = g.L.Library.held c.args.library.now in
    subst (λ r. Told held (λ files. ReadsShader files c.args.name.now r)) (sym (p.1 ∙ ap (λ s. Err s) p.2))
    (text_refused held c.args.name.now c.in_err-text.field-0.0 c.in_err-text.ensures.gives)

pub returns-in_err-tree-clause-reads : goal.returns-in_err-tree-clause-reads
returns-in_err-tree-clause-reads g c =
    let p = err_from_is_err_and c.from_residual-in_err-tree.result c.from_residual-in_err-tree.ensures.1 in
    let held = g.L.Library.held c.args.library.now in
    let r = c.in_err-tree.field-0.0 in
    subst (λ q. Told held (λ files. ReadsShader files c.args.name.now q)) (sym (p.1 ∙ ap (λ s. Err s) p.2))
    (tree_refused held c.args.name.now c.in_ok-text.text.items r c.in_ok-text.ensures.gives
    (subst (λ b. Because r (cause_in (tree_of_bytes c.args.name.now b))) c.deref.ensures.value c.in_err-tree.ensures.gives))

pub returns-in_err-binding-clause-reads : goal.returns-in_err-binding-clause-reads
returns-in_err-binding-clause-reads g c =
    let p = err_from_is_err_and c.from_residual-in_err-binding.result c.from_residual-in_err-binding.ensures.1 in
    let held = g.L.Library.held c.args.library.now in
    subst (λ q. Told held (λ files. ReadsShader files c.args.name.now q)) (sym (p.1 ∙ ap (λ s. Err s) p.2)) (no_memory held c.args.name.now)

pub returns-clause-reads : goal.returns-clause-reads
returns-clause-reads g c =
    let held = g.L.Library.held c.args.library.now in
    text_read held c.args.name.now c.in_ok-text.text.items _ c.in_ok-text.ensures.gives c.in_ok-named.ensures
    (subst (λ b. tree_of_bytes c.args.name.now b ≡ Ok (tree_of c.in_ok-tree.tree)) c.deref.ensures.value c.in_ok-tree.ensures.gives)
