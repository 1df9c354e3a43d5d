use Rattle.std.proofs.Common.{ap, ◌∙◌}
use Rattle.grid_code.specs.Code.{◌then◌, texture, end}
use Rattle.grid_code.specs.View.{block_of}
use Rattle.grid_code.specs.declared.code.Node.{Texture}
use Rattle.core_codegen.specs.Registers.{looked_at}
use Rattle.core_codegen.proofs.NodeRows.{block_pushed}
use Rattle.core_codegen.proofs.nodes.texture.Goals as goal

pub returns-clause-code : goal.returns-clause-code
returns-clause-code c =
    let code = block_of c.args.code.now.items in
    let args = c.args.args.items in
    block_pushed c.args.code.now.items _ (Texture c.looked-to.result c.args.node args) c.in_ok-push.ensures.items ∙ ap (λ q. code then texture q c.args.node args end) c.looked-to.ensures ∙
    ap (λ l. code then texture (looked_at l c.args.next) c.args.node args end) c.deref.ensures.value
