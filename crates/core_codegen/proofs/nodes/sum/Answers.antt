use Rattle.std.proofs.Common.{ap, ◌∙◌}
use Rattle.grid_code.specs.Code.{◌then◌, sum, end}
use Rattle.grid_code.specs.View.{block_of}
use Rattle.grid_code.specs.declared.code.Node.{Sum}
use Rattle.core_codegen.proofs.NodeRows.{block_pushed}
use Rattle.core_codegen.proofs.nodes.sum.Goals as goal

pub returns-clause-code : goal.returns-clause-code
returns-clause-code c = block_pushed c.args.code.now.items _ (Sum c.register-to.result c.args.sum c.args.args.items) c.in_ok-push.ensures.items ∙ ap (λ q. block_of c.args.code.now.items then sum q c.args.sum c.args.args.items end) c.register-to.ensures
