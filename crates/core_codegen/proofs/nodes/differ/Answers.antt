use Rattle.std.proofs.Common.{ap, ◌∙◌}
use Rattle.grid_code.specs.Code.{◌then◌, differ, end}
use Rattle.grid_code.specs.View.{block_of}
use Rattle.grid_code.specs.declared.code.Node.{Differ}
use Rattle.core_codegen.proofs.NodeRows.{block_pushed}
use Rattle.core_codegen.proofs.nodes.differ.Goals as goal

pub returns-clause-code : goal.returns-clause-code
returns-clause-code c = block_pushed c.args.code.now.items _ (Differ c.differed-to.result c.args.difference c.args.of) c.in_ok-push.ensures.items ∙ ap (λ q. block_of c.args.code.now.items then differ q c.args.difference c.args.of end) c.differed-to.ensures
