use Rattle.grid_code.specs.declared.code.Node.{Break}
use Rattle.core_codegen.proofs.NodeRows.{block_pushed}
use Rattle.core_codegen.proofs.nodes.leave.Goals as goal

pub returns : goal.returns
returns c = block_pushed c.args.code.now.items _ Break c.in_ok-push.ensures.items
