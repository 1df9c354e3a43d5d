use Rattle.grid_code.specs.declared.code.Node.{Continue}
use Rattle.core_codegen.proofs.NodeRows.{block_pushed}
use Rattle.core_codegen.proofs.nodes.again.Goals as goal

pub returns : goal.returns
returns c = block_pushed c.args.code.now.items _ Continue c.in_ok-push.ensures.items
