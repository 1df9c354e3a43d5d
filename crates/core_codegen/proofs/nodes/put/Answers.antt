use Rattle.grid_code.specs.declared.code.Node.{Put}
use Rattle.core_codegen.proofs.NodeRows.{block_pushed}
use Rattle.core_codegen.proofs.nodes.put.Goals as goal

pub returns : goal.returns
returns c = block_pushed c.args.code.now.items _ (Put c.args.to c.args.source) c.in_ok-push.ensures.items
