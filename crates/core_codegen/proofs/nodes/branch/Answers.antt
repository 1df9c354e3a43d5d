use Rattle.core_codegen.proofs.NodeRows.{branch_pushed}
use Rattle.core_codegen.proofs.nodes.branch.Goals as goal

pub returns : goal.returns
returns c = branch_pushed c.args.code.now.items _ c.args.test c.args.one.items c.args.other.items c.in_ok-push.ensures.items
