use Rattle.core_codegen.proofs.NodeRows.{loop_pushed}
use Rattle.core_codegen.proofs.nodes.turns.Goals as goal

pub returns : goal.returns
returns c = loop_pushed c.args.code.now.items _ c.args.uniform c.args.ask.items c.args.test c.args.step.items c.args.body.items c.in_ok-push.ensures.items
