use Rattle.core_codegen.proofs.NodeRows.{lights_pushed}
use Rattle.core_codegen.proofs.nodes.lights.Goals as goal

pub returns : goal.returns
returns c = lights_pushed c.args.code.now.items _ c.args.over c.args.args.items c.args.body.items c.in_ok-push.ensures.items
