use Rattle.std.proofs.Common.{ap}
use Rattle.command_line.specs.Command.{source_view}
use Rattle.render.proofs.Loading.{demo_read}
use Rattle.render.proofs.load.scene_text.Goals as goal

pub returns-in_ok-demo-in-Demo-clause-gives : goal.returns-in_ok-demo-in-Demo-clause-gives
returns-in_ok-demo-in-Demo-clause-gives g c =
    demo_read (g.L.Library.held c.args.library.now) (source_view c.args.source.now) c.in-Demo.patches.count c.in_ok-demo-in-Demo.field-0
    (ap source_view c.in-Demo.is) c.in_ok-demo-in-Demo.ensures.text
