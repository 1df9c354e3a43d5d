use Rattle.std.proofs.Common.{arith}
use Rattle.sl_ast.specs.declared.kinds.Predefined.TheVariants.{P}
use Rattle.grid_rows.specs.Given.{wanted_rows}
use Rattle.grid_rows.proofs.Pushed.{pushed}
use Rattle.grid_rows.proofs.given.push_all.Goals as goal

pub loop-name-preserved : goal.loop-name-preserved
loop-name-preserved c =
    let f = wanted_rows c.args.shader.now.kind c.args.shader.now.named.now c.args.leaf.now c.args.variables.now in
    pushed f c.args.names.now c.loop-name.name-index P c.loop-name.rows c.push_wanted.new.rows _ (omega arith) c.in_ok-push_wanted.ensures c.loop-name.invariant
