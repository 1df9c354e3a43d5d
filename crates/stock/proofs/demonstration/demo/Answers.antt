use Rattle.std.proofs.Common.{◌≡◌, ◌+◌, arith}
use Rattle.stock.specs.Demo.{first_lines, patch_lines}
use Rattle.stock.proofs.Grown.{grown}
use Rattle.stock.proofs.demonstration.demo.Goals as goal

pub loop-patch-preserved : goal.loop-patch-preserved
loop-patch-preserved c =
    let there : 0 + c.loop-patch.patch ≡ c.loop-patch.patch = omega arith in
    grown patch_lines first_lines _ _ 0 c.loop-patch.patch c.loop-patch.patch there c.loop-patch.invariant c.in_ok-push_lines.ensures
