use Rattle.std.specs.Prelude.{codes}
use Rattle.stock.specs.Demo.{points_text}
use Rattle.stock.proofs.Grown.{with_three}
use Rattle.stock.proofs.demonstration.push_patch.Goals as goal

pub returns : goal.returns
returns c =
    with_three (codes "Patch \"bicubic\" \"P\" [") (points_text c.args.patch) (codes "]\n") _ _ _ _
    c.in_ok-extend_from_slice.ensures.items c.in_ok-push_points.ensures c.in_ok-extend_from_slice-2.ensures.items
