use Rattle.hider.proofs.Moves.{enclosing_order, no_nearer}
use Rattle.hider.proofs.moving_cell.MovingCell.new.Goals as goal

pub invariant_of-result : goal.invariant_of-result
invariant_of-result g c =
    let v = g.C.Cells.values c.args.cells.now in
    record {
      inside = c.requires.cell;
      colour_is = c.colour.ensures;
      opacity_is = c.opacity.ensures;
      one_colour = c.has_one_colour.ensures;
      held = c.requires.round;
      seen = c.is_seen-is_seen.ensures;
      no_nearer = no_nearer c.args.camera.now v c.args.cell c.args.one_sided c.args.flip c.args.round c.nearest.result c.requires.round c.nearest.ensures.opening c.nearest.ensures.closing;
      in_steps = c.passed_in_steps.ensures v c.args.cell c.args.one_sided c.args.flip c.requires.round c.requires.whole;
    }

pub passed_in_steps-requires-clause-order : goal.passed_in_steps-requires-clause-order
passed_in_steps-requires-clause-order g c = enclosing_order (g.C.Cells.values c.args.cells.now) c.args.cell c.args.round c.requires.round
