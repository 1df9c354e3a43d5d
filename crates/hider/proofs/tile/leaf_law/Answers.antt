use Rattle.hider.proofs.Frames.{shows_grid}
use Rattle.hider.proofs.tile.leaf_law.Goals as goal

pub returns : goal.returns
returns c = λ ms h.
    let g = c.args.grid.now.grid in
    shows_grid c.args.tile.now c.args.camera.now ms c.args.grid.now.smooth g.columns g.rows g.p.now g.ci.now g.oi.now c.args.one_sided c.args.flip h
