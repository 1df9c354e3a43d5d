use Rattle.std.proofs.Common.{arith}
use Rattle.hider.specs.Flat.{flat_of}
use Rattle.hider.proofs.Grids.{corner_inside}
use Rattle.hider.proofs.Smooths.{smooth_is}
use Rattle.hider.proofs.smooth_hiding.smooth_quad.Goals as goal

pub own_corner-requires : goal.own_corner-requires
own_corner-requires c =
    let g = c.args.grid.now in
    let most = corner_inside g.columns g.rows c.args.cell g.columns_from g.rows_from c.requires in
    omega (arith, most, c.first_of-n.ensures)

pub own_corner-requires-2 : goal.own_corner-requires-2
own_corner-requires-2 c =
    let g = c.args.grid.now in
    let most = corner_inside g.columns g.rows c.args.cell g.columns_from g.rows_from c.requires in
    omega (arith, most, c.first_of-n.ensures, g.columns_from)

pub own_corner-requires-3 : goal.own_corner-requires-3
own_corner-requires-3 c =
    let g = c.args.grid.now in
    let most = corner_inside g.columns g.rows c.args.cell g.columns_from g.rows_from c.requires in
    omega (arith, most, c.first_of-n.ensures)

pub own_corner-requires-4 : goal.own_corner-requires-4
own_corner-requires-4 c =
    let g = c.args.grid.now in
    let most = corner_inside g.columns g.rows c.args.cell g.columns_from g.rows_from c.requires in
    omega (arith, most, c.first_of-n.ensures)

pub returns : goal.returns
returns c = λ v h e.
    rw (c.own_corner.ensures, c.own_corner-2.ensures, c.own_corner-3.ensures, c.own_corner-4.ensures)
    (smooth_is v c.args.grid.now c.args.cell c.first_of-n.result (flat_of c.args.flat.now) c.first_of-n.ensures h e)
