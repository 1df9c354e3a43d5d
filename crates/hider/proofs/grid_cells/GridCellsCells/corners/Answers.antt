use Rattle.std.proofs.Common.{◌+◌, ◌∙◌, ap, refl, arith}
use Rattle.hider.proofs.Grids.{corner_inside, corner_read}
use Rattle.hider.proofs.grid_cells.GridCellsCells.corners.Goals as goal

pub bounds-points-first : goal.bounds-points-first
bounds-points-first c =
    let g = c.args.self.now.grid in
    let most = corner_inside g.columns g.rows c.args.cell g.columns_from g.rows_from c.requires in
    omega (arith, most, c.first_of-first.ensures, g.points)

pub bounds-points-first-2 : goal.bounds-points-first-2
bounds-points-first-2 c =
    let g = c.args.self.now.grid in
    let most = corner_inside g.columns g.rows c.args.cell g.columns_from g.rows_from c.requires in
    omega (arith, most, c.first_of-first.ensures, g.points, g.columns_from)

pub bounds-points-first-3 : goal.bounds-points-first-3
bounds-points-first-3 c =
    let g = c.args.self.now.grid in
    let most = corner_inside g.columns g.rows c.args.cell g.columns_from g.rows_from c.requires in
    omega (arith, most, c.first_of-first.ensures, g.points)

pub bounds-points-first-4 : goal.bounds-points-first-4
bounds-points-first-4 c =
    let g = c.args.self.now.grid in
    let most = corner_inside g.columns g.rows c.args.cell g.columns_from g.rows_from c.requires in
    omega (arith, most, c.first_of-first.ensures, g.points)

pub returns : goal.returns
returns c =
    let g = c.args.self.now.grid in
    let n = c.first_of-first.result in
    let e = c.first_of-first.ensures in
    let p = c.index-points-first.is ∙ corner_read g.columns g.rows c.args.cell 0 n g.p.now c.index-points-first.result g.columns_from g.rows_from c.requires g.points e c.index-points-first.is in
    let q = c.index-points-first-2.is ∙ corner_read g.columns g.rows c.args.cell 1 (n + 1) g.p.now c.index-points-first-2.result g.columns_from g.rows_from c.requires g.points (ap (λ m. m + 1) e) c.index-points-first-2.is in
    let r = c.index-points-first-3.is ∙ corner_read g.columns g.rows c.args.cell 2 (n + g.columns + 1) g.p.now c.index-points-first-3.result g.columns_from g.rows_from c.requires g.points (ap (λ m. m + g.columns + 1) e) c.index-points-first-3.is in
    let s = c.index-points-first-4.is ∙ corner_read g.columns g.rows c.args.cell 3 (n + g.columns) g.p.now c.index-points-first-4.result g.columns_from g.rows_from c.requires g.points (ap (λ m. m + g.columns) e) c.index-points-first-4.is in
    rw (p, q, r, s) refl
