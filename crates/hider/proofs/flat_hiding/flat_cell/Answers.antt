use Rattle.std.proofs.Common.{◌<◌, ◌+◌, ap, arith, length}
use Rattle.hider.specs.CellValues.{corner_number}
use Rattle.hider.specs.Cells.{first_corner}
use Rattle.hider.proofs.Flats.{seen_at}
use Rattle.hider.proofs.Grids.{corner_number_below, corner_read}
use Rattle.hider.proofs.flat_hiding.flat_cell.Goals as goal

pub bounds-seen-n : goal.bounds-seen-n
bounds-seen-n c =
    let g = c.args.grid.now in
    let l = corner_number_below g.columns g.rows c.args.cell 0 c.first_of-n.result g.p.now g.columns_from g.rows_from c.requires.cell g.points c.first_of-n.ensures in
    omega (arith, l, c.requires.count)

pub bounds-seen-n-2 : goal.bounds-seen-n-2
bounds-seen-n-2 c =
    let g = c.args.grid.now in
    let l = corner_number_below g.columns g.rows c.args.cell 1 (c.first_of-n.result + 1) g.p.now g.columns_from g.rows_from c.requires.cell g.points (ap (λ n. n + 1) c.first_of-n.ensures) in
    omega (arith, l, c.requires.count)

pub bounds-seen-n-3 : goal.bounds-seen-n-3
bounds-seen-n-3 c =
    let g = c.args.grid.now in
    let l = corner_number_below g.columns g.rows c.args.cell 2 (c.first_of-n.result + g.columns + 1) g.p.now g.columns_from g.rows_from c.requires.cell g.points (ap (λ n. n + g.columns + 1) c.first_of-n.ensures) in
    omega (arith, l, c.requires.count)

pub bounds-seen-n-4 : goal.bounds-seen-n-4
bounds-seen-n-4 c =
    let g = c.args.grid.now in
    let l = corner_number_below g.columns g.rows c.args.cell 3 (c.first_of-n.result + g.columns) g.p.now g.columns_from g.rows_from c.requires.cell g.points (ap (λ n. n + g.columns) c.first_of-n.ensures) in
    omega (arith, l, c.requires.count)

pub bounds-grid-n : goal.bounds-grid-n
bounds-grid-n c =
    let g = c.args.grid.now in
    corner_number_below g.columns g.rows c.args.cell 0 c.first_of-n.result g.ci.now g.columns_from g.rows_from c.requires.cell g.colours c.first_of-n.ensures

pub bounds-grid-n-2 : goal.bounds-grid-n-2
bounds-grid-n-2 c =
    let g = c.args.grid.now in
    corner_number_below g.columns g.rows c.args.cell 0 c.first_of-n.result g.oi.now g.columns_from g.rows_from c.requires.cell g.opacities c.first_of-n.ensures

pub returns : goal.returns
returns c = λ v h.
    let g = c.args.grid.now in
    let n = c.first_of-n.result in
    let e = c.first_of-n.ensures in
    let seen = c.args.seen.now in
    let p = g.p.now in
    let la : n < length p = corner_number_below g.columns g.rows c.args.cell 0 n p g.columns_from g.rows_from c.requires.cell g.points e in
    let lb : n + 1 < length p = corner_number_below g.columns g.rows c.args.cell 1 (n + 1) p g.columns_from g.rows_from c.requires.cell g.points (ap (λ n. n + 1) e) in
    let lc : n + g.columns + 1 < length p = corner_number_below g.columns g.rows c.args.cell 2 (n + g.columns + 1) p g.columns_from g.rows_from c.requires.cell g.points (ap (λ n. n + g.columns + 1) e) in
    let ld : n + g.columns < length p = corner_number_below g.columns g.rows c.args.cell 3 (n + g.columns) p g.columns_from g.rows_from c.requires.cell g.points (ap (λ n. n + g.columns) e) in
    record {
      placed = record {
        a = seen_at v p seen n (corner_number g.columns (first_corner g.columns c.args.cell) 0) c.index-seen-n.result h la c.index-seen-n.is e;
        b = seen_at v p seen (n + 1) (corner_number g.columns (first_corner g.columns c.args.cell) 1) c.index-seen-n-2.result h lb c.index-seen-n-2.is (ap (λ n. n + 1) e);
        c = seen_at v p seen (n + g.columns + 1) (corner_number g.columns (first_corner g.columns c.args.cell) 2) c.index-seen-n-3.result h lc c.index-seen-n-3.is (ap (λ n. n + g.columns + 1) e);
        d = seen_at v p seen (n + g.columns) (corner_number g.columns (first_corner g.columns c.args.cell) 3) c.index-seen-n-4.result h ld c.index-seen-n-4.is (ap (λ n. n + g.columns) e);
      };
      colour = λ j. corner_read g.columns g.rows c.args.cell 0 n g.ci.now c.index-grid-n.result g.columns_from g.rows_from c.requires.cell g.colours e c.index-grid-n.is;
      opacity = λ j. corner_read g.columns g.rows c.args.cell 0 n g.oi.now c.index-grid-n-2.result g.columns_from g.rows_from c.requires.cell g.opacities e c.index-grid-n-2.is;
    }
