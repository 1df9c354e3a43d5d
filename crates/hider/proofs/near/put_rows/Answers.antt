use Rattle.std.proofs.Common.{◌-◌, ◌*◌, ◌<◌, refl, arith}
use Rattle.hider.proofs.Rows.{row_inside, rows_done_next}
use Rattle.hider.proofs.near.put_rows.Goals as goal

pub put_between-requires-clause-inside : goal.put_between-requires-clause-inside
put_between-requires-clause-inside g c =
    let a = c.args.places.now.grid in
    let part = c.args.part.now in
    let k = c.per_pixel-per_pixel.ensures.value in
    let w = c.width-width.ensures.value in
    let right = c.requires.part.right in
    let bottom = c.requires.part.bottom in
    let row : c.loop-row.row < a.bottom - a.top = omega (arith, c.loop-row-test.true, bottom) in
    rw (k, w) (row_inside (a.right - a.left) (a.bottom - a.top) (a.xs * a.ys) c.loop-row.row (part.right - a.left) row (omega (arith, right)))

pub loop-row-preserved : goal.loop-row-preserved
loop-row-preserved g c =
    let w = c.width-width.ensures.value in
    let k = c.per_pixel-per_pixel.ensures.value in
    rows_done_next c.args.places.now.grid c.args.part.now c.loop-row.row _ _ (g.S.Showing.shown c.args.shown.now) c.args.lists.now c.loop-row.lists c.put_between.new.lists
    c.args.places.now.valid c.requires.part c.requires.beside (record { first_is = rw (k, w) refl; last_is = rw (k, w) refl }) c.loop-row.invariant
    c.put_between.ensures.others c.in_ok-put_between.ensures.ok
