use Rattle.std.proofs.Common.{◌<◌, subst}
use Rattle.parts.specs.Placing.{pixel_of}
use Rattle.parts.proofs.Rows.{row_none, row_more}
use Rattle.parts.proofs.ppm.append_row.Goals as goal

pub loop-column-init : goal.loop-column-init
loop-column-init c = row_none c.args.header.now c.args.bytes.now.items (λ x. pixel_of c.args.header.now c.args.buckets.now x c.args.y)

pub loop-column-preserved : goal.loop-column-preserved
loop-column-preserved c =
    row_more c.args.header.now c.loop-column.bytes.items c.append_run.new.bytes.items c.args.bytes.now.items (λ x. pixel_of c.args.header.now c.args.buckets.now x c.args.y) c.loop-column.column c.requires.header
    (subst (λ n. c.loop-column.column < n) c.columns-column-end.ensures.value c.loop-column-test.true) c.loop-column.invariant c.in_ok-append_run.ensures
