use Rattle.std.proofs.Common.{◌/◌, ◌%◌, ◌∙◌}
use Rattle.parts.specs.Pictures.{ppm_header}
use Rattle.parts.specs.Placing.{pixel_of}
use Rattle.parts.proofs.Rows.{rows_none, rows_more}
use Rattle.parts.proofs.ppm.picture.Goals as goal

pub loop-y-init : goal.loop-y-init
loop-y-init c =
    c.in_ok-bytes.ensures ∙ rows_none c.args.header.now.width (ppm_header c.args.header.now) (λ p. pixel_of c.args.header.now c.args.buckets.now (p % c.args.header.now.width) (p / c.args.header.now.width))

pub loop-y-preserved : goal.loop-y-preserved
loop-y-preserved c =
    rows_more c.args.header.now.width c.loop-y.y (λ x y. pixel_of c.args.header.now c.args.buckets.now x y) c.loop-y.bytes.items c.append_row.new.bytes.items (ppm_header c.args.header.now) c.loop-y.invariant c.in_ok-append_row.ensures
