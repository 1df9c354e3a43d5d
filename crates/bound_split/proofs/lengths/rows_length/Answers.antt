use Rattle.std.proofs.Common.{sym, ◌-◌, ◌*◌, ◌/◌, length}
use Rattle.bound_split.specs.Lengths.{line_length, rows_length}
use Rattle.bound_split.proofs.Sums.{most_below-none, most_step, most_all}
use Rattle.bound_split.proofs.lengths.rows_length.Goals as goal

pub loop-row-init : goal.loop-row-init
loop-row-init c = sym (most_below-none (λ y. line_length c.args.places.now (c.args.width * y) 1 (c.args.width - 1)))

pub loop-row-preserved : goal.loop-row-preserved
loop-row-preserved c =
    most_step c.loop-row.row (λ y. line_length c.args.places.now (c.args.width * y) 1 (c.args.width - 1)) c.loop-row.most c.line_length.result _ c.loop-row.invariant c.line_length.ensures c.max-most.ensures

pub returns : goal.returns
unfolding rows_length
returns c =
    most_all c.loop-row.row (length c.args.places.now / c.args.width) (λ y. line_length c.args.places.now (c.args.width * y) 1 (c.args.width - 1)) c.loop-row.most c.loop-row.invariant (c.loop-row.auto.row-end) c.loop-row-test.false
