use Rattle.std.proofs.Common.{sym, ◌-◌, ◌/◌, length}
use Rattle.bound_split.specs.Lengths.{line_length, columns_length}
use Rattle.bound_split.proofs.Sums.{most_below-none, most_step, most_all}
use Rattle.bound_split.proofs.lengths.columns_length.Goals as goal

pub loop-column-init : goal.loop-column-init
loop-column-init c = sym (most_below-none (λ x. line_length c.args.places.now x c.args.width (length c.args.places.now / c.args.width - 1)))

pub loop-column-preserved : goal.loop-column-preserved
loop-column-preserved c =
    most_step c.loop-column.column (λ x. line_length c.args.places.now x c.args.width (length c.args.places.now / c.args.width - 1)) c.loop-column.most c.line_length.result _ c.loop-column.invariant c.line_length.ensures c.max-most.ensures

pub returns : goal.returns
unfolding columns_length
returns c =
    most_all c.loop-column.column c.args.width (λ x. line_length c.args.places.now x c.args.width (length c.args.places.now / c.args.width - 1)) c.loop-column.most c.loop-column.invariant c.loop-column.auto.column-end c.loop-column-test.false
