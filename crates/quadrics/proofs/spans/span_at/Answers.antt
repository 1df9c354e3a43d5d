use Rattle.std.proofs.Common.{arith}
use Rattle.patches.proofs.Spans.{size_is, span_end, span_order}
use Rattle.quadrics.proofs.spans.span_at.Goals as goal

pub overflow_mul-result : goal.overflow_mul-result
overflow_mul-result c = rw (size_is c.args.a c.requires.depth) (omega (arith, span_end c.args.a c.args.i c.requires.depth c.requires.place, span_order c.args.a c.args.i))

pub overflow_mul-result-2 : goal.overflow_mul-result-2
overflow_mul-result-2 c = rw (size_is c.args.a c.requires.depth) (omega (arith, span_end c.args.a c.args.i c.requires.depth c.requires.place))

pub invariant_of-result : goal.invariant_of-result
invariant_of-result c = rw (size_is c.args.a c.requires.depth) (record { ordered = span_order c.args.a c.args.i; within = span_end c.args.a c.args.i c.requires.depth c.requires.place })
