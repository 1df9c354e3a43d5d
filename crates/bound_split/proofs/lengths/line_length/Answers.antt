use Rattle.std.proofs.Common.{sym, arith}
use Rattle.bound_split.proofs.Sums.{line_length-none, line_length-next}
use Rattle.bound_split.proofs.lengths.line_length.Goals as goal

pub loop-step-init : goal.loop-step-init
loop-step-init c = record { so_far = sym (line_length-none c.args.places.now c.args.start c.args.stride); small = omega arith }

pub loop-step-preserved : goal.loop-step-preserved
loop-step-preserved c =
    let v = c.step_length-total.ensures.value in
    record {
      so_far = rw (line_length-next c.args.places.now c.args.start c.args.stride c.loop-step.step) (cc);
      small = omega arith;
    }
