use Rattle.std.proofs.Common.{arith}
use Rattle.acceptance.proofs.ParamCount.{few_params}
use Rattle.acceptance.proofs.values.param_count.Goals as goal

pub overflow_cast-result : goal.overflow_cast-result
overflow_cast-result c =
    let t = c.args.tree.now in
    let params = few_params t t.typed in
    omega (arith, params, t.counted, t.few, c.len.ensures)
