use Rattle.std.proofs.Common.{◌∙◌, rules}
use Rattle.rib_reader.specs.Lists.{param_code}
use Rattle.rib_reader.proofs.Lowest.{lowest_behind}
use Rattle.rib_reader.proofs.list_faults.params_fault.Goals as goal

pub loop-param-preserved : goal.loop-param-preserved
loop-param-preserved c =
    lowest_behind (param_code c.args.follows) c.loop-param.fault c.lower_of-fault.result c.args.params.now c.loop-param.param-index c.param-item.result c.loop-param-test.true c.param-item.is
    (search rules)
    ∙ c.loop-param.invariant
