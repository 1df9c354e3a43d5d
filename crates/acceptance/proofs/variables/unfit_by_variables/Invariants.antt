use Rattle.std.proofs.Common.{◌≡◌, drop}
use Rattle.std.specs.List.{list_any}
use Rattle.sl_look_ups.specs.Naming.{binding_params}
use Rattle.acceptance.specs.PrimFit.{binds_unfit}
use Rattle.acceptance.specs.Reading.{tree_read}
use Rattle.acceptance.proofs.variables.unfit_by_variables.Given as goal

abbrev pub invariant-loop-k : goal.invariant-loop-k
invariant-loop-k l =
    let test = binds_unfit (binding_params (tree_read l.shader)) in
    list_any test (drop l.k l.variables) ≡ list_any test l.variables
