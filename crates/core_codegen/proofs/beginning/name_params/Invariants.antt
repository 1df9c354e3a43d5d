use Rattle.std.proofs.Common.{◌≡◌, ◌+◌, ◌++◌, drop}
use Rattle.grid_code.specs.Names.{first_free}
use Rattle.grid_code.specs.Uses.{registers_from}
use Rattle.core_codegen.proofs.beginning.name_params.Given as goal

abbrev pub invariant-loop-slot : goal.invariant-loop-slot
invariant-loop-slot l = record {
  registers : l.seen.items ++ registers_from l.next (drop l.slot-index l.params) ≡ l.initial.seen.items ++ registers_from first_free l.params;
  count : l.next ≡ first_free + l.slot-index;
}
