use Rattle.std.proofs.Common.{◌≡◌, ◌++◌, drop, map}
use Rattle.grid_code.specs.Names.{name_at}
use Rattle.core_codegen.proofs.beginning.name_variables.Given as goal

abbrev pub invariant-loop-name : goal.invariant-loop-name
invariant-loop-name l = l.seen.items ++ map name_at (drop l.name-index l.names) ≡ l.initial.seen.items ++ map name_at l.names
