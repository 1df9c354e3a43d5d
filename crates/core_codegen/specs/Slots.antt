-- For contracts of the code alone: the variables in scope, as the core tree has them.
use Rattle.std.specs.Prelude.{List, map}
use Rattle.sl_meaning.specs.Core as core
use Rattle.grid_code.specs.declared.slot.Slot.{Slot}
use Rattle.core_codegen.specs.declared.slot.Scope.{Scope}

abbrev pub slot_of : Slot → core.Slot
slot_of s = core.slot s.uniform s.kind

abbrev pub slots_of : List Slot → List core.Slot
slots_of ss = map slot_of ss

-- the scope of the code as that of the core tree
abbrev pub scope_of : Scope → List core.Slot
scope_of s = slots_of s.slots.items
