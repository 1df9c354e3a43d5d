-- What is answered of a primitive: all its patches, or its first fault; of want of memory nothing is said.
use Rattle.std.specs.Prelude.{◌≡◌, List, Result, Ok, Err}
use Rattle.primitives.specs.Patches.{PatchValue, Made}
use Rattle.primitives.specs.declared.fault.PrimitiveFault.{PrimitiveFault}
use Rattle.primitives.specs.declared.fault.PrimitiveFault.TheVariants.{Refused, NoMemory}

abbrev pub GivesMade : Result (List PatchValue) PrimitiveFault → Made → Type 0
GivesMade (Ok patches) made = made ≡ Ok patches
GivesMade (Err (Refused code)) made = made ≡ Err code
GivesMade (Err NoMemory) made = Unit {0}
