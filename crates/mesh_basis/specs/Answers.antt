-- What is answered of points: the definition's patches, or its fault; of want of memory nothing is said.
use Rattle.std.specs.Prelude.{◌≡◌, List, Result, Ok, Err, Vec}
use Rattle.std.specs.declared.alloc.Global.{Global}
use Rattle.fixed_math.specs.declared.vec3.Vec3.{Vec3}
use Rattle.patches.specs.declared.patch.Patch.{Patch}
use Rattle.mesh_basis.specs.declared.fault.MeshFault.{MeshFault}
use Rattle.mesh_basis.specs.declared.fault.MeshFault.TheVariants.{NoMemory}

abbrev pub GivesFault : {A : Type 0} → MeshFault → Result A MeshFault → Type 0
GivesFault NoMemory found = Unit {0}
GivesFault fault found = found ≡ Err fault

-- what the code answers is the list of patches, or its fault
abbrev pub GivesPatches : Result (Vec Patch Global) MeshFault → Result (List Patch) MeshFault → Type 0
GivesPatches (Ok v) found = found ≡ Ok v.items
GivesPatches (Err fault) found = GivesFault fault found

-- what it answers of a polygon is its pieces and its normal, or its fault
abbrev pub GivesPolygon : Result (Vec Patch Global × Vec3) MeshFault → Result (List Patch × Vec3) MeshFault → Type 0
GivesPolygon (Ok p) found = found ≡ Ok (p.0.items, p.1)
GivesPolygon (Err fault) found = GivesFault fault found
