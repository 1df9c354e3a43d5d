use Rattle.std.proofs.Common.{◌≡◌, ◌-◌, ◌*◌, []}
use Rattle.quadrics.specs.declared.any_patch.AnyPatch.TheVariants.{Plain}
use Rattle.mesh_basis.specs.Meshes.{patch_at, all_from}
use Rattle.primitives.specs.Variables.{mesh_seat}
use Rattle.primitives.proofs.Seating.{mesh_behind}
use Rattle.primitives.proofs.meshes.mesh_seated.Given as goal

abbrev pub invariant-loop-k : goal.invariant-loop-k
invariant-loop-k l =
    let n = l.counts.along_u * l.counts.along_v in
    let f = patch_at l.points l.shape l.counts.along_u in
    let seats = mesh_seat l.shape l.counts in
    mesh_behind Plain l.variables seats l.all.items l.k (all_from f l.k (n - l.k)) ≡ mesh_behind Plain l.variables seats [] 0 (all_from f 0 n)
