use Rattle.std.proofs.Common.{◌≡◌, ◌-◌, ◌*◌, []}
use Rattle.quadrics.specs.declared.any_patch.AnyPatch.TheVariants.{Quadric}
use Rattle.mesh_basis.specs.Meshes.{all_from}
use Rattle.primitives.specs.Variables.{quadric_seat}
use Rattle.primitives.specs.Quadrics.{halves, patch_at}
use Rattle.primitives.proofs.Seating.{mesh_behind}
use Rattle.primitives.proofs.quarters.quadric_seated.Given as goal

abbrev pub invariant-loop-k : goal.invariant-loop-k
invariant-loop-k l =
    let n = 4 * halves l.form in
    let f = patch_at l.object l.form in
    let seats = quadric_seat (halves l.form) in
    mesh_behind Quadric l.variables seats l.all.items l.k (all_from f l.k (n - l.k)) ≡ mesh_behind Quadric l.variables seats [] 0 (all_from f 0 n)
