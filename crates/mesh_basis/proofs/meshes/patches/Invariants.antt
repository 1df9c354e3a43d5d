use Rattle.std.proofs.Common.{◌≡◌, ◌-◌, ◌*◌}
use Rattle.mesh_basis.specs.Meshes.{patch_at, all_from}
use Rattle.mesh_basis.proofs.Runs.{with_front}
use Rattle.mesh_basis.proofs.meshes.patches.Given as goal

abbrev pub invariant-loop-k : goal.invariant-loop-k
invariant-loop-k l =
    with_front l.patches.items (all_from (patch_at l.points l.shape l.counts.along_u) l.k (l.counts.along_u * l.counts.along_v - l.k))
    ≡ all_from (patch_at l.points l.shape l.counts.along_u) 0 (l.counts.along_u * l.counts.along_v)
