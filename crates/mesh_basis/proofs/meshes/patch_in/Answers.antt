use Rattle.std.proofs.Common.{subst, sym, ◌+◌, ◌^◌}
use Rattle.fixed_math.specs.Axes.{AreWithin}
use Rattle.mesh_basis.specs.Meshes.{place_in}
use Rattle.mesh_basis.proofs.Near.{four_near, are_near}
use Rattle.mesh_basis.proofs.meshes.patch_in.Goals as goal

pub new-requires : goal.new-requires
new-requires c =
    let ps = c.args.points.now in
    let s = c.args.shape.now in
    let near = are_near ps c.requires.near in
    subst (AreWithin (2 ^ 30)) (sym c.corners_in.ensures)
    (four_near _ _ _ _ (near (place_in s c.args.c c.args.d)) (near (place_in s (c.args.c + 1) c.args.d)) (near (place_in s c.args.c (c.args.d + 1))) (near (place_in s (c.args.c + 1) (c.args.d + 1))))
