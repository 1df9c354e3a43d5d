use Rattle.std.proofs.Common.{◌≡◌, rules, to_z, of_z}
use Rattle.std.specs.Prelude.{◌*ℤ◌}
use Rattle.std.specs.Int.{w128}
use Rattle.mesh_basis.proofs.Blends.{part_abs}
use Rattle.mesh_basis.proofs.blend.part.Goals as goal

pub returns-clause-bound : goal.returns-clause-bound
returns-clause-bound c = λ r h.
    let value : to_z w128 (of_z w128 c.times.result) ≡ c.args.weight *ℤ c.args.number = search rules in
    rw value (part_abs c.args.weight c.args.number r c.requires.small h)
