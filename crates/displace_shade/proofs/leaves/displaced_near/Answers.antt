use Rattle.std.proofs.Common.{[]}
use Rattle.displace_shade.specs.Shaded.{diced_names, shaded_by}
use Rattle.shader_binding.specs.Sets.{bound_at}
use Rattle.displace_shade.specs.Stages.{set_in, uses_in}
use Rattle.displace_shade.proofs.Stages.{placed_hold, near_sized}
use Rattle.displace_shade.proofs.leaves.displaced_near.Goals as goal

pub returns-clause-sized : goal.returns-clause-sized
returns-clause-sized c =
    let n = c.in_ok-near.ensures in
    near_sized c.args.leaf.now c.args.first.now c.in_ok-free.free c.in_ok-near.near c.requires.sized c.in_ok-free.ensures.sized n.points n.sights n.normals n.colours n.opacities

pub returns-clause-hold : goal.returns-clause-hold
returns-clause-hold c =
    let l = c.args.leaf.now in
    let n = c.in_ok-near.ensures in
    let b = bound_at (set_in c.args.shaders.now) (uses_in c.args.shaders.now) c.args.n in
    λ before.
    placed_hold l c.args.first.now c.in_ok-free.free c.in_ok-near.near (diced_names l) (shaded_by l b [] (diced_names l)) before (c.in_ok-free.ensures.hold (diced_names l) before) c.requires.sized.points n.points n.sights n.normals n.colours n.opacities
