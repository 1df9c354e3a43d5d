use Rattle.std.proofs.Common.{[], sym, subst}
use Rattle.scene.specs.declared.uses.ShaderKind.TheVariants as requested
use Rattle.displace_shade.specs.Diced.{Hold}
use Rattle.displace_shade.specs.Shaded.{lights_from, shaded_by, displaced}
use Rattle.shader_binding.specs.Sets.{bound_at, bound_for}
use Rattle.displace_shade.specs.Stages.{set_in}
use Rattle.displace_shade.specs.Stages.{ServesIf}
use Rattle.displace_shade.proofs.Stages.{grid_result}
use Rattle.displace_shade.proofs.leaves.grid_behind.Goals as goal

pub dimmed-requires-clause-serves : goal.dimmed-requires-clause-serves
dimmed-requires-clause-serves c =
    let h = c.requires.serves in
    subst (ServesIf c.args.shaders.now c.args.leaf.now requested.Volume) (sym c.atmosphere.ensures) record { fits = h.fits; use_of = h.uses.atmosphere; variables = h.variables.atmosphere }

pub grid_of-requires-clause-points : goal.grid_of-requires-clause-points
grid_of-requires-clause-points c = c.in_ok-last.ensures.sized.points

pub grid_of-requires-clause-colours : goal.grid_of-requires-clause-colours
grid_of-requires-clause-colours c = c.in_ok-last.ensures.coloured.colours

pub grid_of-requires-clause-opacities : goal.grid_of-requires-clause-opacities
grid_of-requires-clause-opacities c = c.in_ok-last.ensures.coloured.opacities

pub returns-clause-grid : goal.returns-clause-grid
returns-clause-grid c =
    let l = c.args.leaf.now in
    let s = set_in c.args.shaders.now in
    let uses = c.args.shaders.now.uses.now in
    let d = c.in_ok-last.last in
    let e = c.in_ok-last.ensures in
    let g = c.grid_of.ensures in
    let behind = shaded_by l (bound_at s uses l.prim.surface) (lights_from l s uses l.prim.lights) (displaced l (bound_for s uses l.prim.displacement)) in
    grid_result l s uses d c.grid_of.result (λ lit. subst (λ n. Hold l d (shaded_by l (bound_for s uses n) [] behind)) c.atmosphere.ensures (e.hold behind lit)) e.sized.points e.coloured.colours e.coloured.opacities g.columns g.rows g.points g.colours g.opacities
