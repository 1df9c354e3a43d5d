use Rattle.std.proofs.Common.{refl, sym, subst}
use Rattle.scene.specs.declared.uses.ShaderKind.TheVariants as requested
use Rattle.grid_variables.proofs.Dicing.{first_sized}
use Rattle.grid_variables.specs.Closings.{closing_of}
use Rattle.shader_binding.specs.Sets.{bound_for}
use Rattle.displace_shade.specs.Diced.{Hold}
use Rattle.displace_shade.specs.Shaded.{displaced, shaded}
use Rattle.displace_shade.specs.Stages.{ServesIf, set_in, uses_in, placed_by}
use Rattle.displace_shade.proofs.Dicing.{first_hold}
use Rattle.displace_shade.proofs.ClosingGrids.{shaded_long, same_grid, same_closing}
use Rattle.displace_shade.proofs.leaves.shaded_leaf.Goals as goal

pub placed-requires-clause-serves : goal.placed-requires-clause-serves
placed-requires-clause-serves c =
    let h = c.requires.serves in
    subst (ServesIf c.args.shaders.now c.args.leaf.now requested.Displacement) (sym c.displacement.ensures) record { fits = h.fits; use_of = h.uses.displacement; variables = h.variables.displacement }

pub placed-requires-clause-sized : goal.placed-requires-clause-sized
placed-requires-clause-sized c = let b = c.in_ok-first.ensures in first_sized c.args.leaf.now c.in_ok-first.first _ refl b.points b.normals b.sights b.colours b.opacities

pub moving_grid-requires-clause-before : goal.moving_grid-requires-clause-before
moving_grid-requires-clause-before c = c.in_ok-first.ensures.points

pub moving_grid-requires-clause-after : goal.moving_grid-requires-clause-after
moving_grid-requires-clause-after c =
    let l = c.args.leaf.now in
    let s = c.args.shaders.now in
    let b = c.in_ok-first.ensures in
    let before = first_hold l c.in_ok-first.first _ refl b.points b.normals b.sights b.colours b.opacities in
    let behind = placed_by s l in
    let near = subst (λ n. Hold l c.in_ok-near.near (displaced l (bound_for (set_in s) (uses_in s) n))) c.displacement.ensures (c.in_ok-near.ensures.hold before) in
    shaded_long l (set_in s) (uses_in s) c.in_ok-grid.grid (c.in_ok-grid.ensures.grid (c.in_ok-lit.ensures.hold behind near))

pub returns-clause-grid : goal.returns-clause-grid
returns-clause-grid c =
    let l = c.args.leaf.now in
    let s = c.args.shaders.now in
    let b = c.in_ok-first.ensures in
    let before = first_hold l c.in_ok-first.first _ refl b.points b.normals b.sights b.colours b.opacities in
    let behind = placed_by s l in
    let near = subst (λ n. Hold l c.in_ok-near.near (displaced l (bound_for (set_in s) (uses_in s) n))) c.displacement.ensures (c.in_ok-near.ensures.hold before) in
    let m = c.moving_grid.ensures in
    same_grid c.moving_grid.result c.in_ok-grid.grid (shaded l (set_in s) (uses_in s)) m.columns m.rows m.points m.colours m.opacities (c.in_ok-grid.ensures.grid (c.in_ok-lit.ensures.hold behind near))

pub returns-clause-closing : goal.returns-clause-closing
returns-clause-closing c = same_closing c.moving_grid.result c.in_ok-grid.grid (closing_of c.args.leaf.now) c.moving_grid.ensures.points c.moving_grid.ensures.closing
