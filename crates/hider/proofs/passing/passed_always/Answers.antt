use Rattle.std.proofs.Common.{subst}
use Rattle.fixed_math.specs.declared.vec3.Axis.TheVariants.{Z}
use Rattle.hider.specs.CellValues.{corners_when}
use Rattle.hider.specs.Extents.{Passed}
use Rattle.hider.specs.Outermost.{IsSeenAlways}
use Rattle.hider.proofs.Moves.{stays_held, stays_passed}
use Rattle.hider.proofs.Passages.{held_always, seen_first, through}
use Rattle.hider.proofs.passing.passed_always.Goals as goal

pub raster_bounds-requires-clause-near : goal.raster_bounds-requires-clause-near
raster_bounds-requires-clause-near g c =
    let seen : IsSeenAlways c.args.camera.now c.args.round.now = c.is_seen.ensures c.if-is_seen.true in
    c.low-lo.ensures.depth c.args.camera.now.near seen.near seen.closing_near

pub raster_bounds-requires-clause-far : goal.raster_bounds-requires-clause-far
raster_bounds-requires-clause-far g c =
    let w = c.args.camera.now in
    let b = c.args.round.now in
    let seen : IsSeenAlways w b = c.is_seen.ensures c.if-is_seen.true in
    through w.near b.high.z c.high-hi.result.z (seen_first w b (g.C.Cells.values c.args.cells.now) c.args.cell seen c.requires.round) (c.high-hi.ensures.first Z)

pub returns-then-is_seen : goal.returns-then-is_seen
returns-then-is_seen g c = λ one_sided flip.
    let v = g.C.Cells.values c.args.cells.now in
    stays_held c.args.camera.now v c.args.cell one_sided flip c.low-lo.result c.high-hi.result c.raster_bounds.result
    (held_always v c.args.cell c.args.round.now c.low-lo.result c.high-hi.result c.low-lo.ensures.first c.low-lo.ensures.second c.high-hi.ensures.first c.high-hi.ensures.second c.requires.round)
    c.raster_bounds.ensures

pub returns : goal.returns
returns g c = λ one_sided flip.
    let v = g.C.Cells.values c.args.cells.now in
    let i = c.args.cell in
    let w = c.args.camera.now in
    let b = c.passed_between.result in
    let p : Passed w (corners_when v i 0) (corners_when v i 65535) b =
    subst (λ x. Passed w x (corners_when v i 65535) b) c.corners-first.ensures (subst (λ y. Passed w c.corners-first.result y b) c.corners-last.ensures c.passed_between.ensures) in
    stays_passed w v i one_sided flip b (g.met.C.Cells.between c.args.cells.now) c.requires.cell p
