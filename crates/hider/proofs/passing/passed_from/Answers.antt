use Rattle.std.proofs.Common.{arith, sym, subst}
use Rattle.std.specs.Prelude.{◌≤ℤ◌}
use Rattle.fixed_math.specs.declared.vec3.Vec3.{Vec3}
use Rattle.fixed_math.specs.declared.vec3.Axis.TheVariants.{Z}
use Rattle.hider.specs.Extents.{IsBelow}
use Rattle.hider.proofs.Passages.{passes_from, seen_far, seen_low, through}
use Rattle.hider.proofs.passing.passed_from.Goals as goal

pub raster_bounds-requires-clause-near : goal.raster_bounds-requires-clause-near
raster_bounds-requires-clause-near c =
    let w = c.args.camera.now in
    let b = c.args.round.now in
    c.low-lo.ensures.depth w.near
    (subst (λ (p : Vec3). w.near ≤ℤ p.z) (sym c.low_at.ensures) (seen_low w b c.args.from (omega arith) c.requires.seen))
    (subst (λ (p : Vec3). w.near ≤ℤ p.z) (sym c.low_at-2.ensures) (seen_low w b c.args.to (omega arith) c.requires.seen))

pub raster_bounds-requires-clause-far : goal.raster_bounds-requires-clause-far
raster_bounds-requires-clause-far c =
    let w = c.args.camera.now in
    let b = c.args.round.now in
    let first = subst (λ (p : Vec3). w.near ≤ℤ p.z) (sym c.high_at.ensures) (seen_far w b c.args.from (omega arith) c.requires.seen c.requires.order) in
    through w.near c.high_at.result.z c.high-hi.result.z first (c.high-hi.ensures.first Z)

pub returns : goal.returns
returns c =
    let b = c.args.round.now in
    passes_from c.args.camera.now b c.low-lo.result c.high-hi.result c.raster_bounds.result c.args.from c.args.to (omega arith)
    (subst (IsBelow c.low-lo.result) c.low_at.ensures c.low-lo.ensures.first)
    (subst (IsBelow c.low-lo.result) c.low_at-2.ensures c.low-lo.ensures.second)
    (subst (λ (p : Vec3). IsBelow p c.high-hi.result) c.high_at.ensures c.high-hi.ensures.first)
    (subst (λ (p : Vec3). IsBelow p c.high-hi.result) c.high_at-2.ensures c.high-hi.ensures.second)
    c.raster_bounds.ensures
