use Rattle.std.proofs.Common.{arith, sym, subst}
use Rattle.std.specs.Prelude.{◌≤ℤ◌}
use Rattle.fixed_math.specs.declared.vec3.Axis.TheVariants.{X, Y, Z}
use Rattle.transforms.specs.Raster.{raster_x, raster_y}
use Rattle.hider.proofs.Small.{read64}
use Rattle.hider.proofs.passing.raster_bounds.Goals as goal

pub returns : goal.returns
returns c = λ p inside.
    let w = c.args.camera.now in
    let l = c.leftmost.ensures in
    let r = c.rightmost.ensures in
    let t = c.topmost.ensures in
    let b = c.bottommost.ensures in (
      subst (λ z. z ≤ℤ raster_x w p) (sym (read64 c.leftmost.result (omega (arith, l.bound)))) (l.value p (inside X).0 (inside Z).0 (inside Z).1),
      subst (λ z. raster_x w p ≤ℤ z) (sym (read64 c.rightmost.result (omega (arith, r.bound)))) (r.value p (inside X).1 (inside Z).0 (inside Z).1),
      subst (λ z. z ≤ℤ raster_y w p) (sym (read64 c.topmost.result (omega (arith, t.bound)))) (t.value p (inside Y).1 (inside Z).0 (inside Z).1),
      subst (λ z. raster_y w p ≤ℤ z) (sym (read64 c.bottommost.result (omega (arith, b.bound)))) (b.value p (inside Y).0 (inside Z).0 (inside Z).1),
    )
