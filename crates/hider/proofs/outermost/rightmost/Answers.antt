use Rattle.std.proofs.Common.{arith, sym, subst}
use Rattle.std.specs.Prelude.{◌≤ℤ◌}
use Rattle.std.proofs.lemmas.Int.{ints}
use Rattle.transforms.specs.Raster.{raster_x}
use Rattle.hider.proofs.Small.{place_read}
use Rattle.hider.proofs.Perspective.{right_far, right_near}
use Rattle.hider.proofs.outermost.rightmost.Goals as goal

pub returns-then-raw-lt0-clause-value : goal.returns-then-raw-lt0-clause-value
returns-then-raw-lt0-clause-value c = λ p side deeper deepest.
    let w = c.args.camera.now in
    let e = c.column.ensures in
    subst (λ z. raster_x w p ≤ℤ z) (sym (place_read c.column.result _ e.value e.bound))
    (right_far w c.view-view.ensures.valid c.args.x c.args.near c.args.far c.requires.near (omega (arith, ints, c.raw.ensures.value, c.if-raw-lt0.true)) p side deeper deepest)

pub returns-else-raw-lt0-clause-value : goal.returns-else-raw-lt0-clause-value
returns-else-raw-lt0-clause-value c = λ p side deeper deepest.
    let w = c.args.camera.now in
    let e = c.column-else-raw-lt0.ensures in
    subst (λ z. raster_x w p ≤ℤ z) (sym (place_read c.column-else-raw-lt0.result _ e.value e.bound))
    (right_near w c.view-view.ensures.valid c.args.x c.args.near c.args.far c.requires.near (omega (arith, ints, c.raw.ensures.value, c.if-raw-lt0.false)) p side deeper deepest)
