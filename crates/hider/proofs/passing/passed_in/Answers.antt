use Rattle.std.proofs.Common.{◌∙◌, ap, refl}
use Rattle.transforms.specs.declared.view.View.{View}
use Rattle.hider.proofs.Passages.{passed_before, passed_behind, passed_in}
use Rattle.hider.proofs.Small.{less_than}
use Rattle.hider.proofs.passing.passed_in.Goals as goal

pub returns-then-raw : goal.returns-then-raw
returns-then-raw c =
    let before = less_than c.raw.result c.raw-2.result c.args.hi.z c.args.camera.now.near c.if-raw.true c.raw.ensures.value (c.raw-2.ensures.value ∙ ap (λ (v : View). v.near) c.view.ensures.value) c.raw.ensures.size c.raw-2.ensures.size in
    passed_before c.args.camera.now c.args.first.now c.args.last.now c.args.hi _ c.type_inv.first c.type_inv.last c.requires.first_high c.requires.last_high before

pub returns-then-raw-2 : goal.returns-then-raw-2
returns-then-raw-2 c =
    passed_in c.args.camera.now c.args.first.now c.args.last.now c.args.lo c.args.hi c.raster_bounds.result c.type_inv.first c.type_inv.last c.requires.first_low
    c.requires.last_low c.requires.first_high c.requires.last_high c.raster_bounds.ensures

pub returns : goal.returns
returns c =
    passed_behind c.args.camera.now c.args.first.now c.args.last.now c.args.lo c.args.hi _ c.raster_bounds-2.result c.type_inv.first c.type_inv.last c.requires.first_low
    c.requires.last_low c.requires.first_high c.requires.last_high refl refl (ap (λ (v : View). v.near) c.view.ensures.value) c.raster_bounds-2.ensures
