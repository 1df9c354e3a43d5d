use Rattle.std.proofs.Common.{◌≡◌, Some, map}
use Rattle.std.specs.Prelude.{slice_get}
use Rattle.std.proofs.lemmas.Result.{IfOk-weaker}
use Rattle.shader_binding.specs.Sets.{FitsUse}
use Rattle.acceptance.specs.Bound.{bound_values}
use Rattle.acceptance.specs.Reading.{tree_read, values_at}
use Rattle.acceptance.proofs.Bound.{bound_by}
use Rattle.acceptance.proofs.BoundUses.{at_place, fit_place}
use Rattle.acceptance.proofs.Places.{within}
use Rattle.acceptance.proofs.use_fit.bind_at.Goals as goal

pub bounds-shaders-place : goal.bounds-shaders-place
bounds-shaders-place c = within c.args.shaders.now c.args.place c.args.request.now.name c.requires.place

pub returns-clause-clears : goal.returns-clause-clears
returns-clause-clears c = λ files all.
    bound_by files c.args.shaders.now c.args.place c.index-shaders-place.result c.args.request.now c.bind.result c.requires.place c.index-shaders-place.is all c.bind.ensures.clears

pub returns-clause-binds : goal.returns-clause-binds
returns-clause-binds c =
    let read = c.args.shaders.now in
    let s = c.index-shaders-place.result in
    let u = c.args.request.now in
    let low = within read c.args.place u.name c.requires.place in
    record {
      values = IfOk-weaker c.bind.result (λ vs. vs ≡ bound_values (tree_read s) u) (λ vs. vs ≡ values_at read u c.args.place)
          (λ vs here. at_place read u c.args.place s vs low c.index-shaders-place.is here) c.bind.ensures.binds.values;
      fits = IfOk-weaker c.bind.result (λ vs. FitsUse u vs (Some (tree_read s))) (λ vs. FitsUse u vs (slice_get (map tree_read read) c.args.place))
          (λ vs here. fit_place read u c.args.place s vs low c.index-shaders-place.is here) c.bind.ensures.binds.fits;
      alone = c.bind.ensures.binds.alone;
    }
