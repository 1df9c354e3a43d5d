use Rattle.std.proofs.Common.{◌∙◌, ap, sym, Option}
use Rattle.patches.specs.Parts.{rect_of}
use Rattle.quadrics.specs.declared.any_patch.AnyPatch.{AnyPatch}
use Rattle.bound_split.specs.Extents.{extent_of}
use Rattle.buckets.specs.Pictures.{box_by}
use Rattle.buckets.proofs.Sighted.{sight_as}
use Rattle.buckets.proofs.sights.look_at.Goals as goal

pub returns-in-None-clause-sight : goal.returns-in-None-clause-sight
returns-in-None-clause-sight c =
    let i = c.prim.inside in
    let part = c.args.piece.now in
    sight_as _ c.args.frame.now _ c.args.prim.now part _ c.frame.view_is c.prim.view_is (record {
      extent = c.sight_of.ensures.extent ∙ ap (λ (o : Option AnyPatch). extent_of c.frame.inside.camera i.bound (box_by o i.patch (rect_of part))) (sym c.in-None.is);
      decision = c.sight_of.ensures.decision;
      fits = c.sight_of.ensures.fits;
    })

pub returns-in-Some-clause-sight : goal.returns-in-Some-clause-sight
returns-in-Some-clause-sight c =
    let i = c.prim.inside in
    let part = c.args.piece.now in
    sight_as _ c.args.frame.now _ c.args.prim.now part _ c.frame.view_is c.prim.view_is (record {
      extent = c.sight_of-in-Some.ensures.extent ∙ ap (λ (o : Option AnyPatch). extent_of c.frame.inside.camera i.bound (box_by o i.patch (rect_of part))) (sym c.in-Some.is);
      decision = c.sight_of-in-Some.ensures.decision;
      fits = c.sight_of-in-Some.ensures.fits;
    })
