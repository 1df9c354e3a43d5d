use Rattle.std.proofs.Common.{◌≡◌, ◌∙◌, ap, sym, subst, get_or, slice_get, Some}
use Rattle.std.proofs.lemmas.Option.{get_or_from_slice_get}
use Rattle.pixel_account.specs.Origins.{IsPrimitive, IsOfCell}
use Rattle.pixel_account.proofs.accounts.fragment_of.Goals as goal

pub returns-clause-is : goal.returns-clause-is
returns-clause-is g c = λ s told.
    let f = c.args.frame.now in
    let t = c.args.trace.now in
    let n = t.cell.piece.prim in
    let m = c.trace.inside.0.1.0.0.0.prim in
    let x = c.in_ok-primitive.primitive in
    let p = c.index-prims_of-number.result in
    let number : m ≡ n = ap (λ u. u.cell.piece.prim) c.trace.view_is in
    let seen : c.trace.inside.0.1.1.0 ≡ t.seen = ap (λ u. u.seen) c.trace.view_is in
    let fragment : c.trace.inside.0.0 ≡ t.fragment = ap (λ u. u.fragment) c.trace.view_is in
    record {
      primitive = λ prim there.
          let same : p ≡ prim = c.index-prims_of-number.is ∙ ap (λ ps. get_or ps m p) c.prims_of.ensures.prims
          ∙ get_or_from_slice_get f.prims m prim p (subst (λ i. slice_get f.prims i ≡ Some prim) (sym number) there) in
          subst (λ i. IsPrimitive g.accepted.scene.uses prim i x) number
          (subst (λ q. IsPrimitive g.accepted.scene.uses q m x) same (subst (λ us. IsPrimitive us p m x) c.requires.0 c.in_ok-primitive.ensures));
      origin = subst (λ q. IsOfCell g.accepted f s t.cell q c.trace.inside.0.0) (sym seen) (subst (λ r. IsOfCell g.accepted f s t.cell t.seen r) (sym fragment) told);
    }
