use Rattle.std.proofs.Common.{◌∙◌, ap, subst, sym}
use Rattle.std.specs.Prelude.{slice_get}
use Rattle.scene.specs.Scene.{FrameValue}
use Rattle.bound_split.specs.declared.sights.Sight.{Sight}
use Rattle.buckets.specs.Sights.{IsSight, IsKnown}
use Rattle.buckets.proofs.Sighted.{known_as}
use Rattle.buckets.proofs.sights.Sights.of.Goals as goal

pub seen-sight-requires-clause-there : goal.seen-sight-requires-clause-there
seen-sight-requires-clause-there c = ap (λ (f : FrameValue). slice_get f.prims c.args.number) c.frame-frame.ensures ∙ c.requires

pub seen-sight-requires-clause-known : goal.seen-sight-requires-clause-known
seen-sight-requires-clause-known c = subst (λ (f : FrameValue). IsKnown f c.known_at.result) (sym c.frame-frame.ensures) c.known_at.ensures

pub keep-requires-clause-known : goal.keep-requires-clause-known
keep-requires-clause-known c = known_as c.args.self.now c.frame-frame.result.now c.args.number c.args.prim.now c.args.piece.now c.seen-sight.result c.frame-frame.ensures c.requires c.seen-sight.ensures

pub returns-clause-sight : goal.returns-clause-sight
returns-clause-sight c =
    subst (λ (s : Sight). IsSight c.args.self.now c.args.prim.now c.args.piece.now s) (sym c.keep.ensures.sight)
    (subst (λ (f : FrameValue). IsSight f c.args.prim.now c.args.piece.now c.seen-sight.result) c.frame-frame.ensures c.seen-sight.ensures)
