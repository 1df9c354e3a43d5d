use Rattle.std.proofs.Common.{◌≡◌, ◌∙◌, refl, ap, sym, subst, Bool, true, false, ◌<◌}
use Rattle.std.specs.Prelude.{slice_get}
use Rattle.patches.specs.Parts.{Part}
use Rattle.transforms.specs.Field.{IsView}
use Rattle.scene.specs.Scene.{FrameValue}
use Rattle.bound_split.specs.Culling.{Skips, visits}
use Rattle.bound_split.specs.Extents.{pixels_of}
use Rattle.bound_split.specs.Leaves.{pending}
use Rattle.bound_split.proofs.Culls.{visits-pop, skips-none, skips-split, skips-leaf}
use Rattle.buckets.specs.Culled.{part_shows}
use Rattle.buckets.specs.Pictures.{decide}
use Rattle.buckets.proofs.Sighted.{shows_as, decided, drops_piece}
use Rattle.buckets.proofs.leaf_walk.next_of.Goals as goal

pub loop-piece-init : goal.loop-piece-init
loop-piece-init c = record { frame = refl; skipped = λ back tells. skips-none _ _ }

pub of-sight-requires : goal.of-sight-requires
of-sight-requires c = ap (λ (f : FrameValue). slice_get f.prims c.args.number) c.loop-piece.invariant.frame ∙ c.requires

pub loop-piece-smaller : goal.loop-piece-smaller
loop-piece-smaller c = subst (λ s. visits c.take.new.self < visits s) (sym c.in-Some.ensures.taken) (visits-pop c.take.new.self c.in-Some.piece)

pub returns-in-Some-visit-clause-skipped : goal.returns-in-Some-visit-clause-skipped
returns-in-Some-visit-clause-skipped c = λ back tells.
    let f = c.args.sights.now in
    let prim = c.args.prim.now in
    let piece = c.in-Some.piece in
    let d = decide f.camera prim in
    let test : Part → Bool = part_shows f prim (pixels_of c.args.rect) back in
    let all = pending d c.args.walk.now in
    let popped = subst (λ s. Skips test all (pending d s)) c.in-Some.ensures.taken (c.loop-piece.invariant.skipped back tells) in
    let leaf = c.in-Some-visit.ensures.leaf d (decided f _ prim piece c.of-sight.result c.loop-piece.invariant.frame c.of-sight.ensures.sight) in
    rw (leaf.0, leaf.2) (skips-leaf d test all c.take.new.self piece leaf.1 popped)

pub returns-in-Some-visit-clause-passed : goal.returns-in-Some-visit-clause-passed
returns-in-Some-visit-clause-passed c = λ back tells.
    let f = c.args.sights.now in
    let prim = c.args.prim.now in
    let piece = c.in-Some.piece in
    let d = decide f.camera prim in
    let r = pixels_of c.args.rect in
    let leaf = c.in-Some-visit.ensures.leaf d (decided f _ prim piece c.of-sight.result c.loop-piece.invariant.frame c.of-sight.ensures.sight) in
    subst (λ (p : Part). part_shows f prim r back p ≡ true) (sym leaf.0)
    (shows_as f _ prim piece r back c.of-sight.result c.can_show.result true c.loop-piece.invariant.frame c.of-sight.ensures.sight (c.can_show.ensures back tells) c.if-can_show.true)

pub returns-in-Some-visit-clause-sizes : goal.returns-in-Some-visit-clause-sizes
returns-in-Some-visit-clause-sizes c =
    let f = c.args.sights.now in
    let prim = c.args.prim.now in
    let piece = c.in-Some.piece in
    let d = decide f.camera prim in
    let is = decided f _ prim piece c.of-sight.result c.loop-piece.invariant.frame c.of-sight.ensures.sight in
    let leaf = c.in-Some-visit.ensures.leaf d is in
    ap d leaf.0 ∙ is ∙ c.in-Some-visit.ensures.sizes

pub loop-piece-preserved-in_default-visit : goal.loop-piece-preserved-in_default-visit
loop-piece-preserved-in_default-visit c =
    let f = c.args.sights.now in
    let prim = c.args.prim.now in
    let piece = c.in-Some.piece in
    let d = decide f.camera prim in
    let all = pending d c.args.walk.now in
    let is = decided f _ prim piece c.of-sight.result c.loop-piece.invariant.frame c.of-sight.ensures.sight in
    record {
      frame = c.of-sight.ensures.same ∙ c.loop-piece.invariant.frame;
      skipped = λ back tells. let test : Part → Bool = part_shows f prim (pixels_of c.args.rect) back in
          skips-split d test all c.take.new.self c.visit.new.self piece (c.in_default-visit.ensures.split d is)
          (subst (λ s. Skips test all (pending d s)) c.in-Some.ensures.taken (c.loop-piece.invariant.skipped back tells));
    }

pub loop-piece-preserved : goal.loop-piece-preserved
loop-piece-preserved c =
    let f = c.args.sights.now in
    let prim = c.args.prim.now in
    let piece = c.in-Some.piece in
    let d = decide f.camera prim in
    let r = pixels_of c.args.rect in
    let all = pending d c.args.walk.now in
    record {
      frame = c.of-sight.ensures.same ∙ c.loop-piece.invariant.frame;
      skipped = λ back tells. let test : Part → Bool = part_shows f prim r back in
          drops_piece f prim r back all c.take.new.self piece
          (subst (λ (g : FrameValue). IsView g.camera) c.frame.ensures c.recall.ensures.view) c.recall.ensures.bound tells.further c.in-Some.ensures.part
          (shows_as f _ prim piece r back c.of-sight.result c.can_show.result false c.loop-piece.invariant.frame c.of-sight.ensures.sight (c.can_show.ensures back tells) c.if-can_show.false)
          (subst (λ s. Skips test all (pending d s)) c.in-Some.ensures.taken (c.loop-piece.invariant.skipped back tells));
    }

pub returns-clause-skipped : goal.returns-clause-skipped
returns-clause-skipped c = λ back tells.
    let f = c.args.sights.now in
    let prim = c.args.prim.now in
    let d = decide f.camera prim in
    let test : Part → Bool = part_shows f prim (pixels_of c.args.rect) back in
    let all = pending d c.args.walk.now in
    subst (λ s. Skips test all (pending d s)) c.in_default.ensures.taken.0 (c.loop-piece.invariant.skipped back tells)
