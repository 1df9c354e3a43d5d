use Rattle.std.proofs.Common.{◌≡◌, ◌∙◌, ap, arith, ◌<◌, ◌+◌, refl, subst, ◌∷◌, [], length, get_or, List}
use Rattle.patches.specs.Parts.{Part, whole_of}
use Rattle.transforms.specs.Field.{IsView}
use Rattle.bound_split.specs.Extents.{pixels_of}
use Rattle.scene.specs.Scene.{PrimValue, FrameValue}
use Rattle.buckets.specs.Narrowing.{Misses}
use Rattle.buckets.proofs.Coming.{gives_none, skips_none}
use Rattle.buckets.proofs.Narrowed.{skips_to}
use Rattle.buckets.proofs.Sighted.{next_there, gives_as_seen, skips_as_seen}
use Rattle.buckets.proofs.leaf_walk.LeafWalk.next.Goals as goal

pub loop-self-init : goal.loop-self-init
loop-self-init c = record { frame = refl; skipped = λ back tells. skips_none _ _ }

pub next_of-requires : goal.next_of-requires
next_of-requires c =
    let f = c.args.self.now.sights in
    let prims = c.prims_of-prims.ensures.prims ∙ ap (λ (g : FrameValue). g.prims) c.frame.ensures in
    let low : c.loop-self.self.number < length f.prims = (let same = ap (λ (ps : List PrimValue). length ps) prims in omega (arith, same, c.loop-self-test.true)) in
    next_there f c.loop-self.self.sights c.loop-self.self.number c.index-prims-number.result low (c.index-prims-number.is ∙ ap (λ (ps : List PrimValue). get_or ps c.loop-self.self.number c.index-prims-number.result) prims) c.loop-self.invariant.frame

pub returns-in-Some-clause-next : goal.returns-in-Some-clause-next
returns-in-Some-clause-next c = λ back tells.
    let f = c.args.self.now.sights in
    let prim = c.index-prims-number.result in
    let leaf = c.in-Some.leaf in
    let prims = c.prims_of-prims.ensures.prims ∙ ap (λ (g : FrameValue). g.prims) c.frame.ensures in
    let low : c.loop-self.self.number < length f.prims = (let same = ap (λ (ps : List PrimValue). length ps) prims in omega (arith, same, c.loop-self-test.true)) in
    let at' : prim ≡ get_or f.prims c.loop-self.self.number prim = c.index-prims-number.is ∙ ap (λ (ps : List PrimValue). get_or ps c.loop-self.self.number prim) prims in
    gives_as_seen f c.loop-self.self.sights (pixels_of c.args.rect) back c.loop-self.self.number prim _ c.loop-self.self.pieces c.next_of.new.walk leaf low at' c.loop-self.invariant.frame (c.loop-self.invariant.skipped back tells) (c.in-Some.ensures.skipped back tells) (c.in-Some.ensures.passed back tells)
    c.in-Some.ensures.sizes c.in-Some.ensures.small.1 c.in-Some.ensures.small.2

pub loop-self-preserved : goal.loop-self-preserved
loop-self-preserved c =
    let f = c.args.self.now.sights in
    let r = pixels_of c.args.rect in
    let n = c.loop-self.self.number in
    let prim = c.index-prims-number.result in
    let prims = c.prims_of-prims.ensures.prims ∙ ap (λ (g : FrameValue). g.prims) c.frame.ensures in
    let low : n < length f.prims = (let same = ap (λ (ps : List PrimValue). length ps) prims in omega (arith, same, c.loop-self-test.true)) in
    let at' : prim ≡ get_or f.prims n prim = c.index-prims-number.is ∙ ap (λ (ps : List PrimValue). get_or ps n prim) prims in
    let seen = c.next_of.ensures.frame ∙ c.loop-self.invariant.frame in
    record {
      frame = c.behind-self.ensures.same ∙ seen;
      skipped = λ back tells.
          skips_to f r back n c.behind-self.result _ c.new-self.result (subst (λ (g : FrameValue). IsView g.camera) c.frame-2.ensures c.recall_camera.ensures) tells.further c.behind-self.ensures.further
          (λ k from to. subst (λ (g : FrameValue). Misses g r k) seen (c.behind-self.ensures.missed k from to))
          (c.new-self.ensures.value ∙ ap (λ (p : Part). p ∷ []) c.whole.ensures)
          (skips_as_seen f c.loop-self.self.sights r back n prim _ c.loop-self.self.pieces (whole_of (n + 1) ∷ []) low at' c.loop-self.invariant.frame (c.loop-self.invariant.skipped back tells) (c.in_default.ensures.skipped back tells) refl);
    }

pub returns-clause-next : goal.returns-clause-next
returns-clause-next c = λ back tells.
    let f = c.args.self.now.sights in
    let prims = c.prims_of-prims.ensures.prims ∙ ap (λ (g : FrameValue). g.prims) c.frame.ensures in
    let same = ap (λ (ps : List PrimValue). length ps) prims in
    gives_none f (pixels_of c.args.rect) back c.loop-self.self.number _ c.loop-self.self.pieces (omega (arith, same, c.loop-self-test.false)) (c.loop-self.invariant.skipped back tells)
