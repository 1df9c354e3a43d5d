use Rattle.std.proofs.Common.{◌≡◌, ◌∙◌, ap, sym, subst, ℕ, arith, ◌∷◌, []}
use Rattle.std.specs.Prelude.{slice_get, All}
use Rattle.bound_split.specs.declared.splits.Decision.TheVariants.{Dice}
use Rattle.bound_split.specs.Culling.{Skips}
use Rattle.bound_split.specs.Extents.{pixels_of}
use Rattle.bound_split.specs.Leaves.{pending}
use Rattle.scene.specs.Scene.{FrameValue}
use Rattle.buckets.specs.Culled.{IsShadedPrim}
use Rattle.buckets.specs.Pictures.{decide}
use Rattle.buckets.proofs.Stock.{keeps_stock}
use Rattle.pixel_account.specs.Origins.{IsLeaf}
use Rattle.pixel_account.specs.Stacks.{meets_in}
use Rattle.pixel_account.proofs.Going.{shaded_at, goes_past, goes_through, few_past, next_leaf}
use Rattle.pixel_account.proofs.leaves.put_prim.Goals as goal

pub put_leaf-requires : goal.put_leaf-requires
put_leaf-requires g c =
    let a = g.at.accepted in
    let f = g.at.frame in
    let prim = c.args.prim.now in
    let n = c.args.number in
    let r = pixels_of c.args.shown.now.rect in
    let leaf = c.in-Some.leaf in
    let goes = c.loop-leaf.invariant.goes in
    let frame = c.requires.1.0 in
    let skips = subst (λ (h : FrameValue). Skips (meets_in h prim r) (pending (decide h.camera prim) c.loop-leaf.walk) (leaf.piece ∷ pending (decide h.camera prim) c.next_of.new.walk)) frame c.in-Some.ensures.skipped in
    let sizes = subst (λ (h : FrameValue). decide h.camera prim leaf.piece ≡ Dice leaf.p leaf.q) frame c.in-Some.ensures.sizes in
    let next = next_leaf a f prim n r c.args.stacks.now c.loop-leaf.stacks c.args.shop.now.count c.loop-leaf.shop.count c.loop-leaf.walk c.next_of.new.walk leaf.piece leaf.p leaf.q goes skips sizes in
    let few = few_past a f prim n c.args.stacks.now c.loop-leaf.stacks c.args.shop.now.count c.loop-leaf.shop.count c.loop-leaf.walk goes in
    let least = c.requires.1.1.1.1.1.1 in
    let there = ap (slice_get f.prims) next.0 ∙ c.requires.1.1.1.1.0 in
    let is = subst (λ (m : ℕ). IsLeaf f prim m leaf.piece leaf.p leaf.q) (sym next.0) next.1 in
    let set = keeps_stock c.loop-leaf.shop c.args.shop.now c.loop-leaf.invariant.set c.loop-leaf.invariant.textures ∙ c.requires.1.1.0 in
    (c.requires.0, (frame, (set, (there, (is, (c.in-Some.ensures.small.1, (c.in-Some.ensures.small.2, omega (arith, few, least))))))))

pub loop-leaf-preserved : goal.loop-leaf-preserved
loop-leaf-preserved g c =
    let a = g.at.accepted in
    let f = g.at.frame in
    let prim = c.args.prim.now in
    let n = c.args.number in
    let r = pixels_of c.args.shown.now.rect in
    let leaf = c.in-Some.leaf in
    let before = c.loop-leaf.invariant in
    let frame = c.requires.1.0 in
    let skips = subst (λ (h : FrameValue). Skips (meets_in h prim r) (pending (decide h.camera prim) c.loop-leaf.walk) (leaf.piece ∷ pending (decide h.camera prim) c.next_of.new.walk)) frame c.in-Some.ensures.skipped in
    let shaded = shaded_at a f prim n (subst (λ (h : FrameValue). All (IsShadedPrim a h) h.prims) frame c.requires.0.prims) c.requires.1.1.1.1.0 in
    record {
      goes = goes_past a f prim n r c.args.stacks.now c.loop-leaf.stacks c.put_leaf.new.stacks c.args.shop.now.count c.loop-leaf.shop.count c.put_leaf.new.shop.count c.loop-leaf.walk c.next_of.new.walk leaf.piece shaded c.requires.1.1.1.1.1.0 before.goes skips
          c.in_ok-put_leaf.ensures.put c.in_ok-put_leaf.ensures.count;
      set = c.in_ok-put_leaf.ensures.set ∙ before.set;
      textures = c.in_ok-put_leaf.ensures.textures ∙ before.textures;
    }

pub returns-clause-put : goal.returns-clause-put
returns-clause-put g c =
    let a = g.at.accepted in
    let f = g.at.frame in
    let prim = c.args.prim.now in
    let n = c.args.number in
    let r = pixels_of c.args.shown.now.rect in
    let frame = c.requires.1.0 in
    let skips = subst (λ (h : FrameValue). Skips (meets_in h prim r) (pending (decide h.camera prim) c.loop-leaf.walk) []) frame c.in_default.ensures.skipped in
    let shaded = shaded_at a f prim n (subst (λ (h : FrameValue). All (IsShadedPrim a h) h.prims) frame c.requires.0.prims) c.requires.1.1.1.1.0 in
    goes_through a f prim n r c.args.stacks.now c.loop-leaf.stacks c.args.shop.now.count c.loop-leaf.shop.count c.loop-leaf.walk shaded c.requires.1.1.1.1.1.0 c.loop-leaf.invariant.goes skips

pub returns-clause-count : goal.returns-clause-count
returns-clause-count g c =
    few_past g.at.accepted g.at.frame c.args.prim.now c.args.number c.args.stacks.now c.loop-leaf.stacks c.args.shop.now.count c.loop-leaf.shop.count c.loop-leaf.walk c.loop-leaf.invariant.goes
