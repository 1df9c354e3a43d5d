use Rattle.std.proofs.Common.{◌≡◌, ◌∙◌, ap, subst, ◌<◌, ◌≤◌, length, get_or, List}
use Rattle.scene.specs.Scene.{PrimValue, FrameValue}
use Rattle.pixel_account.proofs.Going.{goes_over_one, goes_over}
use Rattle.pixel_account.proofs.leaves.put_frame.Goals as goal

pub loop-number-preserved : goal.loop-number-preserved
loop-number-preserved g c =
    let f = g.at.frame in
    let n = c.loop-number.number in
    let prim = c.index-prims-number.result in
    let before = c.loop-number.invariant in
    let prims = c.prims_of-prims.ensures.prims ∙ ap (λ (h : FrameValue). h.prims) c.requires.1.0 in
    let low : n < length f.prims = subst (λ (ps : List PrimValue). n < length ps) prims c.loop-number-test.true in
    let at' : prim ≡ get_or f.prims n prim = c.index-prims-number.is ∙ ap (λ (ps : List PrimValue). get_or ps n prim) prims in
    record {
      goes = goes_over_one g.at.accepted f n prim c.args.stacks.now c.loop-number.stacks c.put_prim.new.stacks c.args.shop.now.count c.loop-number.shop.count c.put_prim.new.shop.count low at' before.goes c.in_ok-put_prim.ensures.put c.in_ok-put_prim.ensures.count;
      set = c.in_ok-put_prim.ensures.set ∙ before.set;
      textures = c.in_ok-put_prim.ensures.textures ∙ before.textures;
    }

pub returns-clause-put : goal.returns-clause-put
returns-clause-put g c =
    let f = g.at.frame in
    let prims = c.prims_of-prims.ensures.prims ∙ ap (λ (h : FrameValue). h.prims) c.requires.1.0 in
    let far : length f.prims ≤ c.loop-number.number = subst (λ (ps : List PrimValue). length ps ≤ c.loop-number.number) prims c.loop-number-test.false in
    goes_over g.at.accepted f c.loop-number.number c.args.stacks.now c.loop-number.stacks c.args.shop.now.count c.loop-number.shop.count far c.loop-number.invariant.goes
