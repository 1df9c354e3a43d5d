use Rattle.std.proofs.Common.{◌∙◌}
use Rattle.fixed_math.specs.declared.vec3.Axis.TheVariants.{X, Y, Z}
use Rattle.hider.proofs.Cuts.{laid_further}
use Rattle.hider.proofs.compositing.lay.Goals as goal

pub loop-f-preserved : goal.loop-f-preserved
loop-f-preserved c =
    let l = c.args.fragments.now in
    let i = c.loop-f.f-index in
    let f = c.f-item.result in
    let k = c.loop-f.colour in
    let p = c.loop-f.passed in
    let laid = c.laid_over-colour.ensures in
    let passed = c.passed_through-passed.ensures in
    record {
      x = λ rest. rw (laid.x, passed.x) (laid_further X k.x p.x l i f rest c.loop-f-test.true c.f-item.is ∙ c.loop-f.invariant.x rest);
      y = λ rest. rw (laid.y, passed.y) (laid_further Y k.y p.y l i f rest c.loop-f-test.true c.f-item.is ∙ c.loop-f.invariant.y rest);
      z = λ rest. rw (laid.z, passed.z) (laid_further Z k.z p.z l i f rest c.loop-f-test.true c.f-item.is ∙ c.loop-f.invariant.z rest);
    }
