use Rattle.std.proofs.Common.{◌<◌, ◌∙◌, arith}
use Rattle.std.proofs.lemmas.List.{length-set}
use Rattle.hider.proofs.Passages.{step_passed}
use Rattle.hider.proofs.passing.passed_by.Goals as goal

pub loop-step-preserved : goal.loop-step-preserved
loop-step-preserved c =
    let n = c.loop-step.step in
    let h : n < 8 = c.loop-step-test.true in
    let b = c.passed_from.result in
    record {
      long = length-set c.loop-step.passed n b ∙ c.loop-step.invariant.long;
      each = step_passed c.args.camera.now c.args.round.now n c.loop-step.passed b (omega (arith, h, c.loop-step.invariant.long)) c.passed_from.ensures c.loop-step.invariant.each;
    }

pub returns : goal.returns
returns c = λ v i one_sided flip held k d h.
    let n = c.loop-step-test.false in
    c.loop-step.invariant.each k d (omega (arith, h, n)) v i one_sided flip held
