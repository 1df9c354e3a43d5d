use Rattle.std.proofs.Common.{◌≡◌, ◌+◌, ◌*◌, ◌≤◌, ◌<◌, ℕ, arith, sym, subst}
use Rattle.std.proofs.Math.Nat.{mul-le-mul_right}
use Rattle.fixed_math.specs.Spots.{pixel_count}
use Rattle.hider.specs.Steps.{AreFirstOfStep, AreStarts, count_in}
use Rattle.hider.specs.Tiles.{rect_of, sample_count}
use Rattle.hider.proofs.StepPuts.{start_more}
use Rattle.hider.proofs.steps.StepSamples.new.Goals as goal

pub push_step-requires-clause-inside : goal.push_step-requires-clause-inside
push_step-requires-clause-inside c =
    let g = c.args.places.now.grid in
    let p = c.loop-pixel.pixel in
    let k = g.xs * g.ys in
    let inside : p < pixel_count (rect_of g) = rw (c.width.ensures.value, c.height.ensures.value) at c.loop-pixel-test.true in
    let m : (p + 1) * k ≤ sample_count g = mul-le-mul_right k (omega (arith, inside)) in
    let s : (p + 1) * k ≡ p * k + k = omega arith in
    rw (c.per_pixel-per_pixel.ensures.value) (omega (arith, m, s))

pub loop-pixel-preserved : goal.loop-pixel-preserved
loop-pixel-preserved c =
    let g = c.args.places.now.grid in
    let p = c.loop-pixel.pixel in
    let k = g.xs * g.ys in
    let s : p * k + k ≡ (p + 1) * k = omega arith in
    let pushed : AreFirstOfStep g c.args.step (p * k + k) c.push_step.new.numbers.items = rw (c.per_pixel-per_pixel.ensures.value) at c.in_ok-push_step.ensures in
    let numbers : AreFirstOfStep g c.args.step ((p + 1) * k) c.push_step.new.numbers.items = subst (λ (n : ℕ). AreFirstOfStep g c.args.step n c.push_step.new.numbers.items) s pushed in
    let count = numbers.count in
    let ok = c.push_step.new.numbers.ok.0 in
    let l = c.len.ensures in
    let is : c.len.result ≡ count_in g c.args.step ((p + 1) * k) = omega (arith, l, ok, count) in
    record {
      numbers = numbers;
      starts = subst (AreStarts g c.args.step (p + 1 + 1)) (sym c.in_ok-push-2.ensures.items) (start_more g c.args.step (p + 1) c.len.result c.loop-pixel.starts.items c.loop-pixel.invariant.starts is);
    }
