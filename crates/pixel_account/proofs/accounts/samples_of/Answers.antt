use Rattle.std.proofs.Common.{◌≡◌, sym, subst, ◌++◌, ◌∷◌, [], All}
use Rattle.std.proofs.lemmas.List.Elements.{All-push}
use Rattle.pixel_account.specs.Account.{IsSample}
use Rattle.pixel_account.proofs.Listed.{same_more}
use Rattle.pixel_account.proofs.accounts.samples_of.Goals as goal

pub loop-stack-preserved : goal.loop-stack-preserved
loop-stack-preserved g c =
    let P = IsSample g.of.accepted c.args.frame.now g.of.x g.of.y in
    let ks = c.args.stacks.now in
    let k = c.stack-item.result in
    let n = c.loop-stack.stack-index in
    let xs = c.loop-stack.samples.items in
    let ys = c.push.new.self.items in
    let x = c.in_ok-sample_of.field-0 in
    let is : ys ≡ xs ++ x ∷ [] = c.in_ok-push.ensures.items in
    record {
      samples = same_more (λ s. s.sample) (λ j. j.sample) xs ys x ks k n c.loop-stack-test.true c.stack-item.is is c.in_ok-sample_of.ensures.sample c.loop-stack.invariant.samples;
      each = subst (All P) (sym is) (All-push P xs x c.loop-stack.invariant.each c.in_ok-sample_of.ensures.is);
    }
