use Rattle.std.proofs.Common.{◌≡◌, ◌∙◌, ap, sym, subst, ◌++◌, ◌∷◌, [], ◌<◌, ◌≤◌, get_or, length, List, All}
use Rattle.std.proofs.lemmas.List.{take_all}
use Rattle.std.proofs.lemmas.List.Elements.{All-push}
use Rattle.hider.specs.Fragments.{fragments}
use Rattle.hider.specs.Composite.{composite}
use Rattle.hider.proofs.Cuts.{composite-cut}
use Rattle.buckets.specs.Pictures.{micropolygons}
use Rattle.pixel_account.specs.declared.traces.Trace.{Trace}
use Rattle.pixel_account.specs.Account.{IsFragment, fragments_of, shown_at}
use Rattle.pixel_account.specs.Laying.{IsLaid}
use Rattle.pixel_account.specs.Traces.{IsTrace, fragments_in}
use Rattle.pixel_account.proofs.Listed.{map_push, same_more, laid_more}
use Rattle.pixel_account.proofs.accounts.sample_of.Goals as goal

pub loop-trace-preserved : goal.loop-trace-preserved
loop-trace-preserved g c =
    let a = g.of.accepted in
    let f = c.args.frame.now in
    let s = c.args.stack.now.sample in
    let ts = c.args.stack.now.traces in
    let t = c.trace-item.result in
    let k = c.loop-trace.trace-index in
    let xs = c.loop-trace.fragments.items in
    let ys = c.push.new.self.items in
    let x = c.in_ok-fragment_of.field-0 in
    let listed : c.as_slice-trace-items.result.now ≡ ts = c.as_slice-trace-items.ensures in
    let lt : k < length ts = subst (λ (l : List Trace). k < length l) listed c.loop-trace-test.true in
    let at' : t ≡ get_or ts k t = subst (λ (l : List Trace). t ≡ get_or l k t) listed c.trace-item.is in
    let is : ys ≡ xs ++ x ∷ [] = c.in_ok-push.ensures.items in
    let same = c.in_ok-fragment_of.ensures.fragment in
    let front : fragments_of ys ≡ fragments_of xs ++ t.fragment ∷ [] = map_push (λ y. y.fragment) xs ys x is ∙ ap (λ u. fragments_of xs ++ u ∷ []) same in
    let laid : IsLaid (fragments_of ys) c.laid_with-laid.result = subst (λ fs. IsLaid fs c.laid_with-laid.result) (sym front) (c.laid_with-laid.ensures (fragments_of xs) c.loop-trace.invariant.laid) in
    let told : IsTrace a f s t = subst (IsTrace a f s) (sym at') (c.requires.1.1.each k t lt) in
    record {
      laid = laid;
      same = same_more (λ y. y.fragment) (λ u. u.fragment) xs ys x ts t k lt at' is same c.loop-trace.invariant.same;
      each = subst (All (IsFragment a f s)) (sym is) (All-push (IsFragment a f s) xs x c.loop-trace.invariant.each (c.in_ok-fragment_of.ensures.is s told));
      each_laid = laid_more xs ys x c.laid_with-laid.result is laid c.in_ok-fragment_of.ensures.colour c.in_ok-fragment_of.ensures.passed c.loop-trace.invariant.each_laid;
    }

pub returns-clause-is : goal.returns-clause-is
unfolding shown_at
returns-clause-is g c =
    let a = g.of.accepted in
    let f = c.args.frame.now in
    let k = c.args.stack.now in
    let listed : c.as_slice-trace-items.result.now ≡ k.traces = c.as_slice-trace-items.ensures in
    let far : length k.traces ≤ c.loop-trace.trace-index = subst (λ (l : List Trace). length l ≤ c.loop-trace.trace-index) listed c.loop-trace-test.false in
    let shown = c.loop-trace.invariant.same ∙ ap fragments_in (take_all c.loop-trace.trace-index k.traces far) ∙ c.requires.1.1.shown in
    record {
      weight = c.requires.1.1.weight;
      shown = shown;
      each = c.loop-trace.invariant.each;
      laid = c.loop-trace.invariant.each_laid;
      colour = c.loop-trace.invariant.laid.colour ∙ ap composite shown ∙ composite-cut (fragments f.camera (micropolygons a f) k.sample);
    }
