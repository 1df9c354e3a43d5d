use Rattle.std.proofs.Common.{◌≡◌, ◌∙◌, ◌<◌, true, false, ap, subst, [], ◌∷◌, ◌++◌, map, filter, arith}
use Rattle.std.specs.Prelude.{pos}
use Rattle.std.specs.List.{range_with_len}
use Rattle.std.proofs.lemmas.Int.{ints}
use Rattle.std.proofs.lemmas.List.Elements.{All-push, All-same}
use Rattle.bound_split.specs.Extents.{pixels_of}
use Rattle.hider.specs.Samples.{sample_in}
use Rattle.pixel_account.specs.declared.stacks.Stack.{Stack}
use Rattle.pixel_account.specs.Account.{counts_for, counting_in}
use Rattle.pixel_account.specs.Stacks.{IsEmptyFor, IsSampleOf}
use Rattle.pixel_account.proofs.Told.{counts, counts_not, counting_more, counting_same}
use Rattle.pixel_account.proofs.window.counting.Goals as goal
use Rattle.pixel_account.proofs.window.counting.Goals.{then-raw-ne0+in_ok-push, else-raw-ne0}

pub loop-n-preserved : goal.loop-n-preserved
loop-n-preserved c =
    let o = c.args.options.now in
    let r = pixels_of c.args.rect in
    let n = c.loop-n.n in
    let s = c.sample_of-sample.result in
    let w = c.weight_of-weight.result in
    let ks = c.loop-n.stacks.items in
    let before = c.loop-n.invariant in
    let empty : Stack → Type 0 = IsEmptyFor o c.args.x c.args.y in
    let inside : Stack → Type 0 = λ k. IsSampleOf o.xs o.ys r k.sample in
    let is : s ≡ sample_in o.xs o.ys r n = c.sample_of-sample.ensures in
    let low = subst (λ m. n < m) c.count_in-n-end.ensures.value c.loop-n-test.true in
    elim c.if-raw-ne0.branch [
      | then-raw-ne0+in_ok-push v ↦ (
          let k : Stack = record { sample = s; weight = w; traces = v.new.result } in
          let items : c.if-raw-ne0.stacks.items ≡ ks ++ k ∷ [] = ap (λ l. l.items) v.stacks-is ∙ v.in_ok-push.ensures.items in
          let some : counts_for o c.args.x c.args.y (sample_in o.xs o.ys r n) ≡ true = subst (λ u. counts_for o c.args.x c.args.y u ≡ true) is (counts o c.args.x c.args.y s w c.weight_of-weight.ensures (λ e. omega (arith, ints, e, v.if-raw-ne0.true))) in
          record {
            samples = ap (map (λ (j : Stack). j.sample)) items ∙ counting_more (counts_for o c.args.x c.args.y) (sample_in o.xs o.ys r) n ks k before.samples is some;
            empty = All-same empty c.if-raw-ne0.stacks.items (ks ++ k ∷ []) items (All-push empty ks k before.empty (record { weight = c.weight_of-weight.ensures; traces = v.new.ensures }));
            inside = All-same inside c.if-raw-ne0.stacks.items (ks ++ k ∷ []) items (All-push inside ks k before.inside (record { number = n; inside = low; is = is }));
          })
      | else-raw-ne0 v ↦ (
          let same : c.if-raw-ne0.stacks.items ≡ ks = ap (λ l. l.items) v.stacks-is in
          let zero : w ≡ pos 0 = omega (arith, ints) in
          record {
            samples = ap (map (λ (j : Stack). j.sample)) same ∙ counting_same (counts_for o c.args.x c.args.y) (sample_in o.xs o.ys r) n ks before.samples
                (subst (λ t. counts_for o c.args.x c.args.y t ≡ false) is (counts_not o c.args.x c.args.y s w c.weight_of-weight.ensures zero));
            empty = All-same empty c.if-raw-ne0.stacks.items ks same before.empty;
            inside = All-same inside c.if-raw-ne0.stacks.items ks same before.inside;
          })
    ]

pub returns-clause-samples : goal.returns-clause-samples
unfolding counting_in
returns-clause-samples c =
    let o = c.args.options.now in
    c.loop-n.invariant.samples ∙ ap (λ m. filter (counts_for o c.args.x c.args.y) (map (sample_in o.xs o.ys (pixels_of c.args.rect)) (range_with_len 0 m))) (omega (arith, c.loop-n-test.false, c.loop-n.auto.n-end, c.count_in-n-end.ensures.value))
