use Rattle.std.proofs.Common.{◌∷◌, ◌∙◌, ap, lit<}
use Rattle.std.specs.Prelude.{codes}
use Rattle.std.specs.Str.Iter.{split_text, split_has_more, split_pattern}
use Rattle.std.proofs.lemmas.Iterator.Consumers.{YieldsList-end}
use Rattle.std.proofs.lemmas.Iterator.Splits.{YieldsList-from_str_split}
use Rattle.conformance.specs.Names.{space}
use Rattle.conformance.proofs.case.words_of.Goals as goal

pub returns : goal.returns
returns c =
    let split = c.split-word-items.ensures in
    let same = c.into_iter-word-iterator.ensures.into_iter_gives in
    let parts = YieldsList-from_str_split {s = c.into_iter-word-iterator.result} space c.args.list.now (lit< tt) (ap split_text same ∙ split.text) (ap split_has_more same ∙ split.has_more) (ap split_pattern same ∙ split.pattern) in
    let all = YieldsList-end parts c.loop-word.yielded _ c.loop-word.yielded_by _ _ c.in-None.is c.next.ensures.steps in
    c.loop-word.invariant ∙ ap (λ ws. codes "reyes" ∷ ws) all.0
