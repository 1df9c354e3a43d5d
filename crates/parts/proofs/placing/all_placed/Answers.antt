use Rattle.std.proofs.Common.{◌∙◌, ap, sym, ◌++◌, List, take}
use Rattle.std.proofs.lemmas.List.{get_or_read}
use Rattle.parts.specs.Formats.{Bucket, Part, no_part}
use Rattle.parts.specs.Placing.{Placed, placed_in, placed_from}
use Rattle.parts.proofs.Places.{placed_take}
use Rattle.parts.proofs.placing.all_placed.Goals as goal

pub loop-i-preserved : goal.loop-i-preserved
loop-i-preserved c =
    let r = get_or_read c.args.parts.now c.loop-i.i c.index-parts-i.result c.loop-i-test.true c.index-parts-i.is no_part in
    c.in_ok-append.ensures
    ∙ ap (λ (all : List Placed). all ++ placed_in c.loop-i.i c.as_slice.result.now) c.loop-i.invariant
    ∙ ap (λ (bs : List Bucket). placed_from 0 (take c.loop-i.i c.args.parts.now) ++ placed_in c.loop-i.i bs) (c.as_slice.ensures.value ∙ ap (λ (p : Part). p.buckets) (c.part.view_is ∙ r))
    ∙ sym (placed_take c.args.parts.now c.loop-i.i c.loop-i-test.true)
