use Rattle.mask_codegen.proofs.SetParts.{is_set}
use Rattle.mask_codegen.proofs.sets.set_of.Goals as goal

pub returns : goal.returns
returns c =
    is_set _ c.args.uniform c.args.seen.now c.in_ok-ones.ensures.keeps c.in_ok-ones.ensures.adds_none c.in_ok-triples.ensures.keeps c.in_ok-triples.ensures.adds_none
    c.in_ok-words.ensures.keeps c.in_ok-words.ensures.adds_none
