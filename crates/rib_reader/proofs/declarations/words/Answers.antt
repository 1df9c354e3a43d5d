use Rattle.std.proofs.Common.{◌≡◌, ◌∙◌, [], rules, arith}
use Rattle.std.proofs.lemmas.Grind.{common_steps}
use Rattle.rib_reader.proofs.Gathering.{words_from, gathered}
use Rattle.rib_reader.proofs.declarations.words.Goals as goal

pub returns : goal.returns
returns c =
    let so_far : c.add_word-2.new.words ≡ words_from [] [] c.args.text.now = first_of (search rules, grind (arith, common_steps)) in
    so_far ∙ gathered c.args.text.now
