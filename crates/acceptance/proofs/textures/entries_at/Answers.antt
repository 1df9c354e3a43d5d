use Rattle.std.proofs.Common.{get_or, ap, subst}
use Rattle.acceptance.specs.Listed.{ListsAll}
use Rattle.acceptance.proofs.Textured.{names_at_place}
use Rattle.acceptance.proofs.textures.entries_at.Goals as goal

pub returns : goal.returns
returns c =
    subst (λ ns. ListsAll c.args.listed.now c.entries_of.new.listed ns c.entries_of.result)
    (names_at_place c.args.read.now c.args.place (get_or c.args.read.now c.args.place c.index-read-place.result) c.args.values.now c.requires.place
    (ap (get_or c.args.read.now c.args.place) c.index-read-place.is)) c.entries_of.ensures
