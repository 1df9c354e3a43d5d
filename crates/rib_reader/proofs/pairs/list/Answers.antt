use Rattle.rib_reader.proofs.PairByPair.{looked_up}
use Rattle.rib_reader.proofs.pairs.list.Goals as goal

pub returns-in_default : goal.returns-in_default
returns-in_default c =
    rw (looked_up c.args.follows c.args.declarations.now c.args.values.now c.in_default.not-Nothing c.in_default.not-Anything) c.pairs.ensures
