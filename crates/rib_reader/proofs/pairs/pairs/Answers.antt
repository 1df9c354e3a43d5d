use Rattle.std.proofs.Common.{rules}
use Rattle.rib_reader.specs.Lists.{pairs_of, of_pairs}
use Rattle.rib_reader.proofs.PairByPair.{one_read}
use Rattle.rib_reader.proofs.pairs.pairs.Goals as goal

pub loop-front-preserved : goal.loop-front-preserved
loop-front-preserved c =
    one_read c.args.follows c.args.declarations.now c.loop-front.listing c.add.new.listing c.in-Str.token c.loop-front.rest.now c.in-Some.behind.now c.past_first-rest.result.now
    (of_pairs c.args.follows c.args.declarations.now (pairs_of c.args.values.now))
    (search rules) c.past_first-rest.ensures (search rules) c.loop-front.invariant
