use Rattle.displace_shade.proofs.runs.left_behind.Goals as goal

pub triples_left-requires-clause-small : goal.triples_left-requires-clause-small
triples_left-requires-clause-small c = c.in_ok-out.ensures.small

pub triples_left-requires-2-clause-small : goal.triples_left-requires-2-clause-small
triples_left-requires-2-clause-small c = c.in_ok-out.ensures.small

pub returns-clause-values : goal.returns-clause-values
returns-clause-values c = record { out = c.in_ok-out.out.now; left = c.in_ok-out.ensures.values; in_first = c.in_ok-first.ensures; in_second = c.in_ok-second.ensures }
