use Rattle.buckets.proofs.sights.seen.Goals as goal

pub returns-in-Some : goal.returns-in-Some
returns-in-Some c = c.in-Some.ensures c.args.frame.now c.requires.known c.args.prim.now c.requires.there
