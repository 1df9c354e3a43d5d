use Rattle.std.proofs.Common.{rules}
use Rattle.rib_reader.specs.Reading.{requests_of}
use Rattle.rib_reader.proofs.Joins.{go}
use Rattle.rib_reader.proofs.groups.read_all.Goals as goal

pub loop-head-preserved : goal.loop-head-preserved
loop-head-preserved c =
    rw c.in_ok-push.ensures.items (go c.loop-head.done.items c.loop-head.declarations c.read_next.new.declarations c.in-Some.head.now c.in-Some.behind.now c.loop-head.rest.now c.split_at.result.0.now c.split_at.result.1.now c.body_len.result c.in_ok-request.request (requests_of c.args.tokens.now)
    (search rules) c.body_len.ensures.len c.split_at.ensures.front c.split_at.ensures.back c.in_ok-request.ensures.request c.in_ok-request.ensures.declared c.loop-head.invariant)
