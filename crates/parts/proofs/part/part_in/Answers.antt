use Rattle.parts.proofs.Bucketry.{without_head, without_buckets}
use Rattle.parts.proofs.part.part_in.Goals as goal

pub returns-in_default : goal.returns-in_default
returns-in_default c = without_head c.args.bytes.now c.in_default.ensures

pub returns-in_default-2 : goal.returns-in_default-2
returns-in_default-2 c =
    let m = c.in_ok-buckets.ensures in
    let none = rw c.in_default-2.is at m in
    without_buckets c.args.bytes.now c.in-Some.rest.now c.in-Some.header c.in-Some.count c.in-Some.ensures none
