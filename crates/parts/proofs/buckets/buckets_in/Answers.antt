use Rattle.std.proofs.Common.{ap, sym, subst, arith, ◌+◌, length, length-append}
use Rattle.parts.proofs.Bucketry.{Reading, reading_fails, reading_more}
use Rattle.parts.proofs.buckets.buckets_in.Goals as goal

pub returns-in_default : goal.returns-in_default
returns-in_default c =
    reading_fails c.args.header.now c.args.count c.args.bytes.now c.loop-bucket.buckets.items c.loop-bucket.least c.loop-bucket._bucket c.loop-bucket.rest.now c.loop-bucket.invariant.read c.in_default.ensures c.loop-bucket.invariant.long c.loop-bucket-test.true

pub loop-bucket-preserved : goal.loop-bucket-preserved
loop-bucket-preserved c =
    let items = c.in_ok-push.ensures.items in
    record {
      read = subst (λ n. Reading c.args.header.now c.args.count c.args.bytes.now c.push.new.self.items (n + 1) c.in-Some.behind.now) (sym c.number-least.ensures)
          (reading_more c.args.header.now c.args.count c.args.bytes.now c.loop-bucket.buckets.items c.push.new.self.items c.loop-bucket.least _ c.loop-bucket.rest.now c.in-Some.behind.now c.requires c.loop-bucket.invariant.read c.in-Some.ensures items);
      long = (let n = c.loop-bucket.invariant.long in let e = simp length-append at (ap length items) in omega (arith, e, n));
    }
