use Rattle.std.proofs.Common.{◌≡◌, length}
use Rattle.parts.proofs.Bucketry.{Reading}
use Rattle.parts.proofs.buckets.buckets_in.Given as goal

abbrev pub invariant-loop-bucket : goal.invariant-loop-bucket
invariant-loop-bucket l = record {
  read : Reading l.header l.count l.bytes l.buckets.items l.least l.rest;
  long : length l.buckets.items ≡ l._bucket;
}
