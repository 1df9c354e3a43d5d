use Rattle.std.proofs.Common.{arith, rules}
use Rattle.std.proofs.lemmas.Grind.{common_steps}
use Rattle.outside.proofs.Puts.{on_err}
use Rattle.buckets.proofs.RowBytes.{front_none}
use Rattle.buckets.proofs.frame.put_header.Goals as goal

pub returns-in_err-bytes : goal.returns-in_err-bytes
returns-in_err-bytes g c = record {
  open' = c.requires;
  ok = search rules;
  err = on_err _ _ (front_none _ _);
  later = omega arith;
  failed = grind (arith, common_steps);
}
