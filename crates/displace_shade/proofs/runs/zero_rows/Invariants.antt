use Rattle.std.proofs.Common.{◌≡◌, ◌*◌, length}
use Rattle.displace_shade.proofs.runs.zero_rows.Given as goal

abbrev pub invariant-loop : goal.invariant-loop
invariant-loop l = length l.rows.items ≡ l.counter * 128
