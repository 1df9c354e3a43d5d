use Rattle.std.proofs.Common.{◌≡◌, ◌++◌, ◌*◌}
use Rattle.std.specs.Prelude.{min}
use Rattle.parts.specs.Pictures.{run}
use Rattle.parts.specs.Placing.{pixel_of}
use Rattle.parts.proofs.ppm.append_row.Given as goal

abbrev pub invariant-loop-column : goal.invariant-loop-column
invariant-loop-column l = l.bytes.items ≡ l.initial.bytes.items ++ run (min (l.header.side * l.column) l.header.width) (λ x. pixel_of l.header l.buckets x l.y)
