use Rattle.std.proofs.Common.{◌≡◌, ◌++◌, ◌*◌, ◌/◌, ◌%◌}
use Rattle.parts.specs.Pictures.{ppm_header, run}
use Rattle.parts.specs.Placing.{pixel_of}
use Rattle.parts.proofs.ppm.picture.Given as goal

abbrev pub invariant-loop-y : goal.invariant-loop-y
invariant-loop-y l = l.bytes.items ≡ ppm_header l.header ++ run (l.y * l.header.width) (λ p. pixel_of l.header l.buckets (p % l.header.width) (p / l.header.width))
