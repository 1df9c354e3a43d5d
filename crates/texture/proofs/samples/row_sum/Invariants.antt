use Rattle.std.proofs.Common.{◌≡◌, ◌*◌, ◌+◌, ◌≤◌}
use Rattle.texture.specs.Pyramid.{sample, sum_to}
use Rattle.texture.proofs.samples.row_sum.Given as goal

abbrev pub invariant-loop-i : goal.invariant-loop-i
invariant-loop-i l = record { value : l.sum ≡ sum_to l.i (λ i. sample l.image l.c (l.x + i) l.y); bound : l.sum ≤ 65535 * l.i }
