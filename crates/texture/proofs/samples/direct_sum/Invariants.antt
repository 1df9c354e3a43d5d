use Rattle.std.proofs.Common.{◌≡◌, ◌*◌, ◌+◌, ◌≤◌}
use Rattle.texture.specs.Pyramid.{sample, sum_to}
use Rattle.texture.proofs.samples.direct_sum.Given as goal

abbrev pub invariant-loop-j : goal.invariant-loop-j
invariant-loop-j l = record { value : l.sum ≡ sum_to l.j (λ j. sum_to l.m (λ i. sample l.image l.c (l.x * l.m + i) (l.y * l.m + j))); bound : l.sum ≤ 65535 * 2048 * l.j }
