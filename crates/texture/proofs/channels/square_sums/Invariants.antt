use Rattle.std.proofs.Common.{◌≡◌, ◌*◌, ◌+◌, ◌≤◌}
use Rattle.texture.specs.Pyramid.{sample, sum_to}
use Rattle.texture.proofs.channels.square_sums.Given as goal

abbrev pub invariant-loop-j : goal.invariant-loop-j
invariant-loop-j l = record {
  red : l.red ≡ sum_to l.j (λ j. sum_to l.m (λ i. sample l.image 0 (l.x * l.m + i) (l.y * l.m + j)));
  green : l.green ≡ sum_to l.j (λ j. sum_to l.m (λ i. sample l.image 1 (l.x * l.m + i) (l.y * l.m + j)));
  blue : l.blue ≡ sum_to l.j (λ j. sum_to l.m (λ i. sample l.image 2 (l.x * l.m + i) (l.y * l.m + j)));
  red_most : l.red ≤ 65535 * 2048 * l.j;
  green_most : l.green ≤ 65535 * 2048 * l.j;
  blue_most : l.blue ≤ 65535 * 2048 * l.j;
}
