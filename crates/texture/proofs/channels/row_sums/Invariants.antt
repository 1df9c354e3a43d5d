use Rattle.std.proofs.Common.{◌≡◌, ◌*◌, ◌+◌, ◌≤◌}
use Rattle.texture.specs.Pyramid.{sample, sum_to}
use Rattle.texture.proofs.channels.row_sums.Given as goal

abbrev pub invariant-loop-i : goal.invariant-loop-i
invariant-loop-i l = record {
  red : l.red ≡ sum_to l.i (λ i. sample l.image 0 (l.x + i) l.y);
  green : l.green ≡ sum_to l.i (λ i. sample l.image 1 (l.x + i) l.y);
  blue : l.blue ≡ sum_to l.i (λ i. sample l.image 2 (l.x + i) l.y);
  red_most : l.red ≤ 65535 * l.i;
  green_most : l.green ≤ 65535 * l.i;
  blue_most : l.blue ≤ 65535 * l.i;
}
