use Rattle.std.proofs.Common.{◌≡◌, ◌+◌}
use Rattle.texture.specs.Images.{listed}
use Rattle.texture.specs.Tables.{cell}
use Rattle.texture.proofs.sums.doubled.Given as goal

abbrev pub invariant-loop-k : goal.invariant-loop-k
invariant-loop-k l = l.cells.items ≡ listed l.k (cell l.image (l.m + l.m) l.width)
