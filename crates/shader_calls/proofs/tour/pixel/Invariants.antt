use Rattle.std.proofs.Common.{◌≡◌}
use Rattle.shader_calls.proofs.tour.pixel.Given as goal

-- the sums hold as many colours as were counted
abbrev pub invariant-loop-n : goal.invariant-loop-n
invariant-loop-n l = l.sums.count ≡ l.count
