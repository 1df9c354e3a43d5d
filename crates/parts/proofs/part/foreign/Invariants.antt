use Rattle.parts.specs.Joining.{AreAlike}
use Rattle.parts.proofs.part.foreign.Given as goal

abbrev pub invariant-loop-i : goal.invariant-loop-i
invariant-loop-i l = AreAlike l.parts l.i
