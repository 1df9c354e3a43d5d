use Rattle.std.proofs.Common.{◌≡◌, drop}
use Rattle.sl_ast.specs.Classes as spec
use Rattle.uniform_varying.proofs.scope.all_uniform.Given as goal

abbrev pub invariant-loop-u : goal.invariant-loop-u
invariant-loop-u l = spec.all_uniform (drop l.u-index l.us) ≡ spec.all_uniform l.us
