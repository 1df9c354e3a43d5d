-- The variables and the budget of the code as those of a point that has nothing else.
use Rattle.sl_meaning.specs.Defaults.{full}
use Rattle.sl_meaning.specs.Environment.{Env, bare}
use Rattle.sl_evaluation.specs.declared.scope.Scope.{Scope}

abbrev pub env_of : Scope → Env
env_of s = record (bare s.turns full) { values = s.values.items }
