use Rattle.std.proofs.Common.{◌≡◌, ◌+◌, ◌++◌, true, drop, map}
use Rattle.sl_ast.specs.TypedView.{default_of}
use Rattle.sl_types.specs.Inline.{count_params, defaults_at}
use Rattle.sl_types.specs.Placing.{functions}
use Rattle.sl_typing.specs.Views.{param_of}
use Rattle.sl_types.proofs.inline.defaults.Given as goal

abbrev pub invariant-loop-param : goal.invariant-loop-param
invariant-loop-param l = record {
  tree : map default_of l.made.items ++ defaults_at (functions true l.known) l.next (map param_of (drop l.param-index l.params))
      ≡ defaults_at (functions true l.known) l.initial.next (map param_of l.params);
  next : l.next + count_params (functions true l.known) (map param_of (drop l.param-index l.params))
      ≡ l.initial.next + count_params (functions true l.known) (map param_of l.params);
}
