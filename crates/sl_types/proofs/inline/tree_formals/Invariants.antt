use Rattle.std.proofs.Common.{◌≡◌, ◌++◌, drop, map}
use Rattle.sl_types.specs.Inline.{tree_formal}
use Rattle.sl_expressions.specs.Views.{local_of}
use Rattle.sl_types.proofs.inline.tree_formals.Given as goal

abbrev pub invariant-loop-formal : goal.invariant-loop-formal
invariant-loop-formal l = l.made.items ++ map tree_formal (map local_of (drop l.formal-index l.formals)) ≡ map tree_formal (map local_of l.formals)
