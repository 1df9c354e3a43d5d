use Rattle.std.proofs.Common.{◌≡◌, drop, take, map, All}
use Rattle.outside.specs.Library.{Files}
use Rattle.shader_binding.specs.Sets.{FitUses}
use Rattle.acceptance.specs.UseFit.{uses_refused}
use Rattle.acceptance.specs.Reading.{IsReadOf, tree_read, all_values}
use Rattle.acceptance.proofs.Bound.{bound_from}
use Rattle.acceptance.proofs.use_fit.bind_all.Given as goal

abbrev pub invariant-loop-index : goal.invariant-loop-index
invariant-loop-index l = record {
  so_far : (files : Files) → All (IsReadOf files) l.shaders.read → bound_from files (drop l.index l.uses) ≡ uses_refused files l.uses;
  values : l.values.items ≡ all_values l.shaders.read (take l.index l.uses) (take l.index l.shaders.of_use);
  fit : FitUses (map tree_read l.shaders.read) (take l.index l.uses) (take l.index l.shaders.of_use) l.values.items;
}
