use Rattle.std.proofs.Common.{◌≡◌, map, take, drop}
use Rattle.sl_ast.specs.TypedView.{tree_expr}
use Rattle.acceptance.specs.Listed.{AreAt, listed_with}
use Rattle.acceptance.specs.Textures.{name_with}
use Rattle.acceptance.proofs.textures.entries_found.Given as goal

abbrev pub invariant-loop-look_up : goal.invariant-loop-look_up
invariant-loop-look_up l = record {
  table : l.listed.table ≡ map (λ t. t.now) l.listed.names.items;
  names : listed_with l.listed.table (map (λ f. name_with l.values (tree_expr f.name.now)) (drop l.look_up-index l.found))
      ≡ listed_with l.initial.listed.table (map (λ f. name_with l.values (tree_expr f.name.now)) l.found);
  entries : AreAt l.listed.table (map (λ f. name_with l.values (tree_expr f.name.now)) (take l.look_up-index l.found)) l.entries.items;
}
