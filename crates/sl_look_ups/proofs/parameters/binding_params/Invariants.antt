use Rattle.std.proofs.Common.{◌≡◌, ◌++◌, drop, map}
use Rattle.sl_ast.specs.Textures.{texture_nodes}
use Rattle.sl_ast.specs.TreeView.{tree_of}
use Rattle.sl_ast.specs.TypedView.{local_of}
use Rattle.sl_look_ups.specs.Naming.{bindable_from, binding_params}
use Rattle.sl_look_ups.proofs.parameters.binding_params.Given as goal

abbrev pub invariant-loop-k : goal.invariant-loop-k
invariant-loop-k l =
    let t = tree_of l.tree in
    map local_of l.made.items ++ bindable_from (texture_nodes t) l.k (map local_of (drop l.k l.param-items)) ≡ binding_params t
