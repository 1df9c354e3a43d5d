-- The typed tree of a shader without pointers.
use Rattle.sl_ast.specs.Typed as T
use Rattle.sl_ast.specs.TypedView.{tree_with}
use Rattle.sl_ast.specs.declared.tree.Tree.{Tree}

abbrev pub tree_of : Tree → T.Tree
tree_of t = tree_with t.kind t.params t.defaults t.body t.place
