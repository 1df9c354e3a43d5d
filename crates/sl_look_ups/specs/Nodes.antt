-- The look-ups that a list shows.
use Rattle.std.specs.Prelude.{List, map}
use Rattle.sl_ast.specs.Textures.{TextureNode}
use Rattle.sl_ast.specs.TypedView.{tree_expr}
use Rattle.sl_look_ups.specs.declared.look_up.LookUp.{LookUp}

abbrev pub node : LookUp → TextureNode
node l = record { number = l.number; name = tree_expr l.name.now }

abbrev pub nodes : List LookUp → List TextureNode
nodes ls = map node ls
