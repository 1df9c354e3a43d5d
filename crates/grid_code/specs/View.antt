-- The code's nodes without pointers.
use Rattle.std.specs.Prelude.{List, [], ◌∷◌}
use Rattle.grid_code.specs.declared.code.Node as n
use Rattle.grid_code.specs.Code as c
use Rattle.grid_code.specs.Code.{Block}

-- a row of nodes as a block: each node before those behind it
abbrev mutual
  pub with_node : n.Node → Block → Block
  with_node (n.Put to source) x = c.put to source x
  with_node (n.Differ to difference of) x = c.differ to difference of x
  with_node (n.Sum to sum args) x = c.sum to sum args x
  with_node (n.Texture to node args) x = c.texture to node args x
  with_node (n.If' test k then m otherwise) x = c.branch test (row_block then) (row_block otherwise) x
  with_node (n.Loop' uniform k ask test m step p body) x = c.loops uniform (row_block ask) test (row_block step) (row_block body) x
  with_node (n.Lights' over args k body) x = c.lights over args (row_block body) x
  with_node n.Break x = c.breaks x
  with_node n.Continue x = c.continues x

  pub row_block : {m : _} → n.Row_of-Node m → Block
  row_block n.end_of-Node = c.end
  row_block (n.more_of-Node x rest) = with_node x (row_block rest)

-- the block of a list of nodes
abbrev pub block_of : List n.Node → Block
block_of [] = c.end
block_of (x ∷ xs) = with_node x (block_of xs)
