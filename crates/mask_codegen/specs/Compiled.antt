-- A tree with a code that means it.
use Rattle.std.specs.Prelude.{◌≡◌, ℕ, ◌*◌, ◌<◌, ◌≤◌, Bool, true, List, map, Result, Ok, Err}
use Rattle.sl_ast.specs.Registers.{rows_of}
use Rattle.sl_ast.specs.Settled.{IsSettled}
use Rattle.sl_ast.specs.Textures.{texture_nodes}
use Rattle.sl_ast.specs.Typed as T
use Rattle.sl_ast.specs.TreeView.{tree_of}
use Rattle.sl_ast.specs.declared.tree.Tree.{Tree}
use Rattle.grid_code.specs.declared.code.Register.{Register}
use Rattle.grid_code.specs.declared.code.Register.TheVariants.{Uniform, Varying}
use Rattle.grid_code.specs.declared.register_set.RegisterSet.{RegisterSet}
use Rattle.grid_code.specs.declared.shader_code.Code.{Code}
use Rattle.grid_code.specs.Code.{Block}
use Rattle.grid_code.specs.Uses.{is_in, within, rows_in}
use Rattle.grid_code.specs.Valid.{has_light_statement}
use Rattle.grid_code.specs.View.{block_of}
use Rattle.sl_meaning.specs.Lowered.{slots, body_of}
use Rattle.mask_codegen.specs.CoreLights.{lights_in_all}
use Rattle.mask_codegen.specs.declared.fault.CodeFault.{CodeFault}
use Rattle.mask_codegen.specs.declared.fault.CodeFault.TheVariants.{M9, NoMemory}
use Rattle.core_codegen.specs.Compile.{shader_code}
use Rattle.core_codegen.specs.Correct.{MeansTree}
use Rattle.core_codegen.specs.Slots.{slots_of}

-- the numbers of a tree's look-ups, in the order of the text
abbrev pub look_up_numbers : T.Tree → List ℕ
look_up_numbers t = map (λ n. n.number) (texture_nodes t)

-- a code of a settled tree: of its kind, with its parameters, the text that its body is emitted as, which means it, with a statement over lights
-- where the tree has one, in at most sixteen rows for each one counted, with the tree's look-ups
pub record IsCodeOf (t : T.Tree) (c : Code) : Type 0 where
  pub kind : c.kind ≡ t.kind
  pub params : slots_of c.params ≡ slots t.params
  pub text : block_of c.nodes ≡ shader_code (body_of t) (slots t.params)
  pub means : MeansTree t (block_of c.nodes)
  pub settled : IsSettled t
  pub lights : has_light_statement (block_of c.nodes) ≡ lights_in_all (body_of t)
  pub rows : rows_in c.varying ≤ 16 * rows_of t
  pub look_ups : c.look_ups.nodes ≡ look_up_numbers t

-- each varying register that code names is in a set
abbrev pub is_among : RegisterSet → Register → Bool
is_among set (Uniform s r) = true
is_among set (Varying s r) = is_in set s r

abbrev pub NamesVarying : RegisterSet → Block → Type 0
NamesVarying set x = within (is_among set) x ≡ true

-- what is seen of a compiled tree
pub record Seen : Type 0 where
  pub tree : Tree
  pub code : Code

-- the tree with a code, or a fault exactly where the rows counted pass 4,096; nothing is said of want of memory
abbrev pub Compiles : Tree → Result Seen CodeFault → Type 0
Compiles t (Ok p) = (p.tree ≡ t) × (rows_of (tree_of t) ≤ 4096)
Compiles t (Err M9) = 4096 < rows_of (tree_of t)
Compiles t (Err NoMemory) = Unit {0}
