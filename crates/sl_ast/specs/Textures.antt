-- The look-ups of a typed tree in the order of the text: the number of each node, and what names its texture.
use Rattle.std.specs.Prelude.{ℕ, true, List, [], ◌∷◌, ◌++◌, ◌≡◌, refl}
use Rattle.sl_ast.specs.declared.kinds.NodeType.TheVariants as types
use Rattle.sl_ast.specs.declared.kinds.SlKind.TheVariants.{Surface}
use Rattle.sl_ast.specs.declared.kinds.SlType.TheVariants as values
use Rattle.sl_ast.specs.declared.operations.Operation.{Operation}
use Rattle.sl_ast.specs.declared.operations.Operation.TheVariants as operations
use Rattle.sl_ast.specs.declared.operations.Look.TheVariants as looks
use Rattle.sl_ast.specs.declared.typed.Place.{Place}
use Rattle.sl_ast.specs.Typed.{Expr, number, word, variable, apply, call, Exprs, none, more, Stmt, empty, leave, again, block, group, declare, start, assign, test, test_else, repeat, steps, lights, Stmts, done, first, Tree}
use Rattle.sl_ast.specs.Examples.{at, one, shader, then_one}

-- a look-up, and its first operand
pub record TextureNode : Type 0 where
  pub number : ℕ
  pub name : Expr

abbrev named : Place → Exprs → List TextureNode
named p none = []
named p (more name rest) = record { number = p.number; name = name } ∷ []

abbrev pub own_look_up : Operation → Place → Exprs → List TextureNode
own_look_up (operations.Look looks.At) p args = named p args
own_look_up (operations.Look looks.Here) p args = named p args
own_look_up _ p args = []

abbrev mutual
  pub look_ups : Expr → List TextureNode
  look_ups (number x p) = []
  look_ups (word x p) = []
  look_ups (variable x kind p) = []
  look_ups (apply operation args kind p) = own_look_up operation p args ++ look_ups_args args
  look_ups (call args formals body returned value kind p) = look_ups_args args ++ (look_ups_stmts body ++ look_ups value)

  pub look_ups_args : Exprs → List TextureNode
  look_ups_args none = []
  look_ups_args (more e rest) = look_ups e ++ look_ups_args rest

  pub look_ups_stmt : Stmt → List TextureNode
  look_ups_stmt (empty p) = []
  look_ups_stmt (leave p) = []
  look_ups_stmt (again p) = []
  look_ups_stmt (block body p) = look_ups_stmts body
  look_ups_stmt (group body) = look_ups_stmts body
  look_ups_stmt (declare uniform kind e p) = look_ups e
  look_ups_stmt (start uniform kind p) = []
  look_ups_stmt (assign x operator kind e p) = look_ups e
  look_ups_stmt (test e s p) = look_ups e ++ look_ups_stmt s
  look_ups_stmt (test_else e s r p) = look_ups e ++ (look_ups_stmt s ++ look_ups_stmt r)
  look_ups_stmt (repeat e s p) = look_ups e ++ look_ups_stmt s
  look_ups_stmt (steps a e b s p) = look_ups_stmts a ++ (look_ups e ++ (look_ups_stmts b ++ look_ups_stmt s))
  look_ups_stmt (lights over args s p) = look_ups_args args ++ look_ups_stmt s

  pub look_ups_stmts : Stmts → List TextureNode
  look_ups_stmts done = []
  look_ups_stmts (first s rest) = look_ups_stmt s ++ look_ups_stmts rest

-- none stands in a default
abbrev pub texture_nodes : Tree → List TextureNode
texture_nodes t = look_ups_stmts t.body

-- color c = texture("a", 1, 1);
abbrev named_a : Expr
named_a = word (97 ∷ []) (at 3)

one_look_up : texture_nodes (shader Surface (then_one (declare true values.Color (apply (operations.Look looks.At) (more named_a (more (one 4) (more (one 5) none))) types.Color (at 2)) (at 1)))) ≡ record { number = 2; name = named_a } ∷ []
one_look_up = refl
