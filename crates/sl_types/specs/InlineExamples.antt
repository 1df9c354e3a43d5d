-- Worked trees: a function of one formal that returns it, called with 1; names declared together as a branch.
use Rattle.std.specs.Prelude.{◌≡◌, ℕ, false, List, [], ◌∷◌, pos, Ok, refl}
use Rattle.sl_ast.specs.Typed as A
use Rattle.sl_ast.specs.declared.kinds.SlType.TheVariants as types
use Rattle.sl_ast.specs.declared.kinds.NodeType.TheVariants.{Float, Test}
use Rattle.sl_ast.specs.declared.operations.Operation.TheVariants.{Value}
use Rattle.sl_ast.specs.declared.operations.ValueOperation.TheVariants.{Less}
use Rattle.sl_ast.specs.declared.typed.Variable.TheVariants.{Level}
use Rattle.sl_expressions.specs.Typed as T
use Rattle.sl_expressions.specs.Scope.{Local, Callee}
use Rattle.sl_typing.specs.Stmts.{one_of}
use Rattle.sl_types.specs.Folds.{fold, fold_stmt}
use Rattle.sl_types.specs.Extents.{counting}
use Rattle.sl_types.specs.Sizes.{extents_from}
use Rattle.sl_types.specs.Placing.{weighing}
use Rattle.sl_types.specs.Inline.{Built, at, tree_formal, built_from, inline, inline_stmt}

abbrev formal : Local
formal = record { uniform = false; kind = types.Float; name = []; fixed = false; line = 1 }

abbrev same : T.Body
same = record { stmts = T.done; returned = 2; value = T.variable (Level 0) Float 2 }

abbrev function : Callee
function = record { name = []; formals = formal ∷ []; returns = types.Float; body = Ok same; by_default = Ok same }

abbrev built : List Built
built = built_from false [] (function ∷ [])

abbrev called : T.Expr
called = T.call 0 (T.more (T.number (pos 1) 3) T.none) Float 3

-- the call has the first number, then come its argument, its function's return and the value
abbrev in_place : inline built 4 called ≡
    A.call (A.more (A.number (pos 1) (at 3 5)) A.none) (tree_formal formal ∷ []) A.done (at 2 6) (A.variable (Level 0) Float (at 2 7)) Float (at 3 4)
in_place = refl

-- four nodes, three of them one in another
abbrev extent_in_place : fold counting (extents_from false [] (function ∷ [])) called ≡ record { nodes = 4; depth = 3 }
extent_in_place = refl

-- how great the call is by itself
abbrev weight_of_call : fold weighing [] called ≡ 6
weight_of_call = refl

-- `if (x < 1) float a = 1, b = 2;`, the names and their values on line 2
abbrev set_to : ℕ → T.Stmt
set_to n = T.declare false types.Float (T.number (pos n) 2) 2

abbrev together : T.Stmt
together =
    T.test (T.apply (Value Less) (T.more (T.variable (Level 0) Float 1) (T.more (T.number (pos 1) 1) T.none)) Test 1) (one_of (set_to 1 ∷ set_to 2 ∷ [])) 1

-- the choice, the three nodes of its condition, and two for each name: no more
abbrev numbers_together : A.numbers_stmt (inline_stmt [] 0 together) ≡ 0 ∷ 1 ∷ 2 ∷ 3 ∷ 4 ∷ 5 ∷ 6 ∷ 7 ∷ []
numbers_together = refl

abbrev branch_together : inline_stmt [] 4 (one_of (set_to 1 ∷ set_to 2 ∷ [])) ≡
    A.group (A.first (A.declare false types.Float (A.number (pos 1) (at 2 5)) (at 2 4))
    (A.first (A.declare false types.Float (A.number (pos 2) (at 2 7)) (at 2 6)) A.done))
branch_together = refl

abbrev extent_together : fold_stmt counting [] together ≡ record { nodes = 8; depth = 3 }
extent_together = refl
