-- The typed tree without pointers.
use Rattle.std.specs.Prelude.{ℕ, ◌+◌, ◌==◌, ◌&&◌, ℤ, Bool, true, List, [], ◌∷◌, ◌++◌, max}
use Rattle.sl_ast.specs.declared.kinds.SlKind.{SlKind}
use Rattle.sl_ast.specs.declared.kinds.SlType.{SlType}
use Rattle.sl_ast.specs.declared.kinds.NodeType.{NodeType}
use Rattle.sl_ast.specs.declared.operations.Operation.{Operation}
use Rattle.sl_ast.specs.declared.kinds.SetOperator.{SetOperator}
use Rattle.sl_ast.specs.declared.kinds.LightStmt.{LightStmt}
use Rattle.sl_ast.specs.declared.typed.Place.{Place}
use Rattle.sl_ast.specs.declared.typed.Variable.{Variable}
use Rattle.sl_ast.specs.declared.typed.TreeFormal.{TreeFormal}

mutual
  pub data Expr : Type 0 where
    number : ℤ → Place → Expr
    word : List ℕ → Place → Expr
    variable : Variable → NodeType → Place → Expr
    apply : Operation → Exprs → NodeType → Place → Expr
    -- arguments, formals, body, the place of the `return` and its value
    call : Exprs → List TreeFormal → Stmts → Place → Expr → NodeType → Place → Expr

  pub data Exprs : Type 0 where
    none : Exprs
    more : Expr → Exprs → Exprs

  pub data Stmt : Type 0 where
    empty leave again : Place → Stmt
    block : Stmts → Place → Stmt
    -- names declared together where one statement stands: a block for names, and no node
    group : Stmts → Stmt
    declare : Bool → SlType → Expr → Place → Stmt
    start : Bool → SlType → Place → Stmt
    assign : Variable → SetOperator → SlType → Expr → Place → Stmt
    test : Expr → Stmt → Place → Stmt
    test_else : Expr → Stmt → Stmt → Place → Stmt
    repeat : Expr → Stmt → Place → Stmt
    steps : Stmts → Expr → Stmts → Stmt → Place → Stmt
    lights : LightStmt → Exprs → Stmt → Place → Stmt

  pub data Stmts : Type 0 where
    done : Stmts
    first : Stmt → Stmts → Stmts

abbrev pub exprs : List Expr → Exprs
exprs [] = none
exprs (e ∷ es) = more e (exprs es)

abbrev pub stmts : List Stmt → Stmts
stmts [] = done
stmts (x ∷ xs) = first x (stmts xs)

-- a parameter's default
pub record Default : Type 0 where
  pub value : Expr
  pub place : Place

-- what a parameter's declaration says of it
pub record Local : Type 0 where
  pub name : List ℕ
  pub kind : SlType
  pub uniform : Bool

-- the typed tree of a shader
pub record Tree : Type 0 where
  pub kind : SlKind
  pub params : List Local
  pub defaults : List Default
  pub body : Stmts
  pub place : Place

-- the numbers of the nodes, each before its parts and these in order of the text
abbrev mutual
  pub numbers : Expr → List ℕ
  numbers (number x p) = p.number ∷ []
  numbers (word x p) = p.number ∷ []
  numbers (variable x kind p) = p.number ∷ []
  numbers (apply operation args kind p) = p.number ∷ numbers_args args
  numbers (call args formals body returned value kind p) = p.number ∷ (numbers_args args ++ (numbers_stmts body ++ (returned.number ∷ numbers value)))

  pub numbers_args : Exprs → List ℕ
  numbers_args none = []
  numbers_args (more e rest) = numbers e ++ numbers_args rest

  pub numbers_stmt : Stmt → List ℕ
  numbers_stmt (empty p) = p.number ∷ []
  numbers_stmt (leave p) = p.number ∷ []
  numbers_stmt (again p) = p.number ∷ []
  numbers_stmt (block body p) = p.number ∷ numbers_stmts body
  numbers_stmt (group body) = numbers_stmts body
  numbers_stmt (declare uniform kind e p) = p.number ∷ numbers e
  numbers_stmt (start uniform kind p) = p.number ∷ []
  numbers_stmt (assign x operator kind e p) = p.number ∷ numbers e
  numbers_stmt (test e s p) = p.number ∷ (numbers e ++ numbers_stmt s)
  numbers_stmt (test_else e s r p) = p.number ∷ (numbers e ++ (numbers_stmt s ++ numbers_stmt r))
  numbers_stmt (repeat e s p) = p.number ∷ (numbers e ++ numbers_stmt s)
  numbers_stmt (steps a e b s p) = p.number ∷ (numbers_stmts a ++ (numbers e ++ (numbers_stmts b ++ numbers_stmt s)))
  numbers_stmt (lights over args s p) = p.number ∷ (numbers_args args ++ numbers_stmt s)

  pub numbers_stmts : Stmts → List ℕ
  numbers_stmts done = []
  numbers_stmts (first s rest) = numbers_stmt s ++ numbers_stmts rest

abbrev pub numbers_defaults : List Default → List ℕ
numbers_defaults [] = []
numbers_defaults (d ∷ ds) = d.place.number ∷ (numbers d.value ++ numbers_defaults ds)

-- the shader's own node, its parameters, its body
abbrev pub numbers_tree : Tree → List ℕ
numbers_tree t = t.place.number ∷ (numbers_defaults t.defaults ++ numbers_stmts t.body)

-- these numbers go up by one from that one
abbrev pub counts_up : ℕ → List ℕ → Bool
counts_up n [] = true
counts_up n (x ∷ xs) = (x == n) && counts_up (n + 1) xs

-- how many nodes stand one in another, both ends included
abbrev mutual
  pub depth : Expr → ℕ
  depth (number x p) = 1
  depth (word x p) = 1
  depth (variable x kind p) = 1
  depth (apply operation args kind p) = 1 + depth_args args
  depth (call args formals body returned value kind p) = 1 + max (depth_args args) (max (depth_stmts body) (1 + depth value))

  pub depth_args : Exprs → ℕ
  depth_args none = 0
  depth_args (more e rest) = max (depth e) (depth_args rest)

  pub depth_stmt : Stmt → ℕ
  depth_stmt (empty p) = 1
  depth_stmt (leave p) = 1
  depth_stmt (again p) = 1
  depth_stmt (block body p) = 1 + depth_stmts body
  depth_stmt (group body) = depth_stmts body
  depth_stmt (declare uniform kind e p) = 1 + depth e
  depth_stmt (start uniform kind p) = 1
  depth_stmt (assign x operator kind e p) = 1 + depth e
  depth_stmt (test e s p) = 1 + max (depth e) (depth_stmt s)
  depth_stmt (test_else e s r p) = 1 + max (depth e) (max (depth_stmt s) (depth_stmt r))
  depth_stmt (repeat e s p) = 1 + max (depth e) (depth_stmt s)
  depth_stmt (steps a e b s p) = 1 + max (depth_stmts a) (max (depth e) (max (depth_stmts b) (depth_stmt s)))
  depth_stmt (lights over args s p) = 1 + max (depth_args args) (depth_stmt s)

  pub depth_stmts : Stmts → ℕ
  depth_stmts done = 0
  depth_stmts (first s rest) = max (depth_stmt s) (depth_stmts rest)

abbrev pub depth_defaults : List Default → ℕ
depth_defaults [] = 0
depth_defaults (d ∷ ds) = max (1 + depth d.value) (depth_defaults ds)

-- how many nodes of a tree stand in one another at most
abbrev pub depth_tree : Tree → ℕ
depth_tree t = 1 + max (depth_defaults t.defaults) (depth_stmts t.body)
