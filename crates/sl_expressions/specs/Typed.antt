-- The typed tree without pointers, before functions are put in place: a call holds how many functions stand before its own.
use Rattle.std.specs.Prelude.{ℕ, ℤ, Bool, List, [], ◌∷◌}
use Rattle.sl_ast.specs.declared.kinds.SlType.{SlType}
use Rattle.sl_ast.specs.declared.kinds.NodeType.{NodeType}
use Rattle.sl_ast.specs.declared.kinds.NodeType.TheVariants as kinds
use Rattle.sl_ast.specs.declared.operations.Operation.{Operation}
use Rattle.sl_ast.specs.declared.kinds.SetOperator.{SetOperator}
use Rattle.sl_ast.specs.declared.kinds.LightStmt.{LightStmt}
use Rattle.sl_ast.specs.declared.typed.Variable.{Variable}

-- the last ℕ of each node is its line
mutual
  pub data Expr : Type 0 where
    number : ℤ → ℕ → Expr
    word : List ℕ → ℕ → Expr
    variable : Variable → NodeType → ℕ → Expr
    apply : Operation → Exprs → NodeType → ℕ → Expr
    call : ℕ → Exprs → NodeType → ℕ → Expr

  pub data Exprs : Type 0 where
    none : Exprs
    more : Expr → Exprs → Exprs

abbrev pub exprs : List Expr → Exprs
exprs [] = none
exprs (e ∷ es) = more e (exprs es)

abbrev pub kind_of : Expr → NodeType
kind_of (number value line) = kinds.Float
kind_of (word text line) = kinds.Str
kind_of (variable x kind line) = kind
kind_of (apply operation args kind line) = kind
kind_of (call function args kind line) = kind

-- an operator with the operand after it, and the type of what stands as far as that
pub record Link : Type 0 where
  pub operation : Operation
  pub operand : Expr
  pub kind : NodeType
  pub line : ℕ

abbrev pub linked : Expr → Link → Expr
linked e l = apply l.operation (more e (more l.operand none)) l.kind l.line

-- a chain of operators groups to the left
abbrev pub chained : Expr → List Link → Expr
chained e [] = e
chained e (l ∷ ls) = chained (linked e l) ls

-- each name of a declaration is a statement of its own
mutual
  pub data Stmt : Type 0 where
    empty leave again : ℕ → Stmt
    block : Stmts → ℕ → Stmt
    -- names declared together where one statement stands: a block for names, and no node
    group : Stmts → Stmt
    declare : Bool → SlType → Expr → ℕ → Stmt
    start : Bool → SlType → ℕ → Stmt
    assign : Variable → SetOperator → SlType → Expr → ℕ → Stmt
    test : Expr → Stmt → ℕ → Stmt
    test_else : Expr → Stmt → Stmt → ℕ → Stmt
    repeat : Expr → Stmt → ℕ → Stmt
    steps : Stmts → Expr → Stmts → Stmt → ℕ → Stmt
    lights : LightStmt → Exprs → Stmt → ℕ → Stmt

  pub data Stmts : Type 0 where
    done : Stmts
    first : Stmt → Stmts → Stmts

abbrev pub stmts : List Stmt → Stmts
stmts [] = done
stmts (x ∷ xs) = first x (stmts xs)

-- what a function does, with the line of its `return` and the value
pub record Body : Type 0 where
  pub stmts : Stmts
  pub returned : ℕ
  pub value : Expr
