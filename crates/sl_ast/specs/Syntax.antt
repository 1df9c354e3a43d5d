-- The untyped tree without pointers: what the grammar gives for a text.
use Rattle.std.specs.Prelude.{ℕ, Bool, List, [], ◌∷◌, Option}
use Rattle.sl_ast.specs.declared.kinds.SlType.{SlType}
use Rattle.sl_ast.specs.declared.kinds.SlKind.{SlKind}
use Rattle.sl_ast.specs.declared.kinds.Class.{Class}
use Rattle.sl_ast.specs.declared.kinds.Row.{Row}
use Rattle.sl_ast.specs.declared.kinds.Operator.{Operator}
use Rattle.sl_ast.specs.declared.kinds.Prefix.{Prefix}
use Rattle.sl_ast.specs.declared.kinds.SetOperator.{SetOperator}
use Rattle.sl_ast.specs.declared.syntax.LightWord.{LightWord}
use Rattle.sl_ast.specs.declared.syntax.Space.{Space}

-- A number, a string or a name is its text, and the last ℕ of each node is its line. The token behind a name that is set or
-- declared has a line of its own.
mutual
  pub data Expr : Type 0 where
    number string name : List ℕ → ℕ → Expr
    call : List ℕ → Exprs → ℕ → Expr
    paren : Expr → ℕ → Expr
    triple : SlType → Option Space → Expr → Expr → Expr → ℕ → Expr
    typed : SlType → Option Space → Expr → ℕ → Expr
    prefixed : Prefix → Expr → ℕ → Expr
    chain : Row → Expr → Links → Expr
    choice : Expr → Expr → Expr → ℕ → Expr

  pub data Exprs : Type 0 where
    none : Exprs
    more : Expr → Exprs → Exprs

  -- operators with their lines and the operands behind them
  pub data Links : Type 0 where
    end : Links
    link : Operator → ℕ → Expr → Links → Links

-- an operator with its line, and the operand after it
pub record Link : Type 0 where
  pub operator : Operator
  pub line : ℕ
  pub operand : Expr

-- these expressions, these links, as nodes hold them
abbrev pub exprs : List Expr → Exprs
exprs [] = none
exprs (e ∷ es) = more e (exprs es)

abbrev pub links : List Link → Links
links [] = end
links (l ∷ ls) = link l.operator l.line l.operand (links ls)

-- an assignment: a name, an operator, a value
pub record Assignment : Type 0 where
  pub name : List ℕ
  pub operator : SetOperator
  pub value : Expr
  pub line : ℕ
  pub set_line : ℕ

-- a name that is declared, with its value if it has one
pub record Declared : Type 0 where
  pub name : List ℕ
  pub value : Option Expr
  pub line : ℕ
  pub set_line : ℕ

mutual
  pub data Stmt : Type 0 where
    empty leave again : ℕ → Stmt
    block : Stmts → ℕ → Stmt
    assign : Assignment → Stmt
    give : Expr → ℕ → Stmt
    declare : Option Class → SlType → List Declared → ℕ → Stmt
    test : Expr → Stmt → ℕ → Stmt
    test_else : Expr → Stmt → Stmt → ℕ → Stmt
    repeat : Expr → Stmt → ℕ → Stmt
    steps : Option Assignment → Expr → Option Assignment → Stmt → ℕ → Stmt
    lights : LightWord → Expr → Option (Expr × Expr) → Stmt → ℕ → Stmt
    solar : Expr → Expr → Stmt → ℕ → Stmt

  pub data Stmts : Type 0 where
    done : Stmts
    first : Stmt → Stmts → Stmts

abbrev pub stmts : List Stmt → Stmts
stmts [] = done
stmts (x ∷ xs) = first x (stmts xs)

-- names that are declared together: a shader's parameters have values, a function's formals have none
pub record Group : Type 0 where
  pub class : Option Class
  pub kind : SlType
  pub names : List Declared

-- `ended` says that a semicolon stands behind the last group
pub record Function : Type 0 where
  pub returns : SlType
  pub name : List ℕ
  pub formals : List Group
  pub ended : Bool
  pub body : Stmts
  pub line : ℕ

-- a file: functions, and the shader
pub record Shader : Type 0 where
  pub functions : List Function
  pub kind : SlKind
  pub name : List ℕ
  pub params : List Group
  pub ended : Bool
  pub body : Stmts
  pub line : ℕ
