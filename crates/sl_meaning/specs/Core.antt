-- For contracts and laws of the code alone, not the picture's definition: the core tree, of which code is made. It is the typed tree with loops marked
-- by the rules of control classes, short forms written out, and without places but the numbers of look-ups.
use Rattle.std.specs.Prelude.{ℕ, Bool, true, false, ◌&&◌, List, [], ◌∷◌, ◌++◌, get_or}
use Rattle.sl_ast.specs.declared.kinds.SlType.{SlType}
use Rattle.sl_ast.specs.declared.kinds.SlType.TheVariants as types
use Rattle.sl_ast.specs.declared.kinds.LightStmt.{LightStmt}
use Rattle.sl_ast.specs.declared.operations.ValueOperation.{ValueOperation}
use Rattle.sl_ast.specs.declared.operations.Difference.{Difference}
use Rattle.sl_ast.specs.declared.operations.LightSum.{LightSum}
use Rattle.sl_ast.specs.declared.typed.Variable.{Variable}
use Rattle.sl_ast.specs.declared.typed.Variable.TheVariants as variables
use Rattle.sl_ast.specs.declared.typed.Value.{Value}
use Rattle.sl_ast.specs.Classes.{is_uniform_name}
use Rattle.sl_ast.specs.Names.{name_type}

mutual
  pub data Expr : Type 0 where
    literal : Value → Expr
    read : Variable → Expr
    apply : ValueOperation → Exprs → Expr
    differ : Difference → Expr → Expr
    sum : LightSum → Exprs → Expr
    -- a look-up by the number of its node: its name, s and t
    texture : ℕ → Exprs → Expr
    -- arguments, body, and the value of the `return` with its type
    call : Arguments → Stmts → SlType → Expr → Expr

  pub data Exprs : Type 0 where
    none : Exprs
    more : Expr → Exprs → Exprs

  -- an argument, with the class and the type of the formal that it goes into
  pub data Arguments : Type 0 where
    no_arguments : Arguments
    argument : Bool → SlType → Expr → Arguments → Arguments

  pub data Stmt : Type 0 where
    declare : Bool → SlType → Expr → Stmt
    assign : Variable → SlType → Expr → Stmt
    block : Stmts → Stmt
    test : Expr → Stmts → Stmts → Stmt
    -- whether it is a uniform loop, its condition, its step and its body
    repeat : Bool → Expr → Stmts → Stmts → Stmt
    lights : LightStmt → Exprs → Stmts → Stmt
    leave again : Stmt

  pub data Stmts : Type 0 where
    done : Stmts
    first : Stmt → Stmts → Stmts

-- what is known of a parameter, formal or local: its class and its type
pub record Slot : Type 0 where
  pub uniform : Bool
  pub kind : SlType

abbrev pub slot : Bool → SlType → Slot
slot u kind = record { uniform = u; kind = kind }

abbrev pub no_slot : Slot
no_slot = slot false types.Float

-- the variables of a call, and those in scope behind a statement
abbrev pub formals : Arguments → List Slot
formals no_arguments = []
formals (argument u kind e rest) = slot u kind ∷ formals rest

-- the scope after a statement
abbrev pub after : Stmt → List Slot → List Slot
after (declare u kind e) ss = ss ++ slot u kind ∷ []
after _ ss = ss

abbrev pub after_all : Stmts → List Slot → List Slot
after_all done ss = ss
after_all (first s rest) ss = after_all rest (after s ss)

abbrev pub all_uniform : List Slot → Bool
all_uniform [] = true
all_uniform (s ∷ ss) = s.uniform && all_uniform ss

-- whether a variable is uniform
abbrev pub class_in : Variable → List Slot → Bool
class_in (variables.Predefined p) ss = is_uniform_name p
class_in (variables.Level k) ss = (get_or ss k no_slot).uniform

abbrev pub kind_in : Variable → List Slot → SlType
kind_in (variables.Predefined p) ss = name_type p
kind_in (variables.Level k) ss = (get_or ss k no_slot).kind

-- an expression is uniform where nothing varying is contained in it; a call contains its arguments, its formals and its body
abbrev mutual
  pub is_uniform : Expr → List Slot → Bool
  is_uniform (literal v) ss = true
  is_uniform (read x) ss = class_in x ss
  is_uniform (apply op args) ss = are_uniform args ss
  is_uniform (differ d e) ss = false
  is_uniform (sum s args) ss = false
  is_uniform (texture k args) ss = are_uniform args ss
  is_uniform (call args body kind e) ss = args_uniform args ss && (all_uniform (formals args) && (stmts_uniform body (formals args) && is_uniform e (after_all body (formals args))))

  pub are_uniform : Exprs → List Slot → Bool
  are_uniform none ss = true
  are_uniform (more e rest) ss = is_uniform e ss && are_uniform rest ss

  pub args_uniform : Arguments → List Slot → Bool
  args_uniform no_arguments ss = true
  args_uniform (argument u kind e rest) ss = is_uniform e ss && args_uniform rest ss

  pub stmt_uniform : Stmt → List Slot → Bool
  stmt_uniform (declare u kind e) ss = u && is_uniform e ss
  stmt_uniform (assign x kind e) ss = class_in x ss && is_uniform e ss
  stmt_uniform (block s) ss = stmts_uniform s ss
  stmt_uniform (test e s t) ss = is_uniform e ss && (stmts_uniform s ss && stmts_uniform t ss)
  stmt_uniform (repeat u e s t) ss = is_uniform e ss && (stmts_uniform s ss && stmts_uniform t ss)
  stmt_uniform (lights which args s) ss = are_uniform args ss && stmts_uniform s ss
  stmt_uniform leave ss = true
  stmt_uniform again ss = true

  pub stmts_uniform : Stmts → List Slot → Bool
  stmts_uniform done ss = true
  stmts_uniform (first s rest) ss = stmt_uniform s ss && stmts_uniform rest (after s ss)
