-- What a parameter's default is made of: no variable of the point, no neighbour, no light, and loops that are uniform. It is no part of what
-- a default's value is: the code asks it of the trees that it meets.
use Rattle.std.specs.Prelude.{◌≡◌, true}
use Rattle.sl_ast.specs.declared.typed.Variable.{Variable}
use Rattle.sl_ast.specs.declared.typed.Variable.TheVariants as variables
use Rattle.sl_meaning.specs.Core.{Expr, literal, read, apply, differ, sum, texture, call, Exprs, none, more, Arguments, no_arguments, argument, Stmt, declare, assign, block, test, repeat, lights, leave, again, Stmts, done, first}

-- a formal or a local
abbrev pub IsLevel : Variable → Type 0
IsLevel (variables.Predefined p) = ⊥
IsLevel (variables.Level k) = Unit {0}

abbrev mutual
  pub IsConstant : Expr → Type 0
  IsConstant (literal v) = Unit {0}
  IsConstant (read x) = IsLevel x
  IsConstant (apply op args) = AreConstant args
  IsConstant (differ d e) = ⊥
  IsConstant (sum s args) = ⊥
  IsConstant (texture k args) = ⊥
  IsConstant (call args body kind e) = ArgumentsConstant args × (AllConstant body × IsConstant e)

  pub AreConstant : Exprs → Type 0
  AreConstant none = Unit {0}
  AreConstant (more e rest) = IsConstant e × AreConstant rest

  pub ArgumentsConstant : Arguments → Type 0
  ArgumentsConstant no_arguments = Unit {0}
  ArgumentsConstant (argument u kind e rest) = IsConstant e × ArgumentsConstant rest

  pub StmtConstant : Stmt → Type 0
  StmtConstant (declare u kind e) = IsConstant e
  StmtConstant (assign x kind e) = IsLevel x × IsConstant e
  StmtConstant (block s) = AllConstant s
  StmtConstant (test t a b) = IsConstant t × (AllConstant a × AllConstant b)
  StmtConstant (repeat u t step s) = (u ≡ true) × (IsConstant t × (AllConstant step × AllConstant s))
  StmtConstant (lights which args s) = ⊥
  StmtConstant leave = Unit {0}
  StmtConstant again = Unit {0}

  pub AllConstant : Stmts → Type 0
  AllConstant done = Unit {0}
  AllConstant (first s rest) = StmtConstant s × AllConstant rest
