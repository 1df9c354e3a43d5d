-- What is told of a typed tree from its parts up: of no parts, of a node over its parts, of parts beside each other. A call has what is told
-- of its function beside its arguments, as if that stood in its place.
use Rattle.std.specs.Prelude.{List, get_or, Ok, Err}
use Rattle.sl_expressions.specs.Found.{Found}
use Rattle.sl_expressions.specs.Typed.{Expr, number, word, variable, apply, call, Exprs, none, more, Stmt, empty, leave, again, block, group, declare, start, assign, test, test_else, repeat, steps, lights, Stmts, done, first, Body}

pub record Fold (A : Type 0) : Type 0 where
  -- no parts
  pub nothing : A
  -- a node over such parts
  pub under : A → A
  -- parts beside each other
  pub beside : A → A → A
  -- a function that isn't there
  pub absent : A

-- `fs` is what is told of each function
abbrev mutual
  pub fold : {A : Type 0} → Fold A → List A → Expr → A
  fold f fs (number value line) = f.under f.nothing
  fold f fs (word text line) = f.under f.nothing
  fold f fs (variable x kind line) = f.under f.nothing
  fold f fs (apply op args kind line) = f.under (fold_args f fs args)
  fold f fs (call k args kind line) = f.under (f.beside (fold_args f fs args) (get_or fs k f.absent))

  pub fold_args : {A : Type 0} → Fold A → List A → Exprs → A
  fold_args f fs none = f.nothing
  fold_args f fs (more e rest) = f.beside (fold f fs e) (fold_args f fs rest)

-- a group is no node: it is what its statements are
abbrev mutual
  pub fold_stmt : {A : Type 0} → Fold A → List A → Stmt → A
  fold_stmt f fs (empty line) = f.under f.nothing
  fold_stmt f fs (leave line) = f.under f.nothing
  fold_stmt f fs (again line) = f.under f.nothing
  fold_stmt f fs (block ss line) = f.under (fold_stmts f fs ss)
  fold_stmt f fs (group ss) = fold_stmts f fs ss
  fold_stmt f fs (declare uniform kind e line) = f.under (fold f fs e)
  fold_stmt f fs (start uniform kind line) = f.under f.nothing
  fold_stmt f fs (assign x operator kind e line) = f.under (fold f fs e)
  fold_stmt f fs (test e s line) = f.under (f.beside (fold f fs e) (fold_stmt f fs s))
  fold_stmt f fs (test_else e s r line) = f.under (f.beside (fold f fs e) (f.beside (fold_stmt f fs s) (fold_stmt f fs r)))
  fold_stmt f fs (repeat e s line) = f.under (f.beside (fold f fs e) (fold_stmt f fs s))
  fold_stmt f fs (steps a e b s line) = f.under (f.beside (fold_stmts f fs a) (f.beside (fold f fs e) (f.beside (fold_stmts f fs b) (fold_stmt f fs s))))
  fold_stmt f fs (lights which args s line) = f.under (f.beside (fold_args f fs args) (fold_stmt f fs s))

  pub fold_stmts : {A : Type 0} → Fold A → List A → Stmts → A
  fold_stmts f fs done = f.nothing
  fold_stmts f fs (first s rest) = f.beside (fold_stmt f fs s) (fold_stmts f fs rest)

-- what a function does: its statements, its `return` and the value
abbrev pub fold_body : {A : Type 0} → Fold A → List A → Found Body → A
fold_body f fs (Ok b) = f.beside (fold_stmts f fs b.stmts) (f.under (fold f fs b.value))
fold_body f fs (Err e) = f.absent
