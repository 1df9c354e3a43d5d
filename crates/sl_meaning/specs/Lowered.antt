-- For contracts and laws of the code alone, not the picture's definition: the core tree of a typed tree. `us` are the classes of the variables in scope (`true` for uniform), and `u` says that control is uniform.
use Rattle.std.specs.Prelude.{ℕ, pos, Bool, true, false, ◌&&◌, List, [], ◌∷◌}
use Rattle.sl_ast.specs.declared.kinds.Predefined.TheVariants as names
use Rattle.sl_ast.specs.declared.kinds.SetOperator.{SetOperator}
use Rattle.sl_ast.specs.declared.kinds.SetOperator.TheVariants as sets
use Rattle.sl_ast.specs.declared.operations.Difference.{Difference}
use Rattle.sl_ast.specs.declared.operations.Look.{Look}
use Rattle.sl_ast.specs.declared.operations.Look.TheVariants as looks
use Rattle.sl_ast.specs.declared.operations.Operation.{Operation}
use Rattle.sl_ast.specs.declared.operations.Operation.TheVariants as operations
use Rattle.sl_ast.specs.declared.operations.ValueOperation.{ValueOperation}
use Rattle.sl_ast.specs.declared.operations.ValueOperation.TheVariants as ops
use Rattle.sl_ast.specs.declared.typed.TreeFormal.{TreeFormal}
use Rattle.sl_ast.specs.declared.typed.Value.TheVariants.{Number, Word}
use Rattle.sl_ast.specs.declared.typed.Variable.{Variable}
use Rattle.sl_ast.specs.declared.typed.Variable.TheVariants as variables
use Rattle.sl_ast.specs.Typed as T
use Rattle.sl_ast.specs.Classes.{formal_classes, local_classes, after, after_all, is_uniform, is_uniform_loop}
use Rattle.sl_meaning.specs.Core as C
use Rattle.sl_meaning.specs.Environment.{pi, start_value, value_type}

-- π in 65536ths
abbrev pub pi_node : C.Expr
pi_node = C.literal (Number pi)

-- the value of a variable in the core tree; `PI` is a number there
abbrev pub read : Variable → C.Expr
read (variables.Predefined names.Pi) = pi_node
read x = C.read x

-- the last of some operands: the strings before the value of a transformation name its spaces, which stand in the operation
abbrev pub last : C.Exprs → C.Exprs
last C.none = C.none
last (C.more e C.none) = C.more e C.none
last (C.more e rest) = last rest

abbrev pub operands : ValueOperation → C.Exprs → C.Exprs
operands (ops.Transform from into) es = last es
operands (ops.VTransform from into) es = last es
operands (ops.NTransform from into) es = last es
operands op es = es

abbrev pub with_last : C.Exprs → C.Expr → C.Exprs
with_last C.none x = C.more x C.none
with_last (C.more e rest) x = C.more e (with_last rest x)

abbrev pub difference_of : Difference → C.Exprs → C.Expr
difference_of d C.none = C.literal (Number (pos 0))
difference_of d (C.more e rest) = C.differ d e

-- a look-up of that node, of a name alone at the predefined s and t; and the first part of one
abbrev pub looked_up : Look → ℕ → C.Exprs → C.Expr
looked_up looks.At k es = C.texture k es
looked_up looks.Here k es = C.texture k (with_last (with_last es (C.read (variables.Predefined names.S))) (C.read (variables.Predefined names.T)))
looked_up looks.First k es = C.apply ops.Comp (with_last es (C.literal (Number (pos 0))))

-- an operation of that node on its operands; `faceforward` of two reads the geometric normal
abbrev pub operated : Operation → ℕ → C.Exprs → C.Expr
operated (operations.Value op) k es = C.apply op (operands op es)
operated operations.FaceForwardNg k es = C.apply ops.FaceForward (with_last es (C.read (variables.Predefined names.Ng)))
operated (operations.Difference d) k es = difference_of d es
operated (operations.Sum s) k es = C.sum s es
operated (operations.Look look) k es = looked_up look k es

-- what `=`, `+=`, `-=`, `*=` and `/=` put into a variable
abbrev pub combined : ValueOperation → Variable → C.Expr → C.Expr
combined op x e = C.apply op (C.more (C.read x) (C.more e C.none))

-- what an assignment of any kind puts into its variable
abbrev pub put_into : SetOperator → Variable → C.Expr → C.Expr
put_into sets.Set x e = e
put_into sets.Add x e = combined ops.Add x e
put_into sets.Subtract x e = combined ops.Subtract x e
put_into sets.Multiply x e = combined ops.Multiply x e
put_into sets.Divide x e = combined ops.Divide x e

-- one statement where a list of them stands
abbrev pub alone : C.Stmt → C.Stmts
alone s = C.first s C.done

abbrev mutual
  pub expr : T.Expr → List Bool → Bool → C.Expr
  expr (T.number x p) us u = C.literal (Number x)
  expr (T.word text p) us u = C.literal (Word text)
  expr (T.variable x kind p) us u = read x
  expr (T.apply operation args kind p) us u = operated operation p.number (exprs args us u)
  expr (T.call args formals body returned value kind p) us u =
      C.call (arguments args formals us u) (stmts body (formal_classes formals) u) (value_type kind) (expr value (after_all body (formal_classes formals)) u)

  pub exprs : T.Exprs → List Bool → Bool → C.Exprs
  exprs T.none us u = C.none
  exprs (T.more e rest) us u = C.more (expr e us u) (exprs rest us u)

  pub arguments : T.Exprs → List TreeFormal → List Bool → Bool → C.Arguments
  arguments T.none formals us u = C.no_arguments
  arguments (T.more e rest) [] us u = C.no_arguments
  arguments (T.more e rest) (f ∷ fs) us u = C.argument f.uniform f.kind (expr e us u) (arguments rest fs us u)

  -- `while` and `for` are one loop, with nothing as its step or the last set; the first set stands before it
  pub stmt : T.Stmt → List Bool → Bool → C.Stmt
  stmt (T.empty p) us u = C.block C.done
  stmt (T.leave p) us u = C.leave
  stmt (T.again p) us u = C.again
  stmt (T.block body p) us u = C.block (stmts body us u)
  stmt (T.group body) us u = C.block (stmts body us u)
  stmt (T.declare uniform kind e p) us u = C.declare uniform kind (expr e us u)
  stmt (T.start uniform kind p) us u = C.declare uniform kind (C.literal (start_value kind))
  stmt (T.assign x operator kind e p) us u = C.assign x kind (put_into operator x (expr e us u))
  stmt (T.test e s p) us u = C.test (expr e us u) (alone (stmt s us (u && is_uniform e us))) C.done
  stmt (T.test_else e s r p) us u = C.test (expr e us u) (alone (stmt s us (u && is_uniform e us))) (alone (stmt r us (u && is_uniform e us)))
  stmt (T.repeat e s p) us u =
      C.repeat (is_uniform_loop e s us u) (expr e us (is_uniform_loop e s us u)) C.done (alone (stmt s us (is_uniform_loop e s us u)))
  stmt (T.steps a e b s p) us u =
      C.block (C.first (C.block (stmts a us u)) (alone
      (C.repeat (is_uniform_loop e s us u) (expr e us (is_uniform_loop e s us u)) (stmts b us (is_uniform_loop e s us u)) (alone (stmt s us (is_uniform_loop e s us u))))))
  stmt (T.lights over args s p) us u = C.lights over (exprs args us u) (alone (stmt s us false))

  pub stmts : T.Stmts → List Bool → Bool → C.Stmts
  stmts T.done us u = C.done
  stmts (T.first s rest) us u = C.first (stmt s us u) (stmts rest (after s us) u)

-- what is known of the parameters
abbrev pub slots : List T.Local → List C.Slot
slots [] = []
slots (l ∷ ls) = C.slot l.uniform l.kind ∷ slots ls

-- the body of a shader
abbrev pub body_of : T.Tree → C.Stmts
body_of t = stmts t.body (local_classes t.params) true
