-- The code of a shader's body takes at most seven registers for each node of its tree.
use Rattle.std.proofs.Common.{◌≡◌, ℕ, pos, ◌+◌, ◌*◌, ◌≤◌, Bool, true, false, List, [], ◌∷◌, ◌++◌, length, length-append, refl, arith}
use Rattle.std.specs.Prelude.{◌&&◌}
use Rattle.sl_ast.specs.declared.kinds.Predefined.TheVariants as names
use Rattle.sl_ast.specs.declared.kinds.SetOperator.{SetOperator}
use Rattle.sl_ast.specs.declared.kinds.SetOperator.TheVariants as sets
use Rattle.sl_ast.specs.declared.operations.Difference.{Difference}
use Rattle.sl_ast.specs.declared.operations.Look.TheVariants as looks
use Rattle.sl_ast.specs.declared.operations.Operation.{Operation}
use Rattle.sl_ast.specs.declared.operations.Operation.TheVariants as operations
use Rattle.sl_ast.specs.declared.operations.ValueOperation.{ValueOperation}
use Rattle.sl_ast.specs.declared.operations.ValueOperation.TheVariants as ops
use Rattle.sl_ast.specs.declared.typed.TreeFormal.{TreeFormal}
use Rattle.sl_ast.specs.declared.typed.Value.TheVariants.{Number}
use Rattle.sl_ast.specs.declared.typed.Variable.{Variable}
use Rattle.sl_ast.specs.declared.typed.Variable.TheVariants as variables
use Rattle.sl_ast.specs.Typed as T
use Rattle.sl_ast.specs.Typed.{numbers, numbers_args, numbers_stmt, numbers_stmts, numbers_defaults, numbers_tree}
use Rattle.sl_ast.specs.Classes as classes
use Rattle.sl_ast.specs.Classes.{formal_classes, is_uniform, is_uniform_loop}
use Rattle.sl_meaning.specs.Core as C
use Rattle.sl_meaning.specs.Lowered as lowered
use Rattle.sl_meaning.specs.Lowered.{expr, exprs, arguments, stmt, stmts, put_into, read, with_last, body_of}
use Rattle.core_codegen.specs.Room.{expr_room, exprs_room, args_room, stmt_room, all_room}

last_room : (es : C.Exprs) → exprs_room (lowered.last es) ≤ exprs_room es
last_room C.none = omega arith
last_room (C.more e C.none) = omega arith
last_room (C.more e (C.more d rest)) = let h = last_room (C.more d rest) in omega arith

operands_room : (op : ValueOperation) (es : C.Exprs) → exprs_room (lowered.operands op es) ≤ exprs_room es
operands_room (ops.Transform from into) es = last_room es
operands_room (ops.VTransform from into) es = last_room es
operands_room (ops.NTransform from into) es = last_room es
operands_room op es = omega arith

with_last_room : (es : C.Exprs) (x : C.Expr) → exprs_room (with_last es x) ≤ exprs_room es + 1 + expr_room x
with_last_room C.none x = omega arith
with_last_room (C.more e rest) x = let h = with_last_room rest x in omega arith

difference_room : (d : Difference) (es : C.Exprs) → expr_room (lowered.difference_of d es) ≤ 1 + exprs_room es
difference_room d C.none = omega arith
difference_room d (C.more e rest) = omega arith

operated_room : (operation : Operation) (n : ℕ) (es : C.Exprs) → expr_room (lowered.operated operation n es) ≤ 5 + exprs_room es
operated_room (operations.Value op) n es = let h = operands_room op es in omega arith
operated_room operations.FaceForwardNg n es = let h = with_last_room es (C.read (variables.Predefined names.Ng)) in omega arith
operated_room (operations.Difference d) n es = let h = difference_room d es in omega arith
operated_room (operations.Sum s) n es = omega arith
operated_room (operations.Look looks.At) n es = omega arith
operated_room (operations.Look looks.Here) n es =
    let s = C.read (variables.Predefined names.S) in
    let a = with_last_room es s in
    let b = with_last_room (with_last es s) (C.read (variables.Predefined names.T)) in
    omega arith
operated_room (operations.Look looks.First) n es = let h = with_last_room es (C.literal (Number (pos 0))) in omega arith

put_room : (x : Variable) (operator : SetOperator) (e : C.Expr) → expr_room (put_into operator x e) ≤ 4 + expr_room e
put_room x sets.Set e = omega arith
put_room x sets.Add e = omega arith
put_room x sets.Subtract e = omega arith
put_room x sets.Multiply e = omega arith
put_room x sets.Divide e = omega arith

read_room : (x : Variable) → expr_room (read x) ≡ 1
read_room (variables.Predefined names.Pi) = refl
read_room (variables.Predefined p) = refl
read_room (variables.Level k) = refl

mutual
  pub room_expr : (e : T.Expr) (us : List Bool) (u : Bool) → expr_room (expr e us u) + 2 ≤ 7 * length (numbers e)
  room_expr (T.number x p) us u = omega arith
  room_expr (T.word text p) us u = omega arith
  room_expr (T.variable x kind p) us u = omega (arith, read_room x)
  room_expr (T.apply operation args kind p) us u = omega (arith, operated_room operation p.number (exprs args us u), room_exprs args us u)
  room_expr (T.call args formals body returned value kind p) us u =
      let v = returned.number ∷ numbers value in
      let b = numbers_stmts body ++ v in
      omega (
        arith,
        room_args args formals us u,
        room_stmts body (formal_classes formals) u,
        room_expr value (classes.after_all body (formal_classes formals)) u,
        length-append (numbers_args args) b,
        length-append (numbers_stmts body) v,
      )

  pub room_exprs : (es : T.Exprs) (us : List Bool) (u : Bool) → exprs_room (exprs es us u) ≤ 7 * length (numbers_args es)
  room_exprs T.none us u = omega arith
  room_exprs (T.more e rest) us u = omega (arith, room_expr e us u, room_exprs rest us u, length-append (numbers e) (numbers_args rest))

  pub room_args : (es : T.Exprs) (formals : List TreeFormal) (us : List Bool) (u : Bool) → args_room (arguments es formals us u) ≤ 7 * length (numbers_args es)
  room_args T.none formals us u = omega arith
  room_args (T.more e rest) [] us u = omega arith
  room_args (T.more e rest) (f ∷ fs) us u = omega (arith, room_expr e us u, room_args rest fs us u, length-append (numbers e) (numbers_args rest))

  pub room_stmt : (s : T.Stmt) (us : List Bool) (u : Bool) → stmt_room (stmt s us u) ≤ 7 * length (numbers_stmt s)
  room_stmt (T.empty p) us u = omega arith
  room_stmt (T.leave p) us u = omega arith
  room_stmt (T.again p) us u = omega arith
  room_stmt (T.block body p) us u = omega (arith, room_stmts body us u)
  room_stmt (T.group body) us u = room_stmts body us u
  room_stmt (T.declare uniform kind e p) us u = omega (arith, room_expr e us u)
  room_stmt (T.start uniform kind p) us u = omega arith
  room_stmt (T.assign x operator kind e p) us u = omega (arith, put_room x operator (expr e us u), room_expr e us u)
  room_stmt (T.test e s p) us u = omega (arith, room_expr e us u, room_stmt s us (u && is_uniform e us), length-append (numbers e) (numbers_stmt s))
  room_stmt (T.test_else e s r p) us u =
      omega (
        arith,
        room_expr e us u,
        room_stmt s us (u && is_uniform e us),
        room_stmt r us (u && is_uniform e us),
        length-append (numbers e) (numbers_stmt s ++ numbers_stmt r),
        length-append (numbers_stmt s) (numbers_stmt r),
      )
  room_stmt (T.repeat e s p) us u = omega (arith, room_expr e us (is_uniform_loop e s us u), room_stmt s us (is_uniform_loop e s us u), length-append (numbers e) (numbers_stmt s))
  room_stmt (T.steps a e b s p) us u =
      let w = is_uniform_loop e s us u in
      let c = numbers_stmts b ++ numbers_stmt s in
      let d = numbers e ++ c in
      omega (
        arith,
        room_stmts a us u,
        room_expr e us w,
        room_stmts b us w,
        room_stmt s us w,
        length-append (numbers_stmts a) d,
        length-append (numbers e) c,
        length-append (numbers_stmts b) (numbers_stmt s),
      )
  room_stmt (T.lights over args s p) us u = omega (arith, room_exprs args us u, room_stmt s us false, length-append (numbers_args args) (numbers_stmt s))

  pub room_stmts : (body : T.Stmts) (us : List Bool) (u : Bool) → all_room (stmts body us u) ≤ 7 * length (numbers_stmts body)
  room_stmts T.done us u = omega arith
  room_stmts (T.first s rest) us u = omega (arith, room_stmt s us u, room_stmts rest (classes.after s us) u, length-append (numbers_stmt s) (numbers_stmts rest))

pub body_room : (t : T.Tree) → all_room (body_of t) ≤ 7 * length (numbers_tree t)
body_room t = omega (arith, room_stmts t.body (classes.local_classes t.params) true, length-append (numbers_defaults t.defaults) (numbers_stmts t.body))
