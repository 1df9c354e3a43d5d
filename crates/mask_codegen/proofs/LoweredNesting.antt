-- The blocks of a core tree lie no deeper in one another than the nodes of the typed tree that it is made from.
use Rattle.std.proofs.Common.{ℕ, pos, ◌+◌, ◌-◌, ◌≤◌, max, Bool, true, false, List, [], ◌∷◌, arith}
use Rattle.std.specs.Prelude.{◌&&◌}
use Rattle.std.proofs.Math.Nat.{le-max_left, le-max_right, max-le}
use Rattle.sl_ast.specs.declared.kinds.Predefined.TheVariants as names
use Rattle.sl_ast.specs.declared.kinds.SetOperator.{SetOperator}
use Rattle.sl_ast.specs.declared.kinds.SetOperator.TheVariants as sets
use Rattle.sl_ast.specs.declared.operations.Difference.{Difference}
use Rattle.sl_ast.specs.declared.operations.Look.TheVariants as looks
use Rattle.sl_ast.specs.declared.operations.Operation.{Operation}
use Rattle.sl_ast.specs.declared.operations.Operation.TheVariants as operations
use Rattle.sl_ast.specs.declared.operations.ValueOperation.{ValueOperation}
use Rattle.sl_ast.specs.declared.operations.ValueOperation.TheVariants as ops
use Rattle.sl_ast.specs.declared.typed.TreeFormal.{TreeFormal}
use Rattle.sl_ast.specs.declared.typed.Value.{Value}
use Rattle.sl_ast.specs.declared.typed.Value.TheVariants.{Number}
use Rattle.sl_ast.specs.declared.typed.Variable.{Variable}
use Rattle.sl_ast.specs.declared.typed.Variable.TheVariants as variables
use Rattle.sl_ast.specs.Typed as T
use Rattle.sl_ast.specs.Typed.{depth, depth_args, depth_stmt, depth_stmts, depth_defaults, depth_tree}
use Rattle.sl_ast.specs.Classes as classes
use Rattle.sl_ast.specs.Classes.{formal_classes, is_uniform, is_uniform_loop}
use Rattle.sl_meaning.specs.Core as C
use Rattle.sl_meaning.specs.Lowered as lowered
use Rattle.sl_meaning.specs.Lowered.{expr, exprs, arguments, stmt, stmts, put_into, read, with_last, body_of}
use Rattle.mask_codegen.proofs.CoreNesting.{expr_nesting, exprs_nesting, args_nesting, stmt_nesting, all_nesting}

pub max_parts : (a b m : ℕ) → max a b ≤ m → (a ≤ m) × (b ≤ m)
max_parts a b m h = let x = le-max_left a b in let y = le-max_right a b in (omega arith, omega arith)

-- what stands within m levels of a node stands within one less behind it
inner : (x m : ℕ) → 1 + x ≤ m → x ≤ m - 1
inner x m h = omega arith

outer : (x y m : ℕ) → 1 + y ≤ m → x ≤ m - 1 → 1 + x ≤ m
outer x y m k h = omega arith

wider : (x m : ℕ) → x ≤ m - 1 → x ≤ m
wider x m h = omega arith

alone : (x m : ℕ) → x ≤ m → max x 0 ≤ m
alone x m h = max-le h (omega arith)

last_nesting : (es : C.Exprs) (m : ℕ) → exprs_nesting es ≤ m → exprs_nesting (lowered.last es) ≤ m
last_nesting C.none m h = h
last_nesting (C.more e C.none) m h = h
last_nesting (C.more e (C.more d rest)) m h = last_nesting (C.more d rest) m (max_parts _ _ m h).1

operands_nesting : (op : ValueOperation) (es : C.Exprs) (m : ℕ) → exprs_nesting es ≤ m → exprs_nesting (lowered.operands op es) ≤ m
operands_nesting (ops.Transform from into) es m h = last_nesting es m h
operands_nesting (ops.VTransform from into) es m h = last_nesting es m h
operands_nesting (ops.NTransform from into) es m h = last_nesting es m h
operands_nesting op es m h = h

with_last_nesting : (es : C.Exprs) (x : Variable) (m : ℕ) → exprs_nesting es ≤ m → exprs_nesting (with_last es (C.read x)) ≤ m
with_last_nesting C.none x m h = alone 0 m (omega arith)
with_last_nesting (C.more e rest) x m h = let parts = max_parts _ _ m h in max-le parts.0 (with_last_nesting rest x m parts.1)

difference_nesting : (d : Difference) (es : C.Exprs) (m : ℕ) → exprs_nesting es ≤ m → expr_nesting (lowered.difference_of d es) ≤ m
difference_nesting d C.none m h = omega arith
difference_nesting d (C.more e rest) m h = (max_parts _ _ m h).0

literal_nesting : (es : C.Exprs) (v : Value) (m : ℕ) → exprs_nesting es ≤ m → exprs_nesting (with_last es (C.literal v)) ≤ m
literal_nesting C.none v m h = alone 0 m (omega arith)
literal_nesting (C.more e rest) v m h = let parts = max_parts _ _ m h in max-le parts.0 (literal_nesting rest v m parts.1)

operated_nesting : (operation : Operation) (n : ℕ) (es : C.Exprs) (m : ℕ) → exprs_nesting es ≤ m → expr_nesting (lowered.operated operation n es) ≤ m
operated_nesting (operations.Value op) n es m h = operands_nesting op es m h
operated_nesting operations.FaceForwardNg n es m h = with_last_nesting es (variables.Predefined names.Ng) m h
operated_nesting (operations.Difference d) n es m h = difference_nesting d es m h
operated_nesting (operations.Sum s) n es m h = h
operated_nesting (operations.Look looks.At) n es m h = h
operated_nesting (operations.Look looks.Here) n es m h =
    with_last_nesting (with_last es (C.read (variables.Predefined names.S))) (variables.Predefined names.T) m (with_last_nesting es (variables.Predefined names.S) m h)
operated_nesting (operations.Look looks.First) n es m h = literal_nesting es (Number (pos 0)) m h

put_nesting : (x : Variable) (operator : SetOperator) (e : C.Expr) (m : ℕ) → expr_nesting e ≤ m → expr_nesting (put_into operator x e) ≤ m
put_nesting x sets.Set e m h = h
put_nesting x sets.Add e m h = max-le (omega arith) (alone _ m h)
put_nesting x sets.Subtract e m h = max-le (omega arith) (alone _ m h)
put_nesting x sets.Multiply e m h = max-le (omega arith) (alone _ m h)
put_nesting x sets.Divide e m h = max-le (omega arith) (alone _ m h)

read_nesting : (x : Variable) → expr_nesting (read x) ≤ 0
read_nesting (variables.Predefined names.Pi) = omega arith
read_nesting (variables.Predefined p) = omega arith
read_nesting (variables.Level k) = omega arith

mutual
  pub nesting_expr : (e : T.Expr) (us : List Bool) (u : Bool) (m : ℕ) → depth e ≤ m → expr_nesting (expr e us u) ≤ m
  nesting_expr (T.number x p) us u m h = omega arith
  nesting_expr (T.word text p) us u m h = omega arith
  nesting_expr (T.variable x kind p) us u m h = let k = read_nesting x in omega arith
  nesting_expr (T.apply operation args kind p) us u m h = operated_nesting operation p.number (exprs args us u) m (nesting_exprs args us u m (wider _ m (inner _ m h)))
  nesting_expr (T.call args formals body returned value kind p) us u m h =
      let parts = max_parts (depth_args args) (max (depth_stmts body) (1 + depth value)) m (wider _ m (inner _ m h)) in
      let rest = max_parts (depth_stmts body) (1 + depth value) m parts.1 in
      max-le (nesting_args args formals us u m parts.0) (max-le (nesting_stmts body (formal_classes formals) u m rest.0)
      (nesting_expr value (classes.after_all body (formal_classes formals)) u m (wider _ m (inner _ m rest.1))))

  pub nesting_exprs : (es : T.Exprs) (us : List Bool) (u : Bool) (m : ℕ) → depth_args es ≤ m → exprs_nesting (exprs es us u) ≤ m
  nesting_exprs T.none us u m h = h
  nesting_exprs (T.more e rest) us u m h = let parts = max_parts (depth e) (depth_args rest) m h in max-le (nesting_expr e us u m parts.0) (nesting_exprs rest us u m parts.1)

  pub nesting_args : (es : T.Exprs) (formals : List TreeFormal) (us : List Bool) (u : Bool) (m : ℕ) → depth_args es ≤ m → args_nesting (arguments es formals us u) ≤ m
  nesting_args T.none formals us u m h = h
  nesting_args (T.more e rest) [] us u m h = omega arith
  nesting_args (T.more e rest) (f ∷ fs) us u m h = let parts = max_parts (depth e) (depth_args rest) m h in max-le (nesting_expr e us u m parts.0) (nesting_args rest fs us u m parts.1)

  pub nesting_stmt : (s : T.Stmt) (us : List Bool) (u : Bool) (m : ℕ) → depth_stmt s ≤ m → stmt_nesting (stmt s us u) ≤ m
  nesting_stmt (T.empty p) us u m h = omega arith
  nesting_stmt (T.leave p) us u m h = omega arith
  nesting_stmt (T.again p) us u m h = omega arith
  nesting_stmt (T.block body p) us u m h = nesting_stmts body us u m (wider _ m (inner _ m h))
  nesting_stmt (T.group body) us u m h = nesting_stmts body us u m h
  nesting_stmt (T.declare uniform kind e p) us u m h = nesting_expr e us u m (wider _ m (inner _ m h))
  nesting_stmt (T.start uniform kind p) us u m h = omega arith
  nesting_stmt (T.assign x operator kind e p) us u m h = put_nesting x operator (expr e us u) m (nesting_expr e us u m (wider _ m (inner _ m h)))
  nesting_stmt (T.test e s p) us u m h =
      let parts = max_parts (depth e) (depth_stmt s) (m - 1) (inner _ m h) in
      max-le (wider _ m (nesting_expr e us u (m - 1) parts.0))
      (outer _ _ m h (alone _ (m - 1) (alone _ (m - 1) (nesting_stmt s us (u && is_uniform e us) (m - 1) parts.1))))
  nesting_stmt (T.test_else e s r p) us u m h =
      let parts = max_parts (depth e) (max (depth_stmt s) (depth_stmt r)) (m - 1) (inner _ m h) in
      let branches = max_parts (depth_stmt s) (depth_stmt r) (m - 1) parts.1 in
      max-le (wider _ m (nesting_expr e us u (m - 1) parts.0))
      (outer _ _ m h (max-le (alone _ (m - 1) (nesting_stmt s us (u && is_uniform e us) (m - 1) branches.0)) (alone _ (m - 1) (nesting_stmt r us (u && is_uniform e us) (m - 1) branches.1))))
  nesting_stmt (T.repeat e s p) us u m h =
      let parts = max_parts (depth e) (depth_stmt s) (m - 1) (inner _ m h) in
      let w = is_uniform_loop e s us u in
      outer _ _ m h (max-le (nesting_expr e us w (m - 1) parts.0) (max-le (omega arith) (alone _ (m - 1) (nesting_stmt s us w (m - 1) parts.1))))
  nesting_stmt (T.steps a e b s p) us u m h =
      let start = max_parts (depth_stmts a) (max (depth e) (max (depth_stmts b) (depth_stmt s))) (m - 1) (inner _ m h) in
      let test = max_parts (depth e) (max (depth_stmts b) (depth_stmt s)) (m - 1) start.1 in
      let step = max_parts (depth_stmts b) (depth_stmt s) (m - 1) test.1 in
      let w = is_uniform_loop e s us u in
      max-le (wider _ m (nesting_stmts a us u (m - 1) start.0)) (alone _ m
      (outer _ _ m h (max-le (nesting_expr e us w (m - 1) test.0) (max-le (nesting_stmts b us w (m - 1) step.0) (alone _ (m - 1) (nesting_stmt s us w (m - 1) step.1))))))
  nesting_stmt (T.lights over args s p) us u m h =
      let parts = max_parts (depth_args args) (depth_stmt s) (m - 1) (inner _ m h) in
      max-le (wider _ m (nesting_exprs args us u (m - 1) parts.0)) (outer _ _ m h (alone _ (m - 1) (nesting_stmt s us false (m - 1) parts.1)))

  pub nesting_stmts : (body : T.Stmts) (us : List Bool) (u : Bool) (m : ℕ) → depth_stmts body ≤ m → all_nesting (stmts body us u) ≤ m
  nesting_stmts T.done us u m h = h
  nesting_stmts (T.first s rest) us u m h =
      let parts = max_parts (depth_stmt s) (depth_stmts rest) m h in
      max-le (nesting_stmt s us u m parts.0) (nesting_stmts rest (classes.after s us) u m parts.1)

pub body_nesting : (t : T.Tree) (m : ℕ) → depth_tree t ≤ m → all_nesting (body_of t) ≤ m
body_nesting t m h = nesting_stmts t.body (classes.local_classes t.params) true m (max_parts (depth_defaults t.defaults) (depth_stmts t.body) m (wider _ m (inner _ m h))).1
