-- The load of a lowered tree is at most nine times the rows that its tree counts.
use Rattle.std.proofs.Common.{◌≡◌, ℕ, pos, ◌+◌, ◌*◌, ◌≤◌, Bool, true, false, cond, List, [], ◌∷◌, refl, ap, subst, arith}
use Rattle.std.specs.Prelude.{◌&&◌}
use Rattle.std.proofs.lemmas.Bool.{and_parts}
use Rattle.sl_ast.specs.declared.kinds.SlType.{SlType}
use Rattle.sl_ast.specs.declared.kinds.SetOperator.{SetOperator}
use Rattle.sl_ast.specs.declared.kinds.SetOperator.TheVariants as sets
use Rattle.sl_ast.specs.declared.kinds.Predefined.TheVariants as names
use Rattle.sl_ast.specs.declared.operations.Look.TheVariants as looks
use Rattle.sl_ast.specs.declared.operations.Operation.{Operation}
use Rattle.sl_ast.specs.declared.operations.Operation.TheVariants as operations
use Rattle.sl_ast.specs.declared.operations.ValueOperation.{ValueOperation}
use Rattle.sl_ast.specs.declared.operations.ValueOperation.TheVariants as ops
use Rattle.sl_ast.specs.declared.typed.TreeFormal.{TreeFormal}
use Rattle.sl_ast.specs.declared.typed.Value.TheVariants.{Number}
use Rattle.sl_ast.specs.declared.typed.Variable.{Variable}
use Rattle.sl_ast.specs.declared.typed.Variable.TheVariants as variables
use Rattle.sl_ast.specs.Typed as T
use Rattle.sl_ast.specs.Classes as classes
use Rattle.sl_ast.specs.Classes.{formal_classes, is_uniform_loop}
use Rattle.sl_ast.specs.Registers.{row_unless, rows_of_classes, rows, rows_args, rows_stmt, rows_stmts}
use Rattle.sl_ast.specs.Rules.{is_test, rule}
use Rattle.sl_ast.specs.WellTyped.{Around, in_function, in_lights, in_loop, is_type, kind_of, operands, fits, stands, formal_types, types_after, types_after_all, typed, typed_args, typed_stmt, typed_stmts}
use Rattle.sl_meaning.specs.Core as C
use Rattle.sl_meaning.specs.Core.{Slot, stmts_uniform}
use Rattle.sl_meaning.specs.Lowered as lowered
use Rattle.sl_meaning.specs.Lowered.{expr, exprs, arguments, stmt, stmts, put_into, with_last}
use Rattle.mask_codegen.proofs.LoweredScopes.{Scope, scope_after, scope_after_all, scope_of_formals}
use Rattle.mask_codegen.proofs.LoweredClasses.{expr_class}
use Rattle.mask_codegen.proofs.Made.{three_unless, load, load_exprs, load_args, load_stmt, load_all}

-- what a node that is varying takes at most
abbrev nine_unless : Bool → ℕ
nine_unless a = three_unless a + (three_unless a + three_unless a)

nine_rows : (a b : Bool) → a ≡ b → nine_unless a ≤ 9 * row_unless b
nine_rows a b h = subst (λ x. nine_unless a ≤ 9 * row_unless x) h (both_ways a) where
  both_ways : (a : Bool) → nine_unless a ≤ 9 * row_unless a
  both_ways true = omega arith
  both_ways false = omega arith

three_rows : (u : Bool) → three_unless u ≤ 9 * row_unless u
three_rows true = omega arith
three_rows false = omega arith

call_rows : (a f s e : Bool) → cond s 0 5 + three_unless (a && (f && (s && e))) ≤ 9 * row_unless (a && (f && (s && e)))
call_rows false f true e = omega arith
call_rows false f false e = omega arith
call_rows true false true e = omega arith
call_rows true false false e = omega arith
call_rows true true false e = omega arith
call_rows true true true true = omega arith
call_rows true true true false = omega arith

last_load : (es : C.Exprs) (ss : List Slot) → load_exprs (lowered.last es) ss ≤ load_exprs es ss
last_load C.none ss = omega arith
last_load (C.more e C.none) ss = omega arith
last_load (C.more e (C.more d rest)) ss = let h = last_load (C.more d rest) ss in omega arith

operands_load : (op : ValueOperation) (es : C.Exprs) (ss : List Slot) → load_exprs (lowered.operands op es) ss ≤ load_exprs es ss
operands_load (ops.Transform from into) es ss = last_load es ss
operands_load (ops.VTransform from into) es ss = last_load es ss
operands_load (ops.NTransform from into) es ss = last_load es ss
operands_load op es ss = omega arith

with_last_load : (es : C.Exprs) (x : C.Expr) (ss : List Slot) → load_exprs (with_last es x) ss ≤ load_exprs es ss + load x ss
with_last_load C.none x ss = omega arith
with_last_load (C.more e rest) x ss = let h = with_last_load rest x ss in omega arith

-- the geometric normal varies
normal_varies : (es : C.Exprs) (ss : List Slot) → C.are_uniform (with_last es (C.read (variables.Predefined names.Ng))) ss ≡ false
normal_varies C.none ss = refl
normal_varies (C.more e rest) ss = falls (C.is_uniform e ss) _ (normal_varies rest ss) where
  falls : (a b : Bool) → b ≡ false → (a && b) ≡ false
  falls true b h = h
  falls false b h = refl

-- and so does the predefined t
place_varies : (es : C.Exprs) (ss : List Slot) → C.are_uniform (with_last es (C.read (variables.Predefined names.T))) ss ≡ false
place_varies C.none ss = refl
place_varies (C.more e rest) ss = falls (C.is_uniform e ss) _ (place_varies rest ss) where
  falls : (a b : Bool) → b ≡ false → (a && b) ≡ false
  falls true b h = h
  falls false b h = refl

operated_load : (operation : Operation) (n : ℕ) (es : C.Exprs) (ss : List Slot) →
    load (lowered.operated operation n es) ss ≤ load_exprs es ss + nine_unless (C.is_uniform (lowered.operated operation n es) ss)
operated_load (operations.Value op) n es ss = let h = operands_load op es ss in omega arith
operated_load operations.FaceForwardNg n es ss =
    let h = with_last_load es (C.read (variables.Predefined names.Ng)) ss in
    let k = ap three_unless (normal_varies es ss) in
    omega arith
operated_load (operations.Difference d) n C.none ss = omega arith
operated_load (operations.Difference d) n (C.more e rest) ss = omega arith
operated_load (operations.Sum s) n es ss = omega arith
operated_load (operations.Look looks.At) n es ss = omega arith
operated_load (operations.Look looks.Here) n es ss =
    let a = with_last_load es (C.read (variables.Predefined names.S)) ss in
    let b = with_last_load (with_last es (C.read (variables.Predefined names.S))) (C.read (variables.Predefined names.T)) ss in
    let k = ap three_unless (place_varies (with_last es (C.read (variables.Predefined names.S))) ss) in
    omega arith
operated_load (operations.Look looks.First) n es ss = let h = with_last_load es (C.literal (Number (pos 0))) ss in omega arith

read_load : (x : Variable) (ss : List Slot) → load (lowered.read x) ss ≤ three_unless (C.is_uniform (lowered.read x) ss)
read_load (variables.Predefined names.Pi) ss = omega arith
read_load (variables.Predefined p) ss = omega arith
read_load (variables.Level k) ss = omega arith

assign_load : (x : Variable) (kind : SlType) (e : C.Expr) (ss : List Slot) → load_stmt (C.assign x kind e) ss ≤ load e ss
assign_load x kind (C.literal v) ss = omega arith
assign_load x kind (C.read y) ss = omega arith
assign_load x kind (C.apply op C.none) ss = omega arith
assign_load x kind (C.apply op (C.more (C.read y) C.none)) ss = omega arith
assign_load x kind (C.apply op (C.more (C.read y) (C.more e C.none))) ss = omega arith
assign_load x kind (C.apply op (C.more (C.read y) (C.more e (C.more d rest)))) ss = omega arith
assign_load x kind (C.apply op (C.more (C.literal v) rest)) ss = omega arith
assign_load x kind (C.apply op (C.more (C.apply o a) rest)) ss = omega arith
assign_load x kind (C.apply op (C.more (C.differ d a) rest)) ss = omega arith
assign_load x kind (C.apply op (C.more (C.sum q a) rest)) ss = omega arith
assign_load x kind (C.apply op (C.more (C.texture m a) rest)) ss = omega arith
assign_load x kind (C.apply op (C.more (C.call a q r e) rest)) ss = omega arith
assign_load x kind (C.differ d e) ss = omega arith
assign_load x kind (C.sum q args) ss = omega arith
assign_load x kind (C.texture m args) ss = omega arith
assign_load x kind (C.call args body r e) ss = omega arith

put_load : (x : Variable) (operator : SetOperator) (kind : SlType) (e : C.Expr) (ss : List Slot) → load_stmt (C.assign x kind (put_into operator x e)) ss ≤ load e ss
put_load x sets.Set kind e ss = assign_load x kind e ss
put_load x sets.Add kind e ss = omega arith
put_load x sets.Subtract kind e ss = omega arith
put_load x sets.Multiply kind e ss = omega arith
put_load x sets.Divide kind e ss = omega arith

mutual
  pub expr_rows : (e : T.Expr) (g : Around) (ks : List SlType) (us : List Bool) (u : Bool) (ss : List Slot) → Scope ss us ks → typed g ks e ≡ true → load (expr e us u) ss ≤ 9 * rows e us
  expr_rows (T.number x p) g ks us u ss q h = omega arith
  expr_rows (T.word text p) g ks us u ss q h = omega arith
  expr_rows (T.variable x kind p) g ks us u ss q h =
      omega (arith, read_load x ss, nine_rows (C.is_uniform (lowered.read x) ss) (classes.is_uniform (T.variable x kind p) us) (expr_class (T.variable x kind p) g ks us u ss q.classes h))
  expr_rows (T.apply operation args kind p) g ks us u ss q h =
      let outer = and_parts (is_type kind (rule operation (operands args))) (stands g operation args && typed_args g ks args) h in
      let inner = and_parts (stands g operation args) (typed_args g ks args) outer.1 in
      let es = exprs args us u in
      omega (
        arith,
        operated_load operation p.number es ss,
        nine_rows (C.is_uniform (lowered.operated operation p.number es) ss) (classes.is_uniform (T.apply operation args kind p) us) (expr_class (T.apply operation args kind p) g ks us u ss q.classes h),
        exprs_rows args g ks us u ss q inner.1,
      )
  expr_rows (T.call args formals body returned value kind p) g ks us u ss q h =
      let first_part = and_parts (fits formals args) _ h in
      let second = and_parts (typed_args g ks args) _ first_part.1 in
      let third = and_parts (typed_stmts (in_function g) (formal_types formals) body) _ second.1 in
      let fourth = and_parts (typed (in_function g) (types_after_all body (formal_types formals)) value) _ third.1 in
      let fs = C.formals (arguments args formals us u) in
      let cs = formal_classes formals in
      let b = stmts body cs u in
      let ss2 = C.after_all b fs in
      let us2 = classes.after_all body cs in
      let inside = scope_of_formals args formals us u first_part.0 in
      let behind = scope_after_all body u fs cs (formal_types formals) inside in
      let e = expr value us2 u in
      let same = ap row_unless (expr_class (T.call args formals body returned value kind p) g ks us u ss q.classes h) in
      omega (
        arith,
        call_rows (C.args_uniform (arguments args formals us u) ss) (C.all_uniform fs) (stmts_uniform b fs) (C.is_uniform e ss2),
        same,
        args_rows args formals g ks us u ss q second.0,
        stmts_rows body (in_function g) (formal_types formals) cs u fs inside third.0,
        expr_rows value (in_function g) (types_after_all body (formal_types formals)) us2 u ss2 behind fourth.0,
      )

  pub exprs_rows : (args : T.Exprs) (g : Around) (ks : List SlType) (us : List Bool) (u : Bool) (ss : List Slot) → Scope ss us ks → typed_args g ks args ≡ true → load_exprs (exprs args us u) ss ≤ 9 * rows_args args us
  exprs_rows T.none g ks us u ss q h = omega arith
  exprs_rows (T.more e rest) g ks us u ss q h =
      let parts = and_parts (typed g ks e) (typed_args g ks rest) h in
      omega (arith, expr_rows e g ks us u ss q parts.0, exprs_rows rest g ks us u ss q parts.1)

  pub args_rows : (args : T.Exprs) (formals : List TreeFormal) (g : Around) (ks : List SlType) (us : List Bool) (u : Bool) (ss : List Slot) → Scope ss us ks → typed_args g ks args ≡ true →
      load_args (arguments args formals us u) ss ≤ 9 * (rows_args args us + rows_of_classes (formal_classes formals))
  args_rows T.none formals g ks us u ss q h = omega arith
  args_rows (T.more e rest) [] g ks us u ss q h = omega arith
  args_rows (T.more e rest) (f ∷ fs) g ks us u ss q h =
      let parts = and_parts (typed g ks e) (typed_args g ks rest) h in
      omega (arith, three_rows f.uniform, expr_rows e g ks us u ss q parts.0, args_rows rest fs g ks us u ss q parts.1)

  pub stmt_rows : (s : T.Stmt) (g : Around) (ks : List SlType) (us : List Bool) (u : Bool) (ss : List Slot) → Scope ss us ks → typed_stmt g ks s ≡ true → load_stmt (stmt s us u) ss ≤ 9 * rows_stmt s us
  stmt_rows (T.empty p) g ks us u ss q h = omega arith
  stmt_rows (T.leave p) g ks us u ss q h = omega arith
  stmt_rows (T.again p) g ks us u ss q h = omega arith
  stmt_rows (T.block body p) g ks us u ss q h = stmts_rows body g ks us u ss q h
  stmt_rows (T.group body) g ks us u ss q h = stmts_rows body g ks us u ss q h
  stmt_rows (T.declare uniform kind e p) g ks us u ss q h = omega (arith, three_rows uniform, expr_rows e g ks us u ss q (and_parts _ _ h).1)
  stmt_rows (T.start uniform kind p) g ks us u ss q h = omega (arith, three_rows uniform)
  stmt_rows (T.assign x operator kind e p) g ks us u ss q h =
      omega (arith, put_load x operator kind (expr e us u) ss, expr_rows e g ks us u ss q (and_parts _ _ (and_parts _ _ h).1).1)
  stmt_rows (T.test e s p) g ks us u ss q h =
      let parts = and_parts _ _ (and_parts _ _ h).1 in
      omega (arith, expr_rows e g ks us u ss q parts.0, stmt_rows s g ks us (u && classes.is_uniform e us) ss q parts.1)
  stmt_rows (T.test_else e s r p) g ks us u ss q h =
      let parts = and_parts _ _ (and_parts _ _ h).1 in
      let both = and_parts _ _ parts.1 in
      omega (arith, expr_rows e g ks us u ss q parts.0, stmt_rows s g ks us (u && classes.is_uniform e us) ss q both.0, stmt_rows r g ks us (u && classes.is_uniform e us) ss q both.1)
  stmt_rows (T.repeat e s p) g ks us u ss q h =
      let parts = and_parts _ _ (and_parts _ _ h).1 in
      let w = is_uniform_loop e s us u in
      omega (arith, expr_rows e g ks us w ss q parts.0, stmt_rows s (in_loop g) ks us w ss q parts.1)
  stmt_rows (T.steps a e b s p) g ks us u ss q h =
      let begun = and_parts (typed_stmts g ks a) _ (and_parts _ _ h).1 in
      let asked = and_parts (typed g ks e) _ (and_parts (is_test (kind_of e)) _ begun.1).1 in
      let turned = and_parts (typed_stmts g ks b) _ asked.1 in
      let w = is_uniform_loop e s us u in
      omega (
        arith,
        stmts_rows a g ks us u ss q begun.0,
        expr_rows e g ks us w ss q asked.0,
        stmts_rows b g ks us w ss q turned.0,
        stmt_rows s (in_loop g) ks us w ss q turned.1,
      )
  stmt_rows (T.lights over args s p) g ks us u ss q h =
      let parts = and_parts (typed_args g ks args) _ (and_parts _ _ (and_parts _ _ h).1).1 in
      omega (arith, exprs_rows args g ks us u ss q parts.0, stmt_rows s (in_lights g) ks us false ss q parts.1)

  pub stmts_rows : (body : T.Stmts) (g : Around) (ks : List SlType) (us : List Bool) (u : Bool) (ss : List Slot) → Scope ss us ks → typed_stmts g ks body ≡ true → load_all (stmts body us u) ss ≤ 9 * rows_stmts body us
  stmts_rows T.done g ks us u ss q h = omega arith
  stmts_rows (T.first s rest) g ks us u ss q h =
      let parts = and_parts (typed_stmt g ks s) _ h in
      let ss1 = C.after (stmt s us u) ss in
      omega (arith, stmt_rows s g ks us u ss q parts.0, stmts_rows rest g (types_after s ks) (classes.after s us) u ss1 (scope_after s u ss us ks q) parts.1)
