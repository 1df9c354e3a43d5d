-- The conditions of a well typed tree's branches have the class in the core tree that they have in the typed tree.
use Rattle.std.proofs.Common.{◌≡◌, Bool, true, List, sym}
use Rattle.std.proofs.lemmas.Bool.{and_parts}
use Rattle.sl_ast.specs.declared.kinds.SlType.{SlType}
use Rattle.sl_ast.specs.Typed as T
use Rattle.sl_ast.specs.Classes as classes
use Rattle.sl_ast.specs.Classes.{formal_classes, local_classes}
use Rattle.sl_ast.specs.WellTyped.{Around, in_function, in_loop, in_shader, fits, formal_types, local_types, types_after, types_after_all, typed, typed_args, typed_stmt, typed_stmts, well_typed}
use Rattle.sl_meaning.specs.Core as C
use Rattle.sl_meaning.specs.Core.{Slot}
use Rattle.sl_meaning.specs.Lowered.{arguments, stmt, slots}
use Rattle.sl_meaning.proofs.CoreGridMeaning.{InExpr, InArgs, InStmt, InAll}
use Rattle.mask_codegen.proofs.LoweredClasses.{expr_class}
use Rattle.mask_codegen.proofs.LoweredScopes.{Scope, scope_after, scope_after_all, scope_of_formals, scope_of_params}
use Rattle.mask_codegen.proofs.LoweredStays.{lights_typed}

mutual
  in_expr : (e : T.Expr) (g : Around) (ks : List SlType) (us : List Bool) (ss : List Slot) → Scope ss us ks → typed g ks e ≡ true → InExpr e us
  in_expr (T.number x p) g ks us ss q h = tt
  in_expr (T.word text p) g ks us ss q h = tt
  in_expr (T.variable x kind p) g ks us ss q h = tt
  in_expr (T.apply operation args kind p) g ks us ss q h = in_args args g ks us ss q (and_parts _ _ (and_parts _ _ h).1).1
  in_expr (T.call args formals body returned value kind p) g ks us ss q h =
      let fit = and_parts (fits formals args) _ h in
      let passed = and_parts (typed_args g ks args) _ fit.1 in
      let ran = and_parts (typed_stmts (in_function g) (formal_types formals) body) _ passed.1 in
      let given = and_parts (typed (in_function g) (types_after_all body (formal_types formals)) value) _ ran.1 in
      let fs = C.formals (arguments args formals us true) in
      let inside = scope_of_formals args formals us true fit.0 in
      let behind_body = scope_after_all body true fs (formal_classes formals) (formal_types formals) inside in (
        in_args args g ks us ss q passed.0,
        (
          in_stmts body (in_function g) (formal_types formals) (formal_classes formals) fs inside ran.0,
          in_expr value (in_function g) (types_after_all body (formal_types formals)) (classes.after_all body (formal_classes formals)) _ behind_body given.0,
        ),
      )

  in_args : (args : T.Exprs) (g : Around) (ks : List SlType) (us : List Bool) (ss : List Slot) → Scope ss us ks → typed_args g ks args ≡ true → InArgs args us
  in_args T.none g ks us ss q h = tt
  in_args (T.more e rest) g ks us ss q h = let parts = and_parts (typed g ks e) (typed_args g ks rest) h in (in_expr e g ks us ss q parts.0, in_args rest g ks us ss q parts.1)

  in_stmt : (s : T.Stmt) (g : Around) (ks : List SlType) (us : List Bool) (ss : List Slot) → Scope ss us ks → typed_stmt g ks s ≡ true → InStmt s us ss
  in_stmt (T.empty p) g ks us ss q h = tt
  in_stmt (T.leave p) g ks us ss q h = tt
  in_stmt (T.again p) g ks us ss q h = tt
  in_stmt (T.block body p) g ks us ss q h = in_stmts body g ks us ss q h
  in_stmt (T.group body) g ks us ss q h = in_stmts body g ks us ss q h
  in_stmt (T.declare uniform kind e p) g ks us ss q h = in_expr e g ks us ss q (and_parts _ _ h).1
  in_stmt (T.start uniform kind p) g ks us ss q h = tt
  in_stmt (T.assign x operator kind e p) g ks us ss q h = in_expr e g ks us ss q (and_parts _ _ (and_parts _ _ h).1).1
  in_stmt (T.test e s p) g ks us ss q h =
      let parts = and_parts _ _ (and_parts _ _ h).1 in
      (sym (expr_class e g ks us true ss q.classes parts.0), (in_expr e g ks us ss q parts.0, in_stmt s g ks us ss q parts.1))
  in_stmt (T.test_else e s r p) g ks us ss q h =
      let outer = and_parts _ _ (and_parts _ _ h).1 in
      let parts = and_parts _ _ outer.1 in
      (sym (expr_class e g ks us true ss q.classes outer.0), (in_expr e g ks us ss q outer.0, (in_stmt s g ks us ss q parts.0, in_stmt r g ks us ss q parts.1)))
  in_stmt (T.repeat e s p) g ks us ss q h =
      let parts = and_parts _ _ (and_parts _ _ h).1 in
      (in_expr e g ks us ss q parts.0, in_stmt s (in_loop g) ks us ss q parts.1)
  in_stmt (T.steps a e b s p) g ks us ss q h =
      let start = and_parts _ _ (and_parts _ _ h).1 in
      let test = and_parts _ _ (and_parts _ _ start.1).1 in
      let step = and_parts _ _ test.1 in
      (in_stmts a g ks us ss q start.0, (in_expr e g ks us ss q test.0, (in_stmts b g ks us ss q step.0, in_stmt s (in_loop g) ks us ss q step.1)))
  in_stmt (T.lights over args s p) g ks us ss q h = in_args args g ks us ss q (lights_typed g ks over args s p h).0

  in_stmts : (body : T.Stmts) (g : Around) (ks : List SlType) (us : List Bool) (ss : List Slot) → Scope ss us ks → typed_stmts g ks body ≡ true → InAll body us ss
  in_stmts T.done g ks us ss q h = tt
  in_stmts (T.first s rest) g ks us ss q h =
      let parts = and_parts (typed_stmt g ks s) (typed_stmts g (types_after s ks) rest) h in
      (in_stmt s g ks us ss q parts.0, in_stmts rest g (types_after s ks) (classes.after s us) (C.after (stmt s us true) ss) (scope_after s true ss us ks q) parts.1)

-- the body of a shader
pub body_in : (t : T.Tree) → well_typed t ≡ true → InAll t.body (local_classes t.params) (slots t.params)
body_in t w = in_stmts t.body (in_shader t.kind) (local_types t.params) (local_classes t.params) (slots t.params) (scope_of_params t.params) (and_parts _ _ w).1
