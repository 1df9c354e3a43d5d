-- What a settled tree keeps in varying control, its core tree keeps.
use Rattle.std.proofs.Common.{◌≡◌, Bool, true, false, List, [], ◌∷◌, Ok, refl, ◌∙◌}
use Rattle.std.specs.Prelude.{◌&&◌}
use Rattle.std.proofs.lemmas.Bool.{and_parts, and_left}
use Rattle.sl_ast.specs.declared.kinds.LightStmt.{LightStmt}
use Rattle.sl_ast.specs.declared.kinds.LightStmt.TheVariants.{Illuminance, Illuminate, Solar}
use Rattle.sl_ast.specs.declared.kinds.SlType.{SlType}
use Rattle.sl_ast.specs.declared.typed.TreeFormal.{TreeFormal}
use Rattle.sl_ast.specs.Typed as T
use Rattle.sl_ast.specs.Classes as classes
use Rattle.sl_ast.specs.Classes.{class_of, formal_classes}
use Rattle.sl_ast.specs.Settled as settled
use Rattle.sl_ast.specs.Settled.{Spot, asks_neighbours, varies_into, goes_wrong, settled_expr, settled_args, settled_stmt, settled_stmts}
use Rattle.sl_ast.specs.WellTyped.{Around, in_function, in_lights, in_loop, fits, formal_types, types_after, types_after_all, typed, typed_args, typed_stmt, typed_stmts}
use Rattle.uniform_varying.proofs.Parts.{needs, lacks, own_loop, apply_parts, call_parts, more_parts, fits_parts, declare_parts, assign_parts, test_parts, branch_parts, repeat_parts, steps_parts, lights_parts, first_parts}
use Rattle.uniform_varying.proofs.Leaves.{function_stays}
use Rattle.sl_meaning.specs.Core as C
use Rattle.sl_meaning.specs.Core.{Slot}
use Rattle.sl_meaning.specs.Lowered.{expr, exprs, arguments, stmt, stmts}
use Rattle.core_codegen.specs.Fine.{Takes, FineExpr, FineExprs, FineArgs, FineStmt, FineAll}
use Rattle.mask_codegen.proofs.LoweredScopes.{Scope, scope_after, scope_after_all, scope_of_formals, variable_class, read_in_scope, set_in_scope}
use Rattle.mask_codegen.proofs.LoweredClasses.{expr_class}
use Rattle.mask_codegen.proofs.LoweredNodes.{fine_read, fine_operated, fine_put}
use Rattle.mask_codegen.proofs.LoweredStays.{lights_typed, stmts_stay, set_step}

-- a uniform variable takes a uniform value
pub takes_uniform : (uniform : Bool) (e : T.Expr) (g : Around) (ks : List SlType) (us : List Bool) (u : Bool) (ss : List Slot) → Scope ss us ks → typed g ks e ≡ true
    → varies_into uniform e us ≡ false → Takes uniform (expr e us u) ss
takes_uniform uniform e g ks us u ss q t h = λ on. expr_class e g ks us u ss q.classes t ∙ needs uniform (classes.is_uniform e us) h on

-- the spot of a branch, a loop and a statement over lights
pub branch_varies : (c : Spot) (b : Bool) → c.uniform ≡ false → (c.uniform && b) ≡ false
branch_varies c b h = and_left c.uniform b h

pub lights_vary : (over : LightStmt) (c : Spot) → (settled.in_lights over c).uniform ≡ false
lights_vary Illuminance c = refl
lights_vary Illuminate c = refl
lights_vary Solar c = refl

mutual
  pub fine_expr : (e : T.Expr) (g : Around) (ks : List SlType) (us : List Bool) (ss : List Slot) (c : Spot) (lit after : Bool) → c.uniform ≡ false → Scope ss us ks
      → typed g ks e ≡ true → settled_expr e us c lit ≡ Ok after → FineExpr (expr e us false) ss
  fine_expr (T.number x p) g ks us ss c lit after v q t h = tt
  fine_expr (T.word text p) g ks us ss c lit after v q t h = tt
  fine_expr (T.variable x kind p) g ks us ss c lit after v q t h = fine_read x ss (read_in_scope g kind ks x ss q.types t)
  fine_expr (T.apply operation args kind p) g ks us ss c lit after v q t h =
      let parts = apply_parts operation args kind p us c lit after h in
      fine_operated operation p.number (exprs args us false) ss (lacks (asks_neighbours operation) c.uniform parts.control_uniform v)
      (fine_exprs args g ks us ss c lit after v q (and_parts _ _ (and_parts _ _ t).1).1 parts.args_settled)
  fine_expr (T.call args formals body returned value kind p) g ks us ss c lit after v q t h =
      let parts = call_parts args formals body returned value kind p us c lit after h in
      let fit = and_parts (fits formals args) _ t in
      let passed = and_parts (typed_args g ks args) _ fit.1 in
      let ran = and_parts (typed_stmts (in_function g) (formal_types formals) body) _ passed.1 in
      let given = and_parts (typed (in_function g) (types_after_all body (formal_types formals)) value) _ ran.1 in
      let fs = C.formals (arguments args formals us false) in
      let inside = scope_of_formals args formals us false fit.0 in
      let behind_body = scope_after_all body false fs (formal_classes formals) (formal_types formals) inside in (
        fine_args args formals g ks us ss c parts.behind_value after v q passed.0 fit.0 parts.args_fit parts.args_settled,
        (
          fine_stmts body (in_function g) (formal_types formals) (formal_classes formals) fs c lit parts.behind_body v inside ran.0 parts.body_settled,
          (
            stmts_stay body (in_function g) (formal_types formals) (formal_classes formals) false ran.0 (function_stays g ks args formals body returned value kind p t),
            fine_expr value (in_function g) (types_after_all body (formal_types formals)) (classes.after_all body (formal_classes formals)) _ c parts.behind_body parts.behind_value v behind_body given.0 parts.value_settled,
          ),
        ),
      )

  pub fine_exprs : (args : T.Exprs) (g : Around) (ks : List SlType) (us : List Bool) (ss : List Slot) (c : Spot) (lit after : Bool) → c.uniform ≡ false → Scope ss us ks
      → typed_args g ks args ≡ true → settled_args args us c lit ≡ Ok after → FineExprs (exprs args us false) ss
  fine_exprs T.none g ks us ss c lit after v q t h = tt
  fine_exprs (T.more e rest) g ks us ss c lit after v q t h =
      let parts = more_parts e rest us c lit after h in
      let typed_parts = and_parts (typed g ks e) (typed_args g ks rest) t in
      (fine_expr e g ks us ss c lit parts.0 v q typed_parts.0 parts.1.0, fine_exprs rest g ks us ss c parts.0 after v q typed_parts.1 parts.1.1)

  pub fine_args : (args : T.Exprs) (formals : List TreeFormal) (g : Around) (ks : List SlType) (us : List Bool) (ss : List Slot) (c : Spot) (lit after : Bool) → c.uniform ≡ false → Scope ss us ks
      → typed_args g ks args ≡ true → fits formals args ≡ true → goes_wrong args formals us ≡ false → settled_args args us c lit ≡ Ok after → FineArgs (arguments args formals us false) ss
  fine_args T.none formals g ks us ss c lit after v q t f w h = tt
  fine_args (T.more e rest) [] g ks us ss c lit after v q t f w h = tt
  fine_args (T.more e rest) (x ∷ xs) g ks us ss c lit after v q t f w h =
      let parts = more_parts e rest us c lit after h in
      let typed_parts = and_parts (typed g ks e) (typed_args g ks rest) t in
      let fit = fits_parts e rest x xs us w in (
        fine_expr e g ks us ss c lit parts.0 v q typed_parts.0 parts.1.0,
        (
          takes_uniform x.uniform e g ks us false ss q typed_parts.0 fit.0,
          fine_args rest xs g ks us ss c parts.0 after v q typed_parts.1 (and_parts _ _ f).1 fit.1 parts.1.1,
        ),
      )

  pub fine_stmt : (s : T.Stmt) (g : Around) (ks : List SlType) (us : List Bool) (ss : List Slot) (c : Spot) (lit after : Bool) → c.uniform ≡ false → Scope ss us ks
      → typed_stmt g ks s ≡ true → settled_stmt s us c lit ≡ Ok after → FineStmt (stmt s us false) ss
  fine_stmt (T.empty p) g ks us ss c lit after v q t h = tt
  fine_stmt (T.leave p) g ks us ss c lit after v q t h = tt
  fine_stmt (T.again p) g ks us ss c lit after v q t h = tt
  fine_stmt (T.block body p) g ks us ss c lit after v q t h = fine_stmts body g ks us ss c lit after v q t h
  fine_stmt (T.group body) g ks us ss c lit after v q t h = fine_stmts body g ks us ss c lit after v q t h
  fine_stmt (T.declare uniform kind e p) g ks us ss c lit after v q t h =
      let parts = declare_parts uniform kind e p us c lit after h in
      let value_typed = (and_parts _ _ t).1 in
      (fine_expr e g ks us ss c lit after v q value_typed parts.value_settled, takes_uniform uniform e g ks us false ss q value_typed parts.value_fits)
  fine_stmt (T.start uniform kind p) g ks us ss c lit after v q t h = (tt, λ on. refl)
  fine_stmt (T.assign x operator kind e p) g ks us ss c lit after v q t h =
      let parts = assign_parts x operator kind e p us c lit after h in
      let set = and_parts _ _ t in
      let there = set_in_scope g _ ks x ss q.types set.0 in (
        fine_put x operator (expr e us false) ss there (fine_expr e g ks us ss c lit after v q (and_parts _ _ set.1).1 parts.value_settled),
        (there, variable_class x ss us q.classes ∙ lacks (class_of x us) c.uniform parts.control_uniform v),
      )
  fine_stmt (T.test e s p) g ks us ss c lit after v q t h =
      let parts = test_parts e s p us c lit after h in
      let typed_parts = and_parts _ _ (and_parts _ _ t).1 in (
        fine_expr e g ks us ss c lit parts.0 v q typed_parts.0 parts.1.0,
        ((fine_stmt s g ks us ss _ parts.0 after (branch_varies c (classes.is_uniform e us) v) q typed_parts.1 parts.1.1, tt), tt),
      )
  fine_stmt (T.test_else e s r p) g ks us ss c lit after v q t h =
      let parts = branch_parts e s r p us c lit after h in
      let outer = and_parts _ _ (and_parts _ _ t).1 in
      let branches = and_parts _ _ outer.1 in
      let inside = branch_varies c (classes.is_uniform e us) v in (
        fine_expr e g ks us ss c lit parts.behind_test v q outer.0 parts.test_settled,
        (
          (fine_stmt s g ks us ss _ parts.behind_test parts.behind_first inside q branches.0 parts.first_settled, tt),
          (fine_stmt r g ks us ss _ parts.behind_first after inside q branches.1 parts.second_settled, tt),
        ),
      )
  fine_stmt (T.repeat e s p) g ks us ss c lit after v q t h =
      let parts = repeat_parts e s p us c lit after h in
      let typed_parts = and_parts _ _ (and_parts _ _ t).1 in
      let inside = own_loop e s us c.uniform v in (
        refl,
        (
          fine_expr e g ks us ss _ lit parts.0 inside q typed_parts.0 parts.1.0,
          ((tt, (tt, refl)), (fine_stmt s (in_loop g) ks us ss _ parts.0 after inside q typed_parts.1 parts.1.1, tt)),
        ),
      )
  fine_stmt (T.steps a e b s p) g ks us ss c lit after v q t h =
      let parts = steps_parts a e b s p us c lit after h in
      let sets = and_parts _ _ (and_parts _ _ t).0 in
      let start = and_parts _ _ (and_parts _ _ t).1 in
      let test = and_parts _ _ (and_parts _ _ start.1).1 in
      let step = and_parts _ _ test.1 in
      let inside = own_loop e s us c.uniform v in (
        fine_stmts a g ks us ss c lit parts.behind_start v q start.0 parts.start_settled,
        (
          (
            refl,
            (
              fine_expr e g ks us ss _ parts.behind_start parts.behind_test inside q test.0 parts.test_settled,
              (
                (fine_stmts b g ks us ss _ parts.behind_test parts.behind_step inside q step.0 parts.step_settled, set_step b us false ss sets.1),
                (fine_stmt s (in_loop g) ks us ss _ parts.behind_step after inside q step.1 parts.body_settled, tt),
              ),
            ),
          ),
          tt,
        ),
      )
  fine_stmt (T.lights over args s p) g ks us ss c lit after v q t h =
      let parts = lights_parts over args s p us c lit after h in
      let typed_parts = lights_typed g ks over args s p t in (
        fine_exprs args g ks us ss c parts.behind_word parts.behind_args v q typed_parts.0 parts.args_settled,
        (fine_stmt s (in_lights g) ks us ss _ parts.behind_args after (lights_vary over c) q typed_parts.1 parts.body_settled, tt),
      )

  pub fine_stmts : (body : T.Stmts) (g : Around) (ks : List SlType) (us : List Bool) (ss : List Slot) (c : Spot) (lit after : Bool) → c.uniform ≡ false → Scope ss us ks
      → typed_stmts g ks body ≡ true → settled_stmts body us c lit ≡ Ok after → FineAll (stmts body us false) ss
  fine_stmts T.done g ks us ss c lit after v q t h = tt
  fine_stmts (T.first s rest) g ks us ss c lit after v q t h =
      let parts = first_parts s rest us c lit after h in
      let typed_parts = and_parts (typed_stmt g ks s) _ t in (
        fine_stmt s g ks us ss c lit parts.0 v q typed_parts.0 parts.1.0,
        fine_stmts rest g (types_after s ks) (classes.after s us) (C.after (stmt s us false) ss) c parts.0 after v (scope_after s false ss us ks q) typed_parts.1 parts.1.1,
      )
