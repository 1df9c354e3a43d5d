-- What a settled tree keeps in uniform control, its core tree keeps.
use Rattle.std.proofs.Common.{◌≡◌, Bool, true, false, List, [], ◌∷◌, Ok, refl, sym, ap, ◌∙◌, subst}
use Rattle.std.specs.Prelude.{◌&&◌}
use Rattle.std.proofs.lemmas.Bool.{and_parts, and_from}
use Rattle.sl_ast.specs.declared.kinds.SlType.{SlType}
use Rattle.sl_ast.specs.declared.typed.TreeFormal.{TreeFormal}
use Rattle.sl_ast.specs.Typed as T
use Rattle.sl_ast.specs.Classes as classes
use Rattle.sl_ast.specs.Classes.{class_of, formal_classes, local_classes, is_uniform, is_uniform_loop, leaves_together, leave_together}
use Rattle.sl_ast.specs.Settled.{Spot, IsSettled, goes_wrong, settled_expr, settled_args, settled_stmt, settled_stmts, outermost}
use Rattle.sl_ast.specs.WellTyped.{Around, in_function, in_lights, in_loop, in_shader, fits, formal_types, local_types, types_after, types_after_all, typed, typed_args, typed_stmt, typed_stmts, well_typed}
use Rattle.uniform_varying.proofs.Parts.{apply_parts, call_parts, more_parts, fits_parts, declare_parts, assign_parts, test_parts, branch_parts, repeat_parts, steps_parts, lights_parts, first_parts, tree_parts}
use Rattle.uniform_varying.proofs.Leaves.{function_stays, shader_stays, branch_stays, branches_stay, lit_stays, uniform_loop}
use Rattle.sl_meaning.specs.Core as C
use Rattle.sl_meaning.specs.Core.{Slot}
use Rattle.sl_meaning.specs.Lowered as lowered
use Rattle.sl_meaning.specs.Lowered.{expr, exprs, arguments, stmt, stmts, slots, body_of}
use Rattle.core_codegen.specs.Fine.{IsStep, When, FineExpr, FineAll, StaysAll, GridExpr, GridExprs, GridArgs, GridStmt, GridAll}
use Rattle.mask_codegen.proofs.LoweredScopes.{Scope, scope_after, scope_after_all, scope_of_formals, scope_of_params, variable_class, set_in_scope, read_in_scope}
use Rattle.mask_codegen.proofs.LoweredClasses.{expr_class, put_takes}
use Rattle.mask_codegen.proofs.LoweredNodes.{grid_read, grid_operated, grid_put}
use Rattle.mask_codegen.proofs.LoweredStays.{lights_typed, stmt_stays, stmts_stay, set_leaves, set_step, leave_any}
use Rattle.mask_codegen.proofs.LoweredFine.{takes_uniform, lights_vary, fine_expr, fine_stmt, fine_stmts}

-- parts whose control is b, where that is uniform and where it is varying
choice : (b d : Bool) (P Q : Bool → Type 0) → d ≡ b → (b ≡ true → P true) → (b ≡ false → Q false) → When d (P b) (Q b)
choice true d P Q q on off = subst (λ z. When z (P true) (Q true)) (sym q) (on refl)
choice false d P Q q on off = subst (λ z. When z (P false) (Q false)) (sym q) (off refl)

loop_is : (e : T.Expr) (s : T.Stmt) (us : List Bool) (u b : Bool) → u ≡ true → is_uniform_loop e s us true ≡ b → is_uniform_loop e s us u ≡ b
loop_is e s us u b h k = ap (λ z. is_uniform_loop e s us z) h ∙ k

mutual
  pub grid_expr : (e : T.Expr) (g : Around) (ks : List SlType) (us : List Bool) (ss : List Slot) (c : Spot) (lit after : Bool) → c.uniform ≡ true → Scope ss us ks
      → typed g ks e ≡ true → settled_expr e us c lit ≡ Ok after → GridExpr (expr e us true) ss
  grid_expr (T.number x p) g ks us ss c lit after v q t h = tt
  grid_expr (T.word text p) g ks us ss c lit after v q t h = tt
  grid_expr (T.variable x kind p) g ks us ss c lit after v q t h = grid_read x ss (read_in_scope g kind ks x ss q.types t)
  grid_expr (T.apply operation args kind p) g ks us ss c lit after v q t h =
      let parts = apply_parts operation args kind p us c lit after h in
      grid_operated operation p.number (exprs args us true) ss (grid_exprs args g ks us ss c lit after v q (and_parts _ _ (and_parts _ _ t).1).1 parts.args_settled)
  grid_expr (T.call args formals body returned value kind p) g ks us ss c lit after v q t h =
      let parts = call_parts args formals body returned value kind p us c lit after h in
      let fit = and_parts (fits formals args) _ t in
      let passed = and_parts (typed_args g ks args) _ fit.1 in
      let ran = and_parts (typed_stmts (in_function g) (formal_types formals) body) _ passed.1 in
      let given = and_parts (typed (in_function g) (types_after_all body (formal_types formals)) value) _ ran.1 in
      let fs = C.formals (arguments args formals us true) in
      let inside = scope_of_formals args formals us true fit.0 in
      let behind_body = scope_after_all body true fs (formal_classes formals) (formal_types formals) inside in
      let none_leaves = function_stays g ks args formals body returned value kind p t in (
        grid_args args formals g ks us ss c parts.behind_value after v q passed.0 fit.0 parts.args_fit parts.args_settled,
        (
          grid_stmts body (in_function g) (formal_types formals) (formal_classes formals) fs c lit parts.behind_body v inside ran.0 (leave_any body (formal_classes formals) true none_leaves) parts.body_settled,
          (
            stmts_stay body (in_function g) (formal_types formals) (formal_classes formals) true ran.0 none_leaves,
            grid_expr value (in_function g) (types_after_all body (formal_types formals)) (classes.after_all body (formal_classes formals)) _ c parts.behind_body parts.behind_value v behind_body given.0 parts.value_settled,
          ),
        ),
      )

  pub grid_exprs : (args : T.Exprs) (g : Around) (ks : List SlType) (us : List Bool) (ss : List Slot) (c : Spot) (lit after : Bool) → c.uniform ≡ true → Scope ss us ks
      → typed_args g ks args ≡ true → settled_args args us c lit ≡ Ok after → GridExprs (exprs args us true) ss
  grid_exprs T.none g ks us ss c lit after v q t h = tt
  grid_exprs (T.more e rest) g ks us ss c lit after v q t h =
      let parts = more_parts e rest us c lit after h in
      let typed_parts = and_parts (typed g ks e) (typed_args g ks rest) t in
      (grid_expr e g ks us ss c lit parts.0 v q typed_parts.0 parts.1.0, grid_exprs rest g ks us ss c parts.0 after v q typed_parts.1 parts.1.1)

  pub grid_args : (args : T.Exprs) (formals : List TreeFormal) (g : Around) (ks : List SlType) (us : List Bool) (ss : List Slot) (c : Spot) (lit after : Bool) → c.uniform ≡ true → Scope ss us ks
      → typed_args g ks args ≡ true → fits formals args ≡ true → goes_wrong args formals us ≡ false → settled_args args us c lit ≡ Ok after → GridArgs (arguments args formals us true) ss
  grid_args T.none formals g ks us ss c lit after v q t f w h = tt
  grid_args (T.more e rest) [] g ks us ss c lit after v q t f w h = tt
  grid_args (T.more e rest) (x ∷ xs) g ks us ss c lit after v q t f w h =
      let parts = more_parts e rest us c lit after h in
      let typed_parts = and_parts (typed g ks e) (typed_args g ks rest) t in
      let fit = fits_parts e rest x xs us w in (
        grid_expr e g ks us ss c lit parts.0 v q typed_parts.0 parts.1.0,
        (
          takes_uniform x.uniform e g ks us true ss q typed_parts.0 fit.0,
          grid_args rest xs g ks us ss c parts.0 after v q typed_parts.1 (and_parts _ _ f).1 fit.1 parts.1.1,
        ),
      )

  pub grid_stmt : (s : T.Stmt) (g : Around) (ks : List SlType) (us : List Bool) (ss : List Slot) (c : Spot) (lit after : Bool) → c.uniform ≡ true → Scope ss us ks
      → typed_stmt g ks s ≡ true → leaves_together s us true ≡ true → settled_stmt s us c lit ≡ Ok after → GridStmt (stmt s us true) ss
  grid_stmt (T.empty p) g ks us ss c lit after v q t l h = tt
  grid_stmt (T.leave p) g ks us ss c lit after v q t l h = tt
  grid_stmt (T.again p) g ks us ss c lit after v q t l h = tt
  grid_stmt (T.block body p) g ks us ss c lit after v q t l h = grid_stmts body g ks us ss c lit after v q t l h
  grid_stmt (T.group body) g ks us ss c lit after v q t l h = grid_stmts body g ks us ss c lit after v q t l h
  grid_stmt (T.declare uniform kind e p) g ks us ss c lit after v q t l h =
      let parts = declare_parts uniform kind e p us c lit after h in
      let value_typed = (and_parts _ _ t).1 in
      (grid_expr e g ks us ss c lit after v q value_typed parts.value_settled, takes_uniform uniform e g ks us true ss q value_typed parts.value_fits)
  grid_stmt (T.start uniform kind p) g ks us ss c lit after v q t l h = (tt, λ on. refl)
  grid_stmt (T.assign x operator kind e p) g ks us ss c lit after v q t l h =
      let parts = assign_parts x operator kind e p us c lit after h in
      let set = and_parts _ _ t in
      let value_typed = (and_parts _ _ set.1).1 in
      let there = set_in_scope g _ ks x ss q.types set.0 in
      let class = variable_class x ss us q.classes in (
        grid_put x operator (expr e us true) ss there (grid_expr e g ks us ss c lit after v q value_typed parts.value_settled),
        (there, λ on. put_takes x operator (expr e us true) ss on (takes_uniform (class_of x us) e g ks us true ss q value_typed parts.value_fits (sym class ∙ on))),
      )
  grid_stmt (T.test e s p) g ks us ss c lit after v q t l h =
      let parts = test_parts e s p us c lit after h in
      let typed_parts = and_parts _ _ (and_parts _ _ t).1 in (
        grid_expr e g ks us ss c lit parts.0 v q typed_parts.0 parts.1.0,
        choice (is_uniform e us) (C.is_uniform (expr e us true) ss)
            (λ b. GridAll (lowered.alone (stmt s us b)) ss × GridAll C.done ss)
            (λ b. (FineAll (lowered.alone (stmt s us b)) ss × StaysAll (lowered.alone (stmt s us b))) × (FineAll C.done ss × StaysAll C.done))
            (expr_class e g ks us true ss q.classes typed_parts.0)
            (λ on. ((grid_stmt s g ks us ss _ parts.0 after (and_from c.uniform (is_uniform e us) v on) q typed_parts.1 (subst (λ b. leaves_together s us b ≡ true) on l) parts.1.1, tt), tt))
            (λ off. (
              (
                (fine_stmt s g ks us ss _ parts.0 after (ap (λ b. b && is_uniform e us) v ∙ off) q typed_parts.1 parts.1.1, tt),
                (stmt_stays s g ks us false typed_parts.1 (branch_stays e s p us true l off), tt),
              ),
              (tt, tt),
            )),
      )
  grid_stmt (T.test_else e s r p) g ks us ss c lit after v q t l h =
      let parts = branch_parts e s r p us c lit after h in
      let outer = and_parts _ _ (and_parts _ _ t).1 in
      let branches = and_parts (typed_stmt g ks s) (typed_stmt g ks r) outer.1 in
      let leave = and_parts (leaves_together s us (is_uniform e us)) (leaves_together r us (is_uniform e us)) l in (
        grid_expr e g ks us ss c lit parts.behind_test v q outer.0 parts.test_settled,
        choice (is_uniform e us) (C.is_uniform (expr e us true) ss)
            (λ b. GridAll (lowered.alone (stmt s us b)) ss × GridAll (lowered.alone (stmt r us b)) ss)
            (λ b. (FineAll (lowered.alone (stmt s us b)) ss × StaysAll (lowered.alone (stmt s us b))) × (FineAll (lowered.alone (stmt r us b)) ss × StaysAll (lowered.alone (stmt r us b))))
            (expr_class e g ks us true ss q.classes outer.0)
            (λ on. let inside = and_from c.uniform (is_uniform e us) v on in (
              (grid_stmt s g ks us ss _ parts.behind_test parts.behind_first inside q branches.0 (subst (λ b. leaves_together s us b ≡ true) on leave.0) parts.first_settled, tt),
              (grid_stmt r g ks us ss _ parts.behind_first after inside q branches.1 (subst (λ b. leaves_together r us b ≡ true) on leave.1) parts.second_settled, tt),
            ))
            (λ off. let inside = ap (λ b. b && is_uniform e us) v ∙ off in
            let stay = branches_stay e s r p us true l off in (
              ((fine_stmt s g ks us ss _ parts.behind_test parts.behind_first inside q branches.0 parts.first_settled, tt), (stmt_stays s g ks us false branches.0 stay.0, tt)),
              ((fine_stmt r g ks us ss _ parts.behind_first after inside q branches.1 parts.second_settled, tt), (stmt_stays r g ks us false branches.1 stay.1, tt)),
            )),
      )
  grid_stmt (T.repeat e s p) g ks us ss c lit after v q t l h =
      let parts = repeat_parts e s p us c lit after h in
      let typed_parts = and_parts _ _ (and_parts _ _ t).1 in
      let w = is_uniform_loop e s us true in
      choice w w
      (λ b. (C.is_uniform (expr e us b) ss ≡ true) × (GridExpr (expr e us b) ss × ((GridAll C.done ss × IsStep C.done ss) × GridAll (lowered.alone (stmt s us b)) ss)))
      (λ b. FineExpr (expr e us b) ss × ((FineAll C.done ss × IsStep C.done ss) × FineAll (lowered.alone (stmt s us b)) ss))
      refl
      (λ on. let inside = loop_is e s us c.uniform true v on in
      let held = uniform_loop e s us true on in (
        expr_class e g ks us true ss q.classes typed_parts.0 ∙ held.1.0,
        (
          grid_expr e g ks us ss _ lit parts.0 inside q typed_parts.0 parts.1.0,
          ((tt, (tt, refl)), (grid_stmt s (in_loop g) ks us ss _ parts.0 after inside q typed_parts.1 held.1.1 parts.1.1, tt)),
        ),
      ))
      (λ off. let inside = loop_is e s us c.uniform false v off in (
        fine_expr e g ks us ss _ lit parts.0 inside q typed_parts.0 parts.1.0,
        ((tt, (tt, refl)), (fine_stmt s (in_loop g) ks us ss _ parts.0 after inside q typed_parts.1 parts.1.1, tt)),
      ))
  grid_stmt (T.steps a e b s p) g ks us ss c lit after v q t l h =
      let parts = steps_parts a e b s p us c lit after h in
      let sets = and_parts _ _ (and_parts _ _ t).0 in
      let start = and_parts _ _ (and_parts _ _ t).1 in
      let test = and_parts _ _ (and_parts _ _ start.1).1 in
      let step = and_parts _ _ test.1 in
      let w = is_uniform_loop e s us true in (
        grid_stmts a g ks us ss c lit parts.behind_start v q start.0 (set_leaves a us true sets.0) parts.start_settled,
        (
          choice w w
              (λ z. (C.is_uniform (expr e us z) ss ≡ true) × (GridExpr (expr e us z) ss × ((GridAll (stmts b us z) ss × IsStep (stmts b us z) ss) × GridAll (lowered.alone (stmt s us z)) ss)))
              (λ z. FineExpr (expr e us z) ss × ((FineAll (stmts b us z) ss × IsStep (stmts b us z) ss) × FineAll (lowered.alone (stmt s us z)) ss))
              refl
              (λ on. let inside = loop_is e s us c.uniform true v on in
              let held = uniform_loop e s us true on in (
                expr_class e g ks us true ss q.classes test.0 ∙ held.1.0,
                (
                  grid_expr e g ks us ss _ parts.behind_start parts.behind_test inside q test.0 parts.test_settled,
                  (
                    (grid_stmts b g ks us ss _ parts.behind_test parts.behind_step inside q step.0 (set_leaves b us true sets.1) parts.step_settled, set_step b us true ss sets.1),
                    (grid_stmt s (in_loop g) ks us ss _ parts.behind_step after inside q step.1 held.1.1 parts.body_settled, tt),
                  ),
                ),
              ))
              (λ off. let inside = loop_is e s us c.uniform false v off in (
                fine_expr e g ks us ss _ parts.behind_start parts.behind_test inside q test.0 parts.test_settled,
                (
                  (fine_stmts b g ks us ss _ parts.behind_test parts.behind_step inside q step.0 parts.step_settled, set_step b us false ss sets.1),
                  (fine_stmt s (in_loop g) ks us ss _ parts.behind_step after inside q step.1 parts.body_settled, tt),
                ),
              )),
          tt,
        ),
      )
  grid_stmt (T.lights over args s p) g ks us ss c lit after v q t l h =
      let parts = lights_parts over args s p us c lit after h in
      let typed_parts = lights_typed g ks over args s p t in (
        grid_exprs args g ks us ss c parts.behind_word parts.behind_args v q typed_parts.0 parts.args_settled,
        (
          (fine_stmt s (in_lights g) ks us ss _ parts.behind_args after (lights_vary over c) q typed_parts.1 parts.body_settled, tt),
          (stmt_stays s (in_lights g) ks us false typed_parts.1 (lit_stays over args s p us true l), tt),
        ),
      )

  pub grid_stmts : (body : T.Stmts) (g : Around) (ks : List SlType) (us : List Bool) (ss : List Slot) (c : Spot) (lit after : Bool) → c.uniform ≡ true → Scope ss us ks
      → typed_stmts g ks body ≡ true → leave_together body us true ≡ true → settled_stmts body us c lit ≡ Ok after → GridAll (stmts body us true) ss
  grid_stmts T.done g ks us ss c lit after v q t l h = tt
  grid_stmts (T.first s rest) g ks us ss c lit after v q t l h =
      let parts = first_parts s rest us c lit after h in
      let typed_parts = and_parts (typed_stmt g ks s) _ t in
      let leave = and_parts (leaves_together s us true) _ l in (
        grid_stmt s g ks us ss c lit parts.0 v q typed_parts.0 leave.0 parts.1.0,
        grid_stmts rest g (types_after s ks) (classes.after s us) (C.after (stmt s us true) ss) c parts.0 after v (scope_after s true ss us ks q) typed_parts.1 leave.1 parts.1.1,
      )

-- the body of a shader
pub body_settled : (t : T.Tree) → well_typed t ≡ true → IsSettled t → GridAll (body_of t) (slots t.params)
body_settled t w h =
    let parts = tree_parts t h in
    grid_stmts t.body (in_shader t.kind) (local_types t.params) (local_classes t.params) (slots t.params) outermost parts.0 parts.1.0 refl (scope_of_params t.params) (and_parts _ _ w).1
    (leave_any t.body (local_classes t.params) true (shader_stays t w)) parts.1.1.1
