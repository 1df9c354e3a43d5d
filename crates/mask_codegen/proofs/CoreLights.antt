-- A statement over lights stands in code where one stands in its core tree.
use Rattle.std.proofs.Common.{◌≡◌, ℕ, ◌+◌, Bool, List, length, refl, ◌∙◌}
use Rattle.std.specs.Prelude.{◌||◌}
use Rattle.std.proofs.Math.Bool.{or-true, or-false}
use Rattle.grid_code.specs.Valid.{has_light_statement}
use Rattle.grid_code.proofs.ValidThen.{lights_then}
use Rattle.sl_meaning.specs.Core.{Slot, Expr, literal, read, apply, differ, sum, texture, call, Exprs, none, more, Arguments, no_arguments, argument, Stmt, declare, assign, block, test, repeat, lights, leave, again, Stmts, done, first, formals, after, after_all}
use Rattle.mask_codegen.specs.CoreLights.{lights_in, lights_in_exprs, lights_in_args, lights_in_stmt, lights_in_all}
use Rattle.core_codegen.specs.Compile.{behind, operand_code, expr_code, exprs_code, args_code, stmt_code, all_code, shader_code}
use Rattle.core_codegen.proofs.Operands.{of_operand}

either : (a b c d : Bool) → a ≡ c → b ≡ d → (a || b) ≡ (c || d)
either a b c d h k = cc

mutual
  pub expr_code_lights : (e : Expr) (ss : List Slot) (b r : ℕ) → has_light_statement (expr_code e ss b r) ≡ lights_in e
  expr_code_lights (literal v) ss b r = refl
  expr_code_lights (read x) ss b r = refl
  expr_code_lights (apply op args) ss b r = lights_then (exprs_code args ss b r) _ ∙ or-false _ ∙ exprs_code_lights args ss b r
  expr_code_lights (differ d e) ss b r = lights_then (expr_code e ss b r) _ ∙ or-false _ ∙ expr_code_lights e ss b r
  expr_code_lights (sum s args) ss b r = lights_then (exprs_code args ss b r) _ ∙ or-false _ ∙ exprs_code_lights args ss b r
  expr_code_lights (texture k args) ss b r = lights_then (exprs_code args ss b r) _ ∙ or-false _ ∙ exprs_code_lights args ss b r
  expr_code_lights (call args body kind e) ss b r =
      let fs = formals args in
      let ss2 = after_all body fs in
      let t = behind fs r body in
      lights_then (args_code args ss b r) _ ∙ either _ _ _ _ (args_code_lights args ss b r)
      (lights_then (all_code body fs r t) _ ∙ either _ _ _ _ (all_code_lights body fs r t) (lights_then (expr_code e ss2 r (r + length ss2)) _ ∙ or-false _ ∙ expr_code_lights e ss2 r (r + length ss2)))

  pub exprs_code_lights : (es : Exprs) (ss : List Slot) (b r : ℕ) → has_light_statement (exprs_code es ss b r) ≡ lights_in_exprs es
  exprs_code_lights none ss b r = refl
  exprs_code_lights (more e rest) ss b r =
      lights_then (operand_code e (expr_code e ss b r)) _ ∙
      either _ _ _ _ (of_operand (λ z q y. has_light_statement y ≡ lights_in z) e b r (expr_code e ss b r) (λ k. refl) (expr_code_lights e ss b r)) (exprs_code_lights rest ss b (r + 1))

  pub args_code_lights : (es : Arguments) (ss : List Slot) (b r : ℕ) → has_light_statement (args_code es ss b r) ≡ lights_in_args es
  args_code_lights no_arguments ss b r = refl
  args_code_lights (argument u kind e rest) ss b r = lights_then (expr_code e ss b r) _ ∙ either _ _ _ _ (expr_code_lights e ss b r) (args_code_lights rest ss b (r + 1))

  pub stmt_code_lights : (s : Stmt) (ss : List Slot) (b t : ℕ) → has_light_statement (stmt_code s ss b t) ≡ lights_in_stmt s
  stmt_code_lights (declare u kind e) ss b t = lights_then (expr_code e ss b (b + length ss)) _ ∙ or-false _ ∙ expr_code_lights e ss b (b + length ss)
  stmt_code_lights (assign x kind e) ss b t = lights_then (expr_code e ss b t) _ ∙ or-false _ ∙ expr_code_lights e ss b t
  stmt_code_lights (block s) ss b t = all_code_lights s ss b t
  stmt_code_lights (test q x y) ss b t =
      lights_then (expr_code q ss b (b + length ss)) _ ∙
      either _ _ _ _ (expr_code_lights q ss b (b + length ss)) (either _ _ _ _ (all_code_lights x ss b t) (or-false _ ∙ all_code_lights y ss b t))
  stmt_code_lights (repeat u q e s) ss b t =
      either _ _ _ _ (expr_code_lights q ss b (b + length ss)) (either _ _ _ _ (all_code_lights e ss b t) (or-false _ ∙ all_code_lights s ss b t))
  stmt_code_lights (lights w args s) ss b t = lights_then (exprs_code args ss b (b + length ss)) _ ∙ or-true _
  stmt_code_lights leave ss b t = refl
  stmt_code_lights again ss b t = refl

  pub all_code_lights : (s : Stmts) (ss : List Slot) (b t : ℕ) → has_light_statement (all_code s ss b t) ≡ lights_in_all s
  all_code_lights done ss b t = refl
  all_code_lights (first s rest) ss b t = lights_then (stmt_code s ss b t) _ ∙ either _ _ _ _ (stmt_code_lights s ss b t) (all_code_lights rest (after s ss) b t)

-- so the code of a shader is that of a light that isn't ambient where the shader is
pub shader_code_lights : (body : Stmts) (ss : List Slot) → has_light_statement (shader_code body ss) ≡ lights_in_all body
shader_code_lights body ss = all_code_lights body ss _ _
