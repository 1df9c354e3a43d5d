-- What no break or continue leaves: the body of a function, that of a shader, and in a uniform loop each part that stands
-- in varying control.
use Rattle.std.proofs.Common.{◌≡◌, Bool, true, false, ◌&&◌, not, List, refl, sym, subst, ◌∙◌}
use Rattle.std.proofs.lemmas.Bool.{and_parts, and_from}
use Rattle.sl_ast.specs.declared.kinds.LightStmt.{LightStmt}
use Rattle.sl_ast.specs.declared.kinds.NodeType.{NodeType}
use Rattle.sl_ast.specs.declared.kinds.SlType.{SlType}
use Rattle.sl_ast.specs.declared.typed.Place.{Place}
use Rattle.sl_ast.specs.declared.typed.TreeFormal.{TreeFormal}
use Rattle.sl_ast.specs.Typed.{Expr, call, Exprs, Stmt, empty, leave, again, block, group, declare, start, assign, test, test_else, repeat, steps, lights, Stmts, done, first, Tree}
use Rattle.sl_ast.specs.Names.{has_lights}
use Rattle.sl_ast.specs.WellTyped.{Around, in_function, in_lights, operands, lights_take, formal_types, types_after, local_types, in_shader, typed, typed_args, typed_stmt, typed_stmts, well_typed}
use Rattle.sl_ast.specs.Classes.{after, is_uniform, is_uniform_loop, leaves_together, leave_together}
use Rattle.uniform_varying.specs.Leaving.{stays, all_stay}

both : (a b c d : Bool) → a ≡ c → b ≡ d → (a && b) ≡ (c && d)
both a b c d h k = cc

-- in varying control breaks and continues leave together exactly where none leaves
mutual
  pub none_leaves : (s : Stmt) (us : List Bool) → leaves_together s us false ≡ stays s
  none_leaves (empty p) us = refl
  none_leaves (leave p) us = refl
  none_leaves (again p) us = refl
  none_leaves (block body p) us = none_leave body us
  none_leaves (group body) us = none_leave body us
  none_leaves (declare uniform kind e p) us = refl
  none_leaves (start uniform kind p) us = refl
  none_leaves (assign x operator kind e p) us = refl
  none_leaves (test e s p) us = none_leaves s us
  none_leaves (test_else e s r p) us = both _ _ _ _ (none_leaves s us) (none_leaves r us)
  none_leaves (repeat e s p) us = refl
  none_leaves (steps a e b s p) us = refl
  none_leaves (lights over args s p) us = none_leaves s us

  pub none_leave : (ss : Stmts) (us : List Bool) → leave_together ss us false ≡ all_stay ss
  none_leave done us = refl
  none_leave (first s rest) us = both _ _ _ _ (none_leaves s us) (none_leave rest (after s us))

-- what stands in a uniform loop on a varying condition, or in a statement over lights, none leaves
pub branch_stays : (e : Expr) (s : Stmt) (p : Place) (us : List Bool) (u : Bool) → leaves_together (test e s p) us u ≡ true → (u && is_uniform e us) ≡ false → stays s ≡ true
branch_stays e s p us u h varies = sym (none_leaves s us) ∙ subst (λ b. leaves_together s us b ≡ true) varies h

pub branches_stay : (e : Expr) (s r : Stmt) (p : Place) (us : List Bool) (u : Bool) → leaves_together (test_else e s r p) us u ≡ true → (u && is_uniform e us) ≡ false
    → (stays s ≡ true) × (stays r ≡ true)
branches_stay e s r p us u h varies =
    let inside = u && is_uniform e us in
    let parts = and_parts (leaves_together s us inside) (leaves_together r us inside) h in
    (sym (none_leaves s us) ∙ subst (λ b. leaves_together s us b ≡ true) varies parts.0, sym (none_leaves r us) ∙ subst (λ b. leaves_together r us b ≡ true) varies parts.1)

pub lit_stays : (over : LightStmt) (args : Exprs) (s : Stmt) (p : Place) (us : List Bool) (u : Bool) → leaves_together (lights over args s p) us u ≡ true → stays s ≡ true
lit_stays over args s p us u h = sym (none_leaves s us) ∙ h

-- a uniform loop stands in uniform control on a uniform condition, and what leaves its body leaves together
pub uniform_loop : (e : Expr) (s : Stmt) (us : List Bool) (u : Bool) → is_uniform_loop e s us u ≡ true → (u ≡ true) × ((is_uniform e us ≡ true) × (leaves_together s us true ≡ true))
uniform_loop e s us u h =
    let outer = and_parts u (is_uniform e us && leaves_together s us true) h in
    (outer.0, and_parts (is_uniform e us) (leaves_together s us true) outer.1)

-- outside loops none leaves a well typed statement
mutual
  pub outside_stays : (g : Around) → g.looped ≡ false → (ks : List SlType) (s : Stmt) → typed_stmt g ks s ≡ true → stays s ≡ true
  outside_stays g out ks (empty p) h = refl
  outside_stays g out ks (leave p) h = absurd (cc (out, h))
  outside_stays g out ks (again p) h = absurd (cc (out, h))
  outside_stays g out ks (block body p) h = outside_stay g out ks body h
  outside_stays g out ks (group body) h = outside_stay g out ks body h
  outside_stays g out ks (declare uniform kind e p) h = refl
  outside_stays g out ks (start uniform kind p) h = refl
  outside_stays g out ks (assign x operator kind e p) h = refl
  outside_stays g out ks (test e s p) h = outside_stays g out ks s (and_parts _ _ (and_parts _ _ h).1).1
  outside_stays g out ks (test_else e s r p) h =
      let branches = and_parts _ _ (and_parts _ _ (and_parts _ _ h).1).1 in
      and_from _ _ (outside_stays g out ks s branches.0) (outside_stays g out ks r branches.1)
  outside_stays g out ks (repeat e s p) h = refl
  outside_stays g out ks (steps a e b s p) h = refl
  outside_stays g out ks (lights over args s p) h =
      let inside = typed_stmt (in_lights g) ks s in
      let behind = and_parts (has_lights g.kind over && not g.default) (lights_take over (operands args) && (typed_args g ks args && inside)) h in
      let taken = and_parts (lights_take over (operands args)) (typed_args g ks args && inside) behind.1 in
      outside_stays (in_lights g) out ks s (and_parts (typed_args g ks args) inside taken.1).1

  pub outside_stay : (g : Around) → g.looped ≡ false → (ks : List SlType) (ss : Stmts) → typed_stmts g ks ss ≡ true → all_stay ss ≡ true
  outside_stay g out ks done h = refl
  outside_stay g out ks (first s rest) h =
      let parts = and_parts _ _ h in
      and_from _ _ (outside_stays g out ks s parts.0) (outside_stay g out (types_after s ks) rest parts.1)

-- none leaves a function
pub function_stays : (g : Around) (ks : List SlType) (args : Exprs) (formals : List TreeFormal) (body : Stmts) (returned : Place) (value : Expr) (kind : NodeType) (p : Place)
    → typed g ks (call args formals body returned value kind p) ≡ true → all_stay body ≡ true
function_stays g ks args formals body returned value kind p h =
    outside_stay (in_function g) refl (formal_types formals) body (and_parts _ _ (and_parts _ _ (and_parts _ _ h).1).1).0

-- none leaves a shader
pub shader_stays : (t : Tree) → well_typed t ≡ true → all_stay t.body ≡ true
shader_stays t h = outside_stay (in_shader t.kind) refl (local_types t.params) t.body (and_parts _ _ h).1
