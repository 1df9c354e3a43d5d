-- No break or continue leaves the statements of a core tree where none leaves those of the typed tree that it is made from.
use Rattle.std.proofs.Common.{◌≡◌, Bool, true, false, List, refl}
use Rattle.std.specs.Prelude.{◌&&◌, not}
use Rattle.std.proofs.lemmas.Bool.{and_parts, and_from}
use Rattle.sl_ast.specs.declared.kinds.LightStmt.{LightStmt}
use Rattle.sl_ast.specs.declared.kinds.SlType.{SlType}
use Rattle.sl_ast.specs.declared.typed.Place.{Place}
use Rattle.sl_ast.specs.Names.{has_lights}
use Rattle.sl_ast.specs.Typed as T
use Rattle.sl_ast.specs.Classes as classes
use Rattle.sl_ast.specs.Classes.{is_uniform, leaves_together, leave_together}
use Rattle.sl_ast.specs.WellTyped.{Around, is_set, in_lights, operands, lights_take, types_after, typed_args, typed_stmt, typed_stmts, well_typed, local_types, in_shader}
use Rattle.uniform_varying.specs.Leaving.{stays, all_stay}
use Rattle.uniform_varying.proofs.Leaves.{shader_stays}
use Rattle.sl_meaning.specs.Core.{Slot}
use Rattle.sl_meaning.specs.Lowered.{stmt, stmts, body_of}
use Rattle.core_codegen.specs.Fine.{Stays, StaysAll, IsStep}

-- nothing, or one assignment: none leaves it
pub set_leaves : (a : T.Stmts) (us : List Bool) (u : Bool) → is_set a ≡ true → leave_together a us u ≡ true
set_leaves T.done us u h = refl
set_leaves (T.first (T.assign x operator kind e p) T.done) us u h = refl
set_leaves (T.first s rest) us u h = absurd (cc h)

pub set_stays : (a : T.Stmts) (us : List Bool) (u : Bool) → is_set a ≡ true → StaysAll (stmts a us u)
set_stays T.done us u h = tt
set_stays (T.first (T.assign x operator kind e p) T.done) us u h = (tt, tt)
set_stays (T.first s rest) us u h = absurd (cc h)

-- and it declares nothing
pub set_step : (b : T.Stmts) (us : List Bool) (u : Bool) (ss : List Slot) → is_set b ≡ true → IsStep (stmts b us u) ss
set_step T.done us u ss h = (tt, refl)
set_step (T.first (T.assign x operator kind e p) T.done) us u ss h = ((tt, tt), refl)
set_step (T.first s rest) us u ss h = absurd (cc h)

mutual
  -- what none leaves, each that leaves it leaves together
  pub leaves_any : (s : T.Stmt) (us : List Bool) (u : Bool) → stays s ≡ true → leaves_together s us u ≡ true
  leaves_any (T.empty p) us u h = refl
  leaves_any (T.leave p) us u h = absurd (cc h)
  leaves_any (T.again p) us u h = absurd (cc h)
  leaves_any (T.block body p) us u h = leave_any body us u h
  leaves_any (T.group body) us u h = leave_any body us u h
  leaves_any (T.declare uniform kind e p) us u h = refl
  leaves_any (T.start uniform kind p) us u h = refl
  leaves_any (T.assign x operator kind e p) us u h = refl
  leaves_any (T.test e s p) us u h = leaves_any s us (u && is_uniform e us) h
  leaves_any (T.test_else e s r p) us u h =
      let parts = and_parts _ _ h in
      and_from _ _ (leaves_any s us (u && is_uniform e us) parts.0) (leaves_any r us (u && is_uniform e us) parts.1)
  leaves_any (T.repeat e s p) us u h = refl
  leaves_any (T.steps a e b s p) us u h = refl
  leaves_any (T.lights over args s p) us u h = leaves_any s us false h

  pub leave_any : (body : T.Stmts) (us : List Bool) (u : Bool) → all_stay body ≡ true → leave_together body us u ≡ true
  leave_any T.done us u h = refl
  leave_any (T.first s rest) us u h =
      let parts = and_parts _ _ h in
      and_from _ _ (leaves_any s us u parts.0) (leave_any rest (classes.after s us) u parts.1)

-- the operands and the body of a well typed statement over lights
pub lights_typed : (g : Around) (ks : List SlType) (over : LightStmt) (args : T.Exprs) (s : T.Stmt) (p : Place) → typed_stmt g ks (T.lights over args s p) ≡ true
    → (typed_args g ks args ≡ true) × (typed_stmt (in_lights g) ks s ≡ true)
lights_typed g ks over args s p h =
    let inside = typed_stmt (in_lights g) ks s in
    let stands = and_parts (has_lights g.kind over && not g.default) (lights_take over (operands args) && (typed_args g ks args && inside)) h in
    let taken = and_parts (lights_take over (operands args)) (typed_args g ks args && inside) stands.1 in
    and_parts (typed_args g ks args) inside taken.1

mutual
  pub stmt_stays : (s : T.Stmt) (g : Around) (ks : List SlType) (us : List Bool) (u : Bool) → typed_stmt g ks s ≡ true → stays s ≡ true → Stays (stmt s us u)
  stmt_stays (T.empty p) g ks us u t h = tt
  stmt_stays (T.leave p) g ks us u t h = absurd (cc h)
  stmt_stays (T.again p) g ks us u t h = absurd (cc h)
  stmt_stays (T.block body p) g ks us u t h = stmts_stay body g ks us u t h
  stmt_stays (T.group body) g ks us u t h = stmts_stay body g ks us u t h
  stmt_stays (T.declare uniform kind e p) g ks us u t h = tt
  stmt_stays (T.start uniform kind p) g ks us u t h = tt
  stmt_stays (T.assign x operator kind e p) g ks us u t h = tt
  stmt_stays (T.test e s p) g ks us u t h = ((stmt_stays s g ks us (u && is_uniform e us) (and_parts _ _ (and_parts _ _ t).1).1 h, tt), tt)
  stmt_stays (T.test_else e s r p) g ks us u t h =
      let branches = and_parts _ _ (and_parts _ _ (and_parts _ _ t).1).1 in
      let parts = and_parts _ _ h in
      ((stmt_stays s g ks us (u && is_uniform e us) branches.0 parts.0, tt), (stmt_stays r g ks us (u && is_uniform e us) branches.1 parts.1, tt))
  stmt_stays (T.repeat e s p) g ks us u t h = tt
  stmt_stays (T.steps a e b s p) g ks us u t h = (set_stays a us u (and_parts _ _ (and_parts _ _ t).0).0, (tt, tt))
  stmt_stays (T.lights over args s p) g ks us u t h = (stmt_stays s (in_lights g) ks us false (lights_typed g ks over args s p t).1 h, tt)

  pub stmts_stay : (body : T.Stmts) (g : Around) (ks : List SlType) (us : List Bool) (u : Bool) → typed_stmts g ks body ≡ true → all_stay body ≡ true → StaysAll (stmts body us u)
  stmts_stay T.done g ks us u t h = tt
  stmts_stay (T.first s rest) g ks us u t h =
      let typed = and_parts _ _ t in
      let parts = and_parts _ _ h in
      (stmt_stays s g ks us u typed.0 parts.0, stmts_stay rest g (types_after s ks) (classes.after s us) u typed.1 parts.1)

-- none leaves the body of a shader
pub body_stays : (t : T.Tree) → well_typed t ≡ true → StaysAll (body_of t)
body_stays t h = stmts_stay t.body (in_shader t.kind) (local_types t.params) _ true (and_parts _ _ h).1 (shader_stays t h)
