-- The core tree of a well typed tree has its parts where they may stand.
use Rattle.std.proofs.Common.{◌≡◌, Bool, true, false, List, [], ◌∷◌}
use Rattle.std.specs.Prelude.{◌&&◌, not}
use Rattle.std.proofs.lemmas.Bool.{and_parts}
use Rattle.sl_ast.specs.declared.kinds.SlKind.{SlKind}
use Rattle.sl_ast.specs.declared.kinds.SlType.{SlType}
use Rattle.sl_ast.specs.declared.typed.TreeFormal.{TreeFormal}
use Rattle.sl_ast.specs.Typed as T
use Rattle.sl_ast.specs.Classes as classes
use Rattle.sl_ast.specs.Classes.{formal_classes, local_classes, is_uniform, is_uniform_loop}
use Rattle.sl_ast.specs.Names.{has_lights}
use Rattle.sl_ast.specs.Rules.{node_type, rule}
use Rattle.sl_ast.specs.WellTyped.{Around, in_function, in_lights, in_loop, in_shader, is_type, is_set, operands, set_type, stands, lights_take, fits, formal_types, local_types, types_after, types_after_all, typed, typed_args, typed_stmt, typed_stmts, well_typed}
use Rattle.sl_meaning.specs.Core as C
use Rattle.sl_meaning.specs.Core.{Slot}
use Rattle.sl_meaning.specs.Lowered.{expr, exprs, arguments, stmt, stmts, slots, body_of}
use Rattle.mask_codegen.proofs.CorePlaced.{PlacedExpr, PlacedExprs, PlacedArgs, PlacedStmt, PlacedAll}
use Rattle.mask_codegen.proofs.LoweredScopes.{Scope, scope_after, scope_of_formals, scope_of_params}
use Rattle.mask_codegen.proofs.LoweredStands.{set_kind, placed_read, placed_set, operated_placed, put_placed, lights_few}

-- a step stands in no loop of its own
set_placed : (b : T.Stmts) (k : SlKind) (l : Bool) (us : List Bool) (u : Bool) (ss : List Slot) → is_set b ≡ true → PlacedAll k l (stmts b us u) ss → PlacedAll k false (stmts b us u) ss
set_placed T.done k l us u ss h p = tt
set_placed (T.first (T.assign x operator kind e q) T.done) k l us u ss h p = p
set_placed (T.first s rest) k l us u ss h p = absurd (cc h)

mutual
  pub placed_expr : (e : T.Expr) (g : Around) (ks : List SlType) (us : List Bool) (u : Bool) → typed g ks e ≡ true → PlacedExpr g.kind (expr e us u)
  placed_expr (T.number x p) g ks us u t = tt
  placed_expr (T.word text p) g ks us u t = tt
  placed_expr (T.variable x kind p) g ks us u t = placed_read g kind ks x t
  placed_expr (T.apply operation args kind p) g ks us u t =
      let outer = and_parts (is_type kind (rule operation (operands args))) (stands g operation args && typed_args g ks args) t in
      let inner = and_parts (stands g operation args) (typed_args g ks args) outer.1 in
      operated_placed operation p.number args kind g us u outer.0 inner.0 (placed_exprs args g ks us u inner.1)
  placed_expr (T.call args formals body returned value kind p) g ks us u t =
      let fit = and_parts (fits formals args) _ t in
      let passed = and_parts (typed_args g ks args) _ fit.1 in
      let ran = and_parts (typed_stmts (in_function g) (formal_types formals) body) _ passed.1 in
      let given = and_parts (typed (in_function g) (types_after_all body (formal_types formals)) value) _ ran.1 in (
        placed_args args formals g ks us u passed.0,
        (
          placed_stmts body (in_function g) (formal_types formals) (formal_classes formals) u (C.formals (arguments args formals us u)) (scope_of_formals args formals us u fit.0) ran.0,
          placed_expr value (in_function g) (types_after_all body (formal_types formals)) (classes.after_all body (formal_classes formals)) u given.0,
        ),
      )

  pub placed_exprs : (args : T.Exprs) (g : Around) (ks : List SlType) (us : List Bool) (u : Bool) → typed_args g ks args ≡ true → PlacedExprs g.kind (exprs args us u)
  placed_exprs T.none g ks us u t = tt
  placed_exprs (T.more e rest) g ks us u t =
      let parts = and_parts (typed g ks e) (typed_args g ks rest) t in
      (placed_expr e g ks us u parts.0, placed_exprs rest g ks us u parts.1)

  pub placed_args : (args : T.Exprs) (formals : List TreeFormal) (g : Around) (ks : List SlType) (us : List Bool) (u : Bool) → typed_args g ks args ≡ true → PlacedArgs g.kind (arguments args formals us u)
  placed_args T.none formals g ks us u t = tt
  placed_args (T.more e rest) [] g ks us u t = tt
  placed_args (T.more e rest) (f ∷ fs) g ks us u t =
      let parts = and_parts (typed g ks e) (typed_args g ks rest) t in
      (placed_expr e g ks us u parts.0, placed_args rest fs g ks us u parts.1)

  pub placed_stmt : (s : T.Stmt) (g : Around) (ks : List SlType) (us : List Bool) (u : Bool) (ss : List Slot) → Scope ss us ks → typed_stmt g ks s ≡ true → PlacedStmt g.kind g.looped (stmt s us u) ss
  placed_stmt (T.empty p) g ks us u ss q t = tt
  placed_stmt (T.leave p) g ks us u ss q t = t
  placed_stmt (T.again p) g ks us u ss q t = t
  placed_stmt (T.block body p) g ks us u ss q t = placed_stmts body g ks us u ss q t
  placed_stmt (T.group body) g ks us u ss q t = placed_stmts body g ks us u ss q t
  placed_stmt (T.declare uniform kind e p) g ks us u ss q t = placed_expr e g ks us u (and_parts _ _ t).1
  placed_stmt (T.start uniform kind p) g ks us u ss q t = tt
  placed_stmt (T.assign x operator kind e p) g ks us u ss q t =
      let set = and_parts (is_type (node_type kind) (set_type g ks x)) _ t in
      let there = placed_set g (node_type kind) ks x set.0 in
      (put_placed g.kind x operator (expr e us u) there (placed_expr e g ks us u (and_parts _ _ set.1).1), (there, set_kind g kind ks x ss q.types set.0))
  placed_stmt (T.test e s p) g ks us u ss q t =
      let parts = and_parts _ _ (and_parts _ _ t).1 in
      (placed_expr e g ks us u parts.0, ((placed_stmt s g ks us (u && is_uniform e us) ss q parts.1, tt), tt))
  placed_stmt (T.test_else e s r p) g ks us u ss q t =
      let outer = and_parts _ _ (and_parts _ _ t).1 in
      let branches = and_parts (typed_stmt g ks s) (typed_stmt g ks r) outer.1 in
      (placed_expr e g ks us u outer.0, ((placed_stmt s g ks us (u && is_uniform e us) ss q branches.0, tt), (placed_stmt r g ks us (u && is_uniform e us) ss q branches.1, tt)))
  placed_stmt (T.repeat e s p) g ks us u ss q t =
      let parts = and_parts _ _ (and_parts _ _ t).1 in
      let w = is_uniform_loop e s us u in
      (placed_expr e g ks us w parts.0, (tt, (placed_stmt s (in_loop g) ks us w ss q parts.1, tt)))
  placed_stmt (T.steps a e b s p) g ks us u ss q t =
      let sets = and_parts _ _ (and_parts _ _ t).0 in
      let start = and_parts _ _ (and_parts _ _ t).1 in
      let test = and_parts _ _ (and_parts _ _ start.1).1 in
      let step = and_parts _ _ test.1 in
      let w = is_uniform_loop e s us u in (
        placed_stmts a g ks us u ss q start.0,
        (
          (
            placed_expr e g ks us w test.0,
            (set_placed b g.kind g.looped us w ss sets.1 (placed_stmts b g ks us w ss q step.0), (placed_stmt s (in_loop g) ks us w ss q step.1, tt)),
          ),
          tt,
        ),
      )
  placed_stmt (T.lights over args s p) g ks us u ss q t =
      let inside = typed_stmt (in_lights g) ks s in
      let has = and_parts (has_lights g.kind over && not g.default) (lights_take over (operands args) && (typed_args g ks args && inside)) t in
      let taken = and_parts (lights_take over (operands args)) (typed_args g ks args && inside) has.1 in
      let parts = and_parts (typed_args g ks args) inside taken.1 in (
        (and_parts (has_lights g.kind over) (not g.default) has.0).0,
        (lights_few over args us u taken.0, (placed_exprs args g ks us u parts.0, (placed_stmt s (in_lights g) ks us false ss q parts.1, tt))),
      )

  pub placed_stmts : (body : T.Stmts) (g : Around) (ks : List SlType) (us : List Bool) (u : Bool) (ss : List Slot) → Scope ss us ks → typed_stmts g ks body ≡ true → PlacedAll g.kind g.looped (stmts body us u) ss
  placed_stmts T.done g ks us u ss q t = tt
  placed_stmts (T.first s rest) g ks us u ss q t =
      let parts = and_parts (typed_stmt g ks s) _ t in
      (placed_stmt s g ks us u ss q parts.0, placed_stmts rest g (types_after s ks) (classes.after s us) u (C.after (stmt s us u) ss) (scope_after s u ss us ks q) parts.1)

pub body_placed : (t : T.Tree) → well_typed t ≡ true → PlacedAll t.kind false (body_of t) (slots t.params)
body_placed t h = placed_stmts t.body (in_shader t.kind) (local_types t.params) (local_classes t.params) true (slots t.params) (scope_of_params t.params) (and_parts _ _ h).1
