-- A test that the numbers of all look-ups of a typed tree pass, those of its core tree pass.
use Rattle.std.proofs.Common.{◌≡◌, ℕ, pos, Bool, true, false, List, [], ◌∷◌, ◌++◌, map, refl}
use Rattle.std.specs.List.{list_all}
use Rattle.std.specs.Prelude.{◌&&◌, not}
use Rattle.std.proofs.lemmas.Bool.{and_parts}
use Rattle.grid_code.proofs.Both.{both}
use Rattle.sl_ast.specs.declared.kinds.NodeType.{NodeType}
use Rattle.sl_ast.specs.declared.kinds.SlType.{SlType}
use Rattle.sl_ast.specs.declared.kinds.SetOperator.{SetOperator}
use Rattle.sl_ast.specs.declared.kinds.SetOperator.TheVariants as sets
use Rattle.sl_ast.specs.declared.operations.Difference.{Difference}
use Rattle.sl_ast.specs.declared.operations.Look.{Look}
use Rattle.sl_ast.specs.declared.operations.Look.TheVariants as looks
use Rattle.sl_ast.specs.declared.operations.Operation.{Operation}
use Rattle.sl_ast.specs.declared.operations.Operation.TheVariants as operations
use Rattle.sl_ast.specs.declared.operations.ValueOperation.{ValueOperation}
use Rattle.sl_ast.specs.declared.operations.ValueOperation.TheVariants as ops
use Rattle.sl_ast.specs.declared.typed.Place.{Place}
use Rattle.sl_ast.specs.declared.typed.TreeFormal.{TreeFormal}
use Rattle.sl_ast.specs.declared.typed.Value.TheVariants.{Number}
use Rattle.sl_ast.specs.declared.typed.Variable.{Variable}
use Rattle.sl_ast.specs.declared.typed.Variable.TheVariants as variables
use Rattle.sl_ast.specs.declared.kinds.Predefined.TheVariants as names
use Rattle.sl_ast.specs.Typed as T
use Rattle.sl_ast.specs.Classes.{formal_classes, local_classes, after, after_all, is_uniform, is_uniform_loop}
use Rattle.sl_ast.specs.Names.{has_lights}
use Rattle.sl_ast.specs.Rules.{node_type, rule}
use Rattle.sl_ast.specs.WellTyped.{Around, in_function, in_lights, in_loop, in_shader, is_type, operands, set_type, stands, lights_take, fits, formal_types, local_types, types_after, types_after_all, typed, typed_args, typed_stmt, typed_stmts, well_typed}
use Rattle.sl_ast.specs.Textures.{TextureNode, own_look_up, look_ups, look_ups_args, look_ups_stmt, look_ups_stmts, texture_nodes}
use Rattle.sl_meaning.specs.Core as C
use Rattle.sl_meaning.specs.Lowered as L
use Rattle.sl_meaning.specs.Lowered.{expr, exprs, arguments, stmt, stmts, body_of}
use Rattle.mask_codegen.proofs.CoreLooks.{LooksExpr, LooksExprs, LooksArgs, LooksStmt, LooksAll}

-- the numbers of these pass
abbrev pub Pass : (ℕ → Bool) → List TextureNode → Type 0
Pass p ns = list_all p (map (λ n. n.number) ns) ≡ true

parts : (p : ℕ → Bool) (ms ns : List TextureNode) → Pass p (ms ++ ns) → Pass p ms × Pass p ns
parts p [] ns h = (refl, h)
parts p (m ∷ ms) ns h =
    let a = and_parts (p m.number) (list_all p (map (λ n. n.number) (ms ++ ns))) h in
    let rest = parts p ms ns a.1 in
    (both (p m.number) (list_all p (map (λ n. n.number) ms)) a.0 rest.0, rest.1)

last_looks : (p : ℕ → Bool) (es : C.Exprs) → LooksExprs p es → LooksExprs p (L.last es)
last_looks p C.none h = h
last_looks p (C.more e C.none) h = h
last_looks p (C.more e (C.more d rest)) h = last_looks p (C.more d rest) h.1

operands_look : (p : ℕ → Bool) (op : ValueOperation) (es : C.Exprs) → LooksExprs p es → LooksExprs p (L.operands op es)
operands_look p (ops.Transform from into) es h = last_looks p es h
operands_look p (ops.VTransform from into) es h = last_looks p es h
operands_look p (ops.NTransform from into) es h = last_looks p es h
operands_look p op es h = h

with_last_looks : (p : ℕ → Bool) (es : C.Exprs) (x : C.Expr) → LooksExprs p es → LooksExpr p x → LooksExprs p (L.with_last es x)
with_last_looks p C.none x h k = (k, tt)
with_last_looks p (C.more e rest) x h k = (h.0, with_last_looks p rest x h.1 k)

difference_looks : (p : ℕ → Bool) (d : Difference) (es : C.Exprs) → LooksExprs p es → LooksExpr p (L.difference_of d es)
difference_looks p d C.none h = tt
difference_looks p d (C.more e rest) h = h.0

-- an operation whose own look-up passes
own_looks : (p : ℕ → Bool) (q : Place) (args : T.Exprs) (kind : NodeType) (look : Look) → is_type kind (rule (operations.Look look) (operands args)) ≡ true →
    Pass p (own_look_up (operations.Look look) q args) → (es : C.Exprs) → LooksExprs p es → LooksExpr p (L.looked_up look q.number es)
own_looks p q T.none kind looks.At t h es k = absurd (cc t)
own_looks p q (T.more name rest) kind looks.At t h es k = ((and_parts (p q.number) true h).0, k)
own_looks p q T.none kind looks.Here t h es k = absurd (cc t)
own_looks p q (T.more name rest) kind looks.Here t h es k =
    let s = C.read (variables.Predefined names.S) in
    ((and_parts (p q.number) true h).0, with_last_looks p (L.with_last es s) (C.read (variables.Predefined names.T)) (with_last_looks p es s k tt) tt)
own_looks p q args kind looks.First t h es k = with_last_looks p es (C.literal (Number (pos 0))) k tt

operated_looks : (p : ℕ → Bool) (operation : Operation) (q : Place) (args : T.Exprs) (kind : NodeType) → is_type kind (rule operation (operands args)) ≡ true →
    Pass p (own_look_up operation q args) → (es : C.Exprs) → LooksExprs p es → LooksExpr p (L.operated operation q.number es)
operated_looks p (operations.Value op) q args kind t h es k = operands_look p op es k
operated_looks p operations.FaceForwardNg q args kind t h es k = with_last_looks p es (C.read (variables.Predefined names.Ng)) k tt
operated_looks p (operations.Difference d) q args kind t h es k = difference_looks p d es k
operated_looks p (operations.Sum w) q args kind t h es k = k
operated_looks p (operations.Look look) q args kind t h es k = own_looks p q args kind look t h es k

put_looks : (p : ℕ → Bool) (operator : SetOperator) (x : Variable) (e : C.Expr) → LooksExpr p e → LooksExpr p (L.put_into operator x e)
put_looks p sets.Set x e h = h
put_looks p sets.Add x e h = (tt, (h, tt))
put_looks p sets.Subtract x e h = (tt, (h, tt))
put_looks p sets.Multiply x e h = (tt, (h, tt))
put_looks p sets.Divide x e h = (tt, (h, tt))

read_looks : (p : ℕ → Bool) (x : Variable) → LooksExpr p (L.read x)
read_looks p (variables.Predefined names.Pi) = tt
read_looks p x = tt

mutual
  looked_expr : (p : ℕ → Bool) (e : T.Expr) (g : Around) (ks : List SlType) (us : List Bool) (u : Bool) → typed g ks e ≡ true → Pass p (look_ups e) → LooksExpr p (expr e us u)
  looked_expr p (T.number x q) g ks us u t h = tt
  looked_expr p (T.word text q) g ks us u t h = tt
  looked_expr p (T.variable x kind q) g ks us u t h = read_looks p x
  looked_expr p (T.apply operation args kind q) g ks us u t h =
      let outer = and_parts (is_type kind (rule operation (operands args))) (stands g operation args && typed_args g ks args) t in
      let inner = and_parts (stands g operation args) (typed_args g ks args) outer.1 in
      let l = parts p (own_look_up operation q args) (look_ups_args args) h in
      operated_looks p operation q args kind outer.0 l.0 (exprs args us u) (looked_exprs p args g ks us u inner.1 l.1)
  looked_expr p (T.call args formals body returned value kind q) g ks us u t h =
      let fit = and_parts (fits formals args) _ t in
      let passed = and_parts (typed_args g ks args) _ fit.1 in
      let ran = and_parts (typed_stmts (in_function g) (formal_types formals) body) _ passed.1 in
      let given = and_parts (typed (in_function g) (types_after_all body (formal_types formals)) value) _ ran.1 in
      let l = parts p (look_ups_args args) (look_ups_stmts body ++ look_ups value) h in
      let m = parts p (look_ups_stmts body) (look_ups value) l.1 in (
        looked_args p args formals g ks us u passed.0 l.0,
        (
          looked_stmts p body (in_function g) (formal_types formals) (formal_classes formals) u ran.0 m.0,
          looked_expr p value (in_function g) (types_after_all body (formal_types formals)) (after_all body (formal_classes formals)) u given.0 m.1,
        ),
      )

  looked_exprs : (p : ℕ → Bool) (args : T.Exprs) (g : Around) (ks : List SlType) (us : List Bool) (u : Bool) → typed_args g ks args ≡ true → Pass p (look_ups_args args) → LooksExprs p (exprs args us u)
  looked_exprs p T.none g ks us u t h = tt
  looked_exprs p (T.more e rest) g ks us u t h =
      let two = and_parts (typed g ks e) (typed_args g ks rest) t in
      let l = parts p (look_ups e) (look_ups_args rest) h in
      (looked_expr p e g ks us u two.0 l.0, looked_exprs p rest g ks us u two.1 l.1)

  looked_args : (p : ℕ → Bool) (args : T.Exprs) (formals : List TreeFormal) (g : Around) (ks : List SlType) (us : List Bool) (u : Bool) → typed_args g ks args ≡ true → Pass p (look_ups_args args)
      → LooksArgs p (arguments args formals us u)
  looked_args p T.none formals g ks us u t h = tt
  looked_args p (T.more e rest) [] g ks us u t h = tt
  looked_args p (T.more e rest) (f ∷ fs) g ks us u t h =
      let two = and_parts (typed g ks e) (typed_args g ks rest) t in
      let l = parts p (look_ups e) (look_ups_args rest) h in
      (looked_expr p e g ks us u two.0 l.0, looked_args p rest fs g ks us u two.1 l.1)

  looked_stmt : (p : ℕ → Bool) (s : T.Stmt) (g : Around) (ks : List SlType) (us : List Bool) (u : Bool) → typed_stmt g ks s ≡ true → Pass p (look_ups_stmt s) → LooksStmt p (stmt s us u)
  looked_stmt p (T.empty q) g ks us u t h = tt
  looked_stmt p (T.leave q) g ks us u t h = tt
  looked_stmt p (T.again q) g ks us u t h = tt
  looked_stmt p (T.block body q) g ks us u t h = looked_stmts p body g ks us u t h
  looked_stmt p (T.group body) g ks us u t h = looked_stmts p body g ks us u t h
  looked_stmt p (T.declare uniform kind e q) g ks us u t h = looked_expr p e g ks us u (and_parts _ _ t).1 h
  looked_stmt p (T.start uniform kind q) g ks us u t h = tt
  looked_stmt p (T.assign x operator kind e q) g ks us u t h =
      let set = and_parts (is_type (node_type kind) (set_type g ks x)) _ t in
      put_looks p operator x (expr e us u) (looked_expr p e g ks us u (and_parts _ _ set.1).1 h)
  looked_stmt p (T.test e s q) g ks us u t h =
      let two = and_parts _ _ (and_parts _ _ t).1 in
      let l = parts p (look_ups e) (look_ups_stmt s) h in
      (looked_expr p e g ks us u two.0 l.0, ((looked_stmt p s g ks us (u && is_uniform e us) two.1 l.1, tt), tt))
  looked_stmt p (T.test_else e s r q) g ks us u t h =
      let outer = and_parts _ _ (and_parts _ _ t).1 in
      let two = and_parts (typed_stmt g ks s) (typed_stmt g ks r) outer.1 in
      let l = parts p (look_ups e) (look_ups_stmt s ++ look_ups_stmt r) h in
      let m = parts p (look_ups_stmt s) (look_ups_stmt r) l.1 in
      (looked_expr p e g ks us u outer.0 l.0, ((looked_stmt p s g ks us (u && is_uniform e us) two.0 m.0, tt), (looked_stmt p r g ks us (u && is_uniform e us) two.1 m.1, tt)))
  looked_stmt p (T.repeat e s q) g ks us u t h =
      let two = and_parts _ _ (and_parts _ _ t).1 in
      let w = is_uniform_loop e s us u in
      let l = parts p (look_ups e) (look_ups_stmt s) h in
      (looked_expr p e g ks us w two.0 l.0, (tt, (looked_stmt p s (in_loop g) ks us w two.1 l.1, tt)))
  looked_stmt p (T.steps a e b s q) g ks us u t h =
      let start = and_parts _ _ (and_parts _ _ t).1 in
      let test = and_parts _ _ (and_parts _ _ start.1).1 in
      let step = and_parts _ _ test.1 in
      let w = is_uniform_loop e s us u in
      let l = parts p (look_ups_stmts a) (look_ups e ++ (look_ups_stmts b ++ look_ups_stmt s)) h in
      let m = parts p (look_ups e) (look_ups_stmts b ++ look_ups_stmt s) l.1 in
      let n = parts p (look_ups_stmts b) (look_ups_stmt s) m.1 in (
        looked_stmts p a g ks us u start.0 l.0,
        ((looked_expr p e g ks us w test.0 m.0, (looked_stmts p b g ks us w step.0 n.0, (looked_stmt p s (in_loop g) ks us w step.1 n.1, tt))), tt),
      )
  looked_stmt p (T.lights over args s q) g ks us u t h =
      let inside = typed_stmt (in_lights g) ks s in
      let has = and_parts (has_lights g.kind over && not g.default) (lights_take over (operands args) && (typed_args g ks args && inside)) t in
      let taken = and_parts (lights_take over (operands args)) (typed_args g ks args && inside) has.1 in
      let two = and_parts (typed_args g ks args) inside taken.1 in
      let l = parts p (look_ups_args args) (look_ups_stmt s) h in
      (looked_exprs p args g ks us u two.0 l.0, (looked_stmt p s (in_lights g) ks us false two.1 l.1, tt))

  looked_stmts : (p : ℕ → Bool) (body : T.Stmts) (g : Around) (ks : List SlType) (us : List Bool) (u : Bool) → typed_stmts g ks body ≡ true → Pass p (look_ups_stmts body) → LooksAll p (stmts body us u)
  looked_stmts p T.done g ks us u t h = tt
  looked_stmts p (T.first s rest) g ks us u t h =
      let two = and_parts (typed_stmt g ks s) _ t in
      let l = parts p (look_ups_stmt s) (look_ups_stmts rest) h in
      (looked_stmt p s g ks us u two.0 l.0, looked_stmts p rest g (types_after s ks) (after s us) u two.1 l.1)

pub body_looks : (p : ℕ → Bool) (t : T.Tree) → well_typed t ≡ true → Pass p (texture_nodes t) → LooksAll p (body_of t)
body_looks p t typed h = looked_stmts p t.body (in_shader t.kind) (local_types t.params) (local_classes t.params) true (and_parts _ _ typed).1 h
