-- A settled default is constant: a typed one sees no variable of the point and no light, and a uniform one has no neighbour, no sum over
-- lights and no varying loop.
use Rattle.std.proofs.Common.{◌≡◌, ◌<◌, ℕ, zero, suc, Bool, true, false, ◌&&◌, ◌||◌, not, cond, Some, None, List, [], ◌∷◌, length, get_or, refl, sym, subst, arith}
use Rattle.std.proofs.lemmas.Bool.{and_parts}
use Rattle.sl_ast.specs.declared.kinds.NodeType.{NodeType}
use Rattle.sl_ast.specs.declared.kinds.Predefined.{Predefined}
use Rattle.sl_ast.specs.declared.kinds.Predefined.TheVariants as names
use Rattle.sl_ast.specs.declared.kinds.SetOperator.{SetOperator}
use Rattle.sl_ast.specs.declared.kinds.SetOperator.TheVariants as sets
use Rattle.sl_ast.specs.declared.kinds.SlType.{SlType}
use Rattle.sl_ast.specs.declared.operations.Operation.{Operation}
use Rattle.sl_ast.specs.declared.operations.Operation.TheVariants as operations
use Rattle.sl_ast.specs.declared.operations.ValueOperation.{ValueOperation}
use Rattle.sl_ast.specs.declared.operations.ValueOperation.TheVariants as ops
use Rattle.sl_ast.specs.declared.typed.TreeFormal.{TreeFormal}
use Rattle.sl_ast.specs.declared.typed.Variable.{Variable}
use Rattle.sl_ast.specs.declared.typed.Variable.TheVariants as variables
use Rattle.sl_ast.specs.Typed as T
use Rattle.sl_ast.specs.Typed.{number, word, variable, apply, call, none, more, empty, leave, again, block, group, declare, start, assign, test, test_else, repeat, steps, lights, done, first}
use Rattle.sl_ast.specs.Classes.{is_plain, class_of, formal_classes, all_uniform, after, after_all, is_uniform, are_uniform, stmt_uniform, stmts_uniform, leaves_together, leave_together, is_uniform_loop}
use Rattle.sl_ast.specs.Names.{reads, writes, has_surface, has_lights}
use Rattle.sl_ast.specs.Rules.{node_type, is_test, takes}
use Rattle.sl_ast.specs.WellTyped.{Around, in_function, in_loop, is_type, kind_of, read_type, set_type, fits, stands, formal_types, types_after, types_after_all, is_set, typed, typed_args, typed_stmt, typed_stmts}
use Rattle.sl_meaning.specs.Core as C
use Rattle.sl_meaning.specs.CoreView.{expr_of, exprs_of, args_of, stmt_of, stmts_of}
use Rattle.sl_meaning.specs.Lowered as L
use Rattle.sl_meaning.specs.declared.core_tree.CoreExpr.{CoreExpr}
use Rattle.sl_meaning.specs.declared.core_tree.CoreStmt.{CoreStmt}
use Rattle.sl_meaning.specs.declared.core_tree.Argument.{Argument}
use Rattle.sl_evaluation.specs.Constant.{IsLevel, IsConstant, AreConstant, ArgumentsConstant, StmtConstant, AllConstant}

-- the items of lists

pub are_each : (xs : List CoreExpr) (i : ℕ) (x : CoreExpr) → AreConstant (exprs_of xs) → i < length xs → x ≡ get_or xs i x → IsConstant (expr_of x)
are_each [] i x k few is = absurd (omega (arith, few))
are_each (y ∷ ys) zero x k few is = subst (λ z. IsConstant (expr_of z)) (sym is) k.0
are_each (y ∷ ys) (suc i) x k few is = are_each ys i x k.1 (omega (arith, few)) is

pub arguments_each : (xs : List Argument) (i : ℕ) (x : Argument) → ArgumentsConstant (args_of xs) → i < length xs → x ≡ get_or xs i x → IsConstant (expr_of x.value)
arguments_each [] i x k few is = absurd (omega (arith, few))
arguments_each (y ∷ ys) zero x k few is = subst (λ z. IsConstant (expr_of z.value)) (sym is) k.0
arguments_each (y ∷ ys) (suc i) x k few is = arguments_each ys i x k.1 (omega (arith, few)) is

pub all_each : (xs : List CoreStmt) (i : ℕ) (x : CoreStmt) → AllConstant (stmts_of xs) → i < length xs → x ≡ get_or xs i x → StmtConstant (stmt_of x)
all_each [] i x k few is = absurd (omega (arith, few))
all_each (y ∷ ys) zero x k few is = subst (λ z. StmtConstant (stmt_of z)) (sym is) k.0
all_each (y ∷ ys) (suc i) x k few is = all_each ys i x k.1 (omega (arith, few)) is

-- variables

and_both : (a b : Bool) → a ≡ true → b ≡ true → (a && b) ≡ true
and_both true true h k = refl
and_both true false h k = k
and_both false b h k = h

no_name : (bare has : Bool) (it kind : NodeType) → bare ≡ true → is_type kind (cond (not bare && has) (Some it) None) ≡ true → ⊥
no_name true has it kind b h = absurd (cc h)
no_name false has it kind b h = absurd (cc b)

name_constant : (g : Around) (ks : List SlType) (name : Predefined) (kind : NodeType) → g.bare ≡ true →
    is_type kind (read_type g ks (variables.Predefined name)) ≡ true → IsConstant (L.read (variables.Predefined name))
name_constant g ks names.Pi kind b h = tt
name_constant g ks name kind b h = absurd (no_name g.bare (reads g.kind g.lit name) _ kind b h)

variable_constant : (g : Around) (ks : List SlType) (x : Variable) (kind : NodeType) → g.bare ≡ true → is_type kind (read_type g ks x) ≡ true → IsConstant (L.read x)
variable_constant g ks (variables.Predefined name) kind b h = name_constant g ks name kind b h
variable_constant g ks (variables.Level k) kind b h = tt

set_level : (g : Around) (ks : List SlType) (x : Variable) (kind : NodeType) → g.bare ≡ true → is_type kind (set_type g ks x) ≡ true → IsLevel x
set_level g ks (variables.Predefined name) kind b h = absurd (no_name g.bare (writes g.kind name) _ kind b h)
set_level g ks (variables.Level k) kind b h = tt

-- operations

last_constant : (es : C.Exprs) → AreConstant es → AreConstant (L.last es)
last_constant C.none k = k
last_constant (C.more e C.none) k = k
last_constant (C.more e (C.more f rest)) k = last_constant (C.more f rest) k.1

operands_constant : (op : ValueOperation) (es : C.Exprs) → AreConstant es → AreConstant (L.operands op es)
operands_constant (ops.Transform from into) es k = last_constant es k
operands_constant (ops.VTransform from into) es k = last_constant es k
operands_constant (ops.NTransform from into) es k = last_constant es k
operands_constant op es k = k

no_look : (has default : Bool) → default ≡ true → (has && (false || not default)) ≡ true → ⊥
no_look true true d h = absurd (cc h)
no_look false true d h = absurd (cc h)
no_look has false d h = absurd (cc d)

operated_constant : (g : Around) (op : Operation) (args : T.Exprs) (n : ℕ) (es : C.Exprs) → g.default ≡ true → stands g op args ≡ true → is_plain op ≡ true → AreConstant es → IsConstant (L.operated op n es)
operated_constant g (operations.Value op) args n es d s h k = operands_constant op es k
operated_constant g operations.FaceForwardNg args n es d s h k = absurd (cc h)
operated_constant g (operations.Difference which) args n es d s h k = absurd (cc h)
operated_constant g (operations.Sum which) args n es d s h k = absurd (cc h)
operated_constant g (operations.Look look) args n es d s h k = absurd (no_look (has_surface g.kind) g.default d s)

put_constant : (operator : SetOperator) (x : Variable) (e : C.Expr) → IsLevel x → IsConstant e → IsConstant (L.put_into operator x e)
put_constant sets.Set x e h k = k
put_constant sets.Add x e h k = (h, (k, tt))
put_constant sets.Subtract x e h k = (h, (k, tt))
put_constant sets.Multiply x e h k = (h, (k, tt))
put_constant sets.Divide x e h k = (h, (k, tt))

no_lights : (has default rest : Bool) → default ≡ true → ((has && not default) && rest) ≡ true → ⊥
no_lights true true rest d h = absurd (cc h)
no_lights false true rest d h = absurd (cc h)
no_lights has false rest d h = absurd (cc d)

-- under uniform conditions all points leave a statement together
mutual
  together : (g : Around) (ks : List SlType) (s : T.Stmt) (us : List Bool) (u : Bool) → g.default ≡ true → u ≡ true →
      typed_stmt g ks s ≡ true → stmt_uniform s us ≡ true → leaves_together s us u ≡ true
  together g ks (empty p) us u d c t h = refl
  together g ks (leave p) us u d c t h = c
  together g ks (again p) us u d c t h = c
  together g ks (block body p) us u d c t h = all_together g ks body us u d c t h
  together g ks (group body) us u d c t h = all_together g ks body us u d c t h
  together g ks (declare uniform kind e p) us u d c t h = refl
  together g ks (start uniform kind p) us u d c t h = refl
  together g ks (assign x operator kind e p) us u d c t h = refl
  together g ks (test e s p) us u d c t h =
      let a = and_parts (is_uniform e us) (stmt_uniform s us) h in
      let b = and_parts (typed g ks e) _ (and_parts (is_test (kind_of e)) _ t).1 in
      together g ks s us (u && is_uniform e us) d (and_both u (is_uniform e us) c a.0) b.1 a.1
  together g ks (test_else e s r p) us u d c t h =
      let a = and_parts (is_uniform e us) (stmt_uniform s us && stmt_uniform r us) h in
      let both = and_parts (stmt_uniform s us) (stmt_uniform r us) a.1 in
      let b = and_parts (typed g ks e) _ (and_parts (is_test (kind_of e)) _ t).1 in
      let branches = and_parts (typed_stmt g ks s) (typed_stmt g ks r) b.1 in
      let inside = and_both u (is_uniform e us) c a.0 in
      and_both _ _ (together g ks s us (u && is_uniform e us) d inside branches.0 both.0) (together g ks r us (u && is_uniform e us) d inside branches.1 both.1)
  together g ks (repeat e s p) us u d c t h = refl
  together g ks (steps a e b s p) us u d c t h = refl
  together g ks (lights over args s p) us u d c t h = absurd (no_lights (has_lights g.kind over) g.default _ d t)

  all_together : (g : Around) (ks : List SlType) (ss : T.Stmts) (us : List Bool) (u : Bool) → g.default ≡ true → u ≡ true →
      typed_stmts g ks ss ≡ true → stmts_uniform ss us ≡ true → leave_together ss us u ≡ true
  all_together g ks done us u d c t h = refl
  all_together g ks (first s rest) us u d c t h =
      let a = and_parts (stmt_uniform s us) (stmts_uniform rest (after s us)) h in
      let b = and_parts (typed_stmt g ks s) (typed_stmts g (types_after s ks) rest) t in
      and_both _ _ (together g ks s us u d c b.0 a.0) (all_together g (types_after s ks) rest (after s us) u d c b.1 a.1)

loop_uniform : (g : Around) (ks : List SlType) (e : T.Expr) (s : T.Stmt) (us : List Bool) (u : Bool) → g.default ≡ true → u ≡ true →
    is_uniform e us ≡ true → typed_stmt g ks s ≡ true → stmt_uniform s us ≡ true → is_uniform_loop e s us u ≡ true
loop_uniform g ks e s us u d c h t k =
    and_both u (is_uniform e us && leaves_together s us true) c (and_both (is_uniform e us) (leaves_together s us true) h (together g ks s us true d refl t k))

mutual
  pub expr_constant : (g : Around) (ks : List SlType) (e : T.Expr) (us : List Bool) (u : Bool) → g.default ≡ true → g.bare ≡ true → u ≡ true →
      typed g ks e ≡ true → is_uniform e us ≡ true → IsConstant (L.expr e us u)
  expr_constant g ks (number x p) us u d b c t h = tt
  expr_constant g ks (word text p) us u d b c t h = tt
  expr_constant g ks (variable x kind p) us u d b c t h = variable_constant g ks x kind b t
  expr_constant g ks (apply operation args kind p) us u d b c t h =
      let a = and_parts (is_plain operation) (are_uniform args us) h in
      let e = and_parts (stands g operation args) (typed_args g ks args) (and_parts _ _ t).1 in
      operated_constant g operation args p.number (L.exprs args us u) d e.0 a.0 (exprs_constant g ks args us u d b c e.1 a.1)
  expr_constant g ks (call args formals body returned value kind p) us u d b c t h =
      let t1 = and_parts (fits formals args) _ t in
      let t2 = and_parts (typed_args g ks args) _ t1.1 in
      let t3 = and_parts (typed_stmts (in_function g) (formal_types formals) body) _ t2.1 in
      let t4 = and_parts (typed (in_function g) (types_after_all body (formal_types formals)) value) _ t3.1 in
      let h1 = and_parts (are_uniform args us) _ h in
      let h2 = and_parts (all_uniform (formal_classes formals)) _ h1.1 in
      let h3 = and_parts (stmts_uniform body (formal_classes formals)) _ h2.1 in (
        arguments_constant g ks args formals us u d b c t2.0 h1.0,
        (
          stmts_constant (in_function g) (formal_types formals) body (formal_classes formals) u d refl c t3.0 h3.0,
          expr_constant (in_function g) (types_after_all body (formal_types formals)) value (after_all body (formal_classes formals)) u d refl c t4.0 h3.1,
        ),
      )

  exprs_constant : (g : Around) (ks : List SlType) (es : T.Exprs) (us : List Bool) (u : Bool) → g.default ≡ true → g.bare ≡ true → u ≡ true →
      typed_args g ks es ≡ true → are_uniform es us ≡ true → AreConstant (L.exprs es us u)
  exprs_constant g ks none us u d b c t h = tt
  exprs_constant g ks (more e rest) us u d b c t h =
      let a = and_parts (typed g ks e) (typed_args g ks rest) t in
      let k = and_parts (is_uniform e us) (are_uniform rest us) h in
      (expr_constant g ks e us u d b c a.0 k.0, exprs_constant g ks rest us u d b c a.1 k.1)

  arguments_constant : (g : Around) (ks : List SlType) (es : T.Exprs) (fs : List TreeFormal) (us : List Bool) (u : Bool) → g.default ≡ true → g.bare ≡ true → u ≡ true →
      typed_args g ks es ≡ true → are_uniform es us ≡ true → ArgumentsConstant (L.arguments es fs us u)
  arguments_constant g ks none fs us u d b c t h = tt
  arguments_constant g ks (more e rest) [] us u d b c t h = tt
  arguments_constant g ks (more e rest) (f ∷ fs) us u d b c t h =
      let a = and_parts (typed g ks e) (typed_args g ks rest) t in
      let k = and_parts (is_uniform e us) (are_uniform rest us) h in
      (expr_constant g ks e us u d b c a.0 k.0, arguments_constant g ks rest fs us u d b c a.1 k.1)

  stmt_constant : (g : Around) (ks : List SlType) (s : T.Stmt) (us : List Bool) (u : Bool) → g.default ≡ true → g.bare ≡ true → u ≡ true →
      typed_stmt g ks s ≡ true → stmt_uniform s us ≡ true → StmtConstant (L.stmt s us u)
  stmt_constant g ks (empty p) us u d b c t h = tt
  stmt_constant g ks (leave p) us u d b c t h = tt
  stmt_constant g ks (again p) us u d b c t h = tt
  stmt_constant g ks (block body p) us u d b c t h = stmts_constant g ks body us u d b c t h
  stmt_constant g ks (group body) us u d b c t h = stmts_constant g ks body us u d b c t h
  stmt_constant g ks (declare uniform kind e p) us u d b c t h =
      expr_constant g ks e us u d b c (and_parts (takes kind (kind_of e)) _ t).1 (and_parts uniform (is_uniform e us) h).1
  stmt_constant g ks (start uniform kind p) us u d b c t h = tt
  stmt_constant g ks (assign x operator kind e p) us u d b c t h =
      let a = and_parts (is_type (node_type kind) (set_type g ks x)) _ t in
      let level = set_level g ks x (node_type kind) b a.0 in
      let value = expr_constant g ks e us u d b c (and_parts _ _ a.1).1 (and_parts (class_of x us) (is_uniform e us) h).1 in
      (level, put_constant operator x (L.expr e us u) level value)
  stmt_constant g ks (test e s p) us u d b c t h =
      let a = and_parts (is_uniform e us) (stmt_uniform s us) h in
      let t1 = and_parts (typed g ks e) _ (and_parts (is_test (kind_of e)) _ t).1 in
      (expr_constant g ks e us u d b c t1.0 a.0, ((stmt_constant g ks s us (u && is_uniform e us) d b (and_both u (is_uniform e us) c a.0) t1.1 a.1, tt), tt))
  stmt_constant g ks (test_else e s r p) us u d b c t h =
      let a = and_parts (is_uniform e us) (stmt_uniform s us && stmt_uniform r us) h in
      let both = and_parts (stmt_uniform s us) (stmt_uniform r us) a.1 in
      let t1 = and_parts (typed g ks e) _ (and_parts (is_test (kind_of e)) _ t).1 in
      let branches = and_parts (typed_stmt g ks s) (typed_stmt g ks r) t1.1 in
      let inside = and_both u (is_uniform e us) c a.0 in (
        expr_constant g ks e us u d b c t1.0 a.0,
        (
          (stmt_constant g ks s us (u && is_uniform e us) d b inside branches.0 both.0, tt),
          (stmt_constant g ks r us (u && is_uniform e us) d b inside branches.1 both.1, tt),
        ),
      )
  stmt_constant g ks (repeat e s p) us u d b c t h =
      let a = and_parts (is_uniform e us) (stmt_uniform s us) h in
      let t1 = and_parts (typed g ks e) _ (and_parts (is_test (kind_of e)) _ t).1 in
      let own = loop_uniform (in_loop g) ks e s us u d c a.0 t1.1 a.1 in (
        own,
        (
          expr_constant g ks e us (is_uniform_loop e s us u) d b own t1.0 a.0,
          (
            tt,
            (stmt_constant (in_loop g) ks s us (is_uniform_loop e s us u) d b own t1.1 a.1, tt),
          ),
        ),
      )
  stmt_constant g ks (steps before e step s p) us u d b c t h =
      let h1 = and_parts (stmts_uniform before us) _ h in
      let h2 = and_parts (is_uniform e us) _ h1.1 in
      let h3 = and_parts (stmts_uniform step us) (stmt_uniform s us) h2.1 in
      let t1 = and_parts (typed_stmts g ks before) _ (and_parts (is_set before && is_set step) _ t).1 in
      let t2 = and_parts (is_test (kind_of e)) _ t1.1 in
      let t3 = and_parts (typed g ks e) _ t2.1 in
      let t4 = and_parts (typed_stmts g ks step) _ t3.1 in
      let own = loop_uniform (in_loop g) ks e s us u d c h2.0 t4.1 h3.1 in (
        stmts_constant g ks before us u d b c t1.0 h1.0,
        (
          (
            own,
            (
              expr_constant g ks e us (is_uniform_loop e s us u) d b own t3.0 h2.0,
              (
                stmts_constant g ks step us (is_uniform_loop e s us u) d b own t4.0 h3.0,
                (stmt_constant (in_loop g) ks s us (is_uniform_loop e s us u) d b own t4.1 h3.1, tt),
              ),
            ),
          ),
          tt,
        ),
      )
  stmt_constant g ks (lights over args s p) us u d b c t h = absurd (no_lights (has_lights g.kind over) g.default _ d t)

  stmts_constant : (g : Around) (ks : List SlType) (ss : T.Stmts) (us : List Bool) (u : Bool) → g.default ≡ true → g.bare ≡ true → u ≡ true →
      typed_stmts g ks ss ≡ true → stmts_uniform ss us ≡ true → AllConstant (L.stmts ss us u)
  stmts_constant g ks done us u d b c t h = tt
  stmts_constant g ks (first s rest) us u d b c t h =
      let a = and_parts (typed_stmt g ks s) (typed_stmts g (types_after s ks) rest) t in
      let k = and_parts (stmt_uniform s us) (stmts_uniform rest (after s us)) h in
      (stmt_constant g ks s us u d b c a.0 k.0, stmts_constant g (types_after s ks) rest (after s us) u d b c a.1 k.1)
