-- An expression of the core tree is uniform exactly where the typed one is that it is made from.
use Rattle.std.proofs.Common.{◌≡◌, ℕ, pos, Bool, true, false, List, [], ◌∷◌, refl, sym, ap, ◌∙◌}
use Rattle.std.specs.Prelude.{◌&&◌}
use Rattle.std.proofs.lemmas.Bool.{and_parts, and_right}
use Rattle.sl_ast.specs.declared.kinds.NodeType.{NodeType}
use Rattle.sl_ast.specs.declared.kinds.Predefined.{Predefined}
use Rattle.sl_ast.specs.declared.kinds.Predefined.TheVariants as names
use Rattle.sl_ast.specs.declared.kinds.SetOperator.{SetOperator}
use Rattle.sl_ast.specs.declared.kinds.SetOperator.TheVariants as sets
use Rattle.sl_ast.specs.declared.kinds.SlType.{SlType}
use Rattle.sl_ast.specs.declared.kinds.SpaceName.{SpaceName}
use Rattle.sl_ast.specs.declared.operations.Difference.{Difference}
use Rattle.sl_ast.specs.declared.operations.Difference.TheVariants as differences
use Rattle.sl_ast.specs.declared.operations.Look.TheVariants as looks
use Rattle.sl_ast.specs.declared.operations.Operation.{Operation}
use Rattle.sl_ast.specs.declared.operations.Operation.TheVariants as operations
use Rattle.sl_ast.specs.declared.operations.ValueOperation.{ValueOperation}
use Rattle.sl_ast.specs.declared.operations.ValueOperation.TheVariants as ops
use Rattle.sl_ast.specs.declared.typed.TreeFormal.{TreeFormal}
use Rattle.sl_ast.specs.declared.typed.Value.{Value}
use Rattle.sl_ast.specs.declared.typed.Value.TheVariants.{Number}
use Rattle.sl_ast.specs.declared.typed.Variable.{Variable}
use Rattle.sl_ast.specs.declared.typed.Variable.TheVariants as variables
use Rattle.sl_ast.specs.Typed as T
use Rattle.sl_ast.specs.Classes as classes
use Rattle.sl_ast.specs.Classes.{class_of, is_plain, is_uniform_name, formal_classes}
use Rattle.sl_ast.specs.Rules.{rule, takes}
use Rattle.sl_ast.specs.WellTyped.{Around, in_function, in_lights, in_loop, is_type, kind_of, operands, fits, names_space, names_spaces, stands, formal_types, types_after, types_after_all, typed, typed_args, typed_stmt, typed_stmts}
use Rattle.sl_meaning.specs.Core as C
use Rattle.sl_meaning.specs.Core.{Slot, class_in}
use Rattle.sl_meaning.specs.Lowered as lowered
use Rattle.sl_meaning.specs.Lowered.{expr, exprs, arguments, stmt, stmts, put_into, read, with_last}
use Rattle.mask_codegen.specs.CoreClasses.{classes_of, ClassesAgree}
use Rattle.mask_codegen.proofs.LoweredScopes.{Scope, scope_after, scope_after_all, scope_of_formals, variable_class}

both : (a b c d : Bool) → a ≡ c → b ≡ d → (a && b) ≡ (c && d)
both a b c d h k = cc

one : (a : Bool) → (a && true) ≡ a
one true = refl
one false = refl

behind : (a x : Bool) → a ≡ true → (a && x) ≡ x
behind true x h = refl
behind false x h = absurd (cc h)

read_predefined : (p : Predefined) (ss : List Slot) → C.is_uniform (read (variables.Predefined p)) ss ≡ is_uniform_name p
read_predefined names.Pi ss = refl
read_predefined p ss = refl

read_class : (x : Variable) (ss : List Slot) (us : List Bool) → classes_of ss ≡ us → C.is_uniform (read x) ss ≡ class_of x us
read_class (variables.Predefined p) ss us q = read_predefined p ss
read_class (variables.Level k) ss us q = variable_class (variables.Level k) ss us q

-- behind the geometric normal nothing is uniform
normal_varies : (es : C.Exprs) (ss : List Slot) → C.are_uniform (with_last es (C.read (variables.Predefined names.Ng))) ss ≡ false
normal_varies C.none ss = refl
normal_varies (C.more e rest) ss = and_right (C.is_uniform e ss) _ (normal_varies rest ss)

-- nor behind the predefined t
place_varies : (es : C.Exprs) (ss : List Slot) → C.are_uniform (with_last es (C.read (variables.Predefined names.T))) ss ≡ false
place_varies C.none ss = refl
place_varies (C.more e rest) ss = and_right (C.is_uniform e ss) _ (place_varies rest ss)

-- a literal changes nothing
literal_behind : (es : C.Exprs) (v : Value) (ss : List Slot) → C.are_uniform (with_last es (C.literal v)) ss ≡ C.are_uniform es ss
literal_behind C.none v ss = refl
literal_behind (C.more e rest) v ss = ap (λ b. C.is_uniform e ss && b) (literal_behind rest v ss)

-- a space's name is a literal
named_space : (g : Around) (space : SpaceName) (a : T.Expr) (us : List Bool) (u : Bool) (ss : List Slot) → names_space g space a ≡ true → C.is_uniform (expr a us u) ss ≡ true
named_space g space (T.word text p) us u ss h = refl
named_space g space (T.number x p) us u ss h = absurd (cc h)
named_space g space (T.variable x kind p) us u ss h = absurd (cc h)
named_space g space (T.apply operation args kind p) us u ss h = absurd (cc h)
named_space g space (T.call args formals body returned value kind p) us u ss h = absurd (cc h)

-- so a transformation is uniform where its value is
transformed : (g : Around) (from into : SpaceName) (args : T.Exprs) (us : List Bool) (u : Bool) (ss : List Slot) → names_spaces g from into args ≡ true
    → C.are_uniform (lowered.last (exprs args us u)) ss ≡ C.are_uniform (exprs args us u) ss
transformed g from into T.none us u ss h = absurd (cc h)
transformed g from into (T.more a T.none) us u ss h = absurd (cc h)
transformed g from into (T.more a (T.more b T.none)) us u ss h = sym (behind _ _ (named_space g into a us u ss (and_parts _ _ h).1))
transformed g from into (T.more a (T.more b (T.more c T.none))) us u ss h =
    let parts = and_parts _ _ h in
    sym (behind _ _ (named_space g from a us u ss parts.0) ∙ behind _ _ (named_space g into b us u ss parts.1))
transformed g from into (T.more a (T.more b (T.more c (T.more d rest)))) us u ss h = absurd (cc h)

value_class : (op : ValueOperation) (g : Around) (args : T.Exprs) (us : List Bool) (u : Bool) (ss : List Slot) → stands g (operations.Value op) args ≡ true
    → C.are_uniform (lowered.operands op (exprs args us u)) ss ≡ C.are_uniform (exprs args us u) ss
value_class (ops.Transform from into) g args us u ss h = transformed g from into args us u ss h
value_class (ops.VTransform from into) g args us u ss h = transformed g from into args us u ss h
value_class (ops.NTransform from into) g args us u ss h = transformed g from into args us u ss h
value_class op g args us u ss h = refl

-- a difference has an operand
difference_class : (d : Difference) (args : T.Exprs) (kind : NodeType) (us : List Bool) (u : Bool) (ss : List Slot) → is_type kind (rule (operations.Difference d) (operands args)) ≡ true
    → C.is_uniform (lowered.difference_of d (exprs args us u)) ss ≡ false
difference_class differences.Du T.none kind us u ss h = absurd (cc h)
difference_class differences.Dv T.none kind us u ss h = absurd (cc h)
difference_class differences.CalculateNormal T.none kind us u ss h = absurd (cc h)
difference_class d (T.more e rest) kind us u ss h = refl

operated_class : (operation : Operation) (n : ℕ) (args : T.Exprs) (kind : NodeType) (g : Around) (us : List Bool) (u : Bool) (ss : List Slot)
    → is_type kind (rule operation (operands args)) ≡ true → stands g operation args ≡ true → C.are_uniform (exprs args us u) ss ≡ classes.are_uniform args us
    → C.is_uniform (lowered.operated operation n (exprs args us u)) ss ≡ (is_plain operation && classes.are_uniform args us)
operated_class (operations.Value op) n args kind g us u ss h k q = value_class op g args us u ss k ∙ q
operated_class operations.FaceForwardNg n args kind g us u ss h k q = normal_varies (exprs args us u) ss
operated_class (operations.Difference d) n args kind g us u ss h k q = difference_class d args kind us u ss h
operated_class (operations.Sum s) n args kind g us u ss h k q = refl
operated_class (operations.Look looks.At) n args kind g us u ss h k q = q
operated_class (operations.Look looks.Here) n args kind g us u ss h k q = place_varies (with_last (exprs args us u) (C.read (variables.Predefined names.S))) ss
operated_class (operations.Look looks.First) n args kind g us u ss h k q = literal_behind (exprs args us u) (Number (pos 0)) ss ∙ q

all_class : (ss : List Slot) → C.all_uniform ss ≡ classes.all_uniform (classes_of ss)
all_class [] = refl
all_class (s ∷ ss) = ap (λ r. s.uniform && r) (all_class ss)

set_twice : (a b : Bool) → (a && (a && (b && true))) ≡ (a && b)
set_twice true true = refl
set_twice true false = refl
set_twice false b = refl

put_class : (x : Variable) (operator : SetOperator) (e : C.Expr) (ss : List Slot) → (class_in x ss && C.is_uniform (put_into operator x e) ss) ≡ (class_in x ss && C.is_uniform e ss)
put_class x sets.Set e ss = refl
put_class x sets.Add e ss = set_twice (class_in x ss) (C.is_uniform e ss)
put_class x sets.Subtract e ss = set_twice (class_in x ss) (C.is_uniform e ss)
put_class x sets.Multiply e ss = set_twice (class_in x ss) (C.is_uniform e ss)
put_class x sets.Divide e ss = set_twice (class_in x ss) (C.is_uniform e ss)

-- an assigned value that may be put into a uniform variable is uniform where what is assigned is
pub put_takes : (x : Variable) (operator : SetOperator) (e : C.Expr) (ss : List Slot) → class_in x ss ≡ true → C.is_uniform e ss ≡ true → C.is_uniform (put_into operator x e) ss ≡ true
put_takes x operator e ss h k =
    let a = class_in x ss in
    sym (behind a (C.is_uniform (put_into operator x e) ss) h) ∙ put_class x operator e ss ∙ behind a (C.is_uniform e ss) h ∙ k

mutual
  pub expr_class : (e : T.Expr) (g : Around) (ks : List SlType) (us : List Bool) (u : Bool) (ss : List Slot) → classes_of ss ≡ us → typed g ks e ≡ true
      → C.is_uniform (expr e us u) ss ≡ classes.is_uniform e us
  expr_class (T.number x p) g ks us u ss q h = refl
  expr_class (T.word text p) g ks us u ss q h = refl
  expr_class (T.variable x kind p) g ks us u ss q h = read_class x ss us q
  expr_class (T.apply operation args kind p) g ks us u ss q h =
      let outer = and_parts (is_type kind (rule operation (operands args))) (stands g operation args && typed_args g ks args) h in
      let inner = and_parts (stands g operation args) (typed_args g ks args) outer.1 in
      operated_class operation p.number args kind g us u ss outer.0 inner.0 (exprs_class args g ks us u ss q inner.1)
  expr_class (T.call args formals body returned value kind p) g ks us u ss q h =
      let first_part = and_parts (fits formals args) _ h in
      let second = and_parts (typed_args g ks args) _ first_part.1 in
      let third = and_parts (typed_stmts (in_function g) (formal_types formals) body) _ second.1 in
      let fourth = and_parts (typed (in_function g) (types_after_all body (formal_types formals)) value) _ third.1 in
      let fs = C.formals (arguments args formals us u) in
      let inside = scope_of_formals args formals us u first_part.0 in
      let behind_body = scope_after_all body u fs (formal_classes formals) (formal_types formals) inside in
      both _ _ _ _ (args_class args formals g ks us u ss q second.0 first_part.0) (both _ _ _ _ (all_class fs ∙ ap classes.all_uniform inside.classes)
      (both _ _ _ _ (stmts_class body (in_function g) (formal_types formals) (formal_classes formals) u fs inside third.0)
      (expr_class value (in_function g) (types_after_all body (formal_types formals)) (classes.after_all body (formal_classes formals)) u _ behind_body.classes fourth.0)))

  pub exprs_class : (args : T.Exprs) (g : Around) (ks : List SlType) (us : List Bool) (u : Bool) (ss : List Slot) → classes_of ss ≡ us → typed_args g ks args ≡ true
      → C.are_uniform (exprs args us u) ss ≡ classes.are_uniform args us
  exprs_class T.none g ks us u ss q h = refl
  exprs_class (T.more e rest) g ks us u ss q h =
      let parts = and_parts (typed g ks e) (typed_args g ks rest) h in
      both _ _ _ _ (expr_class e g ks us u ss q parts.0) (exprs_class rest g ks us u ss q parts.1)

  pub args_class : (args : T.Exprs) (formals : List TreeFormal) (g : Around) (ks : List SlType) (us : List Bool) (u : Bool) (ss : List Slot) → classes_of ss ≡ us → typed_args g ks args ≡ true
      → fits formals args ≡ true → C.args_uniform (arguments args formals us u) ss ≡ classes.are_uniform args us
  args_class T.none formals g ks us u ss q h k = refl
  args_class (T.more e rest) [] g ks us u ss q h k = absurd (cc k)
  args_class (T.more e rest) (f ∷ fs) g ks us u ss q h k =
      let parts = and_parts (typed g ks e) (typed_args g ks rest) h in
      both _ _ _ _ (expr_class e g ks us u ss q parts.0) (args_class rest fs g ks us u ss q parts.1 (and_parts (takes f.kind (kind_of e)) (fits fs rest) k).1)

  pub stmt_class : (s : T.Stmt) (g : Around) (ks : List SlType) (us : List Bool) (u : Bool) (ss : List Slot) → Scope ss us ks → typed_stmt g ks s ≡ true
      → C.stmt_uniform (stmt s us u) ss ≡ classes.stmt_uniform s us
  stmt_class (T.empty p) g ks us u ss q h = refl
  stmt_class (T.leave p) g ks us u ss q h = refl
  stmt_class (T.again p) g ks us u ss q h = refl
  stmt_class (T.block body p) g ks us u ss q h = stmts_class body g ks us u ss q h
  stmt_class (T.group body) g ks us u ss q h = stmts_class body g ks us u ss q h
  stmt_class (T.declare uniform kind e p) g ks us u ss q h = ap (λ r. uniform && r) (expr_class e g ks us u ss q.classes (and_parts (takes kind (kind_of e)) (typed g ks e) h).1)
  stmt_class (T.start uniform kind p) g ks us u ss q h = one uniform
  stmt_class (T.assign x operator kind e p) g ks us u ss q h =
      put_class x operator (expr e us u) ss ∙
      both _ _ _ _ (variable_class x ss us q.classes) (expr_class e g ks us u ss q.classes (and_parts _ _ (and_parts _ _ h).1).1)
  stmt_class (T.test e s p) g ks us u ss q h =
      let parts = and_parts _ _ (and_parts _ _ h).1 in
      both _ _ _ _ (expr_class e g ks us u ss q.classes parts.0) (one _ ∙ one _ ∙ stmt_class s g ks us _ ss q parts.1)
  stmt_class (T.test_else e s r p) g ks us u ss q h =
      let outer = and_parts _ _ (and_parts _ _ h).1 in
      let parts = and_parts _ _ outer.1 in
      both _ _ _ _ (expr_class e g ks us u ss q.classes outer.0) (both _ _ _ _ (one _ ∙ stmt_class s g ks us _ ss q parts.0) (one _ ∙ stmt_class r g ks us _ ss q parts.1))
  stmt_class (T.repeat e s p) g ks us u ss q h =
      let parts = and_parts _ _ (and_parts _ _ h).1 in
      both _ _ _ _ (expr_class e g ks us _ ss q.classes parts.0) (one _ ∙ stmt_class s (in_loop g) ks us _ ss q parts.1)
  stmt_class (T.steps a e b s p) g ks us u ss q h =
      let start = and_parts _ _ (and_parts _ _ h).1 in
      let test = and_parts _ _ (and_parts _ _ start.1).1 in
      let step = and_parts _ _ test.1 in
      both _ _ _ _ (stmts_class a g ks us u ss q start.0) (one _ ∙
      both _ _ _ _ (expr_class e g ks us _ ss q.classes test.0) (both _ _ _ _ (stmts_class b g ks us _ ss q step.0) (one _ ∙ stmt_class s (in_loop g) ks us _ ss q step.1)))
  stmt_class (T.lights over args s p) g ks us u ss q h =
      let parts = and_parts _ _ (and_parts _ _ (and_parts _ _ h).1).1 in
      both _ _ _ _ (exprs_class args g ks us u ss q.classes parts.0) (one _ ∙ stmt_class s (in_lights g) ks us false ss q parts.1)

  pub stmts_class : (body : T.Stmts) (g : Around) (ks : List SlType) (us : List Bool) (u : Bool) (ss : List Slot) → Scope ss us ks → typed_stmts g ks body ≡ true
      → C.stmts_uniform (stmts body us u) ss ≡ classes.stmts_uniform body us
  stmts_class T.done g ks us u ss q h = refl
  stmts_class (T.first s rest) g ks us u ss q h =
      let parts = and_parts (typed_stmt g ks s) (typed_stmts g (types_after s ks) rest) h in
      both _ _ _ _ (stmt_class s g ks us u ss q parts.0) (stmts_class rest g (types_after s ks) (classes.after s us) u (C.after (stmt s us u) ss) (scope_after s u ss us ks q) parts.1)

pub classes_agree : ClassesAgree
classes_agree e g kinds us u ss q h = expr_class e g kinds us u ss q h
