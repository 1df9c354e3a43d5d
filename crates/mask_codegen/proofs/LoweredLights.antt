-- A statement over lights stands in the core tree of a light exactly where an `illuminate` or `solar` stands in the light.
use Rattle.std.proofs.Common.{◌≡◌, ℕ, pos, Bool, true, false, ◌||◌, List, [], ◌∷◌, Ok, refl, sym, ap, ◌∙◌}
use Rattle.std.specs.Prelude.{◌&&◌, not}
use Rattle.std.proofs.Math.Bool.{or-true, or-false}
use Rattle.std.proofs.lemmas.Bool.{and_parts, and_right}
use Rattle.sl_ast.specs.declared.kinds.LightStmt.{LightStmt}
use Rattle.sl_ast.specs.declared.kinds.LightStmt.TheVariants.{Illuminance, Illuminate, Solar}
use Rattle.sl_ast.specs.declared.kinds.NodeType.{NodeType}
use Rattle.sl_ast.specs.declared.kinds.Predefined.{Predefined}
use Rattle.sl_ast.specs.declared.kinds.Predefined.TheVariants as names
use Rattle.sl_ast.specs.declared.kinds.SetOperator.{SetOperator}
use Rattle.sl_ast.specs.declared.kinds.SetOperator.TheVariants as sets
use Rattle.sl_ast.specs.declared.kinds.SlKind.{SlKind}
use Rattle.sl_ast.specs.declared.kinds.SlKind.TheVariants.{Light}
use Rattle.sl_ast.specs.declared.kinds.SlType.{SlType}
use Rattle.sl_ast.specs.declared.kinds.SpaceName.{SpaceName}
use Rattle.sl_ast.specs.declared.operations.Difference.{Difference}
use Rattle.sl_ast.specs.declared.operations.Difference.TheVariants as differences
use Rattle.sl_ast.specs.declared.operations.Look.TheVariants as looks
use Rattle.sl_ast.specs.declared.operations.Operation.{Operation}
use Rattle.sl_ast.specs.declared.operations.Operation.TheVariants as operations
use Rattle.sl_ast.specs.declared.operations.ValueOperation.{ValueOperation}
use Rattle.sl_ast.specs.declared.operations.ValueOperation.TheVariants as ops
use Rattle.sl_ast.specs.declared.typed.TreeFormal.{TreeFormal}
use Rattle.sl_ast.specs.declared.typed.Value.TheVariants.{Number}
use Rattle.sl_ast.specs.declared.typed.Variable.{Variable}
use Rattle.sl_ast.specs.declared.typed.Variable.TheVariants as variables
use Rattle.sl_ast.specs.Names.{has_lights, is_surface}
use Rattle.sl_ast.specs.Typed as T
use Rattle.sl_ast.specs.Classes as classes
use Rattle.sl_ast.specs.Classes.{formal_classes, local_classes, is_uniform, is_uniform_loop}
use Rattle.sl_ast.specs.Rules.{rule}
use Rattle.sl_ast.specs.declared.kinds.ControlCode.TheVariants.{T3}
use Rattle.sl_ast.specs.Settled.{◌then◌, Spot, IsSettled, is_varying_string, settled_word, settled_expr, settled_args, settled_stmt, settled_stmts, outermost, settled_default, settled_defaults, settles}
use Rattle.sl_ast.specs.WellTyped.{Around, in_function, in_lights, in_loop, in_default, in_shader, is_type, operands, fits, names_space, names_spaces, stands, formal_types, local_types, types_after, types_after_all, typed, typed_args, typed_stmt, typed_stmts, typed_defaults, well_typed}
use Rattle.uniform_varying.proofs.Parts.{then_parts, unless_parts, apply_parts, call_parts, more_parts, declare_parts, start_parts, assign_parts, test_parts, branch_parts, repeat_parts, steps_parts, lights_parts, first_parts, tree_parts, illuminate_first, solar_first}
use Rattle.sl_meaning.specs.Core as C
use Rattle.sl_meaning.specs.Lowered as lowered
use Rattle.sl_meaning.specs.Lowered.{expr, exprs, arguments, stmt, stmts, put_into, read, with_last, body_of}
use Rattle.sl_meaning.specs.Runs.{is_lit}
use Rattle.mask_codegen.specs.CoreLights.{lights_in, lights_in_exprs, lights_in_args, lights_in_stmt, lights_in_all}
use Rattle.mask_codegen.proofs.LoweredStays.{lights_typed}

-- whether one stands in either of two parts, where `lit` says that one has stood before; d says that this is no parameter's default, which holds none
either : (d lit mid after x y : Bool) → mid ≡ (lit || (d && x)) → after ≡ (mid || (d && y)) → after ≡ (lit || (d && (x || y)))
either true true mid after x y h k = k ∙ ap (λ b. b || y) h
either true false mid after x y h k = k ∙ ap (λ b. b || y) h
either false lit mid after x y h k = k ∙ or-false mid ∙ h

turned : (a b : Bool) → (a || b) ≡ (b || a)
turned true b = sym (or-true b)
turned false b = sym (or-false b)

none_here : (d lit after x : Bool) → x ≡ false → lit ≡ after → after ≡ (lit || (d && x))
none_here d lit after x h q = sym q ∙ sym (or-false lit) ∙ ap (λ b. lit || b) (sym (and_right d x h))

-- reading a variable holds none, and what is put behind operands neither
read_unlit : (x : Variable) → lights_in (read x) ≡ false
read_unlit (variables.Predefined p) = predefined p
  where
    predefined : (p : Predefined) → lights_in (read (variables.Predefined p)) ≡ false
    predefined names.Pi = refl
    predefined p = refl
read_unlit (variables.Level k) = refl

behind : (es : C.Exprs) (x : C.Expr) → lights_in x ≡ false → lights_in_exprs (with_last es x) ≡ lights_in_exprs es
behind C.none x h = or-false _ ∙ h
behind (C.more e rest) x h = ap (λ b. lights_in e || b) (behind rest x h)

-- a space's name holds none
named_unlit : (g : Around) (space : SpaceName) (a : T.Expr) (us : List Bool) (u : Bool) → names_space g space a ≡ true → lights_in (expr a us u) ≡ false
named_unlit g space (T.word text p) us u h = refl
named_unlit g space (T.number x p) us u h = absurd (cc h)
named_unlit g space (T.variable x kind p) us u h = absurd (cc h)
named_unlit g space (T.apply operation args kind p) us u h = absurd (cc h)
named_unlit g space (T.call args formals body returned value kind p) us u h = absurd (cc h)

transformed : (g : Around) (from into : SpaceName) (args : T.Exprs) (us : List Bool) (u : Bool) → names_spaces g from into args ≡ true
    → lights_in_exprs (lowered.last (exprs args us u)) ≡ lights_in_exprs (exprs args us u)
transformed g from into T.none us u h = absurd (cc h)
transformed g from into (T.more a T.none) us u h = absurd (cc h)
transformed g from into (T.more a (T.more b T.none)) us u h = sym (ap (λ x. x || lights_in_exprs (exprs (T.more b T.none) us u)) (named_unlit g into a us u (and_parts _ _ h).1))
transformed g from into (T.more a (T.more b (T.more c T.none))) us u h =
    let parts = and_parts _ _ h in
    sym (ap (λ x. x || lights_in_exprs (exprs (T.more b (T.more c T.none)) us u)) (named_unlit g from a us u parts.0) ∙ ap (λ x. x || lights_in_exprs (exprs (T.more c T.none) us u)) (named_unlit g into b us u parts.1))
transformed g from into (T.more a (T.more b (T.more c (T.more d rest)))) us u h = absurd (cc h)

operands_same : (op : ValueOperation) (g : Around) (args : T.Exprs) (us : List Bool) (u : Bool) → stands g (operations.Value op) args ≡ true
    → lights_in_exprs (lowered.operands op (exprs args us u)) ≡ lights_in_exprs (exprs args us u)
operands_same (ops.Transform from into) g args us u h = transformed g from into args us u h
operands_same (ops.VTransform from into) g args us u h = transformed g from into args us u h
operands_same (ops.NTransform from into) g args us u h = transformed g from into args us u h
operands_same op g args us u h = refl

-- a difference has one operand
difference_same : (d : Difference) (args : T.Exprs) (kind : NodeType) (us : List Bool) (u : Bool) → is_type kind (rule (operations.Difference d) (operands args)) ≡ true
    → lights_in (lowered.difference_of d (exprs args us u)) ≡ lights_in_exprs (exprs args us u)
difference_same differences.Du T.none kind us u h = absurd (cc h)
difference_same differences.Dv T.none kind us u h = absurd (cc h)
difference_same differences.CalculateNormal T.none kind us u h = absurd (cc h)
difference_same d (T.more e T.none) kind us u h = sym (or-false _)
difference_same differences.Du (T.more e (T.more a T.none)) kind us u h = absurd (cc h)
difference_same differences.Du (T.more e (T.more a (T.more b T.none))) kind us u h = absurd (cc h)
difference_same differences.Du (T.more e (T.more a (T.more b (T.more f rest)))) kind us u h = absurd (cc h)
difference_same differences.Dv (T.more e (T.more a T.none)) kind us u h = absurd (cc h)
difference_same differences.Dv (T.more e (T.more a (T.more b T.none))) kind us u h = absurd (cc h)
difference_same differences.Dv (T.more e (T.more a (T.more b (T.more f rest)))) kind us u h = absurd (cc h)
difference_same differences.CalculateNormal (T.more e (T.more a T.none)) kind us u h = absurd (cc h)
difference_same differences.CalculateNormal (T.more e (T.more a (T.more b T.none))) kind us u h = absurd (cc h)
difference_same differences.CalculateNormal (T.more e (T.more a (T.more b (T.more f rest)))) kind us u h = absurd (cc h)

operated_same : (operation : Operation) (n : ℕ) (args : T.Exprs) (kind : NodeType) (g : Around) (us : List Bool) (u : Bool)
    → is_type kind (rule operation (operands args)) ≡ true → stands g operation args ≡ true → lights_in (lowered.operated operation n (exprs args us u)) ≡ lights_in_exprs (exprs args us u)
operated_same (operations.Value op) n args kind g us u h k = operands_same op g args us u k
operated_same operations.FaceForwardNg n args kind g us u h k = behind (exprs args us u) (C.read (variables.Predefined names.Ng)) refl
operated_same (operations.Difference d) n args kind g us u h k = difference_same d args kind us u h
operated_same (operations.Sum s) n args kind g us u h k = refl
operated_same (operations.Look looks.At) n args kind g us u h k = refl
operated_same (operations.Look looks.Here) n args kind g us u h k =
    behind (with_last (exprs args us u) (C.read (variables.Predefined names.S))) (C.read (variables.Predefined names.T)) refl ∙ behind (exprs args us u) (C.read (variables.Predefined names.S)) refl
operated_same (operations.Look looks.First) n args kind g us u h k = behind (exprs args us u) (C.literal (Number (pos 0))) refl

put_same : (x : Variable) (operator : SetOperator) (e : C.Expr) → lights_in (put_into operator x e) ≡ lights_in e
put_same x sets.Set e = refl
put_same x sets.Add e = or-false _
put_same x sets.Subtract e = or-false _
put_same x sets.Multiply e = or-false _
put_same x sets.Divide e = or-false _

-- where no `illuminance` stands, a statement over lights is one that lights, and stands in no default
word_lit : (kind : SlKind) (default : Bool) (over : LightStmt) (line : ℕ) (c : Spot) (lit after : Bool) → (is_surface kind && not default) ≡ false → (has_lights kind over && not default) ≡ true
    → settled_word over line c lit ≡ Ok after → after ≡ true
word_lit kind default Illuminance line c lit after k h w = absurd (cc (k, h))
word_lit kind default Illuminate line c lit after k h w = sym (illuminate_first line c lit after w).1
word_lit kind default Solar line c lit after k h w = sym (solar_first line c lit after w).1

-- a statement alone in a list
alone_has : (d lit after : Bool) (s : C.Stmt) → after ≡ (lit || (d && lights_in_stmt s)) → after ≡ (lit || (d && lights_in_all (lowered.alone s)))
alone_has d lit after s h = h ∙ ap (λ b. lit || (d && b)) (sym (or-false _))

-- no `illuminance` stands there
abbrev NoneSeen : Around → Type 0
NoneSeen g = (is_surface g.kind && not g.default) ≡ false

mutual
  light_expr : (e : T.Expr) (g : Around) (ks : List SlType) (us : List Bool) (u : Bool) (c : Spot) (lit after : Bool) → NoneSeen g → typed g ks e ≡ true → settled_expr e us c lit ≡ Ok after
      → after ≡ (lit || (not g.default && lights_in (expr e us u)))
  light_expr (T.number x p) g ks us u c lit after k t h = none_here (not g.default) lit after false refl (cc h)
  light_expr (T.word text p) g ks us u c lit after k t h = none_here (not g.default) lit after false refl (cc h)
  light_expr (T.variable x kind p) g ks us u c lit after k t h = none_here (not g.default) lit after (lights_in (read x)) (read_unlit x) (cc h)
  light_expr (T.apply operation args kind p) g ks us u c lit after k t h =
      let outer = and_parts _ _ t in
      let inner = and_parts _ _ outer.1 in
      light_exprs args g ks us u c lit after k inner.1 (apply_parts operation args kind p us c lit after h).args_settled ∙
      ap (λ b. lit || (not g.default && b)) (sym (operated_same operation p.number args kind g us u outer.0 inner.0))
  light_expr (T.call args formals body returned value kind p) g ks us u c lit after k t h =
      let parts = call_parts args formals body returned value kind p us c lit after h in
      let fit = and_parts (fits formals args) _ t in
      let passed = and_parts (typed_args g ks args) _ fit.1 in
      let ran = and_parts (typed_stmts (in_function g) (formal_types formals) body) _ passed.1 in
      let given = and_parts (typed (in_function g) (types_after_all body (formal_types formals)) value) _ ran.1 in
      let inside =
      either (not g.default) lit parts.behind_body parts.behind_value _ _ (light_stmts body (in_function g) (formal_types formals) (formal_classes formals) u c lit parts.behind_body k ran.0 parts.body_settled)
      (light_expr value (in_function g) (types_after_all body (formal_types formals)) (classes.after_all body (formal_classes formals)) u c parts.behind_body parts.behind_value k given.0 parts.value_settled) in
      either (not g.default) lit parts.behind_value after _ _ inside (light_args args formals g ks us u c parts.behind_value after k passed.0 fit.0 parts.args_settled) ∙
      ap (λ b. lit || (not g.default && b)) (turned _ (lights_in_args (arguments args formals us u)))

  light_exprs : (args : T.Exprs) (g : Around) (ks : List SlType) (us : List Bool) (u : Bool) (c : Spot) (lit after : Bool) → NoneSeen g → typed_args g ks args ≡ true → settled_args args us c lit ≡ Ok after
      → after ≡ (lit || (not g.default && lights_in_exprs (exprs args us u)))
  light_exprs T.none g ks us u c lit after k t h = none_here (not g.default) lit after false refl (cc h)
  light_exprs (T.more e rest) g ks us u c lit after k t h =
      let parts = more_parts e rest us c lit after h in
      let both = and_parts (typed g ks e) (typed_args g ks rest) t in
      either (not g.default) lit parts.0 after _ _ (light_expr e g ks us u c lit parts.0 k both.0 parts.1.0) (light_exprs rest g ks us u c parts.0 after k both.1 parts.1.1)

  light_args : (args : T.Exprs) (formals : List TreeFormal) (g : Around) (ks : List SlType) (us : List Bool) (u : Bool) (c : Spot) (lit after : Bool) → NoneSeen g → typed_args g ks args ≡ true
      → fits formals args ≡ true → settled_args args us c lit ≡ Ok after → after ≡ (lit || (not g.default && lights_in_args (arguments args formals us u)))
  light_args T.none formals g ks us u c lit after k t f h = none_here (not g.default) lit after false refl (cc h)
  light_args (T.more e rest) [] g ks us u c lit after k t f h = absurd (cc f)
  light_args (T.more e rest) (x ∷ xs) g ks us u c lit after k t f h =
      let parts = more_parts e rest us c lit after h in
      let both = and_parts (typed g ks e) (typed_args g ks rest) t in
      either (not g.default) lit parts.0 after _ _ (light_expr e g ks us u c lit parts.0 k both.0 parts.1.0) (light_args rest xs g ks us u c parts.0 after k both.1 (and_parts _ _ f).1 parts.1.1)

  light_stmt : (s : T.Stmt) (g : Around) (ks : List SlType) (us : List Bool) (u : Bool) (c : Spot) (lit after : Bool) → NoneSeen g → typed_stmt g ks s ≡ true → settled_stmt s us c lit ≡ Ok after
      → after ≡ (lit || (not g.default && lights_in_stmt (stmt s us u)))
  light_stmt (T.empty p) g ks us u c lit after k t h = none_here (not g.default) lit after false refl (cc h)
  light_stmt (T.leave p) g ks us u c lit after k t h = none_here (not g.default) lit after false refl (cc h)
  light_stmt (T.again p) g ks us u c lit after k t h = none_here (not g.default) lit after false refl (cc h)
  light_stmt (T.block body p) g ks us u c lit after k t h = light_stmts body g ks us u c lit after k t h
  light_stmt (T.group body) g ks us u c lit after k t h = light_stmts body g ks us u c lit after k t h
  light_stmt (T.declare uniform kind e p) g ks us u c lit after k t h =
      light_expr e g ks us u c lit after k (and_parts _ _ t).1 (declare_parts uniform kind e p us c lit after h).value_settled
  light_stmt (T.start uniform kind p) g ks us u c lit after k t h = none_here (not g.default) lit after false refl (start_parts uniform kind p us c lit after h).1
  light_stmt (T.assign x operator kind e p) g ks us u c lit after k t h =
      light_expr e g ks us u c lit after k (and_parts _ _ (and_parts _ _ t).1).1 (assign_parts x operator kind e p us c lit after h).value_settled ∙
      ap (λ b. lit || (not g.default && b)) (sym (put_same x operator (expr e us u)))
  light_stmt (T.test e s p) g ks us u c lit after k t h =
      let parts = test_parts e s p us c lit after h in
      let both = and_parts _ _ (and_parts _ _ t).1 in
      either (not g.default) lit parts.0 after _ _ (light_expr e g ks us u c lit parts.0 k both.0 parts.1.0)
      (light_stmt s g ks us (u && is_uniform e us) _ parts.0 after k both.1 parts.1.1 ∙ ap (λ b. parts.0 || (not g.default && b)) (sym (or-false _ ∙ or-false _)))
  light_stmt (T.test_else e s r p) g ks us u c lit after k t h =
      let parts = branch_parts e s r p us c lit after h in
      let outer = and_parts _ _ (and_parts _ _ t).1 in
      let branches = and_parts (typed_stmt g ks s) (typed_stmt g ks r) outer.1 in
      either (not g.default) lit parts.behind_test after _ _ (light_expr e g ks us u c lit parts.behind_test k outer.0 parts.test_settled)
      (either (not g.default) parts.behind_test parts.behind_first after _ _ (alone_has (not g.default) parts.behind_test parts.behind_first (stmt s us (u && is_uniform e us)) (light_stmt s g ks us (u && is_uniform e us) _ parts.behind_test parts.behind_first k branches.0 parts.first_settled))
      (alone_has (not g.default) parts.behind_first after (stmt r us (u && is_uniform e us)) (light_stmt r g ks us (u && is_uniform e us) _ parts.behind_first after k branches.1 parts.second_settled)))
  light_stmt (T.repeat e s p) g ks us u c lit after k t h =
      let parts = repeat_parts e s p us c lit after h in
      let both = and_parts _ _ (and_parts _ _ t).1 in
      let w = is_uniform_loop e s us u in
      either (not g.default) lit parts.0 after _ _ (light_expr e g ks us w _ lit parts.0 k both.0 parts.1.0) (alone_has (not g.default) parts.0 after (stmt s us w) (light_stmt s (in_loop g) ks us w _ parts.0 after k both.1 parts.1.1))
  light_stmt (T.steps a e b s p) g ks us u c lit after k t h =
      let parts = steps_parts a e b s p us c lit after h in
      let start = and_parts _ _ (and_parts _ _ t).1 in
      let test = and_parts _ _ (and_parts _ _ start.1).1 in
      let step = and_parts _ _ test.1 in
      let w = is_uniform_loop e s us u in
      either (not g.default) lit parts.behind_start after _ _ (light_stmts a g ks us u c lit parts.behind_start k start.0 parts.start_settled)
      (either (not g.default) parts.behind_start parts.behind_test after _ _ (light_expr e g ks us w _ parts.behind_start parts.behind_test k test.0 parts.test_settled)
      (either (not g.default) parts.behind_test parts.behind_step after _ _ (light_stmts b g ks us w _ parts.behind_test parts.behind_step k step.0 parts.step_settled)
      (alone_has (not g.default) parts.behind_step after (stmt s us w) (light_stmt s (in_loop g) ks us w _ parts.behind_step after k step.1 parts.body_settled))) ∙
      ap (λ b. parts.behind_start || (not g.default && b)) (sym (or-false _)))
  light_stmt (T.lights over args s p) g ks us u c lit after k t h =
      let parts = lights_parts over args s p us c lit after h in
      let inside = lights_typed g ks over args s p t in
      let stands = (and_parts (has_lights g.kind over && not g.default) _ t).0 in
      let word = word_lit g.kind g.default over p.line c lit parts.behind_word k stands parts.word_settled in
      either (not g.default) parts.behind_word parts.behind_args after _ _ (light_exprs args g ks us u c parts.behind_word parts.behind_args k inside.0 parts.args_settled)
      (light_stmt s (in_lights g) ks us false _ parts.behind_args after k inside.1 parts.body_settled) ∙
      ap (λ b. b || (not g.default && (lights_in_exprs (exprs args us u) || lights_in_stmt (stmt s us false)))) word ∙ sym (or-true lit) ∙
      ap (λ b. lit || (b && true)) (sym (and_parts (has_lights g.kind over) _ stands).1)

  light_stmts : (body : T.Stmts) (g : Around) (ks : List SlType) (us : List Bool) (u : Bool) (c : Spot) (lit after : Bool) → NoneSeen g → typed_stmts g ks body ≡ true → settled_stmts body us c lit ≡ Ok after
      → after ≡ (lit || (not g.default && lights_in_all (stmts body us u)))
  light_stmts T.done g ks us u c lit after k t h = none_here (not g.default) lit after false refl (cc h)
  light_stmts (T.first s rest) g ks us u c lit after k t h =
      let parts = first_parts s rest us c lit after h in
      let both = and_parts (typed_stmt g ks s) _ t in
      either (not g.default) lit parts.0 after _ _ (light_stmt s g ks us u c lit parts.0 k both.0 parts.1.0) (light_stmts rest g (types_after s ks) (classes.after s us) u c parts.0 after k both.1 parts.1.1)

-- none stands in the defaults of parameters
defaults_unlit : (kind : SlKind) (ls : List T.Local) (ds : List T.Default) (lit after : Bool) → typed_defaults kind ls ds ≡ true → settled_defaults ds ls lit ≡ Ok after → after ≡ lit
defaults_unlit kind ls [] lit after t h = cc h
defaults_unlit kind [] (d ∷ ds) lit after t h = absurd (cc t)
defaults_unlit kind (l ∷ ls) (d ∷ ds) lit after t h =
    let parts = then_parts (settled_default l d lit) (settled_defaults ds ls) after h in
    let own = unless_parts (is_varying_string l.uniform l.kind || not (is_uniform d.value [])) T3 d.place.line (settled_expr d.value [] outermost lit) parts.0 parts.1.0 in
    let both = and_parts (typed (in_default kind) [] d.value) (typed_defaults kind ls ds) (and_parts _ _ t).1 in
    defaults_unlit kind ls ds parts.0 after both.1 parts.1.1 ∙ light_expr d.value (in_default kind) [] [] true outermost lit parts.0 (and_right (is_surface kind) _ refl) both.0 own.1 ∙ or-false lit

-- the body of a light
pub light_has : (t : T.Tree) → well_typed t ≡ true → IsSettled t → t.kind ≡ Light → lights_in_all (body_of t) ≡ is_lit (settles t)
light_has t w h k =
    let parts = tree_parts t h in
    let typed_parts = and_parts (typed_defaults t.kind t.params t.defaults) _ w in
    let whole : settles t ≡ Ok parts.1.0 = ap (λ r. r then settled_stmts t.body (local_classes t.params) outermost) parts.1.1.0 ∙ parts.1.1.1 in
    let body =
    light_stmts t.body (in_shader t.kind) (local_types t.params) (local_classes t.params) true outermost parts.0 parts.1.0 (ap (λ x. is_surface x && true) k) typed_parts.1 parts.1.1.1 in
    sym (body ∙ ap (λ b. b || lights_in_all (body_of t)) (defaults_unlit t.kind t.params t.defaults false parts.0 typed_parts.0 parts.1.1.0)) ∙ sym (ap is_lit whole)
