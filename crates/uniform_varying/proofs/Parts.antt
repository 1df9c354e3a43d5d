-- What the parts of a settled tree are: each law takes one node apart. `lit` says whether an `illuminate` or `solar` has
-- stood before the node, `after` whether one has stood behind it.
use Rattle.std.proofs.Common.{◌≡◌, ℕ, Bool, true, false, ◌&&◌, ◌||◌, not, List, [], ◌∷◌, Ok, Err, None, refl, sym, ap, subst}
use Rattle.std.specs.List.{All}
use Rattle.std.proofs.lemmas.Bool.{or_parts}
use Rattle.std.proofs.lemmas.List.Elements.{All-nil, All-cons}
use Rattle.sl_ast.specs.declared.kinds.ControlCode.{ControlCode}
use Rattle.sl_ast.specs.declared.kinds.ControlCode.TheVariants.{T3, T4, T5, T9, T11}
use Rattle.sl_ast.specs.declared.kinds.LightStmt.{LightStmt}
use Rattle.sl_ast.specs.declared.kinds.LightStmt.TheVariants.{Illuminance, Illuminate, Solar}
use Rattle.sl_ast.specs.declared.kinds.NodeType.{NodeType}
use Rattle.sl_ast.specs.declared.operations.Operation.{Operation}
use Rattle.sl_ast.specs.declared.kinds.SetOperator.{SetOperator}
use Rattle.sl_ast.specs.declared.kinds.SlType.{SlType}
use Rattle.sl_ast.specs.declared.typed.Place.{Place}
use Rattle.sl_ast.specs.declared.typed.TreeFormal.{TreeFormal}
use Rattle.sl_ast.specs.declared.typed.Variable.{Variable}
use Rattle.sl_ast.specs.Typed.{Expr, apply, call, Exprs, more, Stmt, declare, start, assign, test, test_else, repeat, steps, lights, Stmts, first, Tree}
use Rattle.sl_ast.specs.Classes.{class_of, formal_classes, local_classes, after as scope_after, after_all, is_uniform, is_uniform_loop, leaves_together}
use Rattle.sl_ast.specs.Settled.{Spot, Settles, ◌then◌, unless, is_varying_string, asks_neighbours, is_component, index_varies, varies_into, goes_wrong, settled_formals, in_control, in_loop, in_lights, settled_word, settled_operation, settled_declare, settled_set, settled_expr, settled_args, settled_stmt, settled_stmts, outermost, settled_defaults, fault_of, settles, IsSettled}

-- both of two that are looked at one after another
pub then_parts : (r : Settles) (next : Bool → Settles) (after : Bool) → r then next ≡ Ok after → (mid : Bool) × ((r ≡ Ok mid) × (next mid ≡ Ok after))
then_parts (Ok mid) next after h = (mid, (refl, h))
then_parts (Err e) next after h = absurd (cc h)

-- what would be refused isn't there
pub unless_parts : (wrong : Bool) (code : ControlCode) (line : ℕ) (next : Settles) (after : Bool) → unless wrong code line next ≡ Ok after → (wrong ≡ false) × (next ≡ Ok after)
unless_parts true code line next after h = absurd (cc h)
unless_parts false code line next after h = (refl, h)

same_ok : (lit mid : Bool) (r : Settles) → r ≡ Ok lit → r ≡ Ok mid → lit ≡ mid
same_ok lit mid r h k = cc

-- of two conditions that may not hold without each other
pub needs : (w b : Bool) → (w && not b) ≡ false → w ≡ true → b ≡ true
needs true true h e = refl
needs true false h e = absurd (cc h)
needs false b h e = absurd (cc e)

pub lacks : (w b : Bool) → (w && not b) ≡ false → b ≡ false → w ≡ false
lacks false b h e = refl
lacks true true h e = absurd (cc e)
lacks true false h e = absurd (cc h)

-- a loop in varying control is not uniform
pub own_loop : (e : Expr) (s : Stmt) (us : List Bool) (u : Bool) → u ≡ false → is_uniform_loop e s us u ≡ false
own_loop e s us u h = ap (λ b. b && (is_uniform e us && leaves_together s us true)) h

-- a varying operand is no index of `comp`, and neighbours are asked in uniform control alone
pub record ApplyParts (operation : Operation) (args : Exprs) (us : List Bool) (c : Spot) (lit after : Bool) : Type 0 where
  pub index_uniform : (is_component operation && index_varies args us) ≡ false
  pub control_uniform : (asks_neighbours operation && not c.uniform) ≡ false
  pub args_settled : settled_args args us c lit ≡ Ok after

pub apply_parts : (operation : Operation) (args : Exprs) (kind : NodeType) (p : Place) (us : List Bool) (c : Spot) (lit after : Bool)
    → settled_expr (apply operation args kind p) us c lit ≡ Ok after → ApplyParts operation args us c lit after
apply_parts operation args kind p us c lit after h =
    let t = then_parts (settled_operation operation args p.line us c lit) (settled_args args us c) after h in
    let index = unless_parts (is_component operation && index_varies args us) T3 p.line (unless (asks_neighbours operation && not c.uniform) T5 p.line (Ok lit)) t.0 t.1.0 in
    let control = unless_parts (asks_neighbours operation && not c.uniform) T5 p.line (Ok lit) t.0 index.1 in
    let same : lit ≡ t.0 = same_ok lit t.0 (Ok lit) refl control.1 in
    record { index_uniform = index.0; control_uniform = control.0; args_settled = subst (λ b. settled_args args us c b ≡ Ok after) (sym same) t.1.1 }

-- no formal is a varying string
abbrev pub HasFitClass : TreeFormal → Type 0
HasFitClass f = is_varying_string f.uniform f.kind ≡ false

pub formals_parts : (formals : List TreeFormal) (lit after : Bool) → settled_formals formals lit ≡ Ok after → All HasFitClass formals × (lit ≡ after)
formals_parts [] lit after h = (All-nil HasFitClass, same_ok lit after (Ok lit) refl h)
formals_parts (f ∷ fs) lit after h =
    let here = unless_parts (is_varying_string f.uniform f.kind) T3 f.line (settled_formals fs lit) after h in
    let rest = formals_parts fs lit after here.1 in
    (All-cons HasFitClass f fs here.0 rest.0, rest.1)

-- a varying argument goes into no uniform formal; the body is settled where its call stands
pub record CallParts (args : Exprs) (formals : List TreeFormal) (body : Stmts) (value : Expr) (us : List Bool) (c : Spot) (lit after : Bool) : Type 0 where
  pub args_fit : goes_wrong args formals us ≡ false
  pub strings_uniform : All HasFitClass formals
  pub behind_body : Bool
  pub behind_value : Bool
  pub body_settled : settled_stmts body (formal_classes formals) c lit ≡ Ok behind_body
  pub value_settled : settled_expr value (after_all body (formal_classes formals)) c behind_body ≡ Ok behind_value
  pub args_settled : settled_args args us c behind_value ≡ Ok after

pub call_parts : (args : Exprs) (formals : List TreeFormal) (body : Stmts) (returned : Place) (value : Expr) (kind : NodeType) (p : Place) (us : List Bool) (c : Spot) (lit after : Bool)
    → settled_expr (call args formals body returned value kind p) us c lit ≡ Ok after → CallParts args formals body value us c lit after
call_parts args formals body returned value kind p us c lit after h =
    let inside = formal_classes formals in
    let fit =
    unless_parts (goes_wrong args formals us) T3 p.line
    (settled_formals formals lit then settled_stmts body inside c then settled_expr value (after_all body inside) c then settled_args args us c) after h in
    let third = then_parts (settled_formals formals lit then settled_stmts body inside c then settled_expr value (after_all body inside) c) (settled_args args us c) after fit.1 in
    let second = then_parts (settled_formals formals lit then settled_stmts body inside c) (settled_expr value (after_all body inside) c) third.0 third.1.0 in
    let first_one = then_parts (settled_formals formals lit) (settled_stmts body inside c) second.0 second.1.0 in
    let strings = formals_parts formals lit first_one.0 first_one.1.0 in
    record {
      args_fit = fit.0;
      strings_uniform = strings.0;
      behind_body = second.0;
      behind_value = third.0;
      body_settled = subst (λ b. settled_stmts body inside c b ≡ Ok second.0) (sym strings.1) first_one.1.1;
      value_settled = second.1.1;
      args_settled = third.1.1;
    }

-- the first argument and those behind it
pub more_parts : (e : Expr) (rest : Exprs) (us : List Bool) (c : Spot) (lit after : Bool) → settled_args (more e rest) us c lit ≡ Ok after
    → (mid : Bool) × ((settled_expr e us c lit ≡ Ok mid) × (settled_args rest us c mid ≡ Ok after))
more_parts e rest us c lit after h = then_parts (settled_expr e us c lit) (settled_args rest us c) after h

-- the first argument goes into the first formal, and the others into the others
pub fits_parts : (e : Expr) (rest : Exprs) (f : TreeFormal) (fs : List TreeFormal) (us : List Bool) → goes_wrong (more e rest) (f ∷ fs) us ≡ false
    → (varies_into f.uniform e us ≡ false) × (goes_wrong rest fs us ≡ false)
fits_parts e rest f fs us h = or_parts (varies_into f.uniform e us) (goes_wrong rest fs us) h

-- what goes into a uniform variable is uniform
pub record DeclareParts (uniform : Bool) (kind : SlType) (e : Expr) (us : List Bool) (c : Spot) (lit after : Bool) : Type 0 where
  pub string_uniform : is_varying_string uniform kind ≡ false
  pub value_fits : varies_into uniform e us ≡ false
  pub value_settled : settled_expr e us c lit ≡ Ok after

pub declare_parts : (uniform : Bool) (kind : SlType) (e : Expr) (p : Place) (us : List Bool) (c : Spot) (lit after : Bool)
    → settled_stmt (declare uniform kind e p) us c lit ≡ Ok after → DeclareParts uniform kind e us c lit after
declare_parts uniform kind e p us c lit after h =
    let t = then_parts (settled_declare uniform kind e p.line us lit) (settled_expr e us c) after h in
    let own = unless_parts (is_varying_string uniform kind || varies_into uniform e us) T3 p.line (Ok lit) t.0 t.1.0 in
    let wrong = or_parts (is_varying_string uniform kind) (varies_into uniform e us) own.0 in
    let same : lit ≡ t.0 = same_ok lit t.0 (Ok lit) refl own.1 in
    record { string_uniform = wrong.0; value_fits = wrong.1; value_settled = subst (λ b. settled_expr e us c b ≡ Ok after) (sym same) t.1.1 }

pub start_parts : (uniform : Bool) (kind : SlType) (p : Place) (us : List Bool) (c : Spot) (lit after : Bool)
    → settled_stmt (start uniform kind p) us c lit ≡ Ok after → (is_varying_string uniform kind ≡ false) × (lit ≡ after)
start_parts uniform kind p us c lit after h =
    let own = unless_parts (is_varying_string uniform kind) T3 p.line (Ok lit) after h in
    (own.0, same_ok lit after (Ok lit) refl own.1)

-- a uniform variable is set in uniform control alone
pub record AssignParts (x : Variable) (e : Expr) (us : List Bool) (c : Spot) (lit after : Bool) : Type 0 where
  pub value_fits : varies_into (class_of x us) e us ≡ false
  pub control_uniform : (class_of x us && not c.uniform) ≡ false
  pub value_settled : settled_expr e us c lit ≡ Ok after

pub assign_parts : (x : Variable) (operator : SetOperator) (kind : SlType) (e : Expr) (p : Place) (us : List Bool) (c : Spot) (lit after : Bool)
    → settled_stmt (assign x operator kind e p) us c lit ≡ Ok after → AssignParts x e us c lit after
assign_parts x operator kind e p us c lit after h =
    let t = then_parts (settled_set (class_of x us) e p.line us c lit) (settled_expr e us c) after h in
    let value = unless_parts (varies_into (class_of x us) e us) T3 p.line (unless (class_of x us && not c.uniform) T4 p.line (Ok lit)) t.0 t.1.0 in
    let control = unless_parts (class_of x us && not c.uniform) T4 p.line (Ok lit) t.0 value.1 in
    let same : lit ≡ t.0 = same_ok lit t.0 (Ok lit) refl control.1 in
    record { value_fits = value.0; control_uniform = control.0; value_settled = subst (λ b. settled_expr e us c b ≡ Ok after) (sym same) t.1.1 }

-- a condition, and its branch in the control that it leaves
pub test_parts : (e : Expr) (s : Stmt) (p : Place) (us : List Bool) (c : Spot) (lit after : Bool) → settled_stmt (test e s p) us c lit ≡ Ok after
    → (mid : Bool) × ((settled_expr e us c lit ≡ Ok mid) × (settled_stmt s us (in_control (c.uniform && is_uniform e us) c) mid ≡ Ok after))
test_parts e s p us c lit after h = then_parts (settled_expr e us c lit) (settled_stmt s us (in_control (c.uniform && is_uniform e us) c)) after h

pub record BranchParts (e : Expr) (s r : Stmt) (us : List Bool) (c : Spot) (lit after : Bool) : Type 0 where
  pub behind_test : Bool
  pub behind_first : Bool
  pub test_settled : settled_expr e us c lit ≡ Ok behind_test
  pub first_settled : settled_stmt s us (in_control (c.uniform && is_uniform e us) c) behind_test ≡ Ok behind_first
  pub second_settled : settled_stmt r us (in_control (c.uniform && is_uniform e us) c) behind_first ≡ Ok after

pub branch_parts : (e : Expr) (s r : Stmt) (p : Place) (us : List Bool) (c : Spot) (lit after : Bool) → settled_stmt (test_else e s r p) us c lit ≡ Ok after → BranchParts e s r us c lit after
branch_parts e s r p us c lit after h =
    let inside = in_control (c.uniform && is_uniform e us) c in
    let outer = then_parts (settled_expr e us c lit then settled_stmt s us inside) (settled_stmt r us inside) after h in
    let inner = then_parts (settled_expr e us c lit) (settled_stmt s us inside) outer.0 outer.1.0 in
    record { behind_test = inner.0; behind_first = outer.0; test_settled = inner.1.0; first_settled = inner.1.1; second_settled = outer.1.1 }

-- a loop's condition and body, in the control of the loop
pub repeat_parts : (e : Expr) (s : Stmt) (p : Place) (us : List Bool) (c : Spot) (lit after : Bool) → settled_stmt (repeat e s p) us c lit ≡ Ok after
    → (mid : Bool) × ((settled_expr e us (in_loop (is_uniform_loop e s us c.uniform) c) lit ≡ Ok mid) × (settled_stmt s us (in_loop (is_uniform_loop e s us c.uniform) c) mid ≡ Ok after))
repeat_parts e s p us c lit after h =
    then_parts (settled_expr e us (in_loop (is_uniform_loop e s us c.uniform) c) lit) (settled_stmt s us (in_loop (is_uniform_loop e s us c.uniform) c)) after h

pub record StepsParts (a : Stmts) (e : Expr) (b : Stmts) (s : Stmt) (us : List Bool) (c : Spot) (lit after : Bool) : Type 0 where
  pub behind_start : Bool
  pub behind_test : Bool
  pub behind_step : Bool
  pub start_settled : settled_stmts a us c lit ≡ Ok behind_start
  pub test_settled : settled_expr e us (in_loop (is_uniform_loop e s us c.uniform) c) behind_start ≡ Ok behind_test
  pub step_settled : settled_stmts b us (in_loop (is_uniform_loop e s us c.uniform) c) behind_test ≡ Ok behind_step
  pub body_settled : settled_stmt s us (in_loop (is_uniform_loop e s us c.uniform) c) behind_step ≡ Ok after

pub steps_parts : (a : Stmts) (e : Expr) (b : Stmts) (s : Stmt) (p : Place) (us : List Bool) (c : Spot) (lit after : Bool) → settled_stmt (steps a e b s p) us c lit ≡ Ok after → StepsParts a e b s us c lit after
steps_parts a e b s p us c lit after h =
    let inside = in_loop (is_uniform_loop e s us c.uniform) c in
    let third = then_parts (settled_stmts a us c lit then settled_expr e us inside then settled_stmts b us inside) (settled_stmt s us inside) after h in
    let second = then_parts (settled_stmts a us c lit then settled_expr e us inside) (settled_stmts b us inside) third.0 third.1.0 in
    let start_part = then_parts (settled_stmts a us c lit) (settled_expr e us inside) second.0 second.1.0 in
    record {
      behind_start = start_part.0;
      behind_test = second.0;
      behind_step = third.0;
      start_settled = start_part.1.0;
      test_settled = start_part.1.1;
      step_settled = second.1.1;
      body_settled = third.1.1;
    }

-- the word of a statement over lights, its operands, and its body in varying control
pub record LightsParts (over : LightStmt) (args : Exprs) (s : Stmt) (line : ℕ) (us : List Bool) (c : Spot) (lit after : Bool) : Type 0 where
  pub behind_word : Bool
  pub behind_args : Bool
  pub word_settled : settled_word over line c lit ≡ Ok behind_word
  pub args_settled : settled_args args us c behind_word ≡ Ok behind_args
  pub body_settled : settled_stmt s us (in_lights over c) behind_args ≡ Ok after

pub lights_parts : (over : LightStmt) (args : Exprs) (s : Stmt) (p : Place) (us : List Bool) (c : Spot) (lit after : Bool)
    → settled_stmt (lights over args s p) us c lit ≡ Ok after → LightsParts over args s p.line us c lit after
lights_parts over args s p us c lit after h =
    let outer = then_parts (settled_word over p.line c lit then settled_args args us c) (settled_stmt s us (in_lights over c)) after h in
    let inner = then_parts (settled_word over p.line c lit) (settled_args args us c) outer.0 outer.1.0 in
    record { behind_word = inner.0; behind_args = outer.0; word_settled = inner.1.0; args_settled = inner.1.1; body_settled = outer.1.1 }

-- an `illuminance` stands in no other one
pub illuminance_alone : (line : ℕ) (c : Spot) (lit after : Bool) → settled_word Illuminance line c lit ≡ Ok after → (c.inside ≡ false) × (lit ≡ after)
illuminance_alone line c lit after h =
    let own = unless_parts c.inside T11 line (Ok lit) after h in
    (own.0, same_ok lit after (Ok lit) refl own.1)

-- an `illuminate` or `solar` is the first, and stands in no loop
pub illuminate_first : (line : ℕ) (c : Spot) (lit after : Bool) → settled_word Illuminate line c lit ≡ Ok after → ((lit ≡ false) × (c.looped ≡ false)) × (true ≡ after)
illuminate_first line c lit after h =
    let own = unless_parts (lit || c.looped) T9 line (Ok true) after h in
    (or_parts lit c.looped own.0, same_ok true after (Ok true) refl own.1)

pub solar_first : (line : ℕ) (c : Spot) (lit after : Bool) → settled_word Solar line c lit ≡ Ok after → ((lit ≡ false) × (c.looped ≡ false)) × (true ≡ after)
solar_first line c lit after h =
    let own = unless_parts (lit || c.looped) T9 line (Ok true) after h in
    (or_parts lit c.looped own.0, same_ok true after (Ok true) refl own.1)

-- the first statement, and the others where its variables are in scope
pub first_parts : (s : Stmt) (rest : Stmts) (us : List Bool) (c : Spot) (lit after : Bool) → settled_stmts (first s rest) us c lit ≡ Ok after
    → (mid : Bool) × ((settled_stmt s us c lit ≡ Ok mid) × (settled_stmts rest (scope_after s us) c mid ≡ Ok after))
first_parts s rest us c lit after h = then_parts (settled_stmt s us c lit) (settled_stmts rest (scope_after s us) c) after h

answered : (r : Settles) → fault_of r ≡ None → (lit : Bool) × (r ≡ Ok lit)
answered (Ok lit) h = (lit, refl)
answered (Err fault) h = absurd (cc h)

-- the defaults of a settled tree, and its body in uniform control
pub tree_parts : (t : Tree) → IsSettled t
    → (mid : Bool) × ((lit : Bool) × ((settled_defaults t.defaults t.params false ≡ Ok mid) × (settled_stmts t.body (local_classes t.params) outermost mid ≡ Ok lit)))
tree_parts t h =
    let whole = answered (settles t) h in
    let parts = then_parts (settled_defaults t.defaults t.params false) (settled_stmts t.body (local_classes t.params) outermost) whole.0 whole.1 in
    (parts.0, (whole.0, parts.1))
