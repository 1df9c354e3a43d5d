-- Registers of expressions' values: their classes and shapes.
use Rattle.std.proofs.Common.{◌≡◌, ℕ, suc, ◌+◌, ◌<◌, ◌≤◌, Bool, true, false, List, [], ◌∷◌, length, get_or, drop, refl, sym, ap, ◌∙◌, arith, add-one}
use Rattle.std.specs.Prelude.{◌&&◌}
use Rattle.std.proofs.Math.Seq.{drop-cons}
use Rattle.sl_ast.specs.declared.operations.ValueOperation.{ValueOperation}
use Rattle.sl_ast.specs.declared.operations.Difference.{Difference}
use Rattle.sl_ast.specs.declared.operations.Difference.TheVariants as differences
use Rattle.sl_ast.specs.declared.typed.Variable.{Variable}
use Rattle.sl_ast.specs.declared.typed.Variable.TheVariants as variables
use Rattle.sl_ast.specs.Names.{name_type}
use Rattle.sl_ast.specs.Classes.{is_uniform_name}
use Rattle.builtins.specs.declared.shape.Shape.{Shape}
use Rattle.builtins.specs.declared.shape.Shape.TheVariants as shapes
use Rattle.builtins.specs.Names.{place_of}
use Rattle.builtins.specs.Shapes.{shape_applied}
use Rattle.builtins.specs.Values.{shape_of}
use Rattle.grid_code.specs.declared.code.Register.{Register}
use Rattle.grid_code.specs.Names.{reg}
use Rattle.sl_meaning.specs.Core.{Slot, no_slot, Expr, Exprs, none, more, differ, is_uniform, are_uniform, class_in, kind_in}
use Rattle.core_codegen.specs.Compile.{at, place, operand_at, all_at, shape_in, shapes_in}
use Rattle.core_codegen.specs.Variables.{variable}
use Rattle.grid_code.specs.Shapes.{register_class, register_shape, are_uniform_registers, register_shapes, difference_shape}

pub class_reg : (u : Bool) (s : Shape) (r : ℕ) → register_class (reg u s r) ≡ u
class_reg true s r = refl
class_reg false s r = refl

pub shape_reg : (u : Bool) (s : Shape) (r : ℕ) → register_shape (reg u s r) ≡ s
shape_reg true s r = refl
shape_reg false s r = refl

pub class_at : (e : Expr) (ss : List Slot) (r : ℕ) → register_class (at e ss r) ≡ is_uniform e ss
class_at e ss r = class_reg (is_uniform e ss) (shape_in e ss) r

pub shape_at : (e : Expr) (ss : List Slot) (r : ℕ) → register_shape (at e ss r) ≡ shape_in e ss
shape_at e ss r = shape_reg (is_uniform e ss) (shape_in e ss) r

pub class_of_operand : (e : Expr) (ss : List Slot) (b r : ℕ) → register_class (operand_at e ss b r) ≡ is_uniform e ss
class_of_operand e ss b r = class_reg (is_uniform e ss) (shape_in e ss) (place e b r)

pub shape_of_operand : (e : Expr) (ss : List Slot) (b r : ℕ) → register_shape (operand_at e ss b r) ≡ shape_in e ss
shape_of_operand e ss b r = shape_reg (is_uniform e ss) (shape_in e ss) (place e b r)

pub classes_at : (es : Exprs) (ss : List Slot) (b r : ℕ) → are_uniform_registers (all_at es ss b r) ≡ are_uniform es ss
classes_at none ss b r = refl
classes_at (more e rest) ss b r = ap (λ u. u && are_uniform_registers (all_at rest ss b (r + 1))) (class_of_operand e ss b r) ∙ ap (λ u. is_uniform e ss && u) (classes_at rest ss b (r + 1))

pub shapes_at : (es : Exprs) (ss : List Slot) (b r : ℕ) → register_shapes (all_at es ss b r) ≡ shapes_in es ss
shapes_at none ss b r = refl
shapes_at (more e rest) ss b r = ap (λ s. s ∷ register_shapes (all_at rest ss b (r + 1))) (shape_of_operand e ss b r) ∙ ap (λ l. shape_in e ss ∷ l) (shapes_at rest ss b (r + 1))

pub variable_class : (x : Variable) (ss : List Slot) (b : ℕ) → register_class (variable ss b x) ≡ class_in x ss
variable_class (variables.Predefined p) ss b = class_reg (is_uniform_name p) (shape_of (name_type p)) (place_of p)
variable_class (variables.Level k) ss b = class_reg (get_or ss k no_slot).uniform (shape_of (get_or ss k no_slot).kind) (b + k)

pub variable_shape : (x : Variable) (ss : List Slot) (b : ℕ) → register_shape (variable ss b x) ≡ shape_of (kind_in x ss)
variable_shape (variables.Predefined p) ss b = shape_reg (is_uniform_name p) (shape_of (name_type p)) (place_of p)
variable_shape (variables.Level k) ss b = shape_reg (get_or ss k no_slot).uniform (shape_of (get_or ss k no_slot).kind) (b + k)

pub difference_shape_in : (d : Difference) (e : Expr) (ss : List Slot) → difference_shape d (shape_in e ss) ≡ shape_in (differ d e) ss
difference_shape_in differences.CalculateNormal e ss = refl
difference_shape_in differences.Du e ss = refl
difference_shape_in differences.Dv e ss = refl

pub no_shape : (op : ValueOperation) (qs : List Register) → 4 ≤ length qs → shapes.Number ≡ shape_applied op (register_shapes qs)
no_shape op [] h = absurd (omega arith)
no_shape op (a ∷ []) h = absurd (omega arith)
no_shape op (a ∷ b ∷ []) h = absurd (omega arith)
no_shape op (a ∷ b ∷ d ∷ []) h = absurd (omega arith)
no_shape op (a ∷ b ∷ d ∷ e ∷ rest) h = refl

-- lists, taken item by item
pub next_left : {A : Type 0} → (all : List A) (i : ℕ) (x : A) → i < length all → x ≡ get_or all i x → drop i all ≡ x ∷ drop (i + 1) all
next_left all i x h is = drop-cons all i x h ∙ ap (λ y. y ∷ drop (suc i) all) (sym is) ∙ ap (λ k. x ∷ drop k all) (sym (add-one i))

pub nothing_left : {A : Type 0} → (all : List A) (i : ℕ) → i ≡ length all → drop i all ≡ []
nothing_left [] i h = ap (λ k. drop k []) h
nothing_left (x ∷ xs) i h = ap (λ k. drop k (x ∷ xs)) h ∙ nothing_left xs (length xs) refl

pub uniform_next : (all : List Register) (i : ℕ) (d : Register) (u : Bool) → are_uniform_registers all ≡ are_uniform_registers (drop i all) → i < length all →
    u ≡ register_class (get_or all i d) → are_uniform_registers all ≡ u && are_uniform_registers (drop (i + 1) all)
uniform_next all i d u h l hu =
    h ∙ ap are_uniform_registers (drop-cons all i d l) ∙ ap (λ k. register_class (get_or all i d) && are_uniform_registers (drop k all)) (sym (add-one i)) ∙
    ap (λ b. b && are_uniform_registers (drop (i + 1) all)) (sym hu)
