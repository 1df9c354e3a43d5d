-- The nodes of code that a core tree's parts are made into stand where they may.
use Rattle.std.proofs.Common.{◌≡◌, ℕ, Bool, true, List, refl, sym, ap, ◌∙◌, subst}
use Rattle.sl_ast.specs.declared.kinds.SlKind.{SlKind}
use Rattle.sl_ast.specs.declared.kinds.SlType.{SlType}
use Rattle.sl_ast.specs.declared.operations.Difference.{Difference}
use Rattle.sl_ast.specs.declared.operations.LightSum.{LightSum}
use Rattle.sl_ast.specs.declared.operations.ValueOperation.{ValueOperation}
use Rattle.sl_ast.specs.declared.typed.Value.{Value}
use Rattle.sl_ast.specs.declared.typed.Variable.{Variable}
use Rattle.sl_ast.specs.Names.{has_surface, is_surface}
use Rattle.builtins.specs.declared.shape.Shape.{Shape}
use Rattle.builtins.specs.declared.shape.Shape.TheVariants as shapes
use Rattle.builtins.specs.Values.{shape_of}
use Rattle.builtins.specs.Shapes.{shape, shape_applied}
use Rattle.grid_code.specs.declared.code.Register.{Register}
use Rattle.grid_code.specs.declared.code.Source.TheVariants.{Constant, Copy, Apply}
use Rattle.grid_code.specs.Code as c
use Rattle.grid_code.specs.Masked.{same_shape}
use Rattle.grid_code.specs.Shapes.{register_shape, register_shapes, difference_shape}
use Rattle.grid_code.specs.Valid.{at_most_three, are_three, one_to_three, is_placed}
use Rattle.grid_code.proofs.Both.{both}
use Rattle.sl_meaning.specs.Core.{Slot, Expr, literal, read, apply, differ, sum, texture, Exprs, none, more}
use Rattle.core_codegen.specs.Compile.{at, all_at, into}
use Rattle.core_codegen.specs.Variables.{variable}
use Rattle.mask_codegen.proofs.CorePlaced.{are_few, are_some, are_triple}
use Rattle.core_codegen.proofs.ValueRegisters.{shape_at, shapes_at, variable_shape, difference_shape_in}

same_self : (s : Shape) → same_shape s s ≡ true
same_self shapes.Number = refl
same_self shapes.Triple = refl
same_self shapes.Word = refl

pub same_from : (s t : Shape) → s ≡ t → same_shape s t ≡ true
same_from s t h = subst (λ x. same_shape s x ≡ true) h (same_self s)

pub few_at : (es : Exprs) (ss : List Slot) (b r : ℕ) → are_few es ≡ true → at_most_three (all_at es ss b r) ≡ true
few_at none ss b r h = refl
few_at (more x none) ss b r h = refl
few_at (more x (more y none)) ss b r h = refl
few_at (more x (more y (more z none))) ss b r h = refl
few_at (more x (more y (more z (more e rest)))) ss b r h = h

pub some_at : (es : Exprs) (ss : List Slot) (b r : ℕ) → are_some es ≡ true → one_to_three (all_at es ss b r) ≡ true
some_at none ss b r h = h
some_at (more x none) ss b r h = refl
some_at (more x (more y none)) ss b r h = refl
some_at (more x (more y (more z none))) ss b r h = refl
some_at (more x (more y (more z (more e rest)))) ss b r h = h

three_at : (es : Exprs) (ss : List Slot) (b r : ℕ) → are_triple es ≡ true → are_three (all_at es ss b r) ≡ true
three_at none ss b r h = h
three_at (more x none) ss b r h = h
three_at (more x (more y none)) ss b r h = h
three_at (more x (more y (more z none))) ss b r h = refl
three_at (more x (more y (more z (more e rest)))) ss b r h = h

module _ (k : SlKind) (l u : Bool) where
  pub into_placed : (to : Register) (kind : SlType) (from : Register) → register_shape to ≡ shape_of kind → is_placed k l u (into to kind from) ≡ true
  into_placed to kind from h = both _ _ (same_from (shape_of kind) (register_shape to) (sym h)) refl

  pub literal_placed : (v : Value) (ss : List Slot) (r : ℕ) → is_placed k l u (c.put (at (literal v) ss r) (Constant v) c.end) ≡ true
  literal_placed v ss r = both _ _ (same_self (shape v)) refl

  pub read_placed : (x : Variable) (ss : List Slot) (b r : ℕ) → is_placed k l u (c.put (at (read x) ss r) (Copy (variable ss b x)) c.end) ≡ true
  read_placed x ss b r = both _ _ (same_from (register_shape (variable ss b x)) (register_shape (at (read x) ss r)) (variable_shape x ss b ∙ sym (shape_at (read x) ss r))) refl

  pub apply_placed : (op : ValueOperation) (args : Exprs) (ss : List Slot) (b r : ℕ) → are_some args ≡ true → is_placed k l u (c.put (at (apply op args) ss r) (Apply op (all_at args ss b r)) c.end) ≡ true
  apply_placed op args ss b r h =
      both _ _ (same_from (shape_applied op (register_shapes (all_at args ss b r))) (register_shape (at (apply op args) ss r)) (ap (shape_applied op) (shapes_at args ss b r) ∙ sym (shape_at (apply op args) ss r)))
      (both _ _ (some_at args ss b r h) refl)

  pub sum_placed : (s : LightSum) (args : Exprs) (ss : List Slot) (b r : ℕ) → is_surface k ≡ true → are_few args ≡ true → is_placed k l u (c.sum (at (sum s args) ss r) s (all_at args ss b r) c.end) ≡ true
  sum_placed s args ss b r h f = both _ _ h (both _ _ refl (both _ _ (few_at args ss b r f) refl))

pub differ_placed : (k : SlKind) (l : Bool) (d : Difference) (e : Expr) (ss : List Slot) (r : ℕ) → has_surface k ≡ true → is_placed k l true (c.differ (at (differ d e) ss r) d (at e ss r) c.end) ≡ true
differ_placed k l d e ss r h =
    both _ _ h (both _ _ (same_from (difference_shape d (register_shape (at e ss r))) (register_shape (at (differ d e) ss r))
    (ap (difference_shape d) (shape_at e ss r) ∙ difference_shape_in d e ss ∙ sym (shape_at (differ d e) ss r))) refl)

pub texture_placed : (k : SlKind) (l : Bool) (m : ℕ) (args : Exprs) (ss : List Slot) (b r : ℕ) → has_surface k ≡ true → are_triple args ≡ true → is_placed k l true (c.texture (at (texture m args) ss r) m (all_at args ss b r) c.end) ≡ true
texture_placed k l m args ss b r h f =
    both _ _ h (both _ _ (same_from shapes.Triple (register_shape (at (texture m args) ss r)) (sym (shape_at (texture m args) ss r))) (both _ _ (three_at args ss b r f) refl))
