-- The registers that a shader's state begins with.
use Rattle.std.proofs.Common.{◌≡◌, ℕ, zero, suc, ◌+◌, ◌*◌, ◌<◌, ◌≤◌, ◌==◌, Bool, true, false, cond, List, [], ◌∷◌, refl, sym, ap, ◌∙◌, subst, arith, ⊎_elim}
use Rattle.std.specs.Prelude.{not, ◌&&◌, ◌||◌}
use Rattle.std.specs.List.{list_all, list_any}
use Rattle.std.proofs.lemmas.Bool.{eqb-true, cases_lt}
use Rattle.sl_ast.specs.declared.kinds.SlKind.{SlKind}
use Rattle.sl_ast.specs.declared.kinds.SlKind.TheVariants.{Surface, Displacement, Light, Volume}
use Rattle.sl_ast.specs.declared.kinds.Predefined.{Predefined}
use Rattle.sl_ast.specs.Names.{reads}
use Rattle.sl_ast.specs.Registers.{predefined_rows, rows_of_classes}
use Rattle.builtins.specs.declared.shape.Shape.{Shape}
use Rattle.builtins.specs.declared.shape.Shape.TheVariants as shapes
use Rattle.builtins.specs.Values.{shape_of}
use Rattle.builtins.specs.Names.{place_of}
use Rattle.grid_code.specs.declared.code.Register.{Register}
use Rattle.grid_code.specs.declared.code.Register.TheVariants.{Uniform, Varying}
use Rattle.grid_code.specs.declared.slot.Slot.{Slot}
use Rattle.grid_code.specs.Masked.{same_shape}
use Rattle.grid_code.specs.Names.{reg, name_at}
use Rattle.grid_code.specs.Uses.{kind_registers, registers_from}
use Rattle.grid_code.proofs.Both.{left, right}
use Rattle.core_codegen.specs.Slots.{slots_of}
use Rattle.mask_codegen.specs.CoreClasses.{classes_of}
use Rattle.mask_codegen.proofs.Made.{frame, weight, three_unless}
use Rattle.mask_codegen.proofs.MadeLoad.{rows_reg}
use Rattle.core_codegen.proofs.Relation.{name_with, name_back, place_small}

-- one register and another

abbrev pub same_register : Register → Register → Bool
same_register (Uniform s a) (Uniform t b) = same_shape s t && a == b
same_register (Varying s a) (Varying t b) = same_shape s t && a == b
same_register _ _ = false

shape_from : (s t : Shape) → same_shape s t ≡ true → s ≡ t
shape_from shapes.Number shapes.Number h = refl
shape_from shapes.Triple shapes.Triple h = refl
shape_from shapes.Word shapes.Word h = refl
shape_from shapes.Number shapes.Triple h = absurd cc
shape_from shapes.Number shapes.Word h = absurd cc
shape_from shapes.Triple shapes.Number h = absurd cc
shape_from shapes.Triple shapes.Word h = absurd cc
shape_from shapes.Word shapes.Number h = absurd cc
shape_from shapes.Word shapes.Triple h = absurd cc

register_from : (q r : Register) → same_register q r ≡ true → q ≡ r
register_from (Uniform s a) (Uniform t b) h = ap (λ x. Uniform x a) (shape_from s t (left _ _ h)) ∙ ap (Uniform t) (eqb-true a b (right (same_shape s t) _ h))
register_from (Varying s a) (Varying t b) h = ap (λ x. Varying x a) (shape_from s t (left _ _ h)) ∙ ap (Varying t) (eqb-true a b (right (same_shape s t) _ h))
register_from (Uniform s a) (Varying t b) h = absurd cc
register_from (Varying s a) (Uniform t b) h = absurd cc

either_of : (a b : Bool) (P : Type 0) → (a || b) ≡ true → (a ≡ true → P) → (b ≡ true → P) → P
either_of true b P h f g = f refl
either_of false b P h f g = g h

one_passes : (p : Register → Bool) (q : Register) (qs : List Register) → list_any (same_register q) qs ≡ true → list_all p qs ≡ true → p q ≡ true
one_passes p q [] h g = absurd cc
one_passes p q (r ∷ qs) h g =
    either_of (same_register q r) (list_any (same_register q) qs) (p q ≡ true) h (λ a. subst (λ x. p x ≡ true) (sym (register_from q r a)) (left (p r) _ g)) (λ a. one_passes p q qs a (right (p r) _ g))

-- each predefined variable that a kind of shader reads is among them, tried out

abbrev every : ℕ → (ℕ → Bool) → Bool
every zero f = true
every (suc n) f = f n && every n f

every_at : (n : ℕ) (f : ℕ → Bool) → every n f ≡ true → (i : ℕ) → i < n → f i ≡ true
every_at zero f h i lt = absurd (omega arith)
every_at (suc n) f h i lt =
    ⊎_elim (λ l. every_at n f (right (f n) _ h) i l) (λ ge. let same : n ≡ i = omega arith in subst (λ k. f k ≡ true) same (left (f n) _ h)) (cases_lt i n)

abbrev agrees : SlKind → Predefined → Bool
agrees k x = not (reads k true x) || list_any (same_register (name_at x)) (kind_registers k)

all_agree : (k : SlKind) → every 21 (λ i. agrees k (name_with i)) ≡ true
all_agree Surface = refl
all_agree Displacement = refl
all_agree Light = refl
all_agree Volume = refl

implied : (a b : Bool) → (not a || b) ≡ true → a ≡ true → b ≡ true
implied true b h g = h
implied false b h g = absurd cc

pub named_in : (p : Register → Bool) (k : SlKind) → list_all p (kind_registers k) ≡ true → (x : Predefined) → reads k true x ≡ true → p (name_at x) ≡ true
named_in p k h x r =
    let at : agrees k (name_with (place_of x)) ≡ true = every_at 21 (λ i. agrees k (name_with i)) (all_agree k) (place_of x) (place_small x) in
    one_passes p (name_at x) (kind_registers k) (implied (reads k true x) _ (subst (λ n. agrees k n ≡ true) (name_back x) at) r) h

-- rows

pub kind_weight : (k : SlKind) → weight (kind_registers k) + 5 ≤ 8 * predefined_rows k
kind_weight Surface = let a : weight (kind_registers Surface) ≡ 40 = refl in let b : predefined_rows Surface ≡ 16 = refl in omega arith
kind_weight Displacement = let a : weight (kind_registers Displacement) ≡ 28 = refl in let b : predefined_rows Displacement ≡ 12 = refl in omega arith
kind_weight Light = let a : weight (kind_registers Light) ≡ 10 = refl in let b : predefined_rows Light ≡ 3 = refl in omega arith
kind_weight Volume = let a : weight (kind_registers Volume) ≡ 12 = refl in let b : predefined_rows Volume ≡ 4 = refl in omega arith

three_rows : (u : Bool) → three_unless u ≤ 3 * cond u 0 1
three_rows true = omega arith
three_rows false = omega arith

pub params_weight : (ps : List Slot) (r : ℕ) → weight (registers_from r ps) ≤ 3 * rows_of_classes (classes_of (slots_of ps))
params_weight [] r = omega arith
params_weight (s ∷ ps) r = omega (arith, rows_reg s.uniform (shape_of s.kind) r, three_rows s.uniform, params_weight ps (r + 1))

pub params_frame : (ps : List Slot) (r : ℕ) → frame r (slots_of ps) ≡ registers_from r ps
params_frame [] r = refl
params_frame (s ∷ ps) r = ap (λ l. reg s.uniform (shape_of s.kind) r ∷ l) (params_frame ps (r + 1))
