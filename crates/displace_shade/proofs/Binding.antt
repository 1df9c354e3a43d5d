-- What a primitive's variables that fit give the parameters of a shader.
use Rattle.std.proofs.Common.{◌≡◌, ℕ, suc, Bool, true, false, cond, List, [], ◌∷◌, Option, Some, None, All, length, map, get_or, refl, sym, ap, ◌∙◌, arith}
use Rattle.std.specs.Option.{option_or}
use Rattle.std.specs.Str.{bytes_eq}
use Rattle.fixed_math.specs.declared.vec3.Vec3.{Vec3}
use Rattle.scene.specs.declared.params.Kind.{Kind}
use Rattle.scene.specs.Scene.{VariableValue}
use Rattle.sl_ast.specs.declared.kinds.SlType.{SlType}
use Rattle.sl_ast.specs.declared.kinds.SlType.TheVariants as types
use Rattle.sl_ast.specs.declared.typed.Value.{Value}
use Rattle.sl_ast.specs.Typed.{Local}
use Rattle.builtins.specs.Shapes.{shape}
use Rattle.builtins.specs.Values.{shape_of}
use Rattle.grid_code.specs.declared.slot.Slot.{Slot}
use Rattle.sl_meaning.specs.Core as core
use Rattle.sl_meaning.specs.Lowered.{slots}
use Rattle.place_rows.specs.Layout.{same_class}
use Rattle.shader_binding.specs.Sets.{AreValuesOf}
use Rattle.grid_variables.specs.Points.{Leaf, own_u, own_v}
use Rattle.scene.specs.Seats.{numbers_of, text_of}
use Rattle.grid_variables.specs.Variables.{corners_of, between, last_passing, variable_named, bound_variable, value_by, value_or, values_at}
use Rattle.shader_binding.specs.Predefined.{sets_predefined}
use Rattle.shader_binding.specs.Bindings.{kind_of, Binds, FitVariables}
use Rattle.grid_rows.specs.Rows.{values_of}
use Rattle.displace_shade.specs.Rows.{slot_of}

-- what holds of a variable, if there is one
abbrev pub HoldsOf : (VariableValue → Type 0) → Option VariableValue → Type 0
HoldsOf P None = Unit {0}
HoldsOf P (Some x) = P x

or_holds : (P : VariableValue → Type 0) (a b : Option VariableValue) → HoldsOf P a → HoldsOf P b → HoldsOf P (option_or a b)
or_holds P None b h k = k
or_holds P (Some x) b h k = h

test_holds : (P : VariableValue → Type 0) (x : VariableValue) (b : Bool) → (b ≡ true → P x) → HoldsOf P (cond b (Some x) None)
test_holds P x true h = h refl
test_holds P x false h = tt

last_holds : (P : VariableValue → Type 0) (test : VariableValue → Bool) (xs : List VariableValue) → All (λ x. test x ≡ true → P x) xs → HoldsOf P (last_passing test xs)
last_holds P test [] h = tt
last_holds P test (x ∷ xs) h = or_holds P (last_passing test xs) (cond (test x) (Some x) None) (last_holds P test xs (λ n y e. h (suc n) y (omega (arith, e)))) (test_holds P x (test x) (h 0 x (omega arith)))

bound_holds : (p : Local) (xs : List VariableValue) → All (λ x. bytes_eq x.name p.name ≡ true → sets_predefined p.name ≡ false → Binds p x) xs → HoldsOf (Binds p) (bound_variable p.name xs)
bound_holds p xs h = by_name (sets_predefined p.name) refl
  where
    by_name : (b : Bool) → sets_predefined p.name ≡ b → HoldsOf (Binds p) (cond b None (variable_named p.name xs))
    by_name true e = tt
    by_name false e = last_holds (Binds p) (λ x. bytes_eq x.name p.name) xs (λ n x at same. h n x at same e)

kind_shaped : (t : SlType) (k : Kind) (w : List ℕ) (q : Vec3) → k ≡ kind_of t → shape (value_by k w q) ≡ shape_of t
kind_shaped t k w q e = ap (λ m. shape (value_by m w q)) e ∙ of_type t
  where
    of_type : (t : SlType) → shape (value_by (kind_of t) w q) ≡ shape_of t
    of_type types.Float = refl
    of_type types.Color = refl
    of_type types.Point = refl
    of_type types.Vector = refl
    of_type types.Normal = refl
    of_type types.Str = refl

value_shaped : (l : Leaf) (i : ℕ) (p : Local) (o : Option VariableValue) (v : Value) → HoldsOf (Binds p) o → shape v ≡ shape_of p.kind → shape (value_or l i o v) ≡ shape_of p.kind
value_shaped l i p None v h e = e
value_shaped l i p (Some x) v h e = kind_shaped p.kind x.kind (text_of x.values) _ h.kind

value_steady : (l : Leaf) (i : ℕ) (p : Local) (o : Option VariableValue) (v : Value) → HoldsOf (Binds p) o → p.uniform ≡ true → value_or l i o v ≡ value_or l 0 o v
value_steady l i p None v h u = refl
value_steady l i p (Some x) v h u =
    let cs = corners_of false x.kind l.prim.object (numbers_of x.values) in
    ap (λ b. value_by x.kind (text_of x.values) (between b cs (own_u l i) (own_v l i))) (h.steady u) ∙ sym (ap (λ b. value_by x.kind (text_of x.values) (between b cs (own_u l 0) (own_v l 0))) (h.steady u))

pub values_fit : (l : Leaf) (ps : List Local) (vs : List Value) (i : ℕ) → FitVariables ps l.prim.vars → AreValuesOf ps vs → AreValuesOf ps (values_at l ps vs i)
values_fit l [] [] i h k = tt
values_fit l [] (v ∷ vs) i h k = absurd k
values_fit l (p ∷ ps) [] i h k = absurd k
values_fit l (p ∷ ps) (v ∷ vs) i h k = (value_shaped l i p (bound_variable p.name l.prim.vars) v (bound_holds p l.prim.vars (h 0 p (omega arith))) k.0, values_fit l ps vs i (λ n q e. h (suc n) q (omega (arith, e))) k.1)

one_steady : (u : Bool) (a b : Value) (xs ys : List Value) → (u ≡ true → a ≡ b) → xs ≡ ys → cond (same_class u true) (a ∷ xs) xs ≡ cond (same_class u true) (b ∷ ys) ys
one_steady true a b xs ys h e = ap (λ z. z ∷ xs) (h refl) ∙ ap (λ zs. b ∷ zs) e
one_steady false a b xs ys h e = e

behind_first : List core.Slot → List core.Slot
behind_first [] = []
behind_first (s ∷ ss) = ss

pub values_steady : (l : Leaf) (ss : List Slot) (ps : List Local) (vs : List Value) (i : ℕ) → map slot_of ss ≡ slots ps → FitVariables ps l.prim.vars → AreValuesOf ps vs → values_of true ss (values_at l ps vs i) ≡ values_of true ss (values_at l ps vs 0)
unfolding behind_first
values_steady l [] ps vs i e h k = refl
values_steady l (s ∷ ss) [] vs i e h k = let n = ap (λ xs. length xs) e in absurd (omega (arith, n))
values_steady l (s ∷ ss) (p ∷ ps) [] i e h k = absurd k
values_steady l (s ∷ ss) (p ∷ ps) (v ∷ vs) i e h k =
    let o = bound_variable p.name l.prim.vars in
    let same : s.uniform ≡ p.uniform = ap (λ q. (get_or q 0 core.no_slot).uniform) e in
    one_steady s.uniform (value_or l i o v) (value_or l 0 o v) (values_of true ss (values_at l ps vs i)) (values_of true ss (values_at l ps vs 0))
    (λ u. value_steady l i p o v (bound_holds p l.prim.vars (h 0 p (omega arith))) (sym same ∙ u)) (values_steady l ss ps vs i (ap behind_first e) (λ n q at. h (suc n) q (omega (arith, at))) k.1)
