-- What the variables are that a run is given, and the values of its parameters.
use Rattle.std.proofs.Common.{◌≡◌, ℕ, zero, suc, ◌<◌, true, List, [], ◌∷◌, length, get_or, refl, ap, arith}
use Rattle.sl_ast.specs.declared.kinds.Predefined.{Predefined}
use Rattle.sl_ast.specs.declared.kinds.Predefined.TheVariants as names
use Rattle.sl_ast.specs.declared.typed.Value.{Value}
use Rattle.sl_ast.specs.Typed.{Local}
use Rattle.sl_ast.specs.Names.{name_type}
use Rattle.sl_ast.specs.Classes.{is_uniform_name}
use Rattle.builtins.specs.Shapes.{shape}
use Rattle.builtins.specs.Values.{shape_of}
use Rattle.sl_meaning.specs.Core.{no_slot}
use Rattle.sl_meaning.specs.Environment.{zero_value}
use Rattle.sl_meaning.specs.Lowered.{slots}
use Rattle.sl_meaning.specs.Runs.{Names, nothing}
use Rattle.shader_binding.specs.Sets.{AreValuesOf}

-- values of their variables' shapes, the same at all points where they are uniform
pub record AreNames (c : ℕ) (f : ℕ → Names) : Type 0 where
  pub shaped : (i : ℕ) (p : Predefined) → i < c → shape (f i p) ≡ shape_of (name_type p)
  pub steady : (i : ℕ) (p : Predefined) → i < c → is_uniform_name p ≡ true → f 0 p ≡ f i p
  -- the eye is at the origin, and no light is seen yet
  pub eye : (i : ℕ) → i < c → f i names.E ≡ nothing names.E
  pub towards : (i : ℕ) → i < c → f i names.L ≡ nothing names.L
  pub colour : (i : ℕ) → i < c → f i names.Cl ≡ nothing names.Cl

-- the values of the parameters are as many as their slots, and of their shapes
pub values_counted : (ls : List Local) (vs : List Value) → AreValuesOf ls vs → length vs ≡ length (slots ls)
values_counted [] [] h = refl
values_counted (l ∷ ls) (v ∷ vs) h = ap (λ n. suc n) (values_counted ls vs h.1)
values_counted [] (v ∷ vs) h = absurd h
values_counted (l ∷ ls) [] h = absurd h

pub values_shaped : (ls : List Local) (vs : List Value) → AreValuesOf ls vs → (k : ℕ) → k < length (slots ls) → shape (get_or vs k zero_value) ≡ shape_of (get_or (slots ls) k no_slot).kind
values_shaped [] vs h k l = absurd (omega arith)
values_shaped (x ∷ ls) [] h k l = absurd h
values_shaped (x ∷ ls) (v ∷ vs) h zero l = h.0
values_shaped (x ∷ ls) (v ∷ vs) h (suc k) l = values_shaped ls vs h.1 k (omega arith)
