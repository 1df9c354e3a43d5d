-- Parameters as variables of primitives bind to them have the kinds and classes of those of the tree.
use Rattle.std.proofs.Common.{◌≡◌, ℕ, ◌+◌, Bool, true, false, List, [], ◌∷◌, refl, ap, sym, ◌∙◌}
use Rattle.sl_ast.specs.declared.typed.Value.{Value}
use Rattle.sl_ast.specs.Textures.{TextureNode, texture_nodes}
use Rattle.sl_ast.specs.Typed.{Local, Tree}
use Rattle.builtins.specs.Values.{shape_of}
use Rattle.sl_look_ups.specs.Naming.{is_named_by, bindable, bindable_from, binding_params}
use Rattle.sl_meaning.specs.Core as core
use Rattle.sl_meaning.specs.Lowered.{slots}
use Rattle.shader_binding.specs.Sets.{AreValuesOf}

kind_kept : (b : Bool) (l : Local) → (bindable b l).kind ≡ l.kind
kind_kept true l = refl
kind_kept false l = refl

class_kept : (b : Bool) (l : Local) → (bindable b l).uniform ≡ l.uniform
class_kept true l = refl
class_kept false l = refl

slots_from : (ns : List TextureNode) (k : ℕ) (ls : List Local) → slots (bindable_from ns k ls) ≡ slots ls
slots_from ns k [] = refl
slots_from ns k (l ∷ ls) =
    ap (λ u. core.slot u (bindable (is_named_by ns k) l).kind ∷ slots (bindable_from ns (k + 1) ls)) (class_kept (is_named_by ns k) l)
    ∙ ap (λ t. core.slot l.uniform t ∷ slots (bindable_from ns (k + 1) ls)) (kind_kept (is_named_by ns k) l)
    ∙ ap (λ ss. core.slot l.uniform l.kind ∷ ss) (slots_from ns (k + 1) ls)

pub binding_slots : (t : Tree) → slots (binding_params t) ≡ slots t.params
binding_slots t = slots_from (texture_nodes t) 0 t.params

bound_from : (ns : List TextureNode) (k : ℕ) (ls : List Local) (vs : List Value) → AreValuesOf ls vs → AreValuesOf (bindable_from ns k ls) vs
bound_from ns k [] [] h = tt
bound_from ns k [] (v ∷ vs) h = absurd h
bound_from ns k (l ∷ ls) [] h = absurd h
bound_from ns k (l ∷ ls) (v ∷ vs) h = (h.0 ∙ ap shape_of (sym (kind_kept (is_named_by ns k) l)), bound_from ns (k + 1) ls vs h.1)

pub binding_values : (t : Tree) (vs : List Value) → AreValuesOf t.params vs → AreValuesOf (binding_params t) vs
binding_values t vs h = bound_from (texture_nodes t) 0 t.params vs h

taken_from : (ns : List TextureNode) (k : ℕ) (ls : List Local) (vs : List Value) → AreValuesOf (bindable_from ns k ls) vs → AreValuesOf ls vs
taken_from ns k [] [] h = tt
taken_from ns k [] (v ∷ vs) h = absurd h
taken_from ns k (l ∷ ls) [] h = absurd h
taken_from ns k (l ∷ ls) (v ∷ vs) h = (h.0 ∙ ap shape_of (kind_kept (is_named_by ns k) l), taken_from ns (k + 1) ls vs h.1)

pub values_taken : (t : Tree) (vs : List Value) → AreValuesOf (binding_params t) vs → AreValuesOf t.params vs
values_taken t vs h = taken_from (texture_nodes t) 0 t.params vs h
