-- Where no two parameters have one name, a variable that binds fits all of them where it fits the one of its name.
use Rattle.std.proofs.Common.{◌≡◌, ℕ, suc, ◌+◌, Bool, true, false, not, ◌&&◌, ◌||◌, List, [], ◌∷◌, map, Option, Some, None, option_map, cond, refl, sym, ap, ◌∙◌}
use Rattle.std.specs.Prelude.{slice_get, codes}
use Rattle.std.specs.List.{list_any}
use Rattle.std.specs.Option.{option_or}
use Rattle.std.specs.Str.{bytes_eq}
use Rattle.fixed_math.specs.Names.{last_place}
use Rattle.scene.specs.Scene.{VariableValue}
use Rattle.sl_ast.specs.Textures.{TextureNode, texture_nodes}
use Rattle.sl_ast.specs.Typed.{Local, Tree}
use Rattle.sl_look_ups.specs.Naming.{is_named_by, bindable, bindable_from, binding_params}
use Rattle.shader_binding.specs.Predefined.{sets_predefined}
use Rattle.sl_types.specs.Distinct.{are_distinct}
use Rattle.sl_types.proofs.Distinct.{distinct_parts}
use Rattle.acceptance.specs.RequestFit.{is_of_type, local_name, declared_names}
use Rattle.acceptance.specs.PrimFit.{is_unfit}
use Rattle.acceptance.proofs.Names.{same_name}

abbrev place_in : List ℕ → List Local → Option ℕ
place_in name ls = last_place name (map local_name ls)

-- whether the variable doesn't fit the parameter at a place, where there is one
abbrev pub unfit_with : VariableValue → Option Local → Bool
unfit_with x None = false
unfit_with x (Some l) = is_unfit x l

abbrev pub unfit_at_place : VariableValue → List Local → Option ℕ → Bool
unfit_at_place x ls None = false
unfit_at_place x ls (Some k) = unfit_with x (slice_get ls k)

or_false : (b : Bool) → b ≡ (b || false)
or_false true = refl
or_false false = refl

-- a parameter of another name is passed over, also where no variable binds to it
apart_as : (x : VariableValue) (l : Local) (b : Bool) → sets_predefined x.name ≡ false → bytes_eq l.name x.name ≡ false → is_unfit x (bindable b l) ≡ false
apart_as x l false free e = ap (λ c. c && (not (is_of_type l.kind x.kind) || (x.varying && l.uniform))) e
apart_as x l true free e = by (bytes_eq (codes "s") x.name) refl
  where
    by : (b : Bool) → bytes_eq (codes "s") x.name ≡ b → (b && (not (is_of_type l.kind x.kind) || (x.varying && l.uniform))) ≡ false
    by false same = refl
    by true same = absurd (cc (ap sets_predefined (same_name (codes "s") x.name same) ∙ free))

passed : (x : VariableValue) (l : Local) (ls : List Local) → is_unfit x l ≡ false → list_any (is_unfit x) (l ∷ ls) ≡ list_any (is_unfit x) ls
passed x l ls e = ap (λ b. b || list_any (is_unfit x) ls) e

behind_head : (x : VariableValue) (l : Local) (ls bs : List Local) (b : Bool) (o : Option ℕ) (named : Bool) → sets_predefined x.name ≡ false → last_place l.name (map local_name ls) ≡ None
    → place_in x.name ls ≡ o → bytes_eq l.name x.name ≡ named → unfit_at_place x bs o ≡ list_any (is_unfit x) bs
    → unfit_at_place x (bindable b l ∷ bs) (option_or (option_map suc o) (cond named (Some 0) None)) ≡ list_any (is_unfit x) (bindable b l ∷ bs)
behind_head x l ls bs b (Some k) true free apart at named rest = absurd (cc (sym (ap (λ name. place_in name ls) (same_name l.name x.name named)) ∙ apart, at))
behind_head x l ls bs b (Some k) false free apart at named rest = rest ∙ sym (passed x (bindable b l) bs (apart_as x l b free named))
behind_head x l ls bs b None true free apart at named rest = or_false (is_unfit x (bindable b l)) ∙ ap (λ c. is_unfit x (bindable b l) || c) rest
behind_head x l ls bs b None false free apart at named rest = rest ∙ sym (passed x (bindable b l) bs (apart_as x l b free named))

pub at_its_place : (x : VariableValue) (nodes : List TextureNode) (k : ℕ) (ls : List Local) → sets_predefined x.name ≡ false → are_distinct (map local_name ls) ≡ true
    → unfit_at_place x (bindable_from nodes k ls) (place_in x.name ls) ≡ list_any (is_unfit x) (bindable_from nodes k ls)
at_its_place x nodes k [] free distinct = refl
at_its_place x nodes k (l ∷ ls) free distinct =
    let apart = distinct_parts l.name (map local_name ls) distinct in
    behind_head x l ls (bindable_from nodes (k + 1) ls) (is_named_by nodes k) (place_in x.name ls) (bytes_eq l.name x.name) free apart.0 refl refl
    (at_its_place x nodes (k + 1) ls free apart.1)

-- the same for a place that a table of these names has found
pub found_in : (x : VariableValue) (t : Tree) (names : List (List ℕ)) (o : Option ℕ) → names ≡ declared_names t → sets_predefined x.name ≡ false → are_distinct (declared_names t) ≡ true
    → o ≡ last_place x.name names → unfit_at_place x (binding_params t) o ≡ list_any (is_unfit x) (binding_params t)
found_in x t names o table free distinct found =
    ap (unfit_at_place x (binding_params t)) (found ∙ ap (last_place x.name) table) ∙ at_its_place x (texture_nodes t) 0 t.params free distinct
