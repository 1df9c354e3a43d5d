-- What the parameters of a request are bound to.
use Rattle.std.proofs.Common.{◌≡◌, ℕ, zero, suc, ◌+◌, Bool, true, false, List, [], ◌∷◌, length, get_or, map, drop, Option, Some, None, cond, refl, sym, ap, ◌∙◌, subst, add-one}
use Rattle.std.specs.Prelude.{slice_get}
use Rattle.std.specs.List.{list_any, range_with_len}
use Rattle.std.specs.Option.{option_map, option_or}
use Rattle.std.specs.Str.{bytes_eq}
use Rattle.transforms.specs.Map.{Map}
use Rattle.scene.specs.declared.params.Param.{Param}
use Rattle.scene.specs.declared.params.Values.{Values}
use Rattle.rib_reader.specs.Holding.{holding, last_named}
use Rattle.scene.specs.declared.uses.ShaderUse.{ShaderUse}
use Rattle.sl_ast.specs.declared.kinds.SlType.{SlType}
use Rattle.sl_ast.specs.declared.kinds.SlType.TheVariants as types
use Rattle.sl_ast.specs.declared.typed.Value.{Value}
use Rattle.sl_ast.specs.Typed.{Local, Tree}
use Rattle.builtins.specs.Shapes.{shape}
use Rattle.builtins.specs.Values.{shape_of, as_shape}
use Rattle.builtins.specs.declared.shape.Shape.{Shape}
use Rattle.builtins.specs.declared.shape.Shape.TheVariants as shapes
use Rattle.sl_meaning.specs.Defaults.{no_local}
use Rattle.fixed_math.specs.Names.{last_place}
use Rattle.shader_binding.specs.Sets.{is_of_kind, AreValuesOf, FitsUse}
use Rattle.acceptance.specs.RequestFit.{param_name, binding_fault, is_undeclared, is_misfit}
use Rattle.acceptance.specs.declared.code.FaultCode.TheVariants.{B1, B2, B3}
use Rattle.acceptance.specs.Bound.{given_value, given_or, default_in, param_at, bound_value, bound_values}

-- ---- the last of a name
abbrev pub got : List Param → Option ℕ → Option Param
got ps None = None
got ps (Some k) = slice_get ps k

abbrev named_or : Option Param → Bool → Param → Option Param
named_or o b p = option_or o (cond b (Some p) None)

abbrev place_or_first : Option ℕ → Bool → Option ℕ
place_or_first o b = option_or (option_map suc o) (cond b (Some 0) None)

-- a place that is found is there
found_step : (name : List ℕ) (p : Param) (ps : List Param) (o : Option ℕ) (b : Bool) (k : ℕ) → ((j : ℕ) → o ≡ Some j → (q : Param) × (slice_get ps j ≡ Some q))
    → place_or_first o b ≡ Some k → (q : Param) × (slice_get (p ∷ ps) k ≡ Some q)
found_step name p ps (Some j) b k rest e =
    let same : k ≡ suc j = cc e in
    let r = rest j refl in
    (r.0, ap (slice_get (p ∷ ps)) same ∙ r.1)
found_step name p ps None true k rest e = let same : k ≡ 0 = cc e in (p, ap (slice_get (p ∷ ps)) same)
found_step name p ps None false k rest e = absurd (cc e)

found : (name : List ℕ) (ps : List Param) (k : ℕ) → last_place name (map param_name ps) ≡ Some k → (q : Param) × (slice_get ps k ≡ Some q)
found name [] k e = absurd (cc e)
found name (p ∷ ps) k e = found_step name p ps (last_place name (map param_name ps)) (bytes_eq p.name name) k (λ j h. found name ps j h) e

last_step : (name : List ℕ) (p : Param) (ps : List Param) (o : Option ℕ) (b : Bool) → ((j : ℕ) → o ≡ Some j → (q : Param) × (slice_get ps j ≡ Some q))
    → named_or (got ps o) b p ≡ got (p ∷ ps) (place_or_first o b)
last_step name p ps None true there = refl
last_step name p ps None false there = refl
last_step name p ps (Some j) b there =
    let r = there j refl in
    ap (λ o. named_or o b p) r.1 ∙ sym r.1

pub last_found : (name : List ℕ) (ps : List Param) → last_named name ps ≡ got ps (last_place name (map param_name ps))
last_found name [] = refl
last_found name (p ∷ ps) =
    ap (λ o. named_or o (bytes_eq p.name name) p) (last_found name ps)
    ∙ last_step name p ps (last_place name (map param_name ps)) (bytes_eq p.name name) (λ j h. found name ps j h)

pub given_at : (name : List ℕ) (ps : List Param) (names : List (List ℕ)) (o : Option ℕ) → names ≡ map param_name ps → o ≡ last_place name names → last_named name ps ≡ got ps o
given_at name ps names o table looked = last_found name ps ∙ ap (got ps) (ap (last_place name) (sym table) ∙ sym looked)

-- ---- shapes of values
shape_given : (kind : SlType) (space : Map) (vs : Values) → shape (given_value kind space vs) ≡ shape_of kind
shape_given types.Float space vs = refl
shape_given types.Color space vs = refl
shape_given types.Point space vs = refl
shape_given types.Vector space vs = refl
shape_given types.Normal space vs = refl
shape_given types.Str space vs = refl

shape_as : (s : Shape) (v : Value) → shape (as_shape s v) ≡ s
shape_as shapes.Number v = refl
shape_as shapes.Triple v = refl
shape_as shapes.Word v = refl

shape_default : (t : Tree) (space : Map) (k : ℕ) → shape (default_in t space k) ≡ shape_of (param_at t k).kind
unfolding default_in
shape_default t space k = shape_as (shape_of (param_at t k).kind) _

shape_or : (kind : SlType) (space : Map) (d : Value) (o : Option Param) → shape d ≡ shape_of kind → shape (given_or kind space d o) ≡ shape_of kind
shape_or kind space d None e = e
shape_or kind space d (Some p) e = shape_given kind space p.values

shape_bound : (t : Tree) (u : ShaderUse) (k : ℕ) → shape (bound_value t u k) ≡ shape_of (param_at t k).kind
shape_bound t u k = shape_or (param_at t k).kind u.space (default_in t u.space k) (last_named (param_at t k).name u.params) (shape_default t u.space k)

-- the parameters from k on
values_from : (t : Tree) (u : ShaderUse) (k : ℕ) (ls : List Local) → drop k t.params ≡ ls → AreValuesOf ls (map (bound_value t u) (range_with_len k (length ls)))
values_from t u k [] is = tt
values_from t u k (l ∷ ls) is =
    let at : param_at t k ≡ l = get_or-drop t.params k no_local l ls is in
    (shape_bound t u k ∙ ap (λ (m : Local). shape_of m.kind) at, values_from t u (k + 1) ls (ap (λ m. drop m t.params) (add-one k) ∙ drop-next t.params k l ls is))
  where
    get_or-drop : (xs : List Local) (n : ℕ) (d x : Local) (rest : List Local) → drop n xs ≡ x ∷ rest → get_or xs n d ≡ x
    get_or-drop [] zero d x rest e = absurd (cc e)
    get_or-drop [] (suc n) d x rest e = absurd (cc e)
    get_or-drop (y ∷ ys) zero d x rest e = cc e
    get_or-drop (y ∷ ys) (suc n) d x rest e = get_or-drop ys n d x rest e

    drop-next : (xs : List Local) (n : ℕ) (x : Local) (rest : List Local) → drop n xs ≡ x ∷ rest → drop (suc n) xs ≡ rest
    drop-next [] zero x rest e = absurd (cc e)
    drop-next [] (suc n) x rest e = absurd (cc e)
    drop-next (y ∷ ys) zero x rest e = cc e
    drop-next (y ∷ ys) (suc n) x rest e = drop-next ys n x rest e

pub values_fit : (t : Tree) (u : ShaderUse) → AreValuesOf t.params (bound_values t u)
values_fit t u = values_from t u 0 t.params refl

-- ---- kinds
pub fits_kind : (t : Tree) (u : ShaderUse) → binding_fault t u ≡ None → is_of_kind t.kind u.kind ≡ true
fits_kind t u = by (list_any (is_undeclared t.params) u.params) (list_any (is_misfit t.params) (holding u.params)) (is_of_kind t.kind u.kind)
  where
    by : (a b c : Bool) → cond a (Some B1) (cond b (Some B2) (cond c None (Some B3))) ≡ None → c ≡ true
    by true b c e = absurd (cc e)
    by false true c e = absurd (cc e)
    by false false true e = refl
    by false false false e = absurd (cc e)

-- a request without a fault
pub bound_fits : (t : Tree) (u : ShaderUse) (vs : List Value) → binding_fault t u ≡ None → vs ≡ bound_values t u → FitsUse u vs (Some t)
bound_fits t u vs none is = (fits_kind t u none, subst (AreValuesOf t.params) (sym is) (values_fit t u))
