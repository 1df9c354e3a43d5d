-- No two variables of a primitive have one name.
use Rattle.std.proofs.Common.{◌≡◌, ◌∙◌, ap, refl, subst, ℕ, zero, suc, Bool, true, false, cond, not, List, [], ◌∷◌, filter, Some, None}
use Rattle.std.specs.Option.{option_map, option_or}
use Rattle.std.specs.Str.{bytes_eq}
use Rattle.std.specs.Cmp.Lexicographic.{bytes_decides}
use Rattle.std.proofs.lemmas.Bool.{or_parts, or_from}
use Rattle.fixed_math.specs.Names.{last_place}
use Rattle.rib_reader.specs.Lists.{is_points}
use Rattle.rib_reader.specs.Holding.{holding, is_named}
use Rattle.scene.specs.declared.params.Param.{Param}
use Rattle.scene.specs.Seats.{names_of, AreDistinct}
use Rattle.primitives.specs.Variables.{variables_in}

-- behind none stands another of its name
abbrev Once : List Param → Type 0
Once [] = Unit {0}
Once (p ∷ ps) = (is_named p.name ps ≡ false) × Once ps

-- a name that none of all has, none of some has
named_first : (name : List ℕ) (t : Bool) (p : Param) (ps : List Param) → bytes_eq p.name name ≡ false → is_named name ps ≡ false → is_named name (cond t (p ∷ ps) ps) ≡ false
named_first name true p ps a b = or_from (bytes_eq p.name name) (is_named name ps) a b
named_first name false p ps a b = b

named_behind : (name : List ℕ) (t : Bool) (p : Param) (ps : List Param) → bytes_eq p.name name ≡ false → is_named name ps ≡ false → is_named name (cond t ps (p ∷ ps)) ≡ false
named_behind name true p ps a b = b
named_behind name false p ps a b = or_from (bytes_eq p.name name) (is_named name ps) a b

named_filter : (q : Param → Bool) (name : List ℕ) (ps : List Param) → is_named name ps ≡ false → is_named name (filter q ps) ≡ false
named_filter q name [] h = refl
named_filter q name (p ∷ ps) h =
    let parts = or_parts (bytes_eq p.name name) (is_named name ps) h in
    named_first name (q p) p (filter q ps) parts.0 (named_filter q name ps parts.1)

named_holding : (name : List ℕ) (ps : List Param) → is_named name ps ≡ false → is_named name (holding ps) ≡ false
named_holding name [] h = refl
named_holding name (p ∷ ps) h =
    let parts = or_parts (bytes_eq p.name name) (is_named name ps) h in
    named_behind name (is_named p.name ps) p (holding ps) parts.0 (named_holding name ps parts.1)

once_first : (t : Bool) (p : Param) (ps : List Param) → is_named p.name ps ≡ false → Once ps → Once (cond t (p ∷ ps) ps)
once_first true p ps apart once = (apart, once)
once_first false p ps apart once = once

once_behind : (t : Bool) (p : Param) (ps : List Param) → (t ≡ false → is_named p.name ps ≡ false) → Once ps → Once (cond t ps (p ∷ ps))
once_behind true p ps apart once = once
once_behind false p ps apart once = (apart refl, once)

filter_once : (q : Param → Bool) (ps : List Param) → Once ps → Once (filter q ps)
filter_once q [] once = once
filter_once q (p ∷ ps) once = once_first (q p) p (filter q ps) (named_filter q p.name ps once.0) (filter_once q ps once.1)

holding_once : (ps : List Param) → Once (holding ps)
holding_once [] = tt
holding_once (p ∷ ps) = once_behind (is_named p.name ps) p (holding ps) (λ apart. named_holding p.name ps apart) (holding_once ps)

last_none : (name : List ℕ) (ps : List Param) → is_named name ps ≡ false → last_place name (names_of ps) ≡ None
last_none name [] h = refl
last_none name (p ∷ ps) h =
    let parts = or_parts (bytes_eq p.name name) (is_named name ps) h in
    ap (λ o. option_or (option_map suc o) (cond (bytes_eq p.name name) (Some 0) None)) (last_none name ps parts.1)
    ∙ ap (λ b. cond b (Some 0) None) parts.0

once_distinct : (ps : List Param) → Once ps → AreDistinct (names_of ps)
once_distinct [] once k name at = absurd cc
once_distinct (p ∷ ps) once zero name at =
    let same : p.name ≡ name = cc in
    ap (λ o. option_or (option_map suc o) (cond (bytes_eq p.name name) (Some 0) None)) (last_none name ps (subst (λ n. is_named n ps ≡ false) same once.0))
    ∙ ap (λ b. cond b (Some 0) None) ((bytes_decides p.name name).1 same)
once_distinct (p ∷ ps) once (suc k) name at =
    ap (λ o. option_or (option_map suc o) (cond (bytes_eq p.name name) (Some 0) None)) (once_distinct ps once.1 k name at)

pub variables_distinct : (ps : List Param) → AreDistinct (names_of (variables_in ps))
variables_distinct ps = once_distinct (variables_in ps) (filter_once (λ p. not (is_points p.name)) (holding ps) (holding_once ps))
