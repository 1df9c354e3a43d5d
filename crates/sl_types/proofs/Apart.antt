-- No two parameters of a file have one name: the second is refused.
use Rattle.std.proofs.Common.{◌≡◌, ℕ, suc, Bool, true, false, cond, List, [], ◌∷◌, ◌++◌, map, length, is_some, Option, Some, None, Result, Ok, Err, IfOk, true≢false, refl, sym, ap, ◌∙◌, subst}
use Rattle.std.proofs.lemmas.Bool.{cond_both}
use Rattle.std.specs.Option.{option_map, option_or}
use Rattle.std.specs.Str.{bytes_eq}
use Rattle.fixed_math.specs.Names.{last_place}
use Rattle.sl_ast.specs.Syntax as U
use Rattle.sl_ast.specs.declared.kinds.SlType.{SlType}
use Rattle.sl_expressions.specs.Found.{Found}
use Rattle.sl_expressions.specs.Scope.{Local, one_further, level_of, Around}
use Rattle.sl_typing.specs.Stmts.{typed_rows}
use Rattle.sl_typing.specs.Assigned.{assigned_in}
use Rattle.sl_typing.specs.Functions.{known_from, Param, locals_of, by_default, default_in, typed_param, typed_params, typed_groups, Program, in_body, program}
use Rattle.sl_types.specs.Distinct.{are_distinct}
use Rattle.sl_types.specs.Inline.{declared_of, tree_of}
use Rattle.sl_types.proofs.Distinct.{distinct_push}
use Rattle.sl_types.proofs.WellScope.{Good, good_bind, good_any}

-- the place of a name among variables is its level
abbrev place_of : Option (ℕ × Local) → Option ℕ
place_of o = option_map (λ x. x.0) o

further : (o : Option (ℕ × Local)) (b : Bool) (l : Local)
    → option_or (option_map suc (place_of o)) (cond b (Some 0) None) ≡ place_of (option_or (option_map one_further o) (cond b (Some (0, l)) None))
further None true l = refl
further None false l = refl
further (Some x) b l = refl

abbrev names_in : List Local → List (List ℕ)
names_in ls = map (λ l. l.name) ls

level_place : (name : List ℕ) (ls : List Local) → last_place name (names_in ls) ≡ place_of (level_of name ls)
level_place name [] = refl
level_place name (l ∷ ls) =
    ap (λ o. option_or (option_map suc o) (cond (bytes_eq l.name name) (Some 0) None)) (level_place name ls) ∙ further (level_of name ls) (bytes_eq l.name name) l

none_placed : (o : Option (ℕ × Local)) → is_some o ≡ false → place_of o ≡ None
none_placed None e = refl
none_placed (Some x) e = absurd (true≢false e)

abbrev Apart : List Param → Type 0
Apart ps = are_distinct (names_in (locals_of ps)) ≡ true

names_push : (ps : List Param) (p : Param) → names_in (locals_of (ps ++ p ∷ [])) ≡ names_in (locals_of ps) ++ p.local.name ∷ []
names_push [] p = refl
names_push (x ∷ ps) p = ap (λ ns. x.local.name ∷ ns) (names_push ps p)

push_apart : (ps : List Param) (p : Param) → Apart ps → is_some (level_of p.local.name (locals_of ps)) ≡ false → Apart (ps ++ p ∷ [])
push_apart ps p h e =
    let name = p.local.name in
    ap are_distinct (names_push ps p)
    ∙ distinct_push (names_in (locals_of ps)) name h (level_place name (locals_of ps) ∙ none_placed (level_of name (locals_of ps)) e)

param_apart : (g : Around) (assigned : List (List ℕ)) (uniform : Bool) (type : SlType) (ps : List Param) (d : U.Declared) → Apart ps → Good (typed_param g assigned uniform type ps d) Apart
param_apart g assigned uniform type ps d h =
    cond_both (is_some (level_of d.name (locals_of ps))) _ _ (λ x. Good x Apart) (λ e. tt)
    (λ e. good_bind (default_in g type d.set_line d.value) _ (λ t. Unit {0}) Apart (good_any (default_in g type d.set_line d.value)) (λ t p. push_apart ps _ h e))

params_apart : (g : Around) (assigned : List (List ℕ)) (uniform : Bool) (type : SlType) (ps : List Param) (ds : List U.Declared) → Apart ps → Good (typed_params g assigned uniform type ps ds) Apart
params_apart g assigned uniform type ps [] h = h
params_apart g assigned uniform type ps (d ∷ ds) h =
    good_bind (typed_param g assigned uniform type ps d) _ Apart Apart (param_apart g assigned uniform type ps d h) (λ x p. params_apart g assigned uniform type x ds p)

groups_apart : (g : Around) (assigned : List (List ℕ)) (ps : List Param) (gs : List U.Group) → Apart ps → Good (typed_groups g assigned ps gs) Apart
groups_apart g assigned ps [] h = h
groups_apart g assigned ps (x ∷ xs) h =
    good_bind (typed_params g assigned _ x.kind ps x.names) _ Apart Apart (params_apart g assigned _ x.kind ps x.names h) (λ y p. groups_apart g assigned y xs p)

program_apart : (s : U.Shader) → Good (program s) (λ p. Apart p.params)
program_apart s =
    good_bind (known_from s.kind [] s.functions) _ (λ known. Unit {0}) (λ p. Apart p.params) (good_any (known_from s.kind [] s.functions))
    (λ known u. good_bind (typed_groups (by_default s.kind known) (assigned_in s.body) [] s.params) _ Apart (λ p. Apart p.params) (groups_apart (by_default s.kind known) (assigned_in s.body) [] s.params refl)
    (λ params h. good_bind (typed_rows (in_body s.kind known) (length params) (locals_of params) s.body) _ (λ rows. Unit {0}) (λ p. Apart p.params)
    (good_any (typed_rows (in_body s.kind known) (length params) (locals_of params) s.body)) (λ rows q. h)))

names_kept : (ps : List Param) → map (λ l. l.name) (map declared_of ps) ≡ names_in (locals_of ps)
names_kept [] = refl
names_kept (p ∷ ps) = ap (λ ns. p.local.name ∷ ns) (names_kept ps)

good_ok : {A : Type 0} (r : Found A) (a : A) (P : A → Type 0) → r ≡ Ok a → Good r P → P a
good_ok r a P is h = subst (λ x. Good x P) is h

pub distinct_params : (s : U.Shader) (p : Program) → program s ≡ Ok p → are_distinct (map (λ l. l.name) (tree_of s p).params) ≡ true
distinct_params s p is = ap are_distinct (names_kept p.params) ∙ good_ok (program s) p (λ q. Apart q.params) is (program_apart s)

-- what holds of a value holds of it where it is given
pub all_kept : {A E : Type 0} (P : A → Type 0) (a : A) (r : Result A E) → IfOk r (λ x. x ≡ a) → P a → IfOk r P
all_kept P a (Ok x) is p = subst P (sym is) p
all_kept P a (Err e) is p = tt
