-- Whether some variable that binds doesn't fit some parameter, asked by parameter: of variables of distinct names the one that has its name.
use Rattle.std.proofs.Common.{◌≡◌, ◌∙◌, ap, sym, refl, arith, ℕ, zero, suc, ◌+◌, Bool, true, false, not, ◌&&◌, ◌||◌, List, [], ◌∷◌, drop, Option, Some, None}
use Rattle.std.specs.Prelude.{slice_get}
use Rattle.std.specs.List.{list_any}
use Rattle.std.specs.Str.{bytes_eq}
use Rattle.std.proofs.lemmas.Bool.{and_parts}
use Rattle.fixed_math.specs.Names.{last_place}
use Rattle.scene.specs.Scene.{VariableValue}
use Rattle.scene.specs.Seats.{names_in, AreDistinct}
use Rattle.sl_ast.specs.Typed.{Local}
use Rattle.shader_binding.specs.Predefined.{sets_predefined}
use Rattle.acceptance.specs.RequestFit.{is_of_type}
use Rattle.acceptance.specs.PrimFit.{is_unfit, binds_unfit}
use Rattle.acceptance.proofs.Names.{same_name}

-- the variable binds, and doesn't fit the parameter
abbrev pub unfit_one : Local → VariableValue → Bool
unfit_one l x = not (sets_predefined x.name) && is_unfit x l

-- one of these does so
abbrev pub unfits : List VariableValue → Local → Bool
unfits xs l = list_any (unfit_one l) xs

-- ---- asked by parameters or by variables

any_false : {A : Type 0} (xs : List A) → list_any (λ x. false) xs ≡ false
any_false [] = refl
any_false (x ∷ xs) = any_false xs

or_swap : (a b c d : Bool) → ((a || b) || (c || d)) ≡ ((a || c) || (b || d))
or_swap true b c d = refl
or_swap false true true d = refl
or_swap false true false d = refl
or_swap false false c d = refl

any_or : {A : Type 0} (f g : A → Bool) (xs : List A) → list_any (λ x. f x || g x) xs ≡ (list_any f xs || list_any g xs)
any_or f g [] = refl
any_or f g (x ∷ xs) = ap (λ b. (f x || g x) || b) (any_or f g xs) ∙ or_swap (f x) (g x) (list_any f xs) (list_any g xs)

any_and : {A : Type 0} (b : Bool) (f : A → Bool) (xs : List A) → list_any (λ x. b && f x) xs ≡ (b && list_any f xs)
any_and true f xs = refl
any_and false f xs = any_false xs

pub by_parameter : (ls : List Local) (xs : List VariableValue) → list_any (unfits xs) ls ≡ list_any (binds_unfit ls) xs
by_parameter ls [] = any_false ls
by_parameter ls (x ∷ xs) =
    any_or (λ l. unfit_one l x) (unfits xs) ls
    ∙ ap (λ b. b || list_any (unfits xs) ls) (any_and (not (sets_predefined x.name)) (is_unfit x) ls)
    ∙ ap (λ b. binds_unfit ls x || b) (by_parameter ls xs)

-- ---- the one of the parameter's name

pub any_at : {A : Type 0} (test : A → Bool) (xs : List A) (k : ℕ) (x : A) → slice_get xs k ≡ Some x → test x ≡ true → list_any test xs ≡ true
any_at test [] k x at h = absurd cc
any_at test (y ∷ ys) zero x at h = let same : y ≡ x = cc in ap (λ z. test z || list_any test ys) same ∙ ap (λ b. b || list_any test ys) h
any_at test (y ∷ ys) (suc k) x at h = ap (λ b. test y || b) (any_at test ys k x at h) ∙ true_behind (test y)
  where
    true_behind : (b : Bool) → (b || true) ≡ true
    true_behind true = refl
    true_behind false = refl

-- one that passes, and its place
record Found {A : Type 0} (test : A → Bool) (xs : List A) : Type 0 where
  place : ℕ
  item : A
  at : slice_get xs place ≡ Some item
  passes : test item ≡ true

found_behind : {A : Type 0} (test : A → Bool) (y : A) (ys : List A) → Found test ys → Found test (y ∷ ys)
found_behind test y ys f = record { place = suc f.place; item = f.item; at = f.at; passes = f.passes }

found_by : {A : Type 0} (test : A → Bool) (y : A) (ys : List A) (b : Bool) → test y ≡ b → (b || list_any test ys) ≡ true → (list_any test ys ≡ true → Found test ys) → Found test (y ∷ ys)
found_by test y ys true e h rest = record { place = 0; item = y; at = refl; passes = e }
found_by test y ys false e h rest = found_behind test y ys (rest h)

any_found : {A : Type 0} (test : A → Bool) (xs : List A) → list_any test xs ≡ true → Found test xs
any_found test [] h = absurd cc
any_found test (y ∷ ys) h = found_by test y ys (test y) refl h (λ rest. any_found test ys rest)

-- those behind a place, and the one that stands there
any_behind : {A : Type 0} (test : A → Bool) (xs : List A) (k : ℕ) (x : A) → slice_get xs k ≡ Some x → list_any test (drop k xs) ≡ (test x || list_any test (drop (suc k) xs))
any_behind test [] k x at = absurd cc
any_behind test (y ∷ ys) zero x at = let same : y ≡ x = cc in ap (λ z. test z || list_any test ys) same
any_behind test (y ∷ ys) (suc k) x at = any_behind test ys k x at

pub any_next : {A : Type 0} (test : A → Bool) (xs : List A) (k : ℕ) (x : A) → slice_get xs k ≡ Some x → test x ≡ false → list_any test (drop (k + 1) xs) ≡ list_any test (drop k xs)
any_next test xs k x at fails =
    ap (λ n. list_any test (drop n xs)) (next k) ∙ sym (any_behind test xs k x at ∙ ap (λ b. b || list_any test (drop (suc k) xs)) fails)
  where
    next : (k : ℕ) → k + 1 ≡ suc k
    next k = omega arith

name_at : (xs : List VariableValue) (k : ℕ) (x : VariableValue) → slice_get xs k ≡ Some x → slice_get (names_in xs) k ≡ Some x.name
name_at [] k x at = absurd cc
name_at (y ∷ ys) zero x at = ap (λ (o : Option VariableValue). name_of o) at
  where
    name_of : Option VariableValue → Option (List ℕ)
    name_of None = None
    name_of (Some z) = Some z.name
name_at (y ∷ ys) (suc k) x at = name_at ys k x at

both_ways : (a b : Bool) → (a ≡ true → b ≡ true) → (b ≡ true → a ≡ true) → a ≡ b
both_ways true b f g = sym (f refl)
both_ways false true f g = g refl
both_ways false false f g = refl

-- whether the variable at a place doesn't fit the parameter, where there is one
abbrev pub unfit_seen : Local → Option VariableValue → Bool
unfit_seen l None = false
unfit_seen l (Some x) = is_unfit x l

abbrev pub unfit_there : Local → List VariableValue → Option ℕ → Bool
unfit_there l xs None = false
unfit_there l xs (Some k) = unfit_seen l (slice_get xs k)

unset : (name : List ℕ) (b : Bool) → sets_predefined name ≡ false → b ≡ true → (not (sets_predefined name) && b) ≡ true
unset name b free h = ap (λ c. not c && b) free ∙ h

its_name : (x : VariableValue) (l : Local) → is_unfit x l ≡ true → l.name ≡ x.name
its_name x l h = same_name l.name x.name (and_parts (bytes_eq l.name x.name) (not (is_of_type l.kind x.kind) || (x.varying && l.uniform)) h).0

there_any : (l : Local) (xs : List VariableValue) (o : Option ℕ) → sets_predefined l.name ≡ false → unfit_there l xs o ≡ true → unfits xs l ≡ true
there_any l xs None free h = absurd cc
there_any l xs (Some k) free h = by_seen (slice_get xs k) refl h
  where
    by_seen : (o : Option VariableValue) → slice_get xs k ≡ o → unfit_seen l o ≡ true → unfits xs l ≡ true
    by_seen None at h = absurd cc
    by_seen (Some x) at h = any_at (unfit_one l) xs k x at (unset x.name (is_unfit x l) (ap sets_predefined (sym (its_name x l h)) ∙ free) h)

any_there : (l : Local) (xs : List VariableValue) (o : Option ℕ) → AreDistinct (names_in xs) → o ≡ last_place l.name (names_in xs) → unfits xs l ≡ true → unfit_there l xs o ≡ true
any_there l xs o distinct is h =
    let it = any_found (unfit_one l) xs h in
    let k = it.place in
    let x = it.item in
    let unfit = (and_parts (not (sets_predefined x.name)) (is_unfit x l) it.passes).1 in
    let place : o ≡ Some k = is ∙ distinct k l.name (name_at xs k x it.at ∙ ap (λ n. Some n) (sym (its_name x l unfit))) in
    ap (unfit_there l xs) place ∙ ap (unfit_seen l) it.at ∙ unfit

pub at_its_place : (l : Local) (xs : List VariableValue) (o : Option ℕ) → AreDistinct (names_in xs) → sets_predefined l.name ≡ false → o ≡ last_place l.name (names_in xs) → unfit_there l xs o ≡ unfits xs l
at_its_place l xs o distinct free is = both_ways (unfit_there l xs o) (unfits xs l) (there_any l xs o free) (any_there l xs o distinct is)

-- a parameter whose name sets a predefined variable takes none
pub takes_none : (l : Local) (xs : List VariableValue) → sets_predefined l.name ≡ true → false ≡ unfits xs l
takes_none l xs set = both_ways false (unfits xs l) (λ e. absurd cc) (λ h. none h)
  where
    none : unfits xs l ≡ true → false ≡ true
    none h =
        let it = any_found (unfit_one l) xs h in
        let x = it.item in
        let parts = and_parts (not (sets_predefined x.name)) (is_unfit x l) it.passes in
        sym (ap not (ap sets_predefined (sym (its_name x l parts.1)) ∙ set)) ∙ parts.0
