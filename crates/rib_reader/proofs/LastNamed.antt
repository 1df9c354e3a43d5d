-- The last variable of a name, and those that hold.
use Rattle.std.proofs.Common.{◌≡◌, ℕ, zero, suc, ◌+◌, ◌<◌, ◌∷◌, [], ◌++◌, List, Bool, true, false, not, ◌||◌, ◌==◌, cond, Option, Some, None, is_some, option_map, map, length, drop, refl, sym, ap, ◌∙◌, append_assoc, arith}
use Rattle.std.proofs.lemmas.Bool.Decides.{nat_tests}
use Rattle.std.proofs.lemmas.Slice.Eq.{bytes_eq-Decides}
use Rattle.std.specs.List.{slice_index_or}
use Rattle.std.specs.Option.{option_or}
use Rattle.std.specs.Str.{bytes_eq}
use Rattle.fixed_math.specs.Names.{last_place}
use Rattle.scene.specs.declared.params.Param.{Param}
use Rattle.rib_reader.specs.Holding.{is_named, holding, is_at}
use lib.Seq.{drop-cons}

pub or_assoc : {A : Type 0} (a b c : Option A) → option_or (option_or a b) c ≡ option_or a (option_or b c)
or_assoc None b c = refl
or_assoc (Some x) b c = refl

same_bytes : (n : List ℕ) → bytes_eq n n ≡ true
same_bytes n = (bytes_eq-Decides n n).1 refl

not_head : (i : ℕ) → (suc i == 0) ≡ false
not_head i = grind (arith, nat_tests)

head_not : (k : ℕ) → (0 == suc k) ≡ false
head_not k = grind (arith, nat_tests)

further : (i k : ℕ) → (suc i == suc k) ≡ (i == k)
further i k = by_test (i == k) refl
  where
    by_test : (b : Bool) → (i == k) ≡ b → (suc i == suc k) ≡ b
    by_test true e = grind (arith, nat_tests)
    by_test false e = grind (arith, nat_tests)

abbrev name_in : Param → List ℕ
name_in p = p.name

abbrev head_place : Bool → Option ℕ
head_place b = cond b (Some 0) None

some_or : (o : Option ℕ) (b r : Bool) → is_some o ≡ r → is_some (option_or (option_map suc o) (head_place b)) ≡ (b || r)
some_or None true r e = refl
some_or None false r e = e
some_or (Some i) true r e = refl
some_or (Some i) false r e = e

-- a name has a place exactly where one has it
place_there : (n : List ℕ) (ps : List Param) → is_some (last_place n (map name_in ps)) ≡ is_named n ps
place_there n [] = refl
place_there n (p ∷ ps) = some_or (last_place n (map name_in ps)) (bytes_eq p.name n) (is_named n ps) (place_there n ps)

at_head : (o : Option ℕ) (b r : Bool) → b ≡ true → is_some o ≡ r → is_at 0 (option_or (option_map suc o) (head_place b)) ≡ not r
at_head None true false e s = refl
at_head None true true e s = absurd cc
at_head None false r e s = absurd cc
at_head (Some i) b true e s = not_head i
at_head (Some i) b false e s = absurd cc

one_further : (k : ℕ) (o : Option ℕ) (b : Bool) → is_at (suc k) (option_or (option_map suc o) (head_place b)) ≡ is_at k o
one_further k None true = head_not k
one_further k None false = refl
one_further k (Some i) b = further i k

-- the last of its name stands at its place exactly where none of it stands behind
pub last_there : (ps : List Param) (k : ℕ) (p : Param) → k < length ps → p ≡ slice_index_or ps k p
    → is_at k (last_place p.name (map name_in ps)) ≡ not (is_named p.name (drop (suc k) ps))
last_there [] k p h is = absurd (omega arith)
last_there (q ∷ qs) zero p h is =
    at_head (last_place p.name (map name_in qs)) (bytes_eq q.name p.name) (is_named p.name qs)
    (ap (λ (r : Param). bytes_eq r.name p.name) (sym is) ∙ same_bytes p.name) (place_there p.name qs)
last_there (q ∷ qs) (suc k) p h is =
    one_further k (last_place p.name (map name_in qs)) (bytes_eq q.name p.name) ∙ last_there qs k p (omega arith) is

not_not : (r : Bool) → not (not r) ≡ r
not_not true = refl
not_not false = refl

-- a variable is kept or left out
pub one_held : (ps : List Param) (k : ℕ) (p : Param) (done whole : List Param) (t : Bool) → k < length ps → p ≡ slice_index_or ps k p
    → is_at k (last_place p.name (map name_in ps)) ≡ t → done ++ holding (drop k ps) ≡ whole
    → (cond t (done ++ p ∷ []) done) ++ holding (drop (suc k) ps) ≡ whole
one_held ps k p done whole t h is held same =
    let rest : List Param = drop (suc k) ps in
    let cut : drop k ps ≡ p ∷ rest = drop-cons ps k p h ∙ ap (λ y. y ∷ rest) (sym is) in
    let behind : is_named p.name rest ≡ not t = sym (not_not (is_named p.name rest)) ∙ ap not (sym (last_there ps k p h is) ∙ held) in
    by_test t ∙ ap (λ b. done ++ cond b (holding rest) (p ∷ holding rest)) (sym behind) ∙ sym (ap (λ l. done ++ holding l) cut) ∙ same
  where
    by_test : (t : Bool) → (cond t (done ++ p ∷ []) done) ++ holding (drop (suc k) ps) ≡ done ++ cond (not t) (holding (drop (suc k) ps)) (p ∷ holding (drop (suc k) ps))
    by_test true = append_assoc done (p ∷ []) (holding (drop (suc k) ps))
    by_test false = refl

pub next_held : (ps : List Param) (k : ℕ) (p : Param) (done later whole : List Param) (t : Bool) → k < length ps → p ≡ slice_index_or ps k p
    → t ≡ is_at k (last_place p.name (map name_in ps)) → later ≡ cond t (done ++ p ∷ []) done → done ++ holding (drop k ps) ≡ whole
    → later ++ holding (drop (k + 1) ps) ≡ whole
next_held ps k p done later whole t h is held kept same =
    ap (λ n. later ++ holding (drop n ps)) (one_more k)
    ∙ ap (λ xs. xs ++ holding (drop (suc k) ps)) kept
    ∙ one_held ps k p done whole t h is (sym held) same
  where
    one_more : (k : ℕ) → k + 1 ≡ suc k
    one_more k = omega arith
