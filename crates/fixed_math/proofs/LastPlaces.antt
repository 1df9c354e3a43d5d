-- How last places change with one more name, and with the last name taken back.
use Rattle.std.proofs.Common.{ℕ, suc, ◌≡◌, ◌<◌, ◌≤◌, ◌-◌, ◌⊎◌, List, [], ◌∷◌, ◌++◌, Option, Some, None, IsSome, Bool, true, false, cond, take, length, get_or, refl, sym, ap, subst, ◌∙◌, inl, inr, length-append, arith}
use Rattle.std.specs.Option.{option_map, option_or}
use Rattle.std.specs.Str.{bytes_eq}
use Rattle.std.specs.Cmp.Lexicographic.{bytes_decides}
use Rattle.std.proofs.lemmas.Bool.{cases_lt}
use Rattle.std.proofs.lemmas.List.{length-take, get_or_append_left, get_or-append_right, take-append-le, take_at, get_or-take, take-take}
use Rattle.fixed_math.specs.Names.{last_place}
use Rattle.fixed_math.specs.NameTable.{KnowsBefore}
use Rattle.fixed_math.specs.declared.names.Name.{Name}

-- with one more name
pub last_place-push : (ns : List (List ℕ)) (n q : List ℕ) → last_place q (ns ++ n ∷ []) ≡ cond (bytes_eq n q) (Some (length ns)) (last_place q ns)
last_place-push [] n q = refl
last_place-push (m ∷ ms) n q =
    ap (λ o. option_or (option_map suc o) (cond (bytes_eq m q) (Some 0) None)) (last_place-push ms n q) ∙ by (bytes_eq n q)
  where
    by : (b : Bool) → option_or (option_map suc (cond b (Some (length ms)) (last_place q ms))) (cond (bytes_eq m q) (Some 0) None)
        ≡ cond b (Some (length (m ∷ ms))) (option_or (option_map suc (last_place q ms)) (cond (bytes_eq m q) (Some 0) None))
    by true = refl
    by false = refl

-- the map's answer after a push
pub found_after_push : (ns : List (List ℕ)) (n q : List ℕ) (old new : Option ℕ) → old ≡ last_place q ns → new ≡ cond (bytes_eq n q) (Some (length ns)) old → new ≡ last_place q (ns ++ n ∷ [])
found_after_push ns n q old new was is = is ∙ ap (λ o. cond (bytes_eq n q) (Some (length ns)) o) was ∙ sym (last_place-push ns n q)

-- the map's answer once the last name is taken back
pub found_after_drop : (ns : List (List ℕ)) (n q : List ℕ) (before old new : Option ℕ) → before ≡ last_place n ns → old ≡ last_place q (ns ++ n ∷ []) → new ≡ cond (bytes_eq n q) before old
    → new ≡ last_place q ns
found_after_drop ns n q before old new known was is = by (bytes_eq n q) refl
  where
    by : (b : Bool) → bytes_eq n q ≡ b → new ≡ last_place q ns
    by true e = is ∙ ap (λ b. cond b before old) e ∙ known ∙ ap (λ t. last_place t ns) ((bytes_decides n q).0 e)
    by false e = is ∙ ap (λ b. cond b before old) e ∙ was ∙ last_place-push ns n q ∙ ap (λ b. cond b (Some (length ns)) (last_place q ns)) e

-- the last name has a place
pub last_has_place : (ns : List (List ℕ)) (n : List ℕ) → IsSome (last_place n (ns ++ n ∷ []))
last_has_place ns n = subst IsSome (sym (last_place-push ns n n ∙ ap (λ b. cond b (Some (length ns)) (last_place n ns)) ((bytes_decides n n).1 refl))) refl

same : (i : ℕ) → i - i ≡ 0
same i = omega arith

-- names know what was before them, after a push
pub known_after_push : (ns : List Name) (n : Name) → ((i : ℕ) (d : Name) → i < length ns → KnowsBefore (take i ns) (get_or ns i d)) → KnowsBefore ns n
    → (i : ℕ) (d : Name) → i < length (ns ++ n ∷ []) → KnowsBefore (take i (ns ++ n ∷ [])) (get_or (ns ++ n ∷ []) i d)
known_after_push ns n known last i d inside = by (cases_lt i (length ns))
  where
    by : (i < length ns) ⊎ (length ns ≤ i) → KnowsBefore (take i (ns ++ n ∷ [])) (get_or (ns ++ n ∷ []) i d)
    by (inl before) = rw (take-append-le i ns (n ∷ []) (omega arith), get_or_append_left ns (n ∷ []) d i before) (known i d before)
    by (inr at) =
        let here : length ns ≡ i = omega (arith, length-append {A = Name}) in
        rw (take_at ns (n ∷ []) i here, get_or-append_right ns (n ∷ []) i i d here (omega arith), same i) last

-- and of the first of them
pub known_in_front : (ns : List Name) (m : ℕ) → ((i : ℕ) (d : Name) → i < length ns → KnowsBefore (take i ns) (get_or ns i d))
    → (i : ℕ) (d : Name) → i < length (take m ns) → KnowsBefore (take i (take m ns)) (get_or (take m ns) i d)
known_in_front ns m known i d inside =
    let below : i < m = omega (arith, length-take {A = Name}) in
    let there : i < length ns = omega (arith, length-take {A = Name}) in
    rw (take-take i m ns (omega arith), get_or-take m ns i d below) (known i d there)

-- and of the last of them
pub known_of_last : (ns : List Name) (n : Name) → ((i : ℕ) (d : Name) → i < length (ns ++ n ∷ []) → KnowsBefore (take i (ns ++ n ∷ [])) (get_or (ns ++ n ∷ []) i d)) → KnowsBefore ns n
known_of_last ns n known =
    let at = known (length ns) n (omega (arith, length-append {A = Name})) in
    rw (take_at ns (n ∷ []) (length ns) refl, get_or-append_right ns (n ∷ []) (length ns) (length ns) n refl (omega arith), same (length ns)) at at
