-- Names that are read, and those that are left.
use Rattle.std.proofs.Common.{◌≡◌, ⊎_elim, ℕ, Bool, true, false, not, ◌||◌, List, [], ◌∷◌, ◌++◌, filter, cond, refl, sym, ap, ◌∙◌, arith}
use Rattle.std.specs.Str.{bytes_eq}
use Rattle.std.proofs.lemmas.Bool.{cases_Bool}
use Rattle.std.proofs.lemmas.List.Folds.{list_any-append}
use Rattle.std.proofs.lemmas.Slice.Eq.{bytes_eq-Decides}
use Rattle.acceptance.specs.Shaders.{without, distinct}
use Rattle.acceptance.specs.Reading.{is_among}

kept : {A : Type 0} (p : A → Bool) (x : A) (xs : List A) → p x ≡ true → filter p (x ∷ xs) ≡ x ∷ filter p xs
kept p x xs h = ap (λ b. cond b (x ∷ filter p xs) (filter p xs)) h

dropped : {A : Type 0} (p : A → Bool) (x : A) (xs : List A) → p x ≡ false → filter p (x ∷ xs) ≡ filter p xs
dropped p x xs h = ap (λ b. cond b (x ∷ filter p xs) (filter p xs)) h

pub same_name : (a b : List ℕ) → bytes_eq a b ≡ true → a ≡ b
same_name a b h = grind (arith, bytes_eq-Decides a b, h)

pub itself : (a : List ℕ) → bytes_eq a a ≡ true
itself a = grind (arith, bytes_eq-Decides a a)

-- those of these names that are not among the others
abbrev pub left : List (List ℕ) → List (List ℕ) → List (List ℕ)
left done names = filter (λ n. not (is_among n done)) names

pub left_none : (names : List (List ℕ)) → left [] names ≡ names
left_none [] = refl
left_none (n ∷ ns) = ap (λ xs. n ∷ xs) (left_none ns)

-- a name that is read is left out anyway
absorbed : (done : List (List ℕ)) (name : List ℕ) → is_among name done ≡ true → (names : List (List ℕ)) → left done (without name names) ≡ left done names
absorbed done name h [] = refl
absorbed done name h (n ∷ ns) =
    let more = absorbed done name h ns in
    let p : List ℕ → Bool = λ m. not (is_among m done) in
    let q : List ℕ → Bool = λ m. not (bytes_eq m name) in
    ⊎_elim
    (λ (e : bytes_eq n name ≡ true).
    let out : is_among n done ≡ true = ap (λ m. is_among m done) (same_name n name e) ∙ h in
    ap (left done) (dropped q n ns (ap not e)) ∙ more ∙ sym (dropped p n ns (ap not out)))
    (λ (e : bytes_eq n name ≡ false).
    let here : left done (without name (n ∷ ns)) ≡ left done (n ∷ without name ns) = ap (left done) (kept q n ns (ap not e)) in
    here ∙ ap (λ xs. cond (p n) (n ∷ xs) xs) more)
    (cases_Bool (bytes_eq n name))

-- one more name is read
advanced : (done : List (List ℕ)) (name : List ℕ) (names : List (List ℕ)) → left done (without name names) ≡ left (done ++ name ∷ []) names
advanced done name [] = refl
advanced done name (n ∷ ns) =
    let more = advanced done name ns in
    let p : List ℕ → Bool = λ m. not (is_among m done) in
    let q : List ℕ → Bool = λ m. not (bytes_eq m name) in
    let r : List ℕ → Bool = λ m. not (is_among m (done ++ name ∷ [])) in
    let split : is_among n (done ++ name ∷ []) ≡ (is_among n done || is_among n (name ∷ [])) = list_any-append (λ m. bytes_eq m n) done (name ∷ []) in
    ⊎_elim
    (λ (e : bytes_eq n name ≡ true).
    let other : bytes_eq name n ≡ true = ap (λ m. bytes_eq m n) (sym (same_name n name e)) ∙ itself n in
    let out : is_among n (done ++ name ∷ []) ≡ true = grind (arith, split, other) in
    ap (left done) (dropped q n ns (ap not e)) ∙ more ∙ sym (dropped r n ns (ap not out)))
    (λ (e : bytes_eq n name ≡ false).
    let other : bytes_eq name n ≡ false = ⊎_elim
    (λ (t : bytes_eq name n ≡ true). absurd (cc ((ap (λ m. bytes_eq m name) (same_name name n t) ∙ e), itself name)))
    (λ (f : bytes_eq name n ≡ false). f)
    (cases_Bool (bytes_eq name n)) in
    let same : is_among n (done ++ name ∷ []) ≡ is_among n done = grind (arith, split, other) in
    let here : left done (without name (n ∷ ns)) ≡ left done (n ∷ without name ns) = ap (left done) (kept q n ns (ap not e)) in
    here ∙ ap (λ xs. cond (p n) (n ∷ xs) xs) more ∙ ap (λ b. cond (not b) (n ∷ left (done ++ name ∷ []) ns) (left (done ++ name ∷ []) ns)) (sym same))
    (cases_Bool (bytes_eq n name))

-- the names that are left where one of them was read before
pub left_in : (done : List (List ℕ)) (name : List ℕ) (names : List (List ℕ)) → is_among name done ≡ true → left done (distinct (name ∷ names)) ≡ left done (distinct names)
left_in done name names h = dropped (λ m. not (is_among m done)) name (without name (distinct names)) (ap not h) ∙ absorbed done name h (distinct names)

-- and where it wasn't
pub left_out : (done : List (List ℕ)) (name : List ℕ) (names : List (List ℕ)) → is_among name done ≡ false
    → left done (distinct (name ∷ names)) ≡ name ∷ left (done ++ name ∷ []) (distinct names)
left_out done name names h =
    kept (λ m. not (is_among m done)) name (without name (distinct names)) (ap not h) ∙ ap (λ ns. name ∷ ns) (advanced done name (distinct names))

-- each name is among the distinct ones
any_without : (name m : List ℕ) (names : List (List ℕ)) → is_among m names ≡ true → bytes_eq name m ≡ false → is_among m (without name names) ≡ true
any_without name m [] h other = h
any_without name m (n ∷ ns) h other =
    let q : List ℕ → Bool = λ k. not (bytes_eq k name) in
    ⊎_elim
    (λ (e : bytes_eq n name ≡ true).
    let apart : bytes_eq n m ≡ false = ap (λ k. bytes_eq k m) (same_name n name e) ∙ other in
    let rest : is_among m ns ≡ true = sym (ap (λ b. b || is_among m ns) apart) ∙ h in
    ap (is_among m) (dropped q n ns (ap not e)) ∙ any_without name m ns rest other)
    (λ (e : bytes_eq n name ≡ false).
    ap (is_among m) (kept q n ns (ap not e)) ∙
    ⊎_elim
    (λ (t : bytes_eq n m ≡ true). ap (λ b. b || is_among m (without name ns)) t)
    (λ (f : bytes_eq n m ≡ false).
    let rest : is_among m ns ≡ true = sym (ap (λ b. b || is_among m ns) f) ∙ h in
    ap (λ b. b || is_among m (without name ns)) f ∙ any_without name m ns rest other)
    (cases_Bool (bytes_eq n m)))
    (cases_Bool (bytes_eq n name))

pub among_distinct : (m : List ℕ) (names : List (List ℕ)) → is_among m names ≡ true → is_among m (distinct names) ≡ true
among_distinct m [] h = h
among_distinct m (n ∷ ns) h =
    ⊎_elim
    (λ (t : bytes_eq n m ≡ true). ap (λ b. b || is_among m (without n (distinct ns))) t)
    (λ (f : bytes_eq n m ≡ false).
    let rest : is_among m ns ≡ true = sym (ap (λ b. b || is_among m ns) f) ∙ h in
    ap (λ b. b || is_among m (without n (distinct ns))) f ∙ any_without n m (distinct ns) (among_distinct m ns rest) f)
    (cases_Bool (bytes_eq n m))
