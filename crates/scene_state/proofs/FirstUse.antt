-- Places that are had one after another.
use Rattle.std.proofs.Common.{◌≡◌, ℕ, zero, suc, ◌<◌, ◌≤◌, ◌==◌, Bool, true, false, not, ◌||◌, cond, List, [], ◌∷◌, ◌++◌, filter, refl, sym, ap, ◌∙◌, arith}
use Rattle.std.proofs.lemmas.Bool.Decides.{nat_tests}
use Rattle.std.specs.List.{list_any}
use Rattle.scene_state.specs.FirstUse.{firsts, below}

-- the number is last, unless it is there
abbrev put : ℕ → List ℕ → List ℕ
put k [] = k ∷ []
put k (x ∷ xs) = cond (x == k) (x ∷ xs) (x ∷ put k xs)

same_test : (a b : ℕ) → a ≡ b → (a == b) ≡ true
same_test a b e = grind (arith, nat_tests)

other_test : (a b k : ℕ) → (a == k) ≡ true → (b == k) ≡ false → (a == b) ≡ false
other_test a b k e f = grind (arith, nat_tests)

turned_test : (a b : ℕ) (t : Bool) → (a == b) ≡ t → (b == a) ≡ t
turned_test a b true e = grind (arith, nat_tests)
turned_test a b false e = grind (arith, nat_tests)

-- what is left out again changes nothing
left_out : (j k : ℕ) (xs : List ℕ) → (k == j) ≡ true → filter (λ m. not (m == j)) (put k xs) ≡ filter (λ m. not (m == j)) xs
left_out j k [] e = ap (λ b. cond (not b) (k ∷ []) []) e
left_out j k (x ∷ xs) e = by_test (x == k) (left_out j k xs e)
  where
    by_test : (b : Bool) → filter (λ m. not (m == j)) (put k xs) ≡ filter (λ m. not (m == j)) xs
        → filter (λ m. not (m == j)) (cond b (x ∷ xs) (x ∷ put k xs)) ≡ filter (λ m. not (m == j)) (x ∷ xs)
    by_test true rest = refl
    by_test false rest = ap (λ ys. cond (not (x == j)) (x ∷ ys) ys) rest

-- another number is put behind those that are kept
kept : (j k : ℕ) (xs : List ℕ) → (k == j) ≡ false → filter (λ m. not (m == j)) (put k xs) ≡ put k (filter (λ m. not (m == j)) xs)
kept j k [] e = ap (λ b. cond (not b) (k ∷ []) []) e
kept j k (x ∷ xs) e = by_tests (x == k) (x == j) refl refl (kept j k xs e)
  where
    by_tests : (a b : Bool) → (x == k) ≡ a → (x == j) ≡ b → filter (λ m. not (m == j)) (put k xs) ≡ put k (filter (λ m. not (m == j)) xs)
        → filter (λ m. not (m == j)) (cond (x == k) (x ∷ xs) (x ∷ put k xs)) ≡ put k (cond (not (x == j)) (x ∷ filter (λ m. not (m == j)) xs) (filter (λ m. not (m == j)) xs))
    by_tests true true is_k is_j rest = absurd (grind (arith, nat_tests, e))
    by_tests true false is_k is_j rest =
        ap (λ b. filter (λ m. not (m == j)) (cond b (x ∷ xs) (x ∷ put k xs))) is_k
        ∙ ap (λ b. cond (not b) (x ∷ filter (λ m. not (m == j)) xs) (filter (λ m. not (m == j)) xs)) is_j
        ∙ sym (ap (λ b. cond b (x ∷ filter (λ m. not (m == j)) xs) (x ∷ put k (filter (λ m. not (m == j)) xs))) is_k)
        ∙ sym (ap (λ b. put k (cond (not b) (x ∷ filter (λ m. not (m == j)) xs) (filter (λ m. not (m == j)) xs))) is_j)
    by_tests false true is_k is_j rest =
        ap (λ b. filter (λ m. not (m == j)) (cond b (x ∷ xs) (x ∷ put k xs))) is_k
        ∙ ap (λ b. cond (not b) (x ∷ filter (λ m. not (m == j)) (put k xs)) (filter (λ m. not (m == j)) (put k xs))) is_j
        ∙ rest
        ∙ sym (ap (λ b. put k (cond (not b) (x ∷ filter (λ m. not (m == j)) xs) (filter (λ m. not (m == j)) xs))) is_j)
    by_tests false false is_k is_j rest =
        ap (λ b. filter (λ m. not (m == j)) (cond b (x ∷ xs) (x ∷ put k xs))) is_k
        ∙ ap (λ b. cond (not b) (x ∷ filter (λ m. not (m == j)) (put k xs)) (filter (λ m. not (m == j)) (put k xs))) is_j
        ∙ ap (λ ys. x ∷ ys) rest
        ∙ sym (ap (λ b. cond b (x ∷ filter (λ m. not (m == j)) xs) (x ∷ put k (filter (λ m. not (m == j)) xs))) is_k)
        ∙ sym (ap (λ b. put k (cond (not b) (x ∷ filter (λ m. not (m == j)) xs) (filter (λ m. not (m == j)) xs))) is_j)

-- a number more
pub firsts-append : (ns : List ℕ) (k : ℕ) → firsts (ns ++ k ∷ []) ≡ put k (firsts ns)
firsts-append [] k = refl
firsts-append (j ∷ ns) k = ap (λ xs. j ∷ filter (λ m. not (m == j)) xs) (firsts-append ns k) ∙ by_test (j == k) refl
  where
    by_test : (b : Bool) → (j == k) ≡ b → j ∷ filter (λ m. not (m == j)) (put k (firsts ns)) ≡ put k (j ∷ filter (λ m. not (m == j)) (firsts ns))
    by_test true e =
        ap (λ xs. j ∷ xs) (left_out j k (firsts ns) (turned_test j k true e))
        ∙ sym (ap (λ b. cond b (j ∷ filter (λ m. not (m == j)) (firsts ns)) (j ∷ put k (filter (λ m. not (m == j)) (firsts ns)))) e)
    by_test false e =
        ap (λ xs. j ∷ xs) (kept j k (firsts ns) (turned_test j k false e))
        ∙ sym (ap (λ b. cond b (j ∷ filter (λ m. not (m == j)) (firsts ns)) (j ∷ put k (filter (λ m. not (m == j)) (firsts ns)))) e)

abbrev has : ℕ → List ℕ → Bool
has k xs = list_any (λ m. m == k) xs

put_there : (k : ℕ) (xs : List ℕ) → has k xs ≡ true → put k xs ≡ xs
put_there k [] h = absurd cc
put_there k (x ∷ xs) h = by_test (x == k) refl (put_there k xs)
  where
    by_test : (b : Bool) → (x == k) ≡ b → (has k xs ≡ true → put k xs ≡ xs) → cond (x == k) (x ∷ xs) (x ∷ put k xs) ≡ x ∷ xs
    by_test true e rest = ap (λ b. cond b (x ∷ xs) (x ∷ put k xs)) e
    by_test false e rest = ap (λ b. cond b (x ∷ xs) (x ∷ put k xs)) e ∙ ap (λ ys. x ∷ ys) (rest (sym (ap (λ b. b || has k xs) e) ∙ h))

put_last : (k : ℕ) (xs : List ℕ) → has k xs ≡ false → put k xs ≡ xs ++ k ∷ []
put_last k [] h = refl
put_last k (x ∷ xs) h = by_test (x == k) refl (put_last k xs)
  where
    by_test : (b : Bool) → (x == k) ≡ b → (has k xs ≡ false → put k xs ≡ xs ++ k ∷ []) → cond (x == k) (x ∷ xs) (x ∷ put k xs) ≡ x ∷ (xs ++ k ∷ [])
    by_test true e rest = absurd (not_true (sym (ap (λ b. b || has k xs) e) ∙ h))
      where
        not_true : true ≡ false → ⊥
        not_true e = cc
    by_test false e rest = ap (λ b. cond b (x ∷ xs) (x ∷ put k xs)) e ∙ ap (λ ys. x ∷ ys) (rest (sym (ap (λ b. b || has k xs) e) ∙ h))

has-append : (k : ℕ) (xs ys : List ℕ) → has k (xs ++ ys) ≡ (has k xs || has k ys)
has-append k [] ys = refl
has-append k (x ∷ xs) ys = ap (λ b. (x == k) || b) (has-append k xs ys) ∙ or_assoc (x == k) (has k xs) (has k ys)
  where
    or_assoc : (a b c : Bool) → (a || (b || c)) ≡ ((a || b) || c)
    or_assoc true b c = refl
    or_assoc false b c = refl

or_true : (a : Bool) → (a || (true || false)) ≡ true
or_true true = refl
or_true false = refl

has_below : (n k : ℕ) → k < n → has k (below n) ≡ true
has_below zero k h = absurd (omega (arith, h))
has_below (suc n) k h = has-append k (below n) (n ∷ []) ∙ by_test (n == k) refl (has_below n k)
  where
    by_test : (b : Bool) → (n == k) ≡ b → (k < n → has k (below n) ≡ true) → (has k (below n) || ((n == k) || false)) ≡ true
    by_test true e rest = ap (λ b. has k (below n) || (b || false)) e ∙ or_true (has k (below n))
    by_test false e rest = ap (λ b. b || ((n == k) || false)) (rest (grind (arith, nat_tests, e, h)))

lacks_below : (n k : ℕ) → n ≤ k → has k (below n) ≡ false
lacks_below zero k h = refl
lacks_below (suc n) k h =
    has-append k (below n) (n ∷ []) ∙ ap (λ b. b || ((n == k) || false)) (lacks_below n k (omega (arith, h))) ∙ ap (λ b. b || false) (unlike n k h)
  where
    unlike : (n k : ℕ) → suc n ≤ k → (n == k) ≡ false
    unlike n k h = grind (arith, nat_tests, h)

-- the first uses among these places are the first so many
abbrev pub Reaches : List ℕ → ℕ → Type 0
Reaches ns n = firsts ns ≡ below n

-- a place that was had before
pub reaches_again : (ns : List ℕ) (n k : ℕ) → Reaches ns n → k < n → Reaches (ns ++ k ∷ []) n
reaches_again ns n k r h = firsts-append ns k ∙ ap (put k) r ∙ put_there k (below n) (has_below n k h)

-- and the next one
pub reaches_next : (ns : List ℕ) (n : ℕ) → Reaches ns n → Reaches (ns ++ n ∷ []) (suc n)
reaches_next ns n r = firsts-append ns n ∙ ap (put n) r ∙ put_last n (below n) (lacks_below n n (omega arith))
