-- The names that a row of fetches asks for.
use Rattle.std.proofs.Common.{◌≡◌, ℕ, ◌+◌, min, ◌∷◌, [], ◌++◌, List, Option, Some, None, option_map, take, length, suc, refl, sym, ap, ◌∙◌, subst, arith, inl, inr, append_assoc}
use Rattle.std.proofs.lemmas.List.{append-nil, take_all, take-append-le, take_min}
use Rattle.outside.specs.Library.{Asks}
use Rattle.outside.specs.Asked.{AsksAll, AsksFront}
use Rattle.outside.specs.declared.library.Fetch.{Fetch}
use Rattle.outside.specs.declared.library.Fetch.TheVariants.{Whole, Missing, TooLong, Failed, NoMemory}

-- none asked
pub asks_all-none : (o : Option (List (List ℕ))) → AsksAll [] o o
asks_all-none None = refl
asks_all-none (Some ns) = ap (λ a. Some a) (sym (append-nil ns))

-- one row of names behind another
pub asks_all-more : (xs ys : List (List ℕ)) (o p q : Option (List (List ℕ))) → AsksAll xs o p → AsksAll ys p q → AsksAll (xs ++ ys) o q
asks_all-more xs ys None p q a b = b ∙ ap (option_map (λ ns. ns ++ ys)) a
asks_all-more xs ys (Some ns) p q a b = b ∙ ap (option_map (λ ms. ms ++ ys)) a ∙ ap (λ ms. Some ms) (append_assoc ns xs ys)

-- asking for all is asking for a front
pub asks_front-all : (names : List (List ℕ)) (o p : Option (List (List ℕ))) → AsksAll names o p → AsksFront names o p
asks_front-all names o p a = (length names, subst (λ ns. AsksAll ns o p) (sym (take_all (length names) names (omega arith))) a)

pub asks_front-none : (names : List (List ℕ)) (o : Option (List (List ℕ))) → AsksFront names o o
asks_front-none names o = (0, asks_all-none o)

take-behind : (n : ℕ) (xs ys : List (List ℕ)) → take (length xs + n) (xs ++ ys) ≡ xs ++ take n ys
take-behind n [] ys = let e : 0 + n ≡ n = omega arith in ap (λ k. take k ys) e
take-behind n (x ∷ xs) ys =
    let e : length (x ∷ xs) + n ≡ suc (length xs + n) = omega arith in
    ap (λ k. take k (x ∷ (xs ++ ys))) e ∙ ap (λ zs. x ∷ zs) (take-behind n xs ys)

-- a front of names behind a whole row of others
pub asks_front-behind : (xs ys : List (List ℕ)) (o p q : Option (List (List ℕ))) → AsksAll xs o p → AsksFront ys p q → AsksFront (xs ++ ys) o q
asks_front-behind xs ys o p q a b =
    (length xs + b.0, subst (λ ns. AsksAll ns o q) (sym (take-behind b.0 xs ys)) (asks_all-more xs (take b.0 ys) o p q a b.1))

-- a front of a front
pub asks_front-before : (xs ys : List (List ℕ)) (o p : Option (List (List ℕ))) → AsksFront xs o p → AsksFront (xs ++ ys) o p
asks_front-before xs ys o p a =
    let n : ℕ = min a.0 (length xs) in
    (n, subst (λ ns. AsksAll ns o p) (sym (take-append-le n xs ys (omega arith) ∙ take_min a.0 xs)) a.1)

-- a fetch asks for its name, or for none
pub asks_front-one : (r : Fetch) (name : List ℕ) (o p : Option (List (List ℕ))) → Asks r name o p → AsksFront (name ∷ []) o p
asks_front-one Whole name o p a = (1, a)
asks_front-one Missing name o p a = (1, a)
asks_front-one TooLong name o p a = (1, a)
asks_front-one Failed name o p a = (1, a)
asks_front-one NoMemory name o p (inl same) = subst (λ n. AsksFront (name ∷ []) o n) (sym same) (asks_front-none (name ∷ []) o)
asks_front-one NoMemory name o p (inr one) = (1, one)
