-- Lists of what a function gives at the first places.
use Rattle.std.proofs.Common.{◌≡◌, ℕ, ◌+◌, ◌<◌, List, [], ◌∷◌, ◌++◌, length, map, get_or, take, sym, ap, ◌∙◌, arith}
use Rattle.std.proofs.lemmas.List.{get_or-map, length-map, map_more}
use Rattle.std.proofs.lemmas.List.FromFn.{length-map-range_with_len, get_or-map-range_with_len, map-range_with_len_more, fill_by_all}
use Rattle.grid_variables.specs.Places.{over}

pub over_more : {A : Type 0} (f : ℕ → A) (n : ℕ) (items new : List A) (x : A) → new ≡ items ++ x ∷ [] → x ≡ f n → items ≡ over n f → new ≡ over (n + 1) f
over_more f n items new x e p h = e ∙ ap (λ y. items ++ y ∷ []) p ∙ ap (λ ys. ys ++ f n ∷ []) h ∙ sym (map-range_with_len_more f 0 n n (omega arith))

pub over_long : {A : Type 0} (f : ℕ → A) (c : ℕ) → length (over c f) ≡ c
over_long f c = length-map-range_with_len f 0 c

pub over_at : {A : Type 0} (f : ℕ → A) (c i : ℕ) (d : A) → i < c → get_or (over c f) i d ≡ f i
over_at f c i d l = get_or-map-range_with_len f 0 c i i d l (omega arith)

pub over_all : {A : Type 0} (f : ℕ → A) (xs : List A) (c : ℕ) (d : A) → length xs ≡ c → ((i : ℕ) → i < c → get_or xs i d ≡ f i) → xs ≡ over c f
over_all f xs c d e h = fill_by_all f xs c d e h

-- what a function makes of each
pub over_map : {A B : Type 0} (h : A → B) (f : ℕ → A) (g : ℕ → B) (c : ℕ) (d : A) (e : B) → ((i : ℕ) → h (f i) ≡ g i) → map h (over c f) ≡ over c g
over_map h f g c d e k =
    over_all g (map h (over c f)) c e (length-map (over c f) h ∙ over_long f c) (λ i l. get_or-map h (over c f) i d e (let m = over_long f c in omega (arith, m, l)) ∙ ap h (over_at f c i d l) ∙ k i)

-- what a function makes of the first elements, and of one more
pub taken_more : {A B : Type 0} (f : A → B) (xs : List A) (i : ℕ) (items new : List B) (y : B) (d : A) → i < length xs → new ≡ items ++ y ∷ [] → y ≡ f (get_or xs i d) → items ≡ map f (take i xs) → new ≡ map f (take (i + 1) xs)
taken_more f xs i items new y d l e p h = e ∙ ap (λ z. items ++ z ∷ []) p ∙ ap (λ zs. zs ++ f (get_or xs i d) ∷ []) h ∙ sym (map_more f xs i d l)

-- a function that makes one thing of all
pub over_alike : {A B : Type 0} (h : A → B) (x : B) (xs : List A) (d : A) → ((y : A) → h y ≡ x) → map h xs ≡ over (length xs) (λ i. x)
over_alike h x xs d k = over_all (λ i. x) (map h xs) (length xs) x (length-map xs h) (λ i l. get_or-map h xs i d x l ∙ k (get_or xs i d))
