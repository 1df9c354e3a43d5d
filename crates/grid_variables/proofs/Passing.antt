-- The last of some variables that passes a test, by its place.
use Rattle.std.proofs.Common.{◌≡◌, ◌∙◌, ap, sym, refl, arith, ℕ, zero, suc, ◌<◌, ◌≤◌, Bool, true, false, ◌||◌, cond, List, [], ◌∷◌, length, Option, Some, None, slice_get, codes}
use Rattle.std.proofs.lemmas.List.{length-map}
use Rattle.std.specs.Prelude.{IfSome}
use Rattle.std.specs.Option.{option_map, option_or}
use Rattle.std.specs.Str.{bytes_eq}
use Rattle.fixed_math.specs.Names.{last_place}
use Rattle.scene.specs.Scene.{VariableValue}
use Rattle.scene.specs.Seats.{names_in}
use Rattle.scene.proofs.NamesIn.{place_within}
use Rattle.grid_variables.specs.Variables.{variable_named, is_pair, setter}
use Rattle.grid_variables.specs.ByPlace.{at_place, greater, later}

-- what stands at a place in the rest, else what stands at the head
there_or : (xs : List VariableValue) (k : ℕ) (o : Option VariableValue) → k < length xs → option_or (slice_get xs k) o ≡ slice_get xs k
there_or [] k o h = absurd (omega (arith, h))
there_or (x ∷ xs) zero o h = refl
there_or (x ∷ xs) (suc k) o h = there_or xs k o (omega (arith, h))

-- the place in a list of the one at that place in the rest, else of the head
abbrev pub moved : Option ℕ → Bool → Option ℕ
moved p b = option_or (option_map suc p) (cond b (Some 0) None)

abbrev Within : List VariableValue → Option ℕ → Type 0
Within xs p = (k : ℕ) → p ≡ Some k → k < length xs

head_or : (x : VariableValue) (xs : List VariableValue) (p : Option ℕ) (b : Bool) → Within xs p → option_or (at_place xs p) (cond b (Some x) None) ≡ at_place (x ∷ xs) (moved p b)
head_or x xs (Some k) b within = there_or xs k (cond b (Some x) None) (within k refl)
head_or x xs None true within = refl
head_or x xs None false within = refl

name_within : (name : List ℕ) (xs : List VariableValue) → Within xs (last_place name (names_in xs))
name_within name xs k at = let low = place_within name (names_in xs) k at in let long = length-map xs (λ (x : VariableValue). x.name) in omega (arith, low, long)

pub named_is : (name : List ℕ) (xs : List VariableValue) → at_place xs (last_place name (names_in xs)) ≡ variable_named name xs
named_is name [] = refl
named_is name (x ∷ xs) =
    sym (head_or x xs (last_place name (names_in xs)) (bytes_eq x.name name) (name_within name xs))
    ∙ ap (λ o. option_or o (cond (bytes_eq x.name name) (Some x) None)) (named_is name xs)

-- the later place, in a list with one more in front
later_moved : (p q : Option ℕ) (b c : Bool) → later (moved p b) (moved q c) ≡ moved (later p q) (b || c)
later_moved (Some i) (Some j) b c = refl
later_moved (Some i) None b true = refl
later_moved (Some i) None b false = refl
later_moved None (Some j) true c = refl
later_moved None (Some j) false c = refl
later_moved None None true true = refl
later_moved None None true false = refl
later_moved None None false true = refl
later_moved None None false false = refl

greater_below : (i j n : ℕ) → i < n → j < n → greater i j < n
greater_below zero j n hi hj = hj
greater_below (suc i) zero n hi hj = hi
greater_below (suc i) (suc j) zero hi hj = absurd (omega (arith, hi))
greater_below (suc i) (suc j) (suc n) hi hj = let low = greater_below i j n (omega (arith, hi)) (omega (arith, hj)) in omega (arith, low)

pub later_there : (n : ℕ) (p q : Option ℕ) → IfSome p (λ k. k < n) → IfSome q (λ k. k < n) → IfSome (later p q) (λ k. k < n)
later_there n (Some i) (Some j) hi hj = greater_below i j n hi hj
later_there n (Some i) None hi hj = hi
later_there n None (Some j) hi hj = hj
later_there n None None hi hj = tt

later_within : (xs : List VariableValue) (p q : Option ℕ) → Within xs p → Within xs q → Within xs (later p q)
later_within xs (Some i) (Some j) wi wj k e =
    let low = greater_below i j (length xs) (wi i refl) (wj j refl) in
    let same : greater i j ≡ k = cc in
    omega (arith, low, same)
later_within xs (Some i) None wi wj k e = wi k e
later_within xs None q wi wj k e = wj k e

-- which of two numbers is the greater one
pub greater_second : (a b : ℕ) → a < b → greater a b ≡ b
greater_second zero b h = refl
greater_second (suc a) zero h = absurd (omega (arith, h))
greater_second (suc a) (suc b) h = ap suc (greater_second a b (omega (arith, h)))

pub greater_first : (a b : ℕ) → b ≤ a → greater a b ≡ a
greater_first zero zero h = refl
greater_first zero (suc b) h = absurd (omega (arith, h))
greater_first (suc a) zero h = refl
greater_first (suc a) (suc b) h = ap suc (greater_first a b (omega (arith, h)))

-- where the setter of a coordinate stands
abbrev pub setter_place : List ℕ → List VariableValue → Option ℕ
setter_place name xs = later (last_place name (names_in xs)) (last_place (codes "st") (names_in xs))

setter_within : (name : List ℕ) (xs : List VariableValue) → Within xs (setter_place name xs)
setter_within name xs = later_within xs (last_place name (names_in xs)) (last_place (codes "st") (names_in xs)) (name_within name xs) (name_within (codes "st") xs)

pub setter_is : (name : List ℕ) (xs : List VariableValue) → at_place xs (setter_place name xs) ≡ setter name xs
setter_is name [] = refl
setter_is name (x ∷ xs) =
    let named = bytes_eq x.name name in
    ap (at_place (x ∷ xs)) (later_moved (last_place name (names_in xs)) (last_place (codes "st") (names_in xs)) named (is_pair x))
    ∙ sym (head_or x xs (setter_place name xs) (named || is_pair x) (setter_within name xs))
    ∙ ap (λ o. option_or o (cond (named || is_pair x) (Some x) None)) (setter_is name xs)
