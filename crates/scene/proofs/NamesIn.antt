-- The names of a primitive's variables are those of its request's, and the places of names.
use Rattle.std.proofs.Common.{◌≡◌, ◌∙◌, ap, sym, refl, subst, arith, ℕ, suc, ◌<◌, List, [], ◌∷◌, length, Bool, true, false, cond, Option, Some, None}
use Rattle.std.specs.Prelude.{IfSome}
use Rattle.std.specs.Option.{option_map, option_or}
use Rattle.std.specs.Str.{bytes_eq}
use Rattle.fixed_math.specs.Names.{last_place}
use Rattle.scene.specs.declared.params.Param.{Param}
use Rattle.scene.specs.declared.seat.Seat.{Seat}
use Rattle.scene.specs.Seats.{names_of, names_in, variables_of}

pub same_names : (seat : Seat) (ps : List Param) → names_of ps ≡ names_in (variables_of seat ps)
same_names seat [] = refl
same_names seat (p ∷ ps) = ap (λ (ns : List (List ℕ)). p.name ∷ ns) (same_names seat ps)

place_step : (ns : List (List ℕ)) (k : ℕ) (o : Option ℕ) (b : Bool) → ((j : ℕ) → o ≡ Some j → j < length ns) → option_or (option_map suc o) (cond b (Some 0) None) ≡ Some k → k < suc (length ns)
place_step ns k (Some j) b rest e = let same : suc j ≡ k = cc in let low = rest j refl in omega (arith, same, low)
place_step ns k None true rest e = let same : 0 ≡ k = cc in omega (arith, same)
place_step ns k None false rest e = absurd cc

-- a name that has a place has it in the list
pub place_within : (name : List ℕ) (names : List (List ℕ)) (k : ℕ) → last_place name names ≡ Some k → k < length names
place_within name [] k e = absurd cc
place_within name (n ∷ ns) k e = place_step ns k (last_place name ns) (bytes_eq n name) (λ j at. place_within name ns j at) e

some_within : (names : List (List ℕ)) (o : Option ℕ) → ((k : ℕ) → o ≡ Some k → k < length names) → IfSome o (λ k. k < length names)
some_within names (Some k) within = within k refl
some_within names None within = tt

pub found_within : (name : List ℕ) (names : List (List ℕ)) (n : ℕ) (o : Option ℕ) → o ≡ last_place name names → length names ≡ n → IfSome o (λ k. k < n)
found_within name names n o is long =
    subst (λ m. IfSome o (λ k. k < m)) long (some_within names o (λ k at. place_within name names k (sym is ∙ at)))
