-- One line after another.
use Rattle.std.proofs.Common.{◌≡◌, inl, inr, ℕ, ◌+◌, ◌-◌, ◌^◌, ◌≤◌, ◌<◌, ◌∷◌, [], ◌++◌, List, Option, Some, None, Result, Ok, Err, option_map, map, length, refl, sym, ap, ◌∙◌, subst, arith, append_assoc, length-append, take, get_or}
use Rattle.std.proofs.lemmas.List.{append-nil, take_more, map-append}
use Rattle.outside.specs.Sink.{Changes}
use Rattle.outside.specs.Causes.{HasCause}
use Rattle.outside.specs.NoteLines.{IsPartOf, Says}

part-append : (a b : List (List ℕ)) (x y : List (List ℕ)) → IsPartOf a x → IsPartOf b y → IsPartOf (a ++ b) (x ++ y)
part-append a b [] y p q = subst (λ c. IsPartOf (c ++ b) y) (sym p) q
part-append a b (l ∷ x) y (inl p) q = inl (part-append a b x y p q)
part-append a b (l ∷ x) y (inr p) q = inr (p.0 ++ b, ap (λ c. c ++ b) p.1, part-append p.0 b x y p.2 q)

adds-none : (o : Option (List (List ℕ))) → o ≡ option_map (λ ls. ls ++ []) o
adds-none None = refl
adds-none (Some ls) = ap (λ a. Some a) (sym (append-nil ls))

adds-more : (a b : List (List ℕ)) (x y z : Option (List (List ℕ))) → y ≡ option_map (λ ls. ls ++ a) x → z ≡ option_map (λ ls. ls ++ b) y → z ≡ option_map (λ ls. ls ++ (a ++ b)) x
adds-more a b None y z p q = q ∙ ap (option_map (λ ls. ls ++ b)) p
adds-more a b (Some ls) y z p q = q ∙ ap (option_map (λ ks. ks ++ b)) p ∙ ap (λ ks. Some ks) (append_assoc ls a b)

-- nothing said
pub says-none : (o : Option (List (List ℕ))) (n : ℕ) → Says [] o o n n
says-none o n = record { added = []; adds = adds-none o; part = refl; later = omega arith; missing = λ h. omega arith }

-- some lines behind others
pub says-more : (x y : List (List ℕ)) (o p q : Option (List (List ℕ))) (i j k : ℕ) → Says x o p i j → Says y p q j k → Says (x ++ y) o q i k
says-more x y o p q i j k s t = record {
  added = s.added ++ t.added;
  adds = adds-more s.added t.added o p q s.adds t.adds;
  part = part-append s.added t.added x y s.part t.part;
  later = omega (arith, s.later, t.later);
  missing = λ h. omega (arith, s.later, t.later, s.missing (omega (arith, t.later)), t.missing h, length-append x y, length-append s.added t.added);
}

-- one line
pub says-line : {T E : Type 0} (r : Result T E) (line : List ℕ) (o p : Option (List (List ℕ))) (i j : ℕ) → Changes (λ ls. ls ++ line ∷ []) r o p → HasCause i j r → Says (line ∷ []) o p i j
says-line (Ok u) line o p i j changes cause = record { added = line ∷ []; adds = changes; part = inr ([], refl, refl); later = cause.later; missing = λ h. omega (arith, cause.later) }
says-line (Err e) line o p i j changes cause = record { added = []; adds = changes ∙ adds-none o; part = inl refl; later = cause.later; missing = λ h. omega (arith, cause.failed, cause.later) }

part_length : (a x : List (List ℕ)) → IsPartOf a x → length a ≤ length x
part_length a [] q = omega (arith, ap length q)
part_length a (k ∷ x) (inl q) = omega (arith, part_length a x q)
part_length a (k ∷ x) (inr q) = omega (arith, part_length q.0 x q.2, ap length q.1)

-- where nothing is missing, these are the lines
pub all_said : (added lines : List (List ℕ)) → IsPartOf added lines → length lines ≤ length added → added ≡ lines
all_said added [] p h = p
all_said added (l ∷ ls) (inl p) h = absurd (omega (arith, part_length added ls p))
all_said added (l ∷ ls) (inr p) h =
    p.1 ∙ ap (λ o. l ∷ o) (all_said p.0 ls p.2 (omega (arith, ap length p.1)))

-- where the count of faults didn't rise, exactly these lines were added
pub says_all : (lines : List (List ℕ)) (o p : Option (List (List ℕ))) (n : ℕ) → n < 2 ^ 64 - 1 → Says lines o p n n → p ≡ option_map (λ ls. ls ++ lines) o
says_all lines o p n low s = subst (λ ls. p ≡ option_map (λ ks. ks ++ ls) o) (all_said s.added lines s.part (omega (arith, s.missing low))) s.adds

-- the next line of a row behind the i before it
pub says-next : {A : Type 0} (line_of : A → List ℕ) (xs : List A) (d : A) (i : ℕ) (o p q : Option (List (List ℕ))) (j k l : ℕ) → i < length xs
    → Says (map line_of (take i xs)) o p j k → Says (line_of (get_or xs i d) ∷ []) p q k l → Says (map line_of (take (i + 1) xs)) o q j l
says-next {A} line_of xs d i o p q j k l lt first next =
    let x : A = get_or xs i d in
    let mapped : map line_of (take (i + 1) xs) ≡ map line_of (take i xs) ++ line_of x ∷ [] = ap (map line_of) (take_more xs i d lt) ∙ map-append line_of (take i xs) (x ∷ []) in
    subst (λ ls. Says ls o q j l) (sym mapped) (says-more (map line_of (take i xs)) (line_of x ∷ []) o p q j k l first next)
