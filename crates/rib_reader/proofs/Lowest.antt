-- The lower of codes.
use Rattle.std.proofs.Common.{◌≡◌, ◌<◌, ℕ, zero, suc, ◌∷◌, [], List, Option, Some, None, Bool, true, false, cond, nat_le, ◌+◌, length, drop, refl, sym, ap, ◌∙◌, arith}
use Rattle.std.proofs.lemmas.Bool.Decides.{nat_tests}
use Rattle.std.specs.List.{slice_get, slice_index_or}
use lib.Seq.{drop-cons}
use Rattle.rib_reader.specs.declared.faults.RibCode.{RibCode}
use Rattle.rib_reader.specs.Rules.{rank, lower, when, lowest}

some_either : (t : Bool) (a b : RibCode) → cond t (Some a) (Some b) ≡ None → ⊥
some_either true a b e = cc
some_either false a b e = cc

pub lower_none : (a b : Option RibCode) → lower a b ≡ None → (a ≡ None) × (b ≡ None)
lower_none None b e = (refl, e)
lower_none (Some a) None e = (e, refl)
lower_none (Some a) (Some b) e = absurd (some_either (nat_le (rank a) (rank b)) a b e)

pub when_none : (t : Bool) (code : RibCode) → when t code ≡ None → t ≡ false
when_none true code e = absurd cc
when_none false code e = refl

same_item : {A : Type 0} (x y : A) → Some x ≡ Some y → x ≡ y
same_item x y e = cc

-- where no code stands in them, none stands in any
pub lowest_none : {A : Type 0} (code : A → Option RibCode) (xs : List A) → lowest code xs ≡ None → (k : ℕ) (x : A) → slice_get xs k ≡ Some x → code x ≡ None
lowest_none code [] e k x there = absurd cc
lowest_none code (y ∷ ys) e zero x there = ap code (sym (same_item y x there)) ∙ (lower_none (code y) (lowest code ys) e).0
lowest_none code (y ∷ ys) e (suc k) x there = lowest_none code ys (lower_none (code y) (lowest code ys) e).1 k x there

two_then_none : (t : Bool) (a b : RibCode) → lower (cond t (Some a) (Some b)) None ≡ cond t (Some a) (Some b)
two_then_none true a b = refl
two_then_none false a b = refl

by_order : (a b c : RibCode) (p q r : Bool) → nat_le (rank a) (rank b) ≡ p → nat_le (rank b) (rank c) ≡ q → nat_le (rank a) (rank c) ≡ r
    → lower (cond p (Some a) (Some b)) (Some c) ≡ lower (Some a) (cond q (Some b) (Some c))
by_order a b c true true true ab bc ac = ap (λ t. cond t (Some a) (Some c)) ac ∙ sym (ap (λ t. cond t (Some a) (Some b)) ab)
by_order a b c true true false ab bc ac = absurd (grind (arith, nat_tests))
by_order a b c true false r ab bc ac = refl
by_order a b c false true r ab bc ac = ap (λ t. cond t (Some b) (Some c)) bc ∙ sym (ap (λ t. cond t (Some a) (Some b)) ab)
by_order a b c false false false ab bc ac = ap (λ t. cond t (Some b) (Some c)) bc ∙ sym (ap (λ t. cond t (Some a) (Some c)) ac)
by_order a b c false false true ab bc ac = absurd (grind (arith, nat_tests))

pub lower_assoc : (a b c : Option RibCode) → lower (lower a b) c ≡ lower a (lower b c)
lower_assoc None b c = refl
lower_assoc (Some a) None c = refl
lower_assoc (Some a) (Some b) None = two_then_none (nat_le (rank a) (rank b)) a b
lower_assoc (Some a) (Some b) (Some c) =
    by_order a b c (nat_le (rank a) (rank b)) (nat_le (rank b) (rank c)) (nat_le (rank a) (rank c)) refl refl refl

one_more : (k : ℕ) → suc k ≡ k + 1
one_more k = omega arith

-- what was met so far is lowered by the code of the next item
pub lowest_behind : {A : Type 0} (code : A → Option RibCode) (a b : Option RibCode) (xs : List A) (k : ℕ) (x : A) → k < length xs → x ≡ slice_index_or xs k x
    → b ≡ lower a (code x) → lower b (lowest code (drop (k + 1) xs)) ≡ lower a (lowest code (drop k xs))
lowest_behind code a b xs k x h is e =
    let cut : drop k xs ≡ x ∷ drop (k + 1) xs = drop-cons xs k x h ∙ ap (λ n. slice_index_or xs k x ∷ drop n xs) (one_more k) ∙ ap (λ y. y ∷ drop (k + 1) xs) (sym is) in
    ap (λ c. lower c (lowest code (drop (k + 1) xs))) e
    ∙ lower_assoc a (code x) (lowest code (drop (k + 1) xs))
    ∙ sym (ap (λ l. lower a (lowest code l)) cut)
