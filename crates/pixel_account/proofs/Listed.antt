-- Accounts put in a list, one after another.
use Rattle.std.proofs.Common.{◌≡◌, ℕ, ◌+◌, ◌<◌, ap, arith, refl, sym, ◌∙◌, List, [], ◌∷◌, ◌++◌, take, length, get_or, map}
use Rattle.std.proofs.lemmas.List.{take_more, take_all, take-append-le, map-append, length-map, length_push, get_or_push, get_or_append_left}
use borrow.Author.Count.{below_more}
use Rattle.hider.specs.declared.fragment.Fragment.{Fragment}
use Rattle.hider.specs.Composite.{composite}
use Rattle.pixel_record.specs.declared.fragment.FragmentAccount.{FragmentAccount}
use Rattle.pixel_account.specs.declared.laid.Laid.{Laid}
use Rattle.pixel_account.specs.Account.{passed_through, fragments_of, AreLaid}
use Rattle.pixel_account.specs.Laying.{IsLaid}

pub map_push : {A B : Type 0} (f : A → B) (xs ys : List A) (x : A) → ys ≡ xs ++ x ∷ [] → map f ys ≡ map f xs ++ f x ∷ []
map_push f xs ys x is = ap (map f) is ∙ map-append f xs (x ∷ [])

map_taken : {A B : Type 0} (g : A → B) (ts : List A) (t : A) (k : ℕ) → k < length ts → t ≡ get_or ts k t → map g (take (k + 1) ts) ≡ map g (take k ts) ++ g t ∷ []
map_taken g ts t k lt is = map_push g (take k ts) (take (k + 1) ts) t (take_more ts k t lt ∙ ap (λ u. take k ts ++ u ∷ []) (sym is))

-- one more on either side
pub same_more : {A B C : Type 0} (f : A → C) (g : B → C) (xs ys : List A) (x : A) (ts : List B) (t : B) (k : ℕ) → k < length ts → t ≡ get_or ts k t → ys ≡ xs ++ x ∷ [] → f x ≡ g t →
    map f xs ≡ map g (take k ts) → map f ys ≡ map g (take (k + 1) ts)
same_more f g xs ys x ts t k lt at' is same before =
    map_push f xs ys x is ∙ ap (λ l. l ++ f x ∷ []) before ∙ ap (λ c. map g (take k ts) ++ c ∷ []) same ∙ sym (map_taken g ts t k lt at')

-- account k has what it and those before it make
record IsLaidAt (fs : List Fragment) (k : ℕ) (x : FragmentAccount) : Type 0 where
  colour : x.colour ≡ composite (take (k + 1) fs)
  passed : x.passed ≡ passed_through (take (k + 1) fs)

laid_before : (xs ys : List FragmentAccount) (x d : FragmentAccount) (k : ℕ) → ys ≡ xs ++ x ∷ [] → AreLaid xs → k < length xs → IsLaidAt (fragments_of ys) k (get_or ys k d)
laid_before xs ys x d k is laid lt =
    let same : get_or ys k d ≡ get_or xs k d = ap (λ l. get_or l k d) is ∙ get_or_append_left xs (x ∷ []) d k lt in
    let front : take (k + 1) (fragments_of ys) ≡ take (k + 1) (fragments_of xs) = ap (take (k + 1)) (map_push (λ y. y.fragment) xs ys x is)
    ∙ take-append-le (k + 1) (fragments_of xs) (x.fragment ∷ []) (omega (arith, lt, length-map xs (λ y. y.fragment))) in
    let l = laid k d lt in
    record {
      colour = ap (λ y. y.colour) same ∙ l.0 ∙ ap composite (sym front);
      passed = ap (λ y. y.passed) same ∙ l.1 ∙ ap passed_through (sym front);
    }

laid_last : (xs ys : List FragmentAccount) (x d : FragmentAccount) (l : Laid) → ys ≡ xs ++ x ∷ [] → IsLaid (fragments_of ys) l → x.colour ≡ l.colour → x.passed ≡ l.passed → IsLaidAt (fragments_of ys) (length xs) (get_or ys (length xs) d)
laid_last xs ys x d l is all colour passed =
    let same : get_or ys (length xs) d ≡ x = ap (λ z. get_or z (length xs) d) is ∙ get_or_push xs x d (length xs) refl in
    let long : length ys ≡ length xs + 1 = ap length is ∙ length_push xs x in
    let front : take (length xs + 1) (fragments_of ys) ≡ fragments_of ys = take_all (length xs + 1) (fragments_of ys) (omega (arith, long, length-map ys (λ y. y.fragment))) in
    record {
      colour = ap (λ y. y.colour) same ∙ colour ∙ all.colour ∙ ap composite (sym front);
      passed = ap (λ y. y.passed) same ∙ passed ∙ all.passed ∙ ap passed_through (sym front);
    }

-- one more behind those that have it
pub laid_more : (xs ys : List FragmentAccount) (x : FragmentAccount) (l : Laid) → ys ≡ xs ++ x ∷ [] → IsLaid (fragments_of ys) l → x.colour ≡ l.colour → x.passed ≡ l.passed → AreLaid xs → AreLaid ys
laid_more xs ys x l is all colour passed before =
    let long : length ys ≡ length xs + 1 = ap length is ∙ length_push xs x in
    λ k d lt.
    let at' = below_more (λ j. IsLaidAt (fragments_of ys) j (get_or ys j d)) (length xs)
    (λ j below. laid_before xs ys x d j is before below) (laid_last xs ys x d l is all colour passed) k (omega (arith, lt, long)) in
    (at'.colour, at'.passed)
