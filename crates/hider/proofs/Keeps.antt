-- Lists that end at their first opaque fragment.
use Rattle.std.proofs.Common.{◌≡◌, ℕ, zero, suc, ap, refl, ◌∙◌, true, false, List, [], ◌∷◌, take}
use Rattle.std.specs.Prelude.{ℤ, int_le}
use Rattle.hider.specs.declared.fragment.Fragment.{Fragment}
use Rattle.hider.specs.Composite.{is_opaque, cut}
use Rattle.hider.specs.Fragments.{put_in, put_all, IsSortedFrom, IsSorted}
use Rattle.hider.specs.Kept.{IsKept, keep, keep_all}
use Rattle.hider.proofs.Cuts.{by_bool}
use Rattle.hider.proofs.Orders.{put_in_sorted}

pub cut_cut : (fs : List Fragment) → cut (cut fs) ≡ cut fs
cut_cut [] = refl
cut_cut (f ∷ fs) =
    let e = cut_cut fs in
    by_bool (is_opaque f) (λ o. simp o) (λ o. simp (o, e))

-- a fragment may be put into what is left after a cut
pub put_in-cut : (f : Fragment) (l : List Fragment) → cut (put_in f (cut l)) ≡ cut (put_in f l)
put_in-cut f [] = refl
put_in-cut f (g ∷ gs) =
    let e = put_in-cut f gs in
    let i = cut_cut gs in
    by_bool (int_le g.depth f.depth)
    (λ d. by_bool (is_opaque g) (λ o. simp (d, o)) (λ o. simp (d, o, e)))
    (λ d. by_bool (is_opaque g) (λ o. simp (d, o)) (λ o. simp (d, o, i)))

-- fragments may be put in one after another, with a cut after each
pub keep_all-cut : (fs l : List Fragment) → keep_all (cut l) fs ≡ cut (put_all l fs)
keep_all-cut [] l = refl
keep_all-cut (f ∷ fs) l = ap (λ k. keep_all k fs) (put_in-cut f l) ∙ keep_all-cut fs (put_in f l)

-- ---- a cut list stays in order
cut_sorted_from : (m : ℤ) (l : List Fragment) → IsSortedFrom m l → IsSortedFrom m (cut l)
cut_sorted_from m [] s = tt
cut_sorted_from m (f ∷ fs) s =
    let i = cut_sorted_from f.depth fs s.1 in
    by_bool (is_opaque f) (λ o. rw o (s.0, tt)) (λ o. rw o (s.0, i))

pub cut_sorted : (l : List Fragment) → IsSorted l → IsSorted (cut l)
cut_sorted [] s = tt
cut_sorted (f ∷ fs) s =
    let i = cut_sorted_from f.depth fs s in
    by_bool (is_opaque f) (λ o. rw o tt) (λ o. rw o i)

pub keep_is_kept : (f : Fragment) (l : List Fragment) → IsSorted l → IsKept (keep f l)
keep_is_kept f l s = record { sorted = cut_sorted (put_in f l) (put_in_sorted f l s); whole = cut_cut (put_in f l) }

take_sorted_from : (n : ℕ) (m : ℤ) (l : List Fragment) → IsSortedFrom m l → IsSortedFrom m (take n l)
take_sorted_from zero m l s = tt
take_sorted_from (suc n) m [] s = tt
take_sorted_from (suc n) m (f ∷ fs) s = (s.0, take_sorted_from n f.depth fs s.1)

take_sorted : (n : ℕ) (l : List Fragment) → IsSorted l → IsSorted (take n l)
take_sorted zero l s = tt
take_sorted (suc n) [] s = tt
take_sorted (suc n) (f ∷ fs) s = take_sorted_from n f.depth fs s

rest_whole : (f : Fragment) (fs : List Fragment) → cut (f ∷ fs) ≡ f ∷ fs → is_opaque f ≡ false → cut fs ≡ fs
rest_whole f fs e o = let h : f ∷ cut fs ≡ f ∷ fs = rw o at e in cc

rest_none : (f : Fragment) (fs : List Fragment) → cut (f ∷ fs) ≡ f ∷ fs → is_opaque f ≡ true → fs ≡ []
rest_none f fs e o = let h : f ∷ [] ≡ f ∷ fs = rw o at e in cc

take_none : (n : ℕ) → take {A = Fragment} n [] ≡ []
take_none zero = refl
take_none (suc n) = refl

take_whole : (n : ℕ) (l : List Fragment) → cut l ≡ l → cut (take n l) ≡ take n l
take_whole zero l e = refl
take_whole (suc n) [] e = refl
take_whole (suc n) (f ∷ fs) e =
    by_bool (is_opaque f)
    (λ o. let h = rest_none f fs e o in let t = take_none n in rw (h, t, o) refl)
    (λ o. let i = take_whole n fs (rest_whole f fs e o) in simp (o, i))

pub take_kept : (n : ℕ) (l : List Fragment) → IsKept l → IsKept (take n l)
take_kept n l k = record { sorted = take_sorted n l k.sorted; whole = take_whole n l k.whole }

pub nothing_kept : IsKept []
nothing_kept = record { sorted = tt; whole = refl }
