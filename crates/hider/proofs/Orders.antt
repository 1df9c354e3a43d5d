-- The order of fragments by depth.
use Rattle.std.proofs.Common.{◌≡◌, ap, arith, refl, sym, ◌∙◌, true, false, List, [], ◌∷◌, ◌++◌, append_assoc}
use Rattle.std.specs.Prelude.{ℤ, ◌≤ℤ◌, ◌<ℤ◌, int_le}
use Rattle.std.specs.List.{fold}
use Rattle.std.specs.Ordering.{int_eq}
use Rattle.std.proofs.lemmas.Int.{ints, by_lt_z}
use Rattle.std.proofs.lemmas.Bool.Decides.{Decides-int_eq}
use Rattle.std.proofs.lemmas.List.{append-nil}
use Rattle.std.proofs.lemmas.List.Elements.{filter-append}
use Rattle.hider.specs.declared.fragment.Fragment.{Fragment}
use Rattle.hider.specs.Fragments.{put_in, by_depth, IsSortedFrom, IsSorted, of_depth, IsOrderOf, IsOnlyOrderOf}
use Rattle.hider.proofs.Cuts.{by_bool}

put_in_sorted_from : (m : ℤ) (f : Fragment) (l : List Fragment) → m ≤ℤ f.depth → IsSortedFrom m l → IsSortedFrom m (put_in f l)
put_in_sorted_from m f [] h s = (h, tt)
put_in_sorted_from m f (g ∷ gs) h s =
    by_bool (int_le g.depth f.depth)
    (λ d. rw d (s.0, put_in_sorted_from g.depth f gs (omega (arith, ints)) s.1))
    (λ d. rw d (h, (omega (arith, ints), s.1)))

pub put_in_sorted : (f : Fragment) (l : List Fragment) → IsSorted l → IsSorted (put_in f l)
put_in_sorted f [] s = tt
put_in_sorted f (g ∷ gs) s =
    by_bool (int_le g.depth f.depth)
    (λ d. rw d (put_in_sorted_from g.depth f gs (omega (arith, ints)) s))
    (λ d. rw d ((omega (arith, ints), s)))

eq_true : (x y : ℤ) → int_eq x y ≡ true → x ≡ y
eq_true x y e = (Decides-int_eq x y).0 e

eq_false : (x y : ℤ) → (x ≡ y → ⊥) → int_eq x y ≡ false
eq_false x y n = by_bool (int_eq x y) (λ t. absurd (n (eq_true x y t))) (λ f. f)

eq_same : (x : ℤ) → int_eq x x ≡ true
eq_same x = (Decides-int_eq x x).1 refl

-- a sorted list from m has nothing of a lesser depth
none_before : (m z : ℤ) (l : List Fragment) → IsSortedFrom m l → z <ℤ m → of_depth z l ≡ []
none_before m z [] s h = refl
none_before m z (f ∷ fs) s h =
    let low = s.0 in
    let e = eq_false f.depth z (λ e. omega (arith, ints)) in
    rw e (none_before f.depth z fs s.1 (omega (arith, ints)))

-- at the front is as good as at the end, where nothing else has its depth
front_is_last : (z : ℤ) (f : Fragment) (l : List Fragment) → (f.depth ≡ z → of_depth z l ≡ []) → of_depth z (f ∷ l) ≡ of_depth z (l ++ f ∷ [])
front_is_last z f l h =
    let a = filter-append (λ g. int_eq g.depth z) l (f ∷ []) in
    by_bool (int_eq f.depth z)
    (λ o. let n = h (eq_true f.depth z o) in rw (a, o, n) refl)
    (λ o. rw (a, o) (sym (append-nil (of_depth z l))))

-- a fragment put in comes last of its depth
put_in_last_from : (m z : ℤ) (f : Fragment) (l : List Fragment) → IsSortedFrom m l → of_depth z (put_in f l) ≡ of_depth z (l ++ f ∷ [])
put_in_last_from m z f [] s = refl
put_in_last_from m z f (g ∷ gs) s =
    let e = put_in_last_from g.depth z f gs s.1 in
    by_bool (int_le g.depth f.depth)
    (λ d. by_bool (int_eq g.depth z) (λ o. simp (d, o, e)) (λ o. simp (d, o, e)))
    (λ d. rw d (front_is_last z f (g ∷ gs) (λ t. none_before g.depth z (g ∷ gs) (omega (arith, ints), s.1) (omega (arith, ints)))))

put_in_last : (z : ℤ) (f : Fragment) (l : List Fragment) → IsSorted l → of_depth z (put_in f l) ≡ of_depth z (l ++ f ∷ [])
put_in_last z f [] s = refl
put_in_last z f (g ∷ gs) s = put_in_last_from g.depth z f (g ∷ gs) (omega (arith, ints), s)

pub all_sorted : (fs l : List Fragment) → IsSorted l → IsSorted (fold (λ k f. put_in f k) l fs)
all_sorted [] l s = s
all_sorted (f ∷ fs) l s = all_sorted fs (put_in f l) (put_in_sorted f l s)

all_kept : (z : ℤ) (fs l : List Fragment) → IsSorted l → of_depth z (fold (λ k f. put_in f k) l fs) ≡ of_depth z (l ++ fs)
all_kept z [] l s = ap (of_depth z) (sym (append-nil l))
all_kept z (f ∷ fs) l s =
    all_kept z fs (put_in f l) (put_in_sorted f l s)
    ∙ filter-append (λ g. int_eq g.depth z) (put_in f l) fs
    ∙ ap (λ k. k ++ of_depth z fs) (put_in_last z f l s)
    ∙ sym (filter-append (λ g. int_eq g.depth z) (l ++ f ∷ []) fs)
    ∙ ap (of_depth z) (append_assoc l (f ∷ []) fs)

-- sorted lists with the same fragments of each depth are one
tail_sorted : (m : ℤ) (l : List Fragment) → IsSortedFrom m l → IsSorted l
tail_sorted m [] s = tt
tail_sorted m (f ∷ fs) s = s.1

first_of_depth : (g : Fragment) (gs : List Fragment) → of_depth g.depth (g ∷ gs) ≡ g ∷ of_depth g.depth gs
first_of_depth g gs = rw (eq_same g.depth) refl

not_nearer : (g : Fragment) (gs : List Fragment) (h : Fragment) (hs : List Fragment) → IsSorted (h ∷ hs) → ((z : ℤ) → of_depth z (g ∷ gs) ≡ of_depth z (h ∷ hs)) → g.depth <ℤ h.depth → ⊥
not_nearer g gs h hs s e l =
    let n = none_before h.depth g.depth (h ∷ hs) (omega (arith, ints), s) l in
    let p = e g.depth in
    let f = first_of_depth g gs in
    cc

same_rest : (z : ℤ) (g : Fragment) (gs hs : List Fragment) → of_depth z (g ∷ gs) ≡ of_depth z (g ∷ hs) → of_depth z gs ≡ of_depth z hs
same_rest z g gs hs e =
    by_bool (int_eq g.depth z)
    (λ o. let p : g ∷ of_depth z gs ≡ g ∷ of_depth z hs = rw (o) at e in cc)
    (λ o. rw (o) at e)

one_order : (gs hs : List Fragment) → IsSorted gs → IsSorted hs → ((z : ℤ) → of_depth z gs ≡ of_depth z hs) → gs ≡ hs
one_order [] [] s t e = refl
one_order [] (h ∷ hs) s t e = let p = e h.depth in let f = first_of_depth h hs in absurd (cc)
one_order (g ∷ gs) [] s t e = let p = e g.depth in let f = first_of_depth g gs in absurd (cc)
one_order (g ∷ gs) (h ∷ hs) s t e =
    by_lt_z g.depth h.depth
    (λ l. absurd (not_nearer g gs h hs t e l))
    (λ l. by_lt_z h.depth g.depth
    (λ k. absurd (not_nearer h hs g gs s (λ z. sym (e z)) k))
    (λ k. let d : g.depth ≡ h.depth = omega (arith, ints) in
    let p = e g.depth in
    let f = first_of_depth g gs in
    let f2 = ap (λ z. of_depth z (h ∷ hs)) d ∙ first_of_depth h hs ∙ ap (λ z. h ∷ of_depth z hs) (sym d) in
    let same : g ≡ h = cc in
    let rest = one_order gs hs (tail_sorted g.depth gs s) (tail_sorted h.depth hs t)
    (λ z. same_rest z g gs hs (e z ∙ ap (λ x. of_depth z (x ∷ hs)) (sym same))) in
    cc))

pub by_depth_order : (fs : List Fragment) → IsOrderOf fs (by_depth fs)
unfolding by_depth
by_depth_order fs = record { sorted = all_sorted fs [] tt; kept = λ z. all_kept z fs [] tt }

pub by_depth_only : (fs : List Fragment) → IsOnlyOrderOf fs
by_depth_only fs =
    let o = by_depth_order fs in
    record {
      order = o;
      only = λ gs h. one_order gs (by_depth fs) h.sorted o.sorted (λ z. h.kept z ∙ sym (o.kept z));
    }
