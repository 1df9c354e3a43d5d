-- A fragment put into a list that is kept as its opaque fragment and what lies in front of that.
use Rattle.std.proofs.Common.{◌≡◌, ℕ, zero, suc, ◌+◌, ◌-◌, ◌<◌, ◌≤◌, ap, arith, refl, sym, subst, ◌∙◌, Bool, true, false, List, [], ◌∷◌, ◌++◌, take, drop, length, insert, get_or, slice_index_or, append_assoc}
use Rattle.std.specs.Prelude.{ℤ, ◌≤ℤ◌, ◌<ℤ◌, int_le, int_lt, Option, Some, None, ◌||◌}
use Rattle.std.specs.List.{list_any, cons_option}
use Rattle.std.proofs.lemmas.Int.{ints}
use Rattle.std.proofs.lemmas.List.{get_or_default}
use Rattle.std.proofs.lemmas.List.Folds.{list_any-append}
use Rattle.hider.specs.declared.fragment.Fragment.{Fragment}
use Rattle.hider.specs.Composite.{is_opaque, cut}
use Rattle.hider.specs.Fragments.{put_in, IsSorted, IsSortedFrom}
use Rattle.hider.specs.Kept.{IsKeptIn, IsPlace, kept_list, keep, hides, blocks, blocks_by, is_behind}
use Rattle.hider.proofs.Cuts.{by_bool}
use Rattle.hider.proofs.Keeps.{keep_is_kept, nothing_kept}

pub le_true : (a b : ℤ) → a ≤ℤ b → int_le a b ≡ true
le_true a b h = let d : true ≡ int_le a b = omega (arith, ints) in sym d

pub le_false : (a b : ℤ) → b <ℤ a → int_le a b ≡ false
le_false a b h = let d : false ≡ int_le a b = omega (arith, ints) in sym d

-- ---- the place, found from the far end
-- what lies before fragments in order of depth is no farther than the first of them
pub sorted_front : (x y : List Fragment) → IsSorted (x ++ y) → IsSorted x
sorted_front [] y s = tt
sorted_front (g ∷ gs) y s = from g.depth gs s
  where
    from : (m : ℤ) (x : List Fragment) → IsSortedFrom m (x ++ y) → IsSortedFrom m x
    from m [] s = tt
    from m (h ∷ hs) s = (s.0, from h.depth hs s.1)

-- each of them is no nearer than a depth that the first is no nearer than
deep_from : (m : ℤ) (l : List Fragment) (i : ℕ) (d : Fragment) → IsSortedFrom m l → i < length l → m ≤ℤ (slice_index_or l i d).depth
deep_from m [] i d s h = absurd (omega (arith, h))
deep_from m (g ∷ gs) zero d s h = s.0
deep_from m (g ∷ gs) (suc i) d s h =
    let e = deep_from g.depth gs i d s.1 (omega (arith, h)) in
    let f = s.0 in
    omega (arith, ints, e, f)

pub place_is : (f : Fragment) (l : List Fragment) (p : ℕ) → IsSorted l → p ≤ length l → (p < length l → f.depth <ℤ (slice_index_or l p f).depth) →
    ((i : ℕ) → p ≡ suc i → (slice_index_or l i f).depth ≤ℤ f.depth) → put_in f l ≡ take p l ++ f ∷ drop p l
place_is f [] zero s h far near = refl
place_is f [] (suc p) s h far near = absurd (omega (arith, h))
place_is f (g ∷ gs) zero s h far near = let n = le_false g.depth f.depth (far (omega arith)) in rw n refl
place_is f (g ∷ gs) (suc p) s h far near =
    let first : g.depth ≤ℤ f.depth = first_near p h near in
    let n = le_true g.depth f.depth first in
    let rest = place_is f gs p (sorted_rest g.depth gs s) (omega (arith, h)) (λ l. far (omega (arith, l))) (λ i e. near (suc i) (ap suc e)) in
    rw n (ap (λ r. g ∷ r) rest)
  where
    sorted_rest : (m : ℤ) (l : List Fragment) → IsSortedFrom m l → IsSorted l
    sorted_rest m [] s = tt
    sorted_rest m (x ∷ xs) s = s.1

    first_near : (p : ℕ) → suc p ≤ length (g ∷ gs) → ((i : ℕ) → suc p ≡ suc i → (slice_index_or (g ∷ gs) i f).depth ≤ℤ f.depth) → g.depth ≤ℤ f.depth
    first_near zero r n = n zero refl
    first_near (suc q) r n =
        let e : (slice_index_or gs q f).depth ≤ℤ f.depth = n (suc q) refl in
        let d : g.depth ≤ℤ (slice_index_or gs q f).depth = deep_from g.depth gs q f s (omega (arith, r)) in
        omega (arith, ints, d, e)

-- what the code reads at a place
read_at : (l : List Fragment) (i : ℕ) (g f : Fragment) → i < length l → g ≡ get_or l i g → get_or l i f ≡ g
read_at l i g f h e = get_or_default l i f g h ∙ sym e

pub near_before : (f : Fragment) (l : List Fragment) (p : ℕ) (g : Fragment) → 0 < p → p ≤ length l → g ≡ get_or l (p - 1) g → g.depth ≤ℤ f.depth → (i : ℕ) → p ≡ suc i → (get_or l i f).depth ≤ℤ f.depth
near_before f l p g some h e d i n =
    let j : p - 1 ≡ i = omega (arith, n) in
    subst (λ k. (get_or l k f).depth ≤ℤ f.depth) j (subst (λ (x : Fragment). x.depth ≤ℤ f.depth) (sym (read_at l (p - 1) g f (omega (arith, some, h)) e)) d)

pub far_at : (f : Fragment) (l : List Fragment) (i : ℕ) (g : Fragment) → i < length l → g ≡ get_or l i g → f.depth <ℤ g.depth → f.depth <ℤ (get_or l i f).depth
far_at f l i g h e d = subst (λ (x : Fragment). f.depth <ℤ x.depth) (sym (read_at l i g f h e)) d

pub at_start : (f : Fragment) (l : List Fragment) (p : ℕ) → p ≡ 0 → IsSorted l → (p < length l → f.depth <ℤ (get_or l p f).depth) → put_in f l ≡ f ∷ l
at_start f l p e s far = place_is f l 0 s (omega arith) (λ h. subst (λ n. f.depth <ℤ (get_or l n f).depth) e (far (omega (arith, e, h)))) (λ i n. absurd (omega (arith, n)))

-- ---- lists without an opaque fragment
any_first : (a b : Bool) → (a || b) ≡ false → a ≡ false
any_first false b e = refl
any_first true b e = e

any_rest : (a b : Bool) → (a || b) ≡ false → b ≡ false
any_rest false b e = e
any_rest true b e = absurd (cc)

cut-append : (x y : List Fragment) → list_any is_opaque x ≡ false → cut (x ++ y) ≡ x ++ cut y
cut-append [] y e = refl
cut-append (g ∷ gs) y e =
    let o = any_first (is_opaque g) (list_any is_opaque gs) e in
    let i = cut-append gs y (any_rest (is_opaque g) (list_any is_opaque gs) e) in
    simp (o, i)

take_clear : (n : ℕ) (l : List Fragment) → list_any is_opaque l ≡ false → list_any is_opaque (take n l) ≡ false
take_clear zero l e = refl
take_clear (suc n) [] e = refl
take_clear (suc n) (g ∷ gs) e =
    let o = any_first (is_opaque g) (list_any is_opaque gs) e in
    let i = take_clear n gs (any_rest (is_opaque g) (list_any is_opaque gs) e) in
    rw (o, i) refl

put_in_clear : (f : Fragment) (l : List Fragment) → is_opaque f ≡ false → list_any is_opaque l ≡ false → list_any is_opaque (put_in f l) ≡ false
put_in_clear f [] p e = rw p refl
put_in_clear f (g ∷ gs) p e =
    let o = any_first (is_opaque g) (list_any is_opaque gs) e in
    let r = any_rest (is_opaque g) (list_any is_opaque gs) e in
    let i = put_in_clear f gs p r in
    by_bool (int_le g.depth f.depth)
    (λ d. rw (d, o, i) refl)
    (λ d. rw (d, p, o, r) refl)

cut_back : (back : Option Fragment) → cut (cons_option back []) ≡ cons_option back []
cut_back None = refl
cut_back (Some b) = by_bool (is_opaque b) (λ o. rw o refl) (λ o. rw o refl)

-- ---- before the opaque fragment
put_before : (f : Fragment) (x : List Fragment) (back : Option Fragment) → is_behind back f.depth ≡ false → put_in f (x ++ cons_option back []) ≡ put_in f x ++ cons_option back []
put_before f [] None e = refl
put_before f [] (Some b) e = rw e refl
put_before f (g ∷ gs) back e =
    let i = put_before f gs back e in
    by_bool (int_le g.depth f.depth) (λ d. simp (d, i)) (λ d. rw d refl)

-- behind it
below_last : (m : ℤ) (x : List Fragment) (b : Fragment) → IsSortedFrom m (x ++ b ∷ []) → m ≤ℤ b.depth
below_last m [] b s = s.0
below_last m (g ∷ gs) b s = let i = below_last g.depth gs b s.1 in let h = s.0 in omega (arith, ints, i, h)

rest_sorted : (m : ℤ) (l : List Fragment) → IsSortedFrom m l → IsSorted l
rest_sorted m [] s = tt
rest_sorted m (g ∷ gs) s = s.1

put_behind : (f b : Fragment) (x : List Fragment) → IsSorted (x ++ b ∷ []) → b.depth ≤ℤ f.depth → put_in f (x ++ b ∷ []) ≡ x ++ b ∷ f ∷ []
put_behind f b [] s h = let d = le_true b.depth f.depth h in rw d refl
put_behind f b (g ∷ gs) s h =
    let l = below_last g.depth gs b s in
    let d = le_true g.depth f.depth (omega (arith, ints, l, h)) in
    let i = put_behind f b gs (rest_sorted g.depth (gs ++ b ∷ []) s) h in
    rw d (ap (λ r. g ∷ r) i)

pub le_from : (a b : ℤ) → int_le a b ≡ true → a ≤ℤ b
le_from a b e = omega (arith, ints, e)

-- what is no nearer than a depth behind it is behind it
pub behind_further : (back : Option Fragment) (z d : ℤ) → is_behind back z ≡ true → z ≤ℤ d → is_behind back d ≡ true
behind_further None z d e h = e
behind_further (Some b) z d e h = let f = le_from b.depth z e in le_true b.depth d (omega (arith, ints, f, h))

pub kept_behind : (f : Fragment) (front : List Fragment) (back : Option Fragment) → IsKeptIn front back → is_behind back f.depth ≡ true → keep f (kept_list front back) ≡ kept_list front back
kept_behind f front None k e = absurd (cc)
kept_behind f front (Some b) k e =
    let o = k.opaque b refl in
    let p = put_behind f b front k.kept.sorted (le_from b.depth f.depth e) in
    let last : cut (b ∷ f ∷ []) ≡ b ∷ [] = rw o refl in
    ap cut p ∙ cut-append front (b ∷ f ∷ []) k.clear ∙ ap (λ r. front ++ r) last

-- ---- put in front
insert_is : (f : Fragment) (p : ℕ) (l : List Fragment) → p ≤ length l → insert l p f ≡ take p l ++ f ∷ drop p l
insert_is f p l h = refl

pub kept_clear : (f : Fragment) (front new : List Fragment) (back : Option Fragment) (p : ℕ) → IsKeptIn front back → is_behind back f.depth ≡ false → is_opaque f ≡ false → IsPlace f front p → new ≡ insert front p f →
    kept_list new back ≡ keep f (kept_list front back)
kept_clear f front new back p k h o i e =
    let n : new ≡ put_in f front = e ∙ insert_is f p front i.inside ∙ sym i.put in
    ap (λ r. r ++ cons_option back []) n
    ∙ sym (ap cut (put_before f front back h) ∙ cut-append (put_in f front) (cons_option back []) (put_in_clear f front o k.clear) ∙ ap (λ r. put_in f front ++ r) (cut_back back))

pub clear_is : (f : Fragment) (front new : List Fragment) (back : Option Fragment) (p : ℕ) → IsKeptIn front back → is_behind back f.depth ≡ false → is_opaque f ≡ false → IsPlace f front p → new ≡ insert front p f →
    IsKeptIn new back
clear_is f front new back p k h o i e =
    let n : new ≡ put_in f front = e ∙ insert_is f p front i.inside ∙ sym i.put in
    record {
      kept = rw (kept_clear f front new back p k h o i e) (keep_is_kept f (kept_list front back) k.kept.sorted);
      clear = rw n (put_in_clear f front o k.clear);
      opaque = k.opaque;
    }

-- ---- in the opaque fragment's stead
pub kept_opaque : (f : Fragment) (front new : List Fragment) (back : Option Fragment) (p : ℕ) → IsKeptIn front back → is_behind back f.depth ≡ false → is_opaque f ≡ true → IsPlace f front p → new ≡ take p front →
    kept_list new (Some f) ≡ keep f (kept_list front back)
kept_opaque f front new back p k h o i e =
    let rest = drop p front ++ cons_option back [] in
    let last : cut (f ∷ rest) ≡ f ∷ [] = rw o refl in
    ap (λ r. r ++ f ∷ []) e
    ∙ sym (ap cut (put_before f front back h ∙ ap (λ r. r ++ cons_option back []) i.put ∙ append_assoc (take p front) (f ∷ drop p front) (cons_option back []))
    ∙ cut-append (take p front) (f ∷ rest) (take_clear p front k.clear) ∙ ap (λ r. take p front ++ r) last)

pub opaque_is : (f : Fragment) (front new : List Fragment) (back : Option Fragment) (p : ℕ) → IsKeptIn front back → is_behind back f.depth ≡ false → is_opaque f ≡ true → IsPlace f front p → new ≡ take p front →
    IsKeptIn new (Some f)
opaque_is f front new back p k h o i e = record {
  kept = rw (kept_opaque f front new back p k h o i e) (keep_is_kept f (kept_list front back) k.kept.sorted);
  clear = rw e (take_clear p front k.clear);
  opaque = λ b s. let same : f ≡ b = cc in rw (← same) o;
}

-- ---- nothing
pub nothing_is : IsKeptIn [] None
nothing_is = record { kept = nothing_kept; clear = refl; opaque = λ b s. absurd (cc) }

-- ---- what the opaque fragment blocks, the list does
clear_blocks : (z : ℤ) (x : List Fragment) → list_any is_opaque x ≡ false → blocks z x ≡ false
clear_blocks z [] e = refl
clear_blocks z (g ∷ gs) e =
    let o = any_first (is_opaque g) (list_any is_opaque gs) e in
    let i = clear_blocks z gs (any_rest (is_opaque g) (list_any is_opaque gs) e) in
    rw (o, i) refl

or_false : (a : Bool) → (a || false) ≡ a
or_false true = refl
or_false false = refl

pub blocks_back : (z : ℤ) (front : List Fragment) (back : Option Fragment) → IsKeptIn front back → blocks_by back z ≡ blocks z (kept_list front back)
blocks_back z front None k =
    let c = clear_blocks z front k.clear in
    sym (list_any-append (hides z) front [] ∙ rw c refl)
blocks_back z front (Some b) k =
    let c = clear_blocks z front k.clear in
    let o = k.opaque b refl in
    sym (list_any-append (hides z) front (b ∷ []) ∙ rw (c, o) (or_false (int_lt b.depth z)))
