-- Numbers that are taken from a list, in order, where all between two of them may be left out.
use Rattle.std.proofs.Common.{◌≡◌, ℕ, zero, suc, ◌+◌, ◌-◌, ◌<◌, ◌≤◌, arith, refl, sym, ◌∙◌, ap, subst, List, [], ◌∷◌, ◌++◌, length, get_or, take, Option, Some, None}
use Rattle.std.specs.Prelude.{pos, ◌≤ℤ◌, slice_get, IfSome}
use Rattle.std.proofs.lemmas.Option.{slice_get-get_or}
use Rattle.std.proofs.lemmas.List.Elements.{All-push, All-take}
use Rattle.fixed_math.specs.Spots.{PixelRect}
use Rattle.patches.specs.Parts.{Part, whole_of, rect_of}
use Rattle.buckets.specs.Pictures.{prim_box}
use Rattle.bound_split.specs.declared.extents.Extent.{Extent}
use Rattle.bound_split.specs.Extents.{extent_of}
use Rattle.scene.specs.Scene.{PrimValue, FrameValue}
use Rattle.buckets.specs.declared.candidates.Candidates.{Candidates}
use Rattle.buckets.specs.Narrowing.{AreCandidates, AreExtents, AreNarrowed, IsWholeExtent, LiesIn, Misses, MissBetween, LeaveOut}
use Rattle.buckets.proofs.Narrowed.{misses_part}

-- ---- numbers of a list
pub by_lt : {P : Type 0} (i n : ℕ) → (i < n → P) → (n ≤ i → P) → P
by_lt i zero less more = more (omega arith)
by_lt zero (suc n) less more = less (omega arith)
by_lt (suc i) (suc n) less more = by_lt i n (λ l. less (omega (arith, l))) (λ l. more (omega (arith, l)))

pub in_range : (xs : List ℕ) (i d e : ℕ) → i < length xs → get_or xs i d ≡ get_or xs i e
in_range [] i d e l = absurd (omega (arith, l))
in_range (x ∷ xs) zero d e l = refl
in_range (x ∷ xs) (suc i) d e l = in_range xs i d e (omega (arith, l))

past_range : (xs : List ℕ) (i d : ℕ) → length xs ≤ i → get_or xs i d ≡ d
past_range [] zero d l = refl
past_range [] (suc i) d l = refl
past_range (x ∷ xs) zero d l = absurd (omega (arith, l))
past_range (x ∷ xs) (suc i) d l = past_range xs i d (omega (arith, l))

pushed_old : {A : Type 0} (xs : List A) (y : A) (i : ℕ) (d : A) → i < length xs → get_or (xs ++ y ∷ []) i d ≡ get_or xs i d
pushed_old [] y i d l = absurd (omega (arith, l))
pushed_old (x ∷ xs) y zero d l = refl
pushed_old (x ∷ xs) y (suc i) d l = pushed_old xs y i d (omega (arith, l))

pushed_new : {A : Type 0} (xs : List A) (y : A) (i : ℕ) (d : A) → i ≡ length xs → get_or (xs ++ y ∷ []) i d ≡ y
pushed_new [] y zero d e = refl
pushed_new [] y (suc i) d e = absurd (omega (arith, e))
pushed_new (x ∷ xs) y zero d e = absurd (omega (arith, e))
pushed_new (x ∷ xs) y (suc i) d e = pushed_new xs y i d (omega (arith, e))

pub length_pushed : {A : Type 0} (xs : List A) (y : A) → length (xs ++ y ∷ []) ≡ length xs + 1
length_pushed [] y = refl
length_pushed (x ∷ xs) y = let e = length_pushed xs y in omega (arith, e)

-- ---- all numbers below one
pub record AreBelow (n : ℕ) (xs : List ℕ) : Type 0 where
  pub count : length xs ≡ n
  pub each : (i d : ℕ) → i < n → get_or xs i d ≡ i

pub below_none : AreBelow 0 []
below_none = record { count = refl; each = λ i d l. absurd (omega (arith, l)) }

pub below_more : (n : ℕ) (xs : List ℕ) → AreBelow n xs → AreBelow (n + 1) (xs ++ n ∷ [])
below_more n xs h =
    let count = h.count in
    record {
      count = (let e = length_pushed xs n in omega (arith, e, count));
      each = λ i d l. by_lt i n
          (λ low. pushed_old xs n i d (omega (arith, low, count)) ∙ h.each i d low)
          (λ high. let last : i ≡ n = omega (arith, l, high) in pushed_new xs n i d (last ∙ sym count) ∙ sym last);
    }

pub below_candidates : (f : FrameValue) (r : PixelRect) (n : ℕ) (xs : List ℕ) → length f.prims ≡ n → AreBelow n xs → LeaveOut f r xs
below_candidates f r n xs same h = record {
  gaps = λ i d l k from to.
      let count = h.count in
      let here = h.each i d (omega (arith, l, count)) in
      by_lt (i + 1) n
      (λ low. let next = h.each (i + 1) (length f.prims) low in absurd (omega (arith, from, to, here, next)))
      (λ high. let next = past_range xs (i + 1) (length f.prims) (omega (arith, high, count)) in absurd (omega (arith, from, to, here, next, same, high, l, count)));
}

-- ---- those that are taken of the first i of old
pub record AreTaken (f : FrameValue) (r : PixelRect) (old new : List ℕ) (i : ℕ) : Type 0 where
  pub between : (j d k : ℕ) → j + 1 < length new → get_or new j d < k → k < get_or new (j + 1) d → Misses f r k
  pub last : (j d k : ℕ) → j + 1 ≡ length new → get_or new j d < k → k < get_or old i (length f.prims) → Misses f r k

pub taken_none : (f : FrameValue) (r : PixelRect) (old : List ℕ) → AreTaken f r old [] 0
taken_none f r old = record { between = λ j d k l. absurd (omega (arith, l)); last = λ j d k e. absurd (omega (arith, e)) }

-- one more, which is taken
pub taken_more : (f : FrameValue) (r whole : PixelRect) (old new : List ℕ) (i m : ℕ) → LiesIn r whole → LeaveOut f whole old → i < length old → m ≡ get_or old i m → AreTaken f r old new i → AreTaken f r old (new ++ m ∷ []) (i + 1)
taken_more f r whole old new i m lies are low at' h =
    let long = length_pushed new m in
    let here : get_or old i (length f.prims) ≡ m = in_range old i (length f.prims) m low ∙ sym at' in
    record {
      between = λ j d k l from to.
          let old_j = pushed_old new m j d (omega (arith, l, long)) in
          by_lt (j + 1) (length new)
          (λ inner. let old_next = pushed_old new m (j + 1) d inner in h.between j d k inner (omega (arith, from, old_j)) (omega (arith, to, old_next)))
          (λ outer.
          let end' : j + 1 ≡ length new = omega (arith, l, long, outer) in
          let next = pushed_new new m (j + 1) d end' in
          h.last j d k end' (omega (arith, from, old_j)) (omega (arith, to, next, here)));
      last = λ j d k e from to.
          let last : j ≡ length new = omega (arith, e, long) in
          let this = pushed_new new m j d last in
          misses_part f r whole k lies (are.gaps i m low k (omega (arith, from, this, at')) to);
    }

-- one more, which is not
pub taken_not : (f : FrameValue) (r whole : PixelRect) (old new : List ℕ) (i m : ℕ) → LiesIn r whole → LeaveOut f whole old → i < length old → m ≡ get_or old i m → Misses f r m → AreTaken f r old new i → AreTaken f r old new (i + 1)
taken_not f r whole old new i m lies are low at' misses h =
    let here : get_or old i (length f.prims) ≡ m = in_range old i (length f.prims) m low ∙ sym at' in
    record {
      between = h.between;
      last = λ j d k e from to.
          by_lt k m
          (λ less. h.last j d k e from (omega (arith, less, here)))
          (λ more. by_lt m k
          (λ above. misses_part f r whole k lies (are.gaps i m low k (omega (arith, above, at')) to))
          (λ same. let is : m ≡ k = omega (arith, more, same) in subst (Misses f r) is misses));
    }

-- of all of them
pub taken_all : (f : FrameValue) (r : PixelRect) (old new : List ℕ) (i : ℕ) → length old ≤ i → AreTaken f r old new i → LeaveOut f r new
taken_all f r old new i end' h = record {
  gaps = λ j d l k from to.
      by_lt (j + 1) (length new)
      (λ inner. let same = in_range new (j + 1) (length f.prims) d inner in h.between j d k inner from (omega (arith, to, same)))
      (λ outer.
      let last : j + 1 ≡ length new = omega (arith, l, outer) in
      let past = past_range new (j + 1) (length f.prims) (omega (arith, outer)) in
      let over = past_range old i (length f.prims) end' in
      h.last j d k last from (omega (arith, to, past, over)));
}

-- ---- the gap behind a number
pub gap_behind : (f : FrameValue) (r : PixelRect) (xs ys : List ℕ) (place d number count next : ℕ) → ys ≡ xs → length f.prims ≡ count → LeaveOut f r xs → place < length ys → get_or ys place d ≡ number → next ≡ get_or ys (place + 1) count → MissBetween f r number next
gap_behind f r xs ys place d number count next list same are low at' is = λ k from to.
    let here : LeaveOut f r ys = subst (LeaveOut f r) (sym list) are in
    let far : get_or ys (place + 1) (length f.prims) ≡ next = ap (get_or ys (place + 1)) same ∙ sym is in
    here.gaps place d low k (omega (arith, from, at')) (omega (arith, to, far))

pub some_map : {P Q : ℕ → Type 0} (o : Option ℕ) → ((n : ℕ) → P n → Q n) → IfSome o P → IfSome o Q
some_map None g h = h
some_map (Some n) g h = g n h

-- ---- where whole primitives can show
pub extents_more : (f : FrameValue) (es : List Extent) (n : ℕ) (e : Extent) → length es ≡ n → AreExtents f es → IsWholeExtent f n e → AreExtents f (es ++ e ∷ [])
extents_more f es n e long are is = record {
  each = λ k d l.
      let all = length_pushed es e in
      by_lt k n
      (λ low. subst (IsWholeExtent f k) (sym (pushed_old es e k d (omega (arith, low, long)))) (are.each k d (omega (arith, low, long))))
      (λ high.
      let last : k ≡ n = omega (arith, l, high, long, all) in
      subst (IsWholeExtent f k) (sym (pushed_new es e k d (omega (arith, last, long)))) (subst (λ (m : ℕ). IsWholeExtent f m e) (sym last) is));
}

pub whole_extent : (f : FrameValue) (prims : List PrimValue) (n : ℕ) (p : PrimValue) (part : Part) (e : Extent) → prims ≡ f.prims → n < length prims → p ≡ get_or prims n p → part ≡ whole_of n → pos 0 ≤ℤ p.bound
    → e ≡ extent_of f.camera p.bound (prim_box p (rect_of part)) → IsWholeExtent f n e
whole_extent f prims n p part e list low at' whole bound is = λ q there.
    let found : slice_get f.prims n ≡ Some p = ap (λ ps. slice_get ps n) (sym list) ∙ slice_get-get_or prims n p low ∙ ap Some (sym at') in
    let one : p ≡ q = cc (sym found ∙ there) in
    subst (λ (o : PrimValue). (pos 0 ≤ℤ o.bound) × (e ≡ extent_of f.camera o.bound (prim_box o (rect_of (whole_of n))))) one
    (bound, is ∙ ap (λ (t : Part). extent_of f.camera p.bound (prim_box p (rect_of t))) whole)

-- ---- rectangles, each in that before it
pub last_is : (f : FrameValue) (xs ys : List Candidates) (c : Candidates) → ys ≡ xs → AreNarrowed f xs → slice_get ys (length ys - 1) ≡ Some c → AreCandidates f c
last_is f xs ys c list are there =
    let here : AreNarrowed f ys = subst (AreNarrowed f) (sym list) are in
    let some = here.some in
    let low : length ys - 1 < length ys = omega (arith, some) in
    let one : get_or ys (length ys - 1) c ≡ c = cc (sym (slice_get-get_or ys (length ys - 1) c low) ∙ there) in
    subst (AreCandidates f) one (here.each (length ys - 1) c low)

pub narrowed_more : (f : FrameValue) (xs : List Candidates) (c : Candidates) → AreNarrowed f xs → AreCandidates f c → AreNarrowed f (xs ++ c ∷ [])
narrowed_more f xs c are is = record { some = (let e = length_pushed xs c in omega (arith, e)); each = All-push (AreCandidates f) xs c are.each is }

some_taken : (n : ℕ) (xs : List Candidates) → 1 ≤ n → 1 ≤ length xs → 1 ≤ length (take n xs)
some_taken zero xs l some = absurd (omega (arith, l))
some_taken (suc n) [] l some = absurd (omega (arith, some))
some_taken (suc n) (x ∷ xs) l some = omega arith

pub narrowed_less : (f : FrameValue) (xs ys : List Candidates) (n : ℕ) → ys ≡ take n xs → 1 ≤ n → AreNarrowed f xs → AreNarrowed f ys
narrowed_less f xs ys n is l are = subst (AreNarrowed f) (sym is) (record { some = some_taken n xs l are.some; each = All-take (AreCandidates f) n xs are.each })
