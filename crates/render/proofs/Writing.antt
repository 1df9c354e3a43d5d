-- A frame behind those that are whole.
use Rattle.std.proofs.Common.{◌≡◌, refl, ap, ◌∙◌, subst, ℕ, zero, suc, ◌+◌, ◌<◌, List, [], ◌∷◌, length, map, take, get_or, Option, inl, inr, Result, Ok, Err}
use Rattle.std.specs.Prelude.{OnErr}
use Rattle.outside.specs.Sink.{Written}
use Rattle.outside.specs.Frames.{Picture, whole, Adds, AddsPart, IsFront, AddsFront}
use Rattle.outside.proofs.Entries.{adds_front-after, adds_front-whole, adds-next}

-- some first frames, each whole and ended
front-first : {A : Type 0} (picture_of : A → Picture) (fs : List A) (i : ℕ) → IsFront (map picture_of fs) (map whole (map picture_of (take i fs)))
front-first picture_of [] zero = refl
front-first picture_of [] (suc i) = refl
front-first picture_of (f ∷ fs) zero = inl tt
front-first picture_of (f ∷ fs) (suc i) = inr (map whole (map picture_of (take i fs)), refl, front-first picture_of fs i)

whole_next : {A : Type 0} (picture_of : A → Picture) (fs : List A) (i : ℕ) (f : A) (x y z : Option (List Written)) → i < length fs → f ≡ get_or fs i f
    → Adds (map whole (map picture_of (take i fs))) x y → Adds (whole (picture_of f) ∷ []) y z → AddsFront (map picture_of fs) x z
whole_next picture_of fs i f x y z lt is first next = record {
  added = map whole (map picture_of (take (i + 1) fs));
  adds = adds-next picture_of fs i f x y z lt is first next;
  front = front-first picture_of fs (i + 1);
}

-- behind i whole frames, nothing of the next one, a part of it, or all of it
front_next : {A : Type 0} (picture_of : A → Picture) (fs : List A) (i : ℕ) (f : A) (x y z : Option (List Written)) → i < length fs → f ≡ get_or fs i f
    → Adds (map whole (map picture_of (take i fs))) x y → AddsFront (picture_of f ∷ []) y z → AddsFront (map picture_of fs) x z
front_next {A} picture_of fs i f x y z lt is first more = by more.added more.adds more.front
  where
    by : (added : List Written) → Adds added y z → IsFront (picture_of f ∷ []) added → AddsFront (map picture_of fs) x z
    by added adds (inl part) = adds_front-after picture_of fs i f x y z lt is first (record { added = added; adds = adds; part = part })
    by added adds (inr all) =
        whole_next picture_of fs i f x y z lt is first (subst (λ ws. Adds ws y z) (all.1 ∙ ap (λ others. whole (picture_of f) ∷ others) all.2) adds)

pub front_next-err : {A T E : Type 0} (r : Result T E) (picture_of : A → Picture) (fs : List A) (i : ℕ) (f : A) (x y z : Option (List Written)) → i < length fs → f ≡ get_or fs i f
    → Adds (map whole (map picture_of (take i fs))) x y → AddsFront (picture_of f ∷ []) y z → OnErr r (AddsFront (map picture_of fs) x z)
front_next-err (Ok u) picture_of fs i f x y z lt is first more = tt
front_next-err (Err e) picture_of fs i f x y z lt is first more = front_next picture_of fs i f x y z lt is first more

-- one frame: a part of it, or all of it
pub one_part : {T E : Type 0} (r : Result T E) (p : Picture) (x y : Option (List Written)) → AddsPart p x y → OnErr r (AddsFront (p ∷ []) x y)
one_part (Ok u) p x y h = tt
one_part (Err e) p x y h = record { added = h.added; adds = h.adds; front = inl h.part }

pub one_whole : {T E : Type 0} (r : Result T E) (p : Picture) (x y : Option (List Written)) → Adds (whole p ∷ []) x y → OnErr r (AddsFront (p ∷ []) x y)
one_whole (Ok u) p x y h = tt
one_whole (Err e) p x y h = adds_front-whole (p ∷ []) x y h
