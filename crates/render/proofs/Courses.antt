-- How a run goes, frame by frame and line by line.
use Rattle.std.proofs.Common.{◌≡◌, refl, sym, ap, ◌∙◌, subst, ℕ, zero, suc, ◌+◌, ◌<◌, ◌≤◌, inl, inr, List, [], ◌∷◌, ◌++◌, length, map, take, drop, get_or, Option, Some, None, Result, Ok, Err, arith}
use Rattle.std.specs.Prelude.{filter_map, IfErr, IsErrAnd}
use Rattle.std.proofs.lemmas.List.Elements.{filter_map-append}
use Rattle.buckets.specs.declared.limits.DrawFault.{DrawFault}
use Rattle.buckets.specs.declared.limits.DrawFault.TheVariants as drawing
use Rattle.std.proofs.lemmas.List.{append-nil, take_all, take_more}
use Rattle.outside.specs.Sink.{Written}
use Rattle.outside.specs.Frames.{Picture, whole, Adds, AddsPart, IsPart, IsFront, AddsFront}
use Rattle.outside.specs.NoteLines.{Says}
use Rattle.outside.proofs.Entries.{adds-none, adds-more, adds-next}
use Rattle.outside.proofs.Saying.{says-more}
use Rattle.render.specs.Course.{IsBegun, Ends}
use Rattle.render.specs.Answers.{lines_in, LeavesFrame}

begun-none : (ps : List Picture) → IsBegun ps []
begun-none [] = refl
begun-none (p ∷ ps) = tt

-- no frame was ended
pub ends-none : (ps : List Picture) (x : Option (List Written)) → Ends 0 ps x x
ends-none ps x = record { few = omega arith; rest = []; adds = adds-none x; begun = begun-none ps }

-- all were
pub ends-all : (ps : List Picture) (x y : Option (List Written)) → Adds (map whole ps) x y → Ends (length ps) ps x y
ends-all ps x y h = record {
  few = omega arith;
  rest = [];
  adds = subst (λ ws. Adds ws x y) (sym (append-nil (map whole (take (length ps) ps)) ∙ ap (λ qs. map whole qs) (take_all (length ps) ps (omega arith)))) h;
  begun = begun-none (drop (length ps) ps);
}

-- all that were ended, and no more
pub whole-ends : (n : ℕ) (ps : List Picture) (x y : Option (List Written)) → n ≡ length ps → Ends n ps x y → Adds (map whole ps) x y
whole-ends n ps x y is e =
    let none : e.rest ≡ [] = begun-last n ps e.rest is e.begun in
    subst (λ ws. Adds ws x y) (ap (λ rest. map whole (take n ps) ++ rest) none ∙ append-nil (map whole (take n ps)) ∙ ap (λ qs. map whole qs) (take_all n ps (omega (arith, is)))) e.adds
  where
    begun-last : (n : ℕ) (ps : List Picture) (rest : List Written) → n ≡ length ps → IsBegun (drop n ps) rest → rest ≡ []
    begun-last zero [] rest is begun = begun
    begun-last zero (p ∷ ps) rest is begun = absurd (omega (arith, is))
    begun-last (suc n) [] rest is begun = absurd (omega (arith, is))
    begun-last (suc n) (p ∷ ps) rest is begun = begun-last n ps rest (omega (arith, is)) begun

-- a part of one frame, or all of it
pub ends-part : (p : Picture) (x y : Option (List Written)) → AddsPart p x y → Ends 0 (p ∷ []) x y
ends-part p x y h = record { few = omega arith; rest = h.added; adds = h.adds; begun = h.part }

pub ends-one : (p : Picture) (x y : Option (List Written)) → Adds (whole p ∷ []) x y → Ends 1 (p ∷ []) x y
ends-one p x y h = record { few = omega arith; rest = []; adds = h; begun = refl }

begun-at : {A : Type 0} (picture_of : A → Picture) (fs : List A) (i : ℕ) (f : A) (rest : List Written) → i < length fs → f ≡ get_or fs i f → IsPart rest (picture_of f)
    → IsBegun (drop i (map picture_of fs)) rest
begun-at picture_of [] i f rest lt is part = absurd (omega (arith, lt))
begun-at picture_of (g ∷ fs) zero f rest lt is part = subst (λ h. IsPart rest (picture_of h)) is part
begun-at picture_of (g ∷ fs) (suc i) f rest lt is part = begun-at picture_of fs i f rest (omega (arith, lt)) is part

take-map : {A B : Type 0} (h : A → B) (i : ℕ) (xs : List A) → take i (map h xs) ≡ map h (take i xs)
take-map h zero xs = refl
take-map h (suc i) [] = refl
take-map h (suc i) (x ∷ xs) = ap (λ ys. h x ∷ ys) (take-map h i xs)

length-mapped : {A B : Type 0} (h : A → B) (xs : List A) → length (map h xs) ≡ length xs
length-mapped h [] = refl
length-mapped h (x ∷ xs) = ap suc (length-mapped h xs)

-- some first frames as a sink has them
front-of : (ps : List Picture) (n : ℕ) (rest : List Written) → n ≤ length ps → IsBegun (drop n ps) rest → IsFront ps (map whole (take n ps) ++ rest)
front-of [] zero rest few begun = begun
front-of [] (suc n) rest few begun = absurd (omega (arith, few))
front-of (p ∷ ps) zero rest few begun = inl begun
front-of (p ∷ ps) (suc n) rest few begun = inr (map whole (take n ps) ++ rest, refl, front-of ps n rest (omega (arith, few)) begun)

pub front-ends : (n : ℕ) (ps : List Picture) (x y : Option (List Written)) → Ends n ps x y → AddsFront ps x y
front-ends n ps x y e = record { added = map whole (take n ps) ++ e.rest; adds = e.adds; front = front-of ps n e.rest e.few e.begun }

-- the next frame behind i whole ones: a part of it
pub ends-next-part : {A : Type 0} (picture_of : A → Picture) (fs : List A) (i : ℕ) (f : A) (x y z : Option (List Written)) → i < length fs → f ≡ get_or fs i f
    → Adds (map whole (map picture_of (take i fs))) x y → Ends 0 (picture_of f ∷ []) y z → Ends i (map picture_of fs) x z
ends-next-part picture_of fs i f x y z lt is first e = record {
  few = omega (arith, lt, length-mapped picture_of fs);
  rest = e.rest;
  adds = subst (λ ps. Adds (map whole ps ++ e.rest) x z) (sym (take-map picture_of i fs)) (adds-more (map whole (map picture_of (take i fs))) e.rest x y z first e.adds);
  begun = begun-at picture_of fs i f e.rest lt is e.begun;
}

-- all of it
ends-next-whole : {A : Type 0} (picture_of : A → Picture) (fs : List A) (i : ℕ) (x y : Option (List Written)) → i < length fs
    → Adds (map whole (map picture_of (take (i + 1) fs))) x y → Ends (i + 1) (map picture_of fs) x y
ends-next-whole picture_of fs i x y lt first = record {
  few = omega (arith, lt, length-mapped picture_of fs);
  rest = [];
  adds = subst (λ ws. Adds ws x y) (sym (append-nil (map whole (take (i + 1) (map picture_of fs))) ∙ ap (λ ps. map whole ps) (take-map picture_of (i + 1) fs))) first;
  begun = begun-none (drop (i + 1) (map picture_of fs));
}

one-line : {A : Type 0} (x : A) (o : Option (List ℕ)) → filter_map (λ (y : A). o) (x ∷ []) ≡ lines_in o
one-line x None = refl
one-line x (Some line) = refl

-- the line of the next frame, where it is wanted
pub says-next-line : {A : Type 0} (line_of : A → Option (List ℕ)) (fs : List A) (i : ℕ) (f : A) (line : Option (List ℕ)) (x y z : Option (List (List ℕ))) (j k l : ℕ) → i < length fs → f ≡ get_or fs i f → line ≡ line_of f
    → Says (filter_map line_of (take i fs)) x y j k → Says (lines_in line) y z k l → Says (filter_map line_of (take (i + 1) fs)) x z j l
says-next-line line_of fs i f line x y z j k l lt is its first next =
    let lines : filter_map line_of (take (i + 1) fs) ≡ filter_map line_of (take i fs) ++ lines_in line =
    ap (filter_map line_of) (take_more fs i f lt) ∙ filter_map-append line_of (take i fs) (get_or fs i f ∷ [])
    ∙ ap (λ ls. filter_map line_of (take i fs) ++ ls) (one-line (get_or fs i f) (line_of (get_or fs i f)) ∙ ap (λ h. lines_in (line_of h)) (sym is) ∙ ap lines_in (sym its)) in
    subst (λ ls. Says ls x z j l) (sym lines) (says-more (filter_map line_of (take i fs)) (lines_in line) x y z j k l first next)

-- one frame whose drawing fails
pub part-left : {T : Type 0} (r : Result T DrawFault) (p : Picture) (x y : Option (List Written)) → AddsPart p x y → IfErr r (λ e. LeavesFrame e p x y)
part-left (Ok u) p x y h = tt
part-left (Err e) p x y h = record { ended = 0; ends = ends-part p x y h; behind = inl refl }

-- one that is whole, behind which memory runs out
pub whole-left : {T : Type 0} (r : Result T DrawFault) (p : Picture) (x y : Option (List Written)) → IsErrAnd r (λ e. e ≡ drawing.NoMemory) → Adds (whole p ∷ []) x y → IfErr r (λ e. LeavesFrame e p x y)
whole-left (Ok u) p x y full h = tt
whole-left (Err e) p x y full h = record { ended = 1; ends = ends-one p x y h; behind = inr (full, refl) }

-- a frame that was ended alone is whole
one-whole : (p : Picture) (x y : Option (List Written)) → Ends 1 (p ∷ []) x y → Adds (whole p ∷ []) x y
one-whole p x y e = subst (λ rest. Adds (whole p ∷ rest) x y) e.begun e.adds

pub ends-next-all : {A : Type 0} (picture_of : A → Picture) (fs : List A) (i : ℕ) (f : A) (x y z : Option (List Written)) → i < length fs → f ≡ get_or fs i f
    → Adds (map whole (map picture_of (take i fs))) x y → Ends 1 (picture_of f ∷ []) y z → Ends (i + 1) (map picture_of fs) x z
ends-next-all picture_of fs i f x y z lt is first e =
    ends-next-whole picture_of fs i x z lt (adds-next picture_of fs i f x y z lt is first (one-whole (picture_of f) y z e))
