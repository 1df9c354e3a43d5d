-- What the calls of frames, one after another, add to a sink.
use Rattle.std.proofs.Common.{◌≡◌, ℕ, ◌+◌, ◌<◌, ◌∷◌, [], ◌++◌, List, Option, Some, None, Result, Ok, Err, option_map, length, take, map, false, get_or, subst, zero, suc, refl, sym, ap, ◌∙◌, arith, inl, inr, append_assoc}
use Rattle.std.specs.Prelude.{OnOk, OnErr}
use Rattle.std.proofs.lemmas.List.{append-nil, take_all, take_more, map-append}
use Rattle.outside.specs.Sink.{Written, begun, with_bytes, with_end, Changes}
use Rattle.outside.specs.Frames.{Picture, whole, Adds, PutsAll, PutsFront, IsPart, AddsPart, IsFront, AddsFront}

-- an entry that isn't ended
abbrev pub opened : List ℕ → List ℕ → Written
opened name bytes = record { name = name; bytes = bytes; ended = false }

-- nothing added
pub adds-none : (old : Option (List Written)) → Adds [] old old
adds-none None = refl
adds-none (Some ws) = ap (λ a. Some a) (sym (append-nil ws))

-- some entries behind others
pub adds-more : (a b : List Written) (x y z : Option (List Written)) → Adds a x y → Adds b y z → Adds (a ++ b) x z
adds-more a b None y z p q = q ∙ ap (option_map (λ ws. ws ++ b)) p
adds-more a b (Some ws) y z p q = q ∙ ap (option_map (λ vs. vs ++ b)) p ∙ ap (λ vs. Some vs) (append_assoc ws a b)

with_bytes-last : (b : List ℕ) (ws : List Written) (name : List ℕ) → with_bytes b (ws ++ begun name ∷ []) ≡ ws ++ opened name b ∷ []
with_bytes-last b [] name = refl
with_bytes-last b (w ∷ []) name = refl
with_bytes-last b (w ∷ v ∷ ws) name = ap (λ x. w ∷ x) (with_bytes-last b (v ∷ ws) name)

with_end-last : (ws : List Written) (name bytes : List ℕ) → with_end (ws ++ opened name bytes ∷ []) ≡ ws ++ whole (record { name = name; bytes = bytes }) ∷ []
with_end-last [] name bytes = refl
with_end-last (w ∷ []) name bytes = refl
with_end-last (w ∷ v ∷ ws) name bytes = ap (λ x. w ∷ x) (with_end-last (v ∷ ws) name bytes)

-- bytes put behind a begin
pub adds-puts : (name b : List ℕ) (x y z : Option (List Written)) → Adds (begun name ∷ []) x y → PutsAll b y z → Adds (opened name b ∷ []) x z
adds-puts name b None y z p q = q ∙ ap (option_map (with_bytes b)) p
adds-puts name b (Some ws) y z p q = q ∙ ap (option_map (with_bytes b)) p ∙ ap (λ vs. Some vs) (with_bytes-last b ws name)

-- a frame that ends
pub adds-end : (p : Picture) (x y z : Option (List Written)) → Adds (opened p.name p.bytes ∷ []) x y → z ≡ option_map with_end y → Adds (whole p ∷ []) x z
adds-end p None y z h q = q ∙ ap (option_map with_end) h
adds-end p (Some ws) y z h q = q ∙ ap (option_map with_end) h ∙ ap (λ vs. Some vs) (with_end-last ws p.name p.bytes)

-- a picture of which nothing was added
pub adds_part-none : (p : Picture) (x : Option (List Written)) → AddsPart p x x
adds_part-none p x = record { added = []; adds = adds-none x; part = tt }

-- a picture of which a front was put
pub adds_part-opened : (p : Picture) (n : ℕ) (x y : Option (List Written)) → Adds (opened p.name (take n p.bytes) ∷ []) x y → AddsPart p x y
adds_part-opened p n x y h = record { added = opened p.name (take n p.bytes) ∷ []; adds = h; part = (refl, (n, refl)) }

take_whole : (xs : List ℕ) → take (length xs) xs ≡ xs
take_whole xs = take_all (length xs) xs (omega arith)

-- what an end leaves behind all bytes of a picture
pub ended-ok : {E T : Type 0} (r : Result T E) (p : Picture) (x y z : Option (List Written)) → Adds (opened p.name p.bytes ∷ []) x y → Changes with_end r y z → OnOk r (Adds (whole p ∷ []) x z)
ended-ok (Ok u) p x y z h q = adds-end p x y z h q
ended-ok (Err e) p x y z h q = tt

pub ended-err : {E T : Type 0} (r : Result T E) (p : Picture) (x y z : Option (List Written)) → Adds (opened p.name p.bytes ∷ []) x y → Changes with_end r y z → OnErr r (AddsPart p x z)
ended-err (Ok u) p x y z h q = tt
ended-err (Err e) p x y z h q = adds_part-opened p (length p.bytes) x z (q ∙ h ∙ ap (λ b. option_map (λ ws. ws ++ opened p.name b ∷ []) x) (sym (take_whole p.bytes)))

-- what is left where the bytes of a picture were put in part
pub put-part : (p : Picture) (x y z : Option (List Written)) → Adds (begun p.name ∷ []) x y → PutsFront p.bytes y z → AddsPart p x z
put-part p x y z h q = adds_part-opened p q.0 x z (adds-puts p.name (take q.0 p.bytes) x y z h q.1)

pub put-err : {E T : Type 0} (r : Result T E) (p : Picture) (x y z : Option (List Written)) → Adds (begun p.name ∷ []) x y → PutsFront p.bytes y z → OnErr r (AddsPart p x z)
put-err (Ok u) p x y z h q = tt
put-err (Err e) p x y z h q = put-part p x y z h q

-- none of the frames, all of them, and some first ones with a part of the next
pub front-none : (ps : List Picture) → IsFront ps []
front-none [] = refl
front-none (p ∷ ps) = inl tt

pub front-whole : (ps : List Picture) → IsFront ps (map whole ps)
front-whole [] = refl
front-whole (p ∷ ps) = inr (map whole ps, refl, front-whole ps)

pub front-after : {A : Type 0} (picture_of : A → Picture) (fs : List A) (i : ℕ) (f : A) (part : List Written) → i < length fs → f ≡ get_or fs i f → IsPart part (picture_of f)
    → IsFront (map picture_of fs) (map whole (map picture_of (take i fs)) ++ part)
front-after picture_of [] i f part lt is h = absurd (omega arith)
front-after picture_of (e ∷ fs) zero f part lt is h = inl (subst (λ x. IsPart part (picture_of x)) is h)
front-after picture_of (e ∷ fs) (suc i) f part lt is h = inr (map whole (map picture_of (take i fs)) ++ part, refl, front-after picture_of fs i f part (omega arith) is h)

pub adds_front-none : (ps : List Picture) (x : Option (List Written)) → AddsFront ps x x
adds_front-none ps x = record { added = []; adds = adds-none x; front = front-none ps }

pub adds_front-whole : (ps : List Picture) (x y : Option (List Written)) → Adds (map whole ps) x y → AddsFront ps x y
adds_front-whole ps x y h = record { added = map whole ps; adds = h; front = front-whole ps }

-- a frame that is added in part behind the i whole ones before it
pub adds_front-after : {A : Type 0} (picture_of : A → Picture) (fs : List A) (i : ℕ) (f : A) (x y z : Option (List Written)) → i < length fs → f ≡ get_or fs i f
    → Adds (map whole (map picture_of (take i fs))) x y → AddsPart (picture_of f) y z → AddsFront (map picture_of fs) x z
adds_front-after picture_of fs i f x y z lt is first part = record {
  added = map whole (map picture_of (take i fs)) ++ part.added;
  adds = adds-more (map whole (map picture_of (take i fs))) part.added x y z first part.adds;
  front = front-after picture_of fs i f part.added lt is part.part;
}

pub adds_front-err : {A T E : Type 0} (r : Result T E) (picture_of : A → Picture) (fs : List A) (i : ℕ) (f : A) (x y z : Option (List Written)) → i < length fs → f ≡ get_or fs i f
    → Adds (map whole (map picture_of (take i fs))) x y → AddsPart (picture_of f) y z → OnErr r (AddsFront (map picture_of fs) x z)
adds_front-err (Ok u) picture_of fs i f x y z lt is first part = tt
adds_front-err (Err e) picture_of fs i f x y z lt is first part = adds_front-after picture_of fs i f x y z lt is first part

-- one more whole frame behind the i before it
pub adds-next : {A : Type 0} (picture_of : A → Picture) (fs : List A) (i : ℕ) (f : A) (x y z : Option (List Written)) → i < length fs → f ≡ get_or fs i f
    → Adds (map whole (map picture_of (take i fs))) x y → Adds (whole (picture_of f) ∷ []) y z → Adds (map whole (map picture_of (take (i + 1) fs))) x z
adds-next {A} picture_of fs i f x y z lt is first next =
    let more : take (i + 1) fs ≡ take i fs ++ f ∷ [] = take_more fs i f lt ∙ ap (λ g. take i fs ++ g ∷ []) (sym is) in
    let mapped : map whole (map picture_of (take (i + 1) fs)) ≡ map whole (map picture_of (take i fs)) ++ whole (picture_of f) ∷ [] =
    ap (λ l. map whole (map picture_of l)) more ∙ ap (map whole) (map-append picture_of (take i fs) (f ∷ [])) ∙ map-append whole (map picture_of (take i fs)) (picture_of f ∷ []) in
    subst (λ ws. Adds ws x z) (sym mapped) (adds-more (map whole (map picture_of (take i fs))) (whole (picture_of f) ∷ []) x y z first next)
