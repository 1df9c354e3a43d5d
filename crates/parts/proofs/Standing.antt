-- The buckets of all parts in one list, and the parts that have them.
use Rattle.std.proofs.Common.{◌≡◌, ◌∙◌, ap, sym, refl, subst, ℕ, zero, suc, ◌+◌, ◌-◌, ◌<◌, ◌≤◌, arith, List, [], ◌∷◌, ◌++◌, length, get_or, map, length-append, ◌⊎◌, ⊎_elim, inl, inr}
use Rattle.std.proofs.lemmas.Bool.{cases_lt, cases_eq}
use Rattle.std.proofs.lemmas.List.{get_or_append_left, get_or-append_right, map-append}
use Rattle.parts.specs.declared.header.Header.{Header}
use Rattle.parts.specs.Formats.{Bucket, Part, no_part, bucket_numbers, AreBuckets}
use Rattle.parts.specs.Pictures.{buckets_of}
use Rattle.parts.specs.Placing.{Placed, placed_in, placed_from, not_placed, number_of, part_of, AreDistinct, IsAgain, IsThere, IsWanting}
use Rattle.parts.specs.Joining.{Has, SomeHas, EarlierHas, AreDisjoint, IsDoubled, IsMissing}

-- ---- the buckets of one part
pub part_in_is : (n : ℕ) (bs : List Bucket) (k : ℕ) → k < length (placed_in n bs) → part_of (placed_in n bs) k ≡ n
part_in_is n [] k l = absurd (omega (arith, l))
part_in_is n (b ∷ bs) zero l = refl
part_in_is n (b ∷ bs) (suc k) l = part_in_is n bs k (omega (arith, l))

number_in_is : (n : ℕ) (bs : List Bucket) (k : ℕ) → number_of (placed_in n bs) k ≡ get_or (bucket_numbers bs) k 0
number_in_is n [] k = refl
number_in_is n (b ∷ bs) zero = refl
number_in_is n (b ∷ bs) (suc k) = number_in_is n bs k

length-placed_in : (n : ℕ) (bs : List Bucket) → length (placed_in n bs) ≡ length (bucket_numbers bs)
length-placed_in n [] = refl
length-placed_in n (b ∷ bs) = ap suc (length-placed_in n bs)

at_least : (h : Header) (n least : ℕ) (bs : List Bucket) (k : ℕ) → AreBuckets h least bs → k < length (placed_in n bs) → least ≤ number_of (placed_in n bs) k
at_least h n least [] k a l = absurd (omega (arith, l))
at_least h n least (b ∷ bs) zero a l = a.0.order
at_least h n least (b ∷ bs) (suc k) a l =
    let e = at_least h n (b.number + 1) bs k a.1 (omega (arith, l)) in
    let f = a.0.order in
    omega (arith, e, f)

ascending : (h : Header) (n least : ℕ) (bs : List Bucket) (k m : ℕ) → AreBuckets h least bs → k < m → m < length (placed_in n bs) → number_of (placed_in n bs) k < number_of (placed_in n bs) m
ascending h n least [] k m a t l = absurd (omega (arith, l))
ascending h n least (b ∷ bs) k zero a t l = absurd (omega (arith, t))
ascending h n least (b ∷ bs) zero (suc m) a t l = let e = at_least h n (b.number + 1) bs m a.1 (omega (arith, l)) in omega (arith, e)
ascending h n least (b ∷ bs) (suc k) (suc m) a t l = ascending h n (b.number + 1) bs k m a.1 (omega (arith, t)) (omega (arith, l))

-- ---- the buckets of parts, one part after another
front_at : (n : ℕ) (p : Part) (ps : List Part) (k : ℕ) → k < length (placed_in n p.buckets) → get_or (placed_from n (p ∷ ps)) k not_placed ≡ get_or (placed_in n p.buckets) k not_placed
front_at n p ps k l = get_or_append_left (placed_in n p.buckets) (placed_from (n + 1) ps) not_placed k l

behind_at : (n : ℕ) (p : Part) (ps : List Part) (k : ℕ) → length (placed_in n p.buckets) ≤ k → get_or (placed_from n (p ∷ ps)) k not_placed ≡ get_or (placed_from (n + 1) ps) (k - length (placed_in n p.buckets)) not_placed
behind_at n p ps k l = get_or-append_right (placed_in n p.buckets) (placed_from (n + 1) ps) (length (placed_in n p.buckets)) k not_placed refl l

length-placed_from : (n : ℕ) (p : Part) (ps : List Part) → length (placed_from n (p ∷ ps)) ≡ length (placed_in n p.buckets) + length (placed_from (n + 1) ps)
length-placed_from n p ps = length-append (placed_in n p.buckets) (placed_from (n + 1) ps)

-- each bucket of the list stands in the part that the list says
pub has_of : (n : ℕ) (ps : List Part) (k : ℕ) → k < length (placed_from n ps) → (i : ℕ) × (part_of (placed_from n ps) k ≡ n + i) × Has ps i (number_of (placed_from n ps) k)
has_of n [] k l = absurd (omega (arith, l))
has_of n (p ∷ ps) k l =
    let c = length-placed_from n p ps in
    ⊎_elim
    (λ (s : k < length (placed_in n p.buckets)).
    let e = front_at n p ps k s in
    let q : part_of (placed_from n (p ∷ ps)) k ≡ n + 0 = ap (λ (x : Placed). x.part) e ∙ part_in_is n p.buckets k s ∙ omega arith in
    let d = length-placed_in n p.buckets in
    (0, q, (k, omega (arith, s, d), sym (number_in_is n p.buckets k) ∙ ap (λ (x : Placed). x.bucket.number) (sym e))))
    (λ (s : length (placed_in n p.buckets) ≤ k).
    let e = behind_at n p ps k s in
    let r = has_of (n + 1) ps (k - length (placed_in n p.buckets)) (omega (arith, c, l, s)) in
    let q : part_of (placed_from n (p ∷ ps)) k ≡ n + suc r.0 = ap (λ (x : Placed). x.part) e ∙ r.1 ∙ omega arith in
    (suc r.0, q, subst (λ x. Has ps r.0 x) (ap (λ (x : Placed). x.bucket.number) (sym e)) r.2))
    (cases_lt k (length (placed_in n p.buckets)))

-- each bucket of a part stands in the list
pub place_of : (n : ℕ) (ps : List Part) (i x : ℕ) → Has ps i x → (k : ℕ) × (k < length (placed_from n ps)) × (part_of (placed_from n ps) k ≡ n + i) × (number_of (placed_from n ps) k ≡ x)
place_of n [] i x (k, l, e) = absurd (omega (arith, l))
place_of n (p ∷ ps) zero x (k, l, e) =
    let c = length-placed_from n p ps in
    let d = length-placed_in n p.buckets in
    let s : k < length (placed_in n p.buckets) = omega (arith, l, d) in
    let f = front_at n p ps k s in
    let q : part_of (placed_from n (p ∷ ps)) k ≡ n + 0 = ap (λ (y : Placed). y.part) f ∙ part_in_is n p.buckets k s ∙ omega arith in
    (k, omega (arith, s, c), q, ap (λ (y : Placed). y.bucket.number) f ∙ number_in_is n p.buckets k ∙ e)
place_of n (p ∷ ps) (suc i) x h =
    let r = place_of (n + 1) ps i x h in
    let m = length (placed_in n p.buckets) in
    let c = length-placed_from n p ps in
    let b = r.1 in
    let g : m + r.0 - m ≡ r.0 = omega arith in
    let f = behind_at n p ps (m + r.0) (omega arith) ∙ ap (λ j. get_or (placed_from (n + 1) ps) j not_placed) g in
    let q : part_of (placed_from n (p ∷ ps)) (m + r.0) ≡ n + suc i = ap (λ (y : Placed). y.part) f ∙ r.2 ∙ omega arith in
    (m + r.0, omega (arith, b, c), q, ap (λ (y : Placed). y.bucket.number) f ∙ r.3)

-- of two places the later has a later part, or a greater number of the same part
pub record IsBefore (all : List Placed) (k m : ℕ) : Type 0 where
  pub either : (part_of all k < part_of all m) ⊎ ((part_of all k ≡ part_of all m) × (number_of all k < number_of all m))

before_by : (all front : List Placed) (k m i j : ℕ) → get_or all k not_placed ≡ get_or front i not_placed → get_or all m not_placed ≡ get_or front j not_placed → IsBefore front i j → IsBefore all k m
before_by all front k m i j e f b = record {
  either = subst (λ (x : Placed). (x.part < part_of all m) ⊎ ((x.part ≡ part_of all m) × (x.bucket.number < number_of all m))) (sym e)
      (subst (λ (y : Placed). (part_of front i < y.part) ⊎ ((part_of front i ≡ y.part) × (number_of front i < y.bucket.number))) (sym f) b.either);
}

pub ordered_in : (h : Header) (n : ℕ) (ps : List Part) (k m : ℕ) → ((i : ℕ) → i < length ps → AreBuckets h 0 (get_or ps i no_part).buckets) → k < m → m < length (placed_from n ps) → IsBefore (placed_from n ps) k m
ordered_in h n [] k m a t l = absurd (omega (arith, l))
ordered_in h n (p ∷ ps) k m a t l =
    let z = length (placed_in n p.buckets) in
    let c = length-placed_from n p ps in
    ⊎_elim
    (λ (s : m < z).
    let u : k < z = omega (arith, s, t) in
    before_by (placed_from n (p ∷ ps)) (placed_in n p.buckets) k m k m (front_at n p ps k u) (front_at n p ps m s)
    (record { either = inr (part_in_is n p.buckets k u ∙ sym (part_in_is n p.buckets m s), ascending h n 0 p.buckets k m (a 0 (omega arith)) t s) }))
    (λ (s : z ≤ m). ⊎_elim
    (λ (u : k < z).
    let e = ap (λ (x : Placed). x.part) (front_at n p ps k u) ∙ part_in_is n p.buckets k u in
    let f = ap (λ (x : Placed). x.part) (behind_at n p ps m s) in
    let r = has_of (n + 1) ps (m - z) (omega (arith, c, l, s)) in
    let g = r.1 in
    record { either = inl (omega (arith, e, f, g)) })
    (λ (u : z ≤ k).
    before_by (placed_from n (p ∷ ps)) (placed_from (n + 1) ps) k m (k - z) (m - z) (behind_at n p ps k u) (behind_at n p ps m s)
    (ordered_in h (n + 1) ps (k - z) (m - z) (λ i q. a (suc i) (omega (arith, q))) (omega (arith, t, u, s)) (omega (arith, c, l, s))))
    (cases_lt k z))
    (cases_lt m z)

-- ---- what holds of the list holds of the parts
pub record AreInOrder (all : List Placed) : Type 0 where
  pub each : (k m : ℕ) → k < m → m < length all → IsBefore all k m

never_less : (all : List Placed) (a b : ℕ) → AreInOrder all → b < a → a < length all → part_of all b ≤ part_of all a
never_less all a b o t l = ⊎_elim (λ (s : part_of all b < part_of all a). omega (arith, s)) (λ (s : (part_of all b ≡ part_of all a) × (number_of all b < number_of all a)). let e = s.0 in omega (arith, e)) (o.each b a t l).either

earlier_before : (all : List Placed) (a b : ℕ) → AreInOrder all → a < length all → part_of all a < part_of all b → a < b
earlier_before all a b o l t = ⊎_elim
    (λ (s : a < b). s)
    (λ (s : b ≤ a). ⊎_elim
    (λ (u : a ≡ b). let e = ap (part_of all) u in absurd (omega (arith, e, t)))
    (λ (u : a ≡ b → ⊥). let v : b < a = apart a b s u in let e = never_less all a b o v l in absurd (omega (arith, e, t)))
    (cases_eq a b))
    (cases_lt a b)
  where
    apart : (a b : ℕ) → b ≤ a → (a ≡ b → ⊥) → b < a
    apart a b s u = ⊎_elim (λ (c : b < a). c) (λ (c : a ≤ b). absurd (u (omega (arith, c, s)))) (cases_lt b a)

-- a lesser number of the same part stands before
less_before : (all : List Placed) (a b : ℕ) → AreInOrder all → a < length all → part_of all a ≡ part_of all b → number_of all a < number_of all b → a < b
less_before all a b o l p t = ⊎_elim
    (λ (s : a < b). s)
    (λ (s : b ≤ a). ⊎_elim
    (λ (u : a ≡ b). let e = ap (number_of all) u in absurd (omega (arith, e, t)))
    (λ (u : a ≡ b → ⊥).
    let v : b < a = apart a b s u in
    ⊎_elim (λ (w : part_of all b < part_of all a). absurd (omega (arith, w, p))) (λ (w : (part_of all b ≡ part_of all a) × (number_of all b < number_of all a)). let e = w.1 in absurd (omega (arith, e, t))) (o.each b a v l).either)
    (cases_eq a b))
    (cases_lt a b)
  where
    apart : (a b : ℕ) → b ≤ a → (a ≡ b → ⊥) → b < a
    apart a b s u = ⊎_elim (λ (c : b < a). c) (λ (c : a ≤ b). absurd (u (omega (arith, c, s)))) (cases_lt b a)

-- two places of one number are of two parts
pub same_earlier : (all : List Placed) (k m : ℕ) → AreInOrder all → k < m → m < length all → number_of all k ≡ number_of all m → part_of all k < part_of all m
same_earlier all k m o t l e = ⊎_elim (λ (s : part_of all k < part_of all m). s) (λ (s : (part_of all k ≡ part_of all m) × (number_of all k < number_of all m)). let f = s.1 in absurd (omega (arith, e, f))) (o.each k m t l).either

-- a bucket before place m, of a part that has it again, has its first place before that
never_twice : (ps : List Part) (m i n a : ℕ) → AreInOrder (placed_from 0 ps) → AreDistinct (placed_from 0 ps) m → a < length (placed_from 0 ps) → a < m → part_of (placed_from 0 ps) a ≡ i → number_of (placed_from 0 ps) a ≡ n → EarlierHas ps i n → ⊥
never_twice ps m i n a o d l t p e h =
    let b = place_of 0 ps h.0 n h.2 in
    let q = b.2 in
    let r = h.1 in
    d b.0 a (earlier_before (placed_from 0 ps) b.0 a o b.1 (omega (arith, p, q, r))) t (b.3 ∙ sym e)

pub doubled_is : (ps : List Part) (m : ℕ) → AreInOrder (placed_from 0 ps) → IsAgain (placed_from 0 ps) m → IsDoubled ps (part_of (placed_from 0 ps) m) (number_of (placed_from 0 ps) m)
doubled_is ps m o g =
    let all = placed_from 0 ps in
    let x = has_of 0 ps m g.there in
    let w = g.again in
    let y = has_of 0 ps w.0 (let u = g.there in let v = w.1 in omega (arith, u, v)) in
    let f = same_earlier all w.0 m o w.1 g.there w.2 in
    record {
      has = subst (λ i. Has ps i (number_of all m)) (let e = x.1 in omega (arith, e)) x.2;
      earlier = (part_of all w.0, f, subst (λ n. Has ps (part_of all w.0) n) w.2 (subst (λ i. Has ps i (number_of all w.0)) (let e = y.1 in omega (arith, e)) y.2));
      first = λ i n t h z.
          let a = place_of 0 ps i n h in
          let p : part_of all a.0 ≡ i = (let e = a.2 in omega (arith, e)) in
          never_twice ps m i n a.0 o g.before a.1 (earlier_before all a.0 m o a.1 (omega (arith, p, t))) p a.3 z;
      least = λ n t h z.
          let a = place_of 0 ps (part_of all m) n h in
          let p : part_of all a.0 ≡ part_of all m = (let e = a.2 in omega (arith, e)) in
          let q = a.3 in
          never_twice ps m (part_of all m) n a.0 o g.before a.1 (less_before all a.0 m o a.1 p (omega (arith, q, t))) p a.3 z;
    }

pub disjoint_is : (ps : List Part) → AreInOrder (placed_from 0 ps) → AreDistinct (placed_from 0 ps) (length (placed_from 0 ps)) → AreDisjoint ps
disjoint_is ps o d i n h z =
    let a = place_of 0 ps i n h in
    never_twice ps (length (placed_from 0 ps)) i n a.0 o d a.1 a.1 (let e = a.2 in omega (arith, e)) a.3 z

pub some_has : (ps : List Part) (n : ℕ) → IsThere (placed_from 0 ps) n → SomeHas ps n
some_has ps n t = let x = has_of 0 ps t.0 t.1 in (x.0, subst (λ m. Has ps x.0 m) t.2 x.2)

pub is_there : (ps : List Part) (n : ℕ) → SomeHas ps n → IsThere (placed_from 0 ps) n
is_there ps n h = let a = place_of 0 ps h.0 n h.1 in (a.0, a.1, a.3)

pub missing_is : (ps : List Part) (total n : ℕ) → IsWanting (placed_from 0 ps) total n → IsMissing ps total n
missing_is ps total n w = record {
  there = w.there;
  missing = λ h. w.missing (is_there ps n h);
  before = λ i l. some_has ps i (w.before i l);
}

-- ---- the list without the parts' numbers
abbrev pub bare : List Placed → List Bucket
bare all = map (λ (p : Placed). p.bucket) all

bare_in : (n : ℕ) (bs : List Bucket) → bare (placed_in n bs) ≡ bs
bare_in n [] = refl
bare_in n (b ∷ bs) = ap (λ (xs : List Bucket). b ∷ xs) (bare_in n bs)

pub bare_is : (n : ℕ) (ps : List Part) → bare (placed_from n ps) ≡ buckets_of ps
bare_is n [] = refl
bare_is n (p ∷ ps) =
    map-append (λ (x : Placed). x.bucket) (placed_in n p.buckets) (placed_from (n + 1) ps)
    ∙ ap (λ (xs : List Bucket). xs ++ bare (placed_from (n + 1) ps)) (bare_in n p.buckets)
    ∙ ap (λ (xs : List Bucket). p.buckets ++ xs) (bare_is (n + 1) ps)
