-- From the parts in texts to the buckets of their picture.
use Rattle.std.proofs.Common.{◌≡◌, ◌∙◌, ap, sym, refl, subst, ℕ, zero, suc, ◌+◌, ◌-◌, ◌*◌, ◌/◌, ◌%◌, ◌<◌, ◌≤◌, arith, List, [], ◌∷◌, ◌++◌, length, get_or, length-append, true, false, eq-eqb, ⊎_elim}
use Rattle.std.specs.Prelude.{◌==◌, if◌then◌else◌, Option, Result, Err, MatchResult}
use Rattle.std.proofs.Math.Nat.{mul-div-le}
use Rattle.std.proofs.lemmas.Bool.{cases_lt, cases_Bool, eqb-true}
use Rattle.std.proofs.lemmas.List.{get_or_append_left, get_or-append_right, get_or_read}
use Rattle.std.proofs.lemmas.Nat.{div_below, mod_below}
use Rattle.parts.specs.declared.header.Header.{Header}
use Rattle.parts.specs.declared.fault.JoinFault.{JoinFault}
use Rattle.parts.specs.declared.fault.JoinFault.TheVariants.{J1, J2, J3, J4, NoMemory}
use Rattle.parts.specs.Formats.{Bucket, Part, no_part, bucket_numbers, IsHeader, IsBucket, AreBuckets, channel_bytes, area, bucket_total}
use Rattle.parts.specs.Pictures.{pixels_of, pixel_in, number_at, ppm_header, picture, joined}
use Rattle.parts.specs.Placing.{Placed, placed_in, placed_from, not_placed, number_of, part_of, pixel_of, AreWhole, AreDistinct, ArePlaced, AreOrdered, IsAgain, IsWanting, IsAgainFault, IsWantingFault}
use Rattle.parts.specs.Joining.{header_at, AreParsed, AreAlike, AreOfOne, IsDoubledIn, IsMissingIn, IsJoined, IsFault}
use Rattle.parts.proofs.Runs.{run_same}
use Rattle.parts.proofs.Squares.{bucket_there}
use Rattle.parts.proofs.Standing.{has_of, ordered_in, AreInOrder, doubled_is, disjoint_is, some_has, missing_is, bare, bare_is}

-- ---- what holds of each placed bucket
pub part_below : (ps : List Part) (k : ℕ) → k < length (placed_from 0 ps) → part_of (placed_from 0 ps) k < length ps
part_below ps k l =
    let x = has_of 0 ps k l in
    let e = x.1 in
    let t = x.2.1 in
    ⊎_elim (λ (s : x.0 < length ps). omega (arith, e, s)) (λ (s : length ps ≤ x.0). absurd (none_past ps x.0 x.2.0 s t)) (cases_lt x.0 (length ps))
  where
    none_past : (ps : List Part) (i k : ℕ) → length ps ≤ i → k < length (bucket_numbers (get_or ps i no_part).buckets) → ⊥
    none_past [] i k s t = omega (arith, t)
    none_past (p ∷ ps) zero k s t = omega (arith, s)
    none_past (p ∷ ps) (suc i) k s t = none_past ps i k (omega (arith, s)) t

bucket_in_is : (h : Header) (n least : ℕ) (bs : List Bucket) (k : ℕ) → AreBuckets h least bs → k < length (placed_in n bs) → IsBucket h 0 (get_or (placed_in n bs) k not_placed).bucket
bucket_in_is h n least [] k a l = absurd (omega (arith, l))
bucket_in_is h n least (b ∷ bs) zero a l = record { order = omega arith; there = a.0.there; long = a.0.long; levels = a.0.levels }
bucket_in_is h n least (b ∷ bs) (suc k) a l = bucket_in_is h n (b.number + 1) bs k a.1 (omega (arith, l))

pub bucket_is : (h : Header) (n : ℕ) (ps : List Part) (k : ℕ) → ((i : ℕ) → i < length ps → AreBuckets h 0 (get_or ps i no_part).buckets) → k < length (placed_from n ps) → IsBucket h 0 (get_or (placed_from n ps) k not_placed).bucket
bucket_is h n [] k f l = absurd (omega (arith, l))
bucket_is h n (p ∷ ps) k f l =
    let m = length (placed_in n p.buckets) in
    let e = length-append (placed_in n p.buckets) (placed_from (n + 1) ps) in
    ⊎_elim
    (λ (s : k < m).
    subst (λ x. IsBucket h 0 x.bucket) (sym (get_or_append_left (placed_in n p.buckets) (placed_from (n + 1) ps) not_placed k s)) (bucket_in_is h n 0 p.buckets k (f 0 (omega arith)) s))
    (λ (s : m ≤ k).
    subst (λ x. IsBucket h 0 x.bucket) (sym (get_or-append_right (placed_in n p.buckets) (placed_from (n + 1) ps) m k not_placed refl s))
    (bucket_is h (n + 1) ps (k - m) (λ i t. f (suc i) (omega (arith, t))) (omega (arith, e, l, s))))
    (cases_lt k m)

-- of parts with one header
pub buckets_are : (texts : List (List ℕ)) (ps : List Part) → AreParsed texts ps → AreAlike ps (length ps) → (i : ℕ) → i < length ps → AreBuckets (header_at ps 0) 0 (get_or ps i no_part).buckets
buckets_are texts ps p a i l = subst (λ h. AreBuckets h 0 (get_or ps i no_part).buckets) (a i l) (p.each i (let c = p.count in omega (arith, c, l))).buckets

pub header_is : (texts : List (List ℕ)) (ps : List Part) → AreParsed texts ps → 1 ≤ length texts → IsHeader (header_at ps 0)
header_is texts ps p l = (p.each 0 (omega (arith, l))).header

-- ---- the buckets by their numbers
pub is_it : (m n : ℕ) (xs ys : List ℕ) → m ≡ n → (if m == n then xs else ys) ≡ xs
is_it m n xs ys e = rw (eq-eqb m n e) refl

pub is_other : (m n : ℕ) (xs ys : List ℕ) → (m ≡ n → ⊥) → (if m == n then xs else ys) ≡ ys
is_other m n xs ys e = ⊎_elim (λ (t : (m == n) ≡ true). absurd (e (eqb-true m n t))) (λ (t : (m == n) ≡ false). rw t refl) (cases_Bool (m == n))

pub pixels_found : (n : ℕ) (all : List Placed) (k : ℕ) → k < length all → AreDistinct all (length all) → number_of all k ≡ n → pixels_of n (bare all) ≡ (get_or all k not_placed).bucket.pixels
pixels_found n [] k l d e = absurd (omega (arith, l))
pixels_found n (p ∷ ps) zero l d e = is_it p.bucket.number n p.bucket.pixels (pixels_of n (bare ps)) e
pixels_found n (p ∷ ps) (suc k) l d e =
    is_other p.bucket.number n p.bucket.pixels (pixels_of n (bare ps)) (λ q. d 0 (suc k) (omega arith) l (q ∙ sym e))
    ∙ pixels_found n ps k (omega (arith, l)) (λ i j h t q. d (suc i) (suc j) (omega (arith, h)) (omega (arith, t)) q) e

ordered_pixels : (all : List Placed) (total : ℕ) (ordered : List Placed) (n : ℕ) → AreOrdered all total ordered → AreDistinct all (length all) → n < total → (get_or ordered n not_placed).bucket.pixels ≡ pixels_of n (bare all)
ordered_pixels all total ordered n o d l = let e = o.each n l in ap (λ (x : Placed). x.bucket.pixels) e.3 ∙ sym (pixels_found n all e.0 e.1 d e.2)

pub whole_is : (h : Header) (all ordered : List Placed) → ((k : ℕ) → k < length all → IsBucket h 0 (get_or all k not_placed).bucket) → AreOrdered all (bucket_total h) ordered → AreWhole h ordered
whole_is h all ordered f o = record {
  count = o.count;
  each = λ n l. let e = o.each n l in ap (λ x. length x.bucket.pixels) e.3 ∙ (f e.0 e.1).long ∙ ap (λ m. channel_bytes h.one * (3 * area h m)) e.2;
}

same_pixel : (h : Header) (f g : ℕ → List ℕ) (x y : ℕ) → f (number_at h x y) ≡ g (number_at h x y) → pixel_in h f x y ≡ pixel_in h g x y
unfolding pixel_in
same_pixel h f g x y e = rw e refl

number_below : (h : Header) (x y : ℕ) → IsHeader h → x < h.width → y < h.height → number_at h x y < bucket_total h
unfolding number_at
number_below h x y k l m = bucket_there h y (x / h.side) k m (let e = mul-div-le x h.side in omega (arith, e, l))

pub picture_same : (h : Header) (f g : ℕ → List ℕ) → IsHeader h → ((n : ℕ) → n < bucket_total h → f n ≡ g n) → picture h (pixel_in h f) ≡ picture h (pixel_in h g)
picture_same h f g k e =
    ap (λ l. ppm_header h ++ l)
    (run_same (h.width * h.height) (λ p. pixel_in h f (p % h.width) (p / h.width)) (λ p. pixel_in h g (p % h.width) (p / h.width))
    (λ p l. same_pixel h f g (p % h.width) (p / h.width)
    (e (number_at h (p % h.width) (p / h.width)) (number_below h (p % h.width) (p / h.width) k (mod_below p h.width (let w = k.some_wide in omega arith)) (div_below p h.width h.height (let w = k.some_wide in omega arith) (omega (arith, l)))))))

-- ---- what joining answers
pub one_is : (texts : List (List ℕ)) (ps : List Part) → AreParsed texts ps → AreAlike ps (length ps) → AreOfOne texts ps
one_is texts ps p a = record { parsed = p; alike = a }

pub in_order_is : (texts : List (List ℕ)) (ps : List Part) → AreOfOne texts ps → AreInOrder (placed_from 0 ps)
in_order_is texts ps o = record { each = λ k m t l. ordered_in (header_at ps 0) 0 ps k m (buckets_are texts ps o.parsed o.alike) t l }

pub number_below_total : (texts : List (List ℕ)) (ps : List Part) (k : ℕ) → AreOfOne texts ps → k < length (placed_from 0 ps) → number_of (placed_from 0 ps) k < bucket_total (header_at ps 0)
number_below_total texts ps k o l = (bucket_is (header_at ps 0) 0 ps k (buckets_are texts ps o.parsed o.alike) l).there

pub part_few : (texts : List (List ℕ)) (ps : List Part) (k : ℕ) → AreOfOne texts ps → length texts ≤ 256 → k < length (placed_from 0 ps) → part_of (placed_from 0 ps) k < 256
part_few texts ps k o m l = let e = part_below ps k l in let c = o.parsed.count in omega (arith, e, c, m)

pub whole_of : (texts : List (List ℕ)) (ps : List Part) (ordered : List Placed) → AreOfOne texts ps → AreOrdered (placed_from 0 ps) (bucket_total (header_at ps 0)) ordered → AreWhole (header_at ps 0) ordered
whole_of texts ps ordered o r = whole_is (header_at ps 0) (placed_from 0 ps) ordered (λ k l. bucket_is (header_at ps 0) 0 ps k (buckets_are texts ps o.parsed o.alike) l) r

pub doubled_in : (texts : List (List ℕ)) (ps : List Part) (m part bucket : ℕ) → AreOfOne texts ps → IsAgain (placed_from 0 ps) m → part_of (placed_from 0 ps) m ≡ part → number_of (placed_from 0 ps) m ≡ bucket → IsDoubledIn texts ps part bucket
doubled_in texts ps m part bucket o g e f =
    subst (λ i. IsDoubledIn texts ps i bucket) e (subst (λ n. IsDoubledIn texts ps (part_of (placed_from 0 ps) m) n) f (record { of_one = o; doubled = doubled_is ps m (in_order_is texts ps o) g }))

pub missing_in : (texts : List (List ℕ)) (ps : List Part) (bucket : ℕ) → AreOfOne texts ps → AreDistinct (placed_from 0 ps) (length (placed_from 0 ps)) → IsWanting (placed_from 0 ps) (bucket_total (header_at ps 0)) bucket → IsMissingIn texts ps bucket
missing_in texts ps bucket o d w = record { of_one = o; disjoint = disjoint_is ps (in_order_is texts ps o) d; missing = missing_is ps (bucket_total (header_at ps 0)) bucket w }

pub joined_of : (texts : List (List ℕ)) (ps : List Part) (ordered : List Placed) (bytes : List ℕ) → 1 ≤ length texts → AreOfOne texts ps → AreDistinct (placed_from 0 ps) (length (placed_from 0 ps)) → AreOrdered (placed_from 0 ps) (bucket_total (header_at ps 0)) ordered →
    bytes ≡ picture (header_at ps 0) (pixel_of (header_at ps 0) ordered) → IsJoined texts ps bytes
joined_of texts ps ordered bytes l o d r e =
    let h = header_at ps 0 in
    let all = placed_from 0 ps in
    record {
      of_one = o;
      disjoint = disjoint_is ps (in_order_is texts ps o) d;
      whole = λ n m. (let f = r.each n m in some_has ps n (f.0, f.1, f.2));
      picture = sym (e
          ∙ picture_same h (λ n. (get_or ordered n not_placed).bucket.pixels) (λ n. pixels_of n (bare all)) (header_is texts ps o.parsed l) (λ n m. ordered_pixels all (bucket_total h) ordered n r d m)
          ∙ ap (λ bs. joined h bs) (bare_is 0 ps));
    }

-- ---- the parts of texts, read, with the header of the first, and all their buckets
pub record AreRead (texts : List (List ℕ)) (ps : List Part) (h : Header) (all : List Placed) : Type 0 where
  pub some : 1 ≤ length texts
  pub of_one : AreOfOne texts ps
  pub header : h ≡ header_at ps 0
  pub placed : all ≡ placed_from 0 ps

pub read_is : (texts : List (List ℕ)) (ps s t : List Part) (all placed : List Placed) (h : Header) (first item : Part) → 1 ≤ length texts → AreParsed texts ps → s ≡ ps → AreAlike s (length s) →
    first ≡ item → item ≡ get_or ps 0 item → first.header ≡ h → t ≡ ps → all ≡ placed_from 0 t → placed ≡ all → AreRead texts ps h placed
read_is texts ps s t all placed h first item l p e a f g k m n o = record {
  some = l;
  of_one = one_is texts ps p (subst (λ (q : List Part). AreAlike q (length q)) e a);
  header = sym k ∙ ap (λ (q : Part). q.header) (f ∙ get_or_read ps 0 item (let c = p.count in omega (arith, c, l)) g no_part);
  placed = o ∙ n ∙ ap (λ (q : List Part). placed_from 0 q) m;
}

pub read_numbers : (texts : List (List ℕ)) (ps : List Part) (h : Header) (all : List Placed) (total : ℕ) → AreRead texts ps h all → total ≡ bucket_total h → (k : ℕ) → k < length all → number_of all k < total
read_numbers texts ps h all total r e =
    subst (λ t. (k : ℕ) → k < length all → number_of all k < t) (sym (e ∙ ap bucket_total r.header))
    (subst (λ (a : List Placed). (k : ℕ) → k < length a → number_of a k < bucket_total (header_at ps 0)) (sym r.placed) (λ k l. number_below_total texts ps k r.of_one l))

pub read_parts : (texts : List (List ℕ)) (ps : List Part) (h : Header) (all : List Placed) → AreRead texts ps h all → length texts ≤ 256 → (k : ℕ) → k < length all → part_of all k < 256
read_parts texts ps h all r m = subst (λ (a : List Placed). (k : ℕ) → k < length a → part_of a k < 256) (sym r.placed) (λ k l. part_few texts ps k r.of_one m l)

again_fault : (texts : List (List ℕ)) (ps : List Part) (fault : JoinFault) → AreOfOne texts ps → IsAgainFault (placed_from 0 ps) fault → IsFault texts fault
again_fault texts ps (J1 part) o f = absurd f
again_fault texts ps (J2 part) o f = absurd f
again_fault texts ps (J3 part bucket) o f = (ps, doubled_in texts ps f.0 part bucket o f.1 f.2 f.3)
again_fault texts ps (J4 bucket) o f = absurd f
again_fault texts ps NoMemory o f = tt

pub read_again : (texts : List (List ℕ)) (ps : List Part) (h : Header) (all : List Placed) (fault : JoinFault) → AreRead texts ps h all → IsAgainFault all fault → IsFault texts fault
read_again texts ps h all fault r f = again_fault texts ps fault r.of_one (subst (λ (a : List Placed). IsAgainFault a fault) r.placed f)

wanting_fault : (texts : List (List ℕ)) (ps : List Part) (fault : JoinFault) → AreOfOne texts ps → AreDistinct (placed_from 0 ps) (length (placed_from 0 ps)) → IsWantingFault (placed_from 0 ps) (bucket_total (header_at ps 0)) fault → IsFault texts fault
wanting_fault texts ps (J1 part) o d f = absurd f
wanting_fault texts ps (J2 part) o d f = absurd f
wanting_fault texts ps (J3 part bucket) o d f = absurd f
wanting_fault texts ps (J4 bucket) o d f = (ps, missing_in texts ps bucket o d f)
wanting_fault texts ps NoMemory o d f = tt

-- the buckets as they were passed on, and where their numbers stand
pub record AreFound (all placed : List Placed) (total : ℕ) (places given : List (Option ℕ)) : Type 0 where
  pub found : ArePlaced all total places
  pub passed : placed ≡ all
  pub told : given ≡ places

found_total : (all placed : List Placed) (total : ℕ) (places given : List (Option ℕ)) → AreFound all placed total places given → length given ≡ total
found_total all placed total places given f = ap length f.told ∙ f.found.count

pub read_wanting : (texts : List (List ℕ)) (ps : List Part) (h : Header) (all placed : List Placed) (total : ℕ) (places given : List (Option ℕ)) (fault : JoinFault) → AreRead texts ps h all → total ≡ bucket_total h → AreFound all placed total places given →
    IsWantingFault placed (length given) fault → IsFault texts fault
read_wanting texts ps h all placed total places given fault r e g f =
    let t : length given ≡ bucket_total (header_at ps 0) = found_total all placed total places given g ∙ e ∙ ap bucket_total r.header in
    wanting_fault texts ps fault r.of_one (subst (λ (a : List Placed). AreDistinct a (length a)) r.placed g.found.distinct)
    (subst (λ n. IsWantingFault (placed_from 0 ps) n fault) t (subst (λ (a : List Placed). IsWantingFault a (length given) fault) (g.passed ∙ r.placed) f))

read_ordered : (texts : List (List ℕ)) (ps : List Part) (h : Header) (all placed : List Placed) (total : ℕ) (places given : List (Option ℕ)) (ordered : List Placed) → AreRead texts ps h all → total ≡ bucket_total h → AreFound all placed total places given →
    AreOrdered placed (length given) ordered → AreOrdered (placed_from 0 ps) (bucket_total (header_at ps 0)) ordered
read_ordered texts ps h all placed total places given ordered r e g o =
    let t : length given ≡ bucket_total (header_at ps 0) = found_total all placed total places given g ∙ e ∙ ap bucket_total r.header in
    subst (λ n. AreOrdered (placed_from 0 ps) n ordered) t (subst (λ (a : List Placed). AreOrdered a (length given) ordered) (g.passed ∙ r.placed) o)

pub read_whole : (texts : List (List ℕ)) (ps : List Part) (h : Header) (all placed : List Placed) (total : ℕ) (places given : List (Option ℕ)) (ordered last : List Placed) → AreRead texts ps h all → total ≡ bucket_total h → AreFound all placed total places given →
    AreOrdered placed (length given) ordered → last ≡ ordered → AreWhole h last
read_whole texts ps h all placed total places given ordered last r e g o l =
    subst (λ (x : Header). AreWhole x last) (sym r.header) (subst (λ (xs : List Placed). AreWhole (header_at ps 0) xs) (sym l) (whole_of texts ps ordered r.of_one (read_ordered texts ps h all placed total places given ordered r e g o)))

pub read_header : (texts : List (List ℕ)) (ps : List Part) (h : Header) (all : List Placed) → AreRead texts ps h all → IsHeader h
read_header texts ps h all r = subst IsHeader (sym r.header) (header_is texts ps r.of_one.parsed r.some)

pub read_joined : (texts : List (List ℕ)) (ps : List Part) (h : Header) (all placed : List Placed) (total : ℕ) (places given : List (Option ℕ)) (ordered last : List Placed) (bytes : List ℕ) → AreRead texts ps h all → total ≡ bucket_total h →
    AreFound all placed total places given → AreOrdered placed (length given) ordered → last ≡ ordered → bytes ≡ picture h (pixel_of h last) → IsJoined texts ps bytes
read_joined texts ps h all placed total places given ordered last bytes r e g o l b =
    joined_of texts ps ordered bytes r.some r.of_one (subst (λ (a : List Placed). AreDistinct a (length a)) r.placed g.found.distinct) (read_ordered texts ps h all placed total places given ordered r e g o)
    (b ∙ ap (λ (xs : List Placed). picture h (pixel_of h xs)) l ∙ ap (λ (x : Header). picture x (pixel_of x ordered)) r.header)

pub fault_is : {V : Type 0} (P : V → Type 0) (texts : List (List ℕ)) (r : Result V JoinFault) (e : JoinFault) → r ≡ Err e → IsFault texts e → MatchResult r P (λ fault. IsFault texts fault)
fault_is P texts r e q f = subst (λ x. MatchResult x P (λ fault. IsFault texts fault)) (sym q) f
