-- The parts of a table join to its picture.
use Rattle.std.proofs.Common.{◌≡◌, ◌∙◌, ap, sym, refl, subst, ℕ, zero, suc, ◌+◌, ◌-◌, ◌*◌, ◌/◌, ◌%◌, ◌<◌, ◌≤◌, arith, List, [], ◌∷◌, ◌++◌, length, get_or, take, drop, map, length-append, ⊎_elim}
use Rattle.std.specs.Prelude.{Result, Ok, Err, MatchResult}
use Rattle.std.specs.List.{concat}
use Rattle.std.proofs.lemmas.Bool.{cases_eq}
use Rattle.std.proofs.lemmas.List.{get_or_append_left, get_or-append_right, length-map, map-append}
use Rattle.std.proofs.lemmas.Nat.{mod_below, div_below}
use Rattle.fixed_math.specs.Spots.{pixel_x, pixel_y}
use Rattle.fixed_math.specs.Buckets.{bucket}
use Rattle.parts.specs.declared.fault.JoinFault.{JoinFault}
use Rattle.parts.specs.declared.fault.JoinFault.TheVariants.{J1, J2, J3, J4, NoMemory}
use Rattle.parts.specs.Formats.{Bucket, Part, no_part, IsIn, bucket_numbers, IsParsed, channel_bytes, area, bucket_total, frame, part_text}
use Rattle.parts.specs.Pictures.{buckets_of, pixels_of, pixel_in, place_in, ppm_header, picture, joined}
use Rattle.parts.specs.Placing.{width_at}
use Rattle.parts.specs.Joining.{header_at, Has, AreParsed, IsNotAPart, IsForeign, IsDoubledIn, IsMissingIn, IsJoined, IsFault}
use Rattle.parts.specs.Division.{Table, IsTable, IsDivision, table_pixel, bucket_pixels, bucket_of, part_of, texts_of, table_picture}
use Rattle.parts.proofs.Bucketry.{parsed_same}
use Rattle.parts.proofs.Divided.{part_of_is, long_pixel}
use Rattle.parts.proofs.Joins.{is_it, is_other}
use Rattle.parts.proofs.Runs.{run_piece, run_same}
use Rattle.parts.proofs.Squares.{number_of_pixel, place_of_pixel, place_within, x_of_pixel, y_of_pixel, column_start, bucket_there, columns_of}

map_at : {A B : Type 0} (f : A → B) (xs : List A) (i : ℕ) (d : B) (e : A) → i < length xs → get_or (map f xs) i d ≡ f (get_or xs i e)
map_at f [] i d e l = absurd (omega (arith, l))
map_at f (x ∷ xs) zero d e l = refl
map_at f (x ∷ xs) (suc i) d e l = map_at f xs i d e (omega (arith, l))

pub text_is : (t : Table) (numbers : List (List ℕ)) (i : ℕ) → IsTable t → IsDivision t numbers → i < length numbers → IsParsed (get_or (texts_of t numbers) i []) (part_of t (get_or numbers i []))
text_is t numbers i k d l =
    subst (λ b. IsParsed b (part_of t (get_or numbers i []))) (sym (map_at (λ ns. part_text (part_of t ns)) numbers i [] [] l)) (part_of_is t (get_or numbers i []) k (d.ascending i l))

pub texts_count : (t : Table) (numbers : List (List ℕ)) → length (texts_of t numbers) ≡ length numbers
texts_count t numbers = length-map numbers (λ ns. part_text (part_of t ns))

parts_same : (t : Table) (ps : List Part) (numbers : List (List ℕ)) → length ps ≡ length numbers → ((i : ℕ) → i < length numbers → get_or ps i no_part ≡ part_of t (get_or numbers i [])) → ps ≡ map (part_of t) numbers
parts_same t [] [] l f = refl
parts_same t [] (n ∷ ns) l f = absurd (omega (arith, l))
parts_same t (p ∷ ps) [] l f = absurd (omega (arith, l))
parts_same t (p ∷ ps) (n ∷ ns) l f =
    let r = parts_same t ps ns (omega (arith, l)) (λ i m. f (suc i) (omega (arith, m))) in
    ap (λ (x : Part). x ∷ ps) (f 0 (omega arith)) ∙ ap (λ (xs : List Part). part_of t n ∷ xs) r

-- the parts in these texts are the table's
pub parts_are : (t : Table) (numbers : List (List ℕ)) (ps : List Part) → IsTable t → IsDivision t numbers → AreParsed (texts_of t numbers) ps → ps ≡ map (part_of t) numbers
parts_are t numbers ps k d p =
    let c = texts_count t numbers in
    parts_same t ps numbers (p.count ∙ c)
    (λ i l. parsed_same (get_or (texts_of t numbers) i []) (get_or ps i no_part) (part_of t (get_or numbers i [])) (p.each i (omega (arith, l, c))) (text_is t numbers i k d l))

pub header_of : (t : Table) (numbers : List (List ℕ)) (i : ℕ) → i < length numbers → header_at (map (part_of t) numbers) i ≡ t.header
header_of t numbers i l = ap (λ p. p.header) (map_at (part_of t) numbers i no_part [] l)

-- ---- the numbers of their buckets
numbers_in : (t : Table) (ns : List ℕ) → bucket_numbers (map (bucket_of t) ns) ≡ ns
numbers_in t [] = refl
numbers_in t (m ∷ ns) = ap (λ (xs : List ℕ). m ∷ xs) (numbers_in t ns)

numbers_at : (t : Table) (numbers : List (List ℕ)) (i : ℕ) → bucket_numbers (get_or (map (part_of t) numbers) i no_part).buckets ≡ get_or numbers i []
numbers_at t [] i = refl
numbers_at t (ns ∷ rest) zero = numbers_in t ns
numbers_at t (ns ∷ rest) (suc i) = numbers_at t rest i

in_of_has : (t : Table) (numbers : List (List ℕ)) (i n : ℕ) → Has (map (part_of t) numbers) i n → IsIn n (get_or numbers i [])
in_of_has t numbers i n h = subst (IsIn n) (numbers_at t numbers i) h

has_of_in : (t : Table) (numbers : List (List ℕ)) (i n : ℕ) → IsIn n (get_or numbers i []) → Has (map (part_of t) numbers) i n
has_of_in t numbers i n h = subst (IsIn n) (sym (numbers_at t numbers i)) h

-- ---- their pixels
in_front : (n : ℕ) (xs ys : List ℕ) → IsIn n xs → IsIn n (xs ++ ys)
in_front n xs ys (k, l, e) = (k, (let c = length-append xs ys in omega (arith, c, l)), get_or_append_left xs ys 0 k l ∙ e)

in_back : (n : ℕ) (xs ys : List ℕ) → IsIn n ys → IsIn n (xs ++ ys)
in_back n xs ys (k, l, e) =
    let c = length-append xs ys in
    let f : length xs + k - length xs ≡ k = omega arith in
    (length xs + k, omega (arith, c, l), get_or-append_right xs ys (length xs) (length xs + k) 0 refl (omega arith) ∙ ap (λ j. get_or ys j 0) f ∙ e)

in_all : (n : ℕ) (numbers : List (List ℕ)) (i : ℕ) → IsIn n (get_or numbers i []) → IsIn n (concat numbers)
in_all n [] i (k, l, e) = absurd (omega (arith, l))
in_all n (ns ∷ rest) zero h = in_front n ns (concat rest) h
in_all n (ns ∷ rest) (suc i) h = in_back n ns (concat rest) (in_all n rest i h)

all_buckets : (t : Table) (numbers : List (List ℕ)) → buckets_of (map (part_of t) numbers) ≡ map (bucket_of t) (concat numbers)
all_buckets t [] = refl
all_buckets t (ns ∷ rest) = ap (λ (bs : List Bucket). map (bucket_of t) ns ++ bs) (all_buckets t rest) ∙ sym (map-append (bucket_of t) ns (concat rest))

in_rest : (m n : ℕ) (ns : List ℕ) (k : ℕ) → k < length (m ∷ ns) → get_or (m ∷ ns) k 0 ≡ n → (m ≡ n → ⊥) → IsIn n ns
in_rest m n ns zero l e f = absurd (f e)
in_rest m n ns (suc k) l e f = (k, omega (arith, l), e)

pixels_by : (t : Table) (n : ℕ) (ns : List ℕ) → IsIn n ns → pixels_of n (map (bucket_of t) ns) ≡ bucket_pixels t n
pixels_by t n [] (k, l, e) = absurd (omega (arith, l))
pixels_by t n (m ∷ ns) (k, l, e) = ⊎_elim
    (λ (s : m ≡ n). is_it m n (bucket_pixels t m) (pixels_of n (map (bucket_of t) ns)) s ∙ ap (bucket_pixels t) s)
    (λ (s : m ≡ n → ⊥). is_other m n (bucket_pixels t m) (pixels_of n (map (bucket_of t) ns)) s ∙ pixels_by t n ns (in_rest m n ns k l e s))
    (cases_eq m n)

pub pixels_are : (t : Table) (numbers : List (List ℕ)) (n : ℕ) → IsDivision t numbers → n < bucket_total t.header → pixels_of n (buckets_of (map (part_of t) numbers)) ≡ bucket_pixels t n
pixels_are t numbers n d l =
    let w = d.whole n l in
    ap (λ bs. pixels_of n bs) (all_buckets t numbers) ∙ pixels_by t n (concat numbers) (in_all n numbers w.0 w.1)

-- ---- the picture
pixel_is : (t : Table) (pixels : ℕ → List ℕ) (x y : ℕ) → IsTable t → x < t.header.width → y < t.header.height → ((n : ℕ) → n < bucket_total t.header → pixels n ≡ bucket_pixels t n) → pixel_in t.header pixels x y ≡ table_pixel t x y
unfolding pixel_in
pixel_is t pixels x y k l m f =
    let h = t.header in
    let n = y / h.side * columns_of h + x / h.side in
    let r = bucket h.side (frame h) n in
    let p = place_of_pixel h x y k.header l in
    let q = place_within h x y k.header l m in
    let s = 3 * channel_bytes h.one in
    let at = place_in r x y in
    ap (λ j. take s (drop (s * place_in (bucket h.side (frame h) j) x y) (pixels j))) (number_of_pixel h x y)
    ∙ ap (λ bytes. take s (drop (s * at) bytes)) (f n (bucket_there h y (x / h.side) k.header m (column_start h.side x h.width l)))
    ∙ run_piece (area h n) at s (λ j. table_pixel t (pixel_x r j) (pixel_y r j)) (λ j _. long_pixel h.one (t.level (pixel_x r j) (pixel_y r j))) (subst (λ j. j < area h n) (sym p) q)
    ∙ ap (λ j. table_pixel t (pixel_x r j) (pixel_y r j)) p
    ∙ ap (λ i. table_pixel t i (pixel_y r (y % h.side * width_at h (x / h.side) + x % h.side))) (x_of_pixel h x y k.header l)
    ∙ ap (λ i. table_pixel t x i) (y_of_pixel h x y k.header l)

pub picture_is : (t : Table) (pixels : ℕ → List ℕ) → IsTable t → ((n : ℕ) → n < bucket_total t.header → pixels n ≡ bucket_pixels t n) → picture t.header (pixel_in t.header pixels) ≡ table_picture t
picture_is t pixels k f =
    let h = t.header in
    let some = k.header.some_wide in
    ap (λ (l : List ℕ). ppm_header h ++ l)
    (run_same (h.width * h.height) (λ p. pixel_in h pixels (p % h.width) (p / h.width)) (λ p. table_pixel t (p % h.width) (p / h.width))
    (λ p l. pixel_is t pixels (p % h.width) (p / h.width) k (mod_below p h.width (omega (arith, some))) (div_below p h.width h.height (omega (arith, some)) (omega (arith, l))) f))

-- ---- what joining the texts of a table's parts answers
joined_is : (t : Table) (numbers : List (List ℕ)) (ps : List Part) (bytes : List ℕ) → IsTable t → IsDivision t numbers → 1 ≤ length numbers → IsJoined (texts_of t numbers) ps bytes → bytes ≡ table_picture t
joined_is t numbers ps bytes k d l j =
    let i = subst (λ q. IsJoined (texts_of t numbers) q bytes) (parts_are t numbers ps k d j.of_one.parsed) j in
    sym i.picture
    ∙ ap (λ h. joined h (buckets_of (map (part_of t) numbers))) (header_of t numbers 0 l)
    ∙ picture_is t (λ n. pixels_of n (buckets_of (map (part_of t) numbers))) k (λ n m. pixels_are t numbers n d m)

never_unparsed : (t : Table) (numbers : List (List ℕ)) (i : ℕ) → IsTable t → IsDivision t numbers → IsNotAPart (texts_of t numbers) i → ⊥
never_unparsed t numbers i k d n =
    let c = texts_count t numbers in
    let l = n.there in
    n.no_part (part_of t (get_or numbers i [])) (text_is t numbers i k d (omega (arith, c, l)))

never_foreign : (t : Table) (numbers : List (List ℕ)) (ps : List Part) (i : ℕ) → IsTable t → IsDivision t numbers → 1 ≤ length numbers → AreParsed (texts_of t numbers) ps → IsForeign ps i → ⊥
never_foreign t numbers ps i k d l p f =
    let g = subst (λ q. IsForeign q i) (parts_are t numbers ps k d p) f in
    let c = length-map numbers (part_of t) in
    let m = g.there in
    g.other (header_of t numbers i (omega (arith, c, m)) ∙ sym (header_of t numbers 0 l))

never_doubled : (t : Table) (numbers : List (List ℕ)) (ps : List Part) (part bucket : ℕ) → IsTable t → IsDivision t numbers → IsDoubledIn (texts_of t numbers) ps part bucket → ⊥
never_doubled t numbers ps part bucket k d f =
    let g = subst (λ q. IsDoubledIn (texts_of t numbers) q part bucket) (parts_are t numbers ps k d f.of_one.parsed) f in
    let e = g.doubled.earlier in
    d.disjoint part e.0 bucket e.1 (in_of_has t numbers part bucket g.doubled.has) (in_of_has t numbers e.0 bucket e.2)

never_missing : (t : Table) (numbers : List (List ℕ)) (ps : List Part) (bucket : ℕ) → IsTable t → IsDivision t numbers → 1 ≤ length numbers → IsMissingIn (texts_of t numbers) ps bucket → ⊥
never_missing t numbers ps bucket k d l f =
    let g = subst (λ q. IsMissingIn (texts_of t numbers) q bucket) (parts_are t numbers ps k d f.of_one.parsed) f in
    let w = d.whole bucket (subst (λ h. bucket < bucket_total h) (header_of t numbers 0 l) g.missing.there) in
    g.missing.missing (w.0, has_of_in t numbers w.0 bucket w.1)

never_a_fault : (t : Table) (numbers : List (List ℕ)) (fault : JoinFault) → IsTable t → IsDivision t numbers → 1 ≤ length numbers → IsFault (texts_of t numbers) fault → fault ≡ NoMemory
never_a_fault t numbers (J1 part) k d l f = absurd (never_unparsed t numbers part k d f)
never_a_fault t numbers (J2 part) k d l f = absurd (never_foreign t numbers f.0 part k d l f.1 f.2)
never_a_fault t numbers (J3 part bucket) k d l f = absurd (never_doubled t numbers f.0 part bucket k d f.1)
never_a_fault t numbers (J4 bucket) k d l f = absurd (never_missing t numbers f.0 bucket k d l f.1)
never_a_fault t numbers NoMemory k d l f = refl

pub division_is : {V : Type 0} (items : V → List ℕ) (texts : List (List ℕ)) (r : Result V JoinFault) → 1 ≤ length texts → MatchResult r (λ v. (ps : List Part) × IsJoined texts ps (items v)) (λ fault. IsFault texts fault) →
    (t : Table) (numbers : List (List ℕ)) → IsTable t → IsDivision t numbers → texts ≡ texts_of t numbers → MatchResult r (λ v. items v ≡ table_picture t) (λ fault. fault ≡ NoMemory)
division_is items texts (Ok v) l m t numbers k d e =
    let c = texts_count t numbers in
    let n = ap length e in
    joined_is t numbers m.0 (items v) k d (omega (arith, c, n, l)) (subst (λ ts. IsJoined ts m.0 (items v)) e m.1)
division_is items texts (Err fault) l m t numbers k d e =
    let c = texts_count t numbers in
    let n = ap length e in
    never_a_fault t numbers fault k d (omega (arith, c, n, l)) (subst (λ ts. IsFault ts fault) e m)
