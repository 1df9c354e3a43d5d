-- Buckets read one after another from the front of a text.
use Rattle.std.proofs.Common.{◌≡◌, ◌∙◌, ap, sym, refl, subst, ℕ, ◌+◌, ◌*◌, ◌^◌, ◌<◌, ◌≤◌, arith, List, [], ◌∷◌, ◌++◌, length, get_or, take, drop, append_assoc, length-append, ⊎_elim}
use Rattle.std.proofs.lemmas.Bool.{cases_lt}
use Rattle.std.proofs.lemmas.List.{append-nil, take_at, drop_at, get_or_append_left, get_or_push}
use Rattle.std.proofs.lemmas.List.Concat.{flat_map-append}
use Rattle.parts.specs.declared.header.Header.{Header}
use Rattle.parts.specs.Formats.{Bucket, Part, no_part, word, with_header, bucket_text, buckets_text, channel_bytes, area, bucket_total, IsHeader, AreLevels, IsFirst, AreBuckets, AreAll, IsHead, IsParsed, HasNoBucket, AreNotBuckets, HasNoHead, IsNoPart}
use Rattle.parts.proofs.Words.{word_cancel, head_same}
use Rattle.parts.proofs.Squares.{few}

front_same : (xs ys us vs : List ℕ) → length xs ≡ length ys → xs ++ us ≡ ys ++ vs → (xs ≡ ys) × (us ≡ vs)
front_same xs ys us vs l e =
    (sym (take_at xs us (length xs) refl) ∙ ap (take (length xs)) e ∙ take_at ys vs (length xs) (sym l), sym (drop_at xs us (length xs) refl) ∙ ap (drop (length xs)) e ∙ drop_at ys vs (length xs) (sym l))

abbrev pub bucket_by : ℕ → List ℕ → Bucket
bucket_by number pixels = record { number = number; pixels = pixels }

-- the bucket at the front of a text is one
pub first_same : (h : Header) (least m : ℕ) (bytes rest rest' : List ℕ) (b b' : Bucket) → IsHeader h → IsFirst h least bytes b rest → IsFirst h m bytes b' rest' → (b ≡ b') × (rest ≡ rest')
first_same h least m bytes rest rest' b b' k f g =
    let i = f.bucket in
    let j = g.bucket in
    let t = few h k in
    let n = word_cancel b.number b'.number (b.pixels ++ rest) (b'.pixels ++ rest') (let x = i.there in omega arith) (let x = j.there in omega arith) (f.text ∙ sym g.text) in
    let l : length b.pixels ≡ length b'.pixels = i.long ∙ ap (λ n. channel_bytes h.one * (3 * area h n)) n.0 ∙ sym j.long in
    let p = front_same b.pixels b'.pixels rest rest' l n.1 in
    (ap (λ x. bucket_by x b.pixels) n.0 ∙ ap (λ x. bucket_by b'.number x) p.0, p.1)

-- buckets are read up to a place of the text
pub record Reading (h : Header) (count : ℕ) (bytes : List ℕ) (done : List Bucket) (least : ℕ) (rest : List ℕ) : Type 0 where
  pub front : (more : List Bucket) → AreBuckets h least more → AreBuckets h 0 (done ++ more)
  pub text : buckets_text done ++ rest ≡ bytes
  pub only : (bs : List Bucket) → AreAll h count bytes bs → (more : List Bucket) × (bs ≡ done ++ more) × AreBuckets h least more × (buckets_text more ≡ rest)

pub reading_none : (h : Header) (count : ℕ) (bytes : List ℕ) → Reading h count bytes [] 0 bytes
reading_none h count bytes = record { front = λ more m. m; text = refl; only = λ bs a. (bs, refl, a.buckets, a.text) }

only_more : (h : Header) (least : ℕ) (done more bs : List Bucket) (b : Bucket) (rest behind : List ℕ) → IsHeader h → IsFirst h least rest b behind → bs ≡ done ++ more → AreBuckets h least more → buckets_text more ≡ rest →
    (others : List Bucket) × (bs ≡ (done ++ b ∷ []) ++ others) × AreBuckets h (b.number + 1) others × (buckets_text others ≡ behind)
only_more h least done [] bs b rest behind k f e m t = let x = ap length (f.text ∙ sym t) in absurd (omega (arith, x))
only_more h least done (c ∷ cs) bs b rest behind k f e m t =
    let s = first_same h least least rest (buckets_text cs) behind c b k (record { bucket = m.0; text = t }) f in
    (cs, e ∙ ap (λ (d : Bucket). done ++ d ∷ cs) s.0 ∙ sym (append_assoc done (b ∷ []) cs), subst (λ (d : Bucket). AreBuckets h (d.number + 1) cs) s.0 m.1, s.1)

pub reading_more : (h : Header) (count : ℕ) (bytes : List ℕ) (done after : List Bucket) (least : ℕ) (b : Bucket) (rest behind : List ℕ) → IsHeader h → Reading h count bytes done least rest → IsFirst h least rest b behind →
    after ≡ done ++ b ∷ [] → Reading h count bytes after (b.number + 1) behind
reading_more h count bytes done after least b rest behind k r f e =
    subst (λ l. Reading h count bytes l (b.number + 1) behind) (sym e) (record {
      front = λ more m. subst (AreBuckets h 0) (sym (append_assoc done (b ∷ []) more)) (r.front (b ∷ more) (f.bucket, m));
      text = ap (λ (l : List ℕ). l ++ behind) (flat_map-append bucket_text done (b ∷ []) ∙ ap (λ (l : List ℕ). buckets_text done ++ l) (append-nil (bucket_text b))) ∙ append_assoc (buckets_text done) (bucket_text b) behind
          ∙ ap (λ (l : List ℕ). buckets_text done ++ l) f.text ∙ r.text;
      only = λ bs a. let o = r.only bs a in only_more h least done o.0 bs b rest behind k f o.1 o.2 o.3;
    })

some_more : (h : Header) (least k count : ℕ) (done more bs : List Bucket) (rest : List ℕ) → HasNoBucket h least rest → length done ≡ k → k < count → length bs ≡ count → bs ≡ done ++ more → AreBuckets h least more → buckets_text more ≡ rest → ⊥
some_more h least k count done [] bs rest n l i c e m t = let x = ap length e in let y = length-append done [] in omega (arith, x, y, l, i, c)
some_more h least k count done (d ∷ ds) bs rest n l i c e m t = n d (buckets_text ds) (record { bucket = m.0; text = t })

pub reading_fails : (h : Header) (count : ℕ) (bytes : List ℕ) (done : List Bucket) (least k : ℕ) (rest : List ℕ) → Reading h count bytes done least rest → HasNoBucket h least rest → length done ≡ k → k < count → AreNotBuckets h count bytes
reading_fails h count bytes done least k rest r n l i bs a = let o = r.only bs a in some_more h least k count done o.0 bs rest n l i a.count o.1 o.2 o.3

pub reading_ends : (h : Header) (count : ℕ) (bytes : List ℕ) (done : List Bucket) (least : ℕ) (rest : List ℕ) → Reading h count bytes done least rest → length done ≡ count → rest ≡ [] → AreAll h count bytes done
reading_ends h count bytes done least rest r l e = record {
  count = l;
  buckets = subst (AreBuckets h 0) (append-nil done) (r.front [] tt);
  text = sym (append-nil (buckets_text done)) ∙ ap (λ (l : List ℕ). buckets_text done ++ l) (sym e) ∙ r.text;
}

no_more : (done more bs : List Bucket) (count : ℕ) (rest : List ℕ) → length done ≡ count → length bs ≡ count → bs ≡ done ++ more → buckets_text more ≡ rest → 0 < length rest → ⊥
no_more done [] bs count rest l c e t p = let x = ap length t in omega (arith, x, p)
no_more done (d ∷ ds) bs count rest l c e t p = let x = ap length e in let y = length-append done (d ∷ ds) in omega (arith, x, y, l, c)

pub reading_goes_on : (h : Header) (count : ℕ) (bytes : List ℕ) (done : List Bucket) (least : ℕ) (rest : List ℕ) → Reading h count bytes done least rest → length done ≡ count → 0 < length rest → AreNotBuckets h count bytes
reading_goes_on h count bytes done least rest r l p bs a = let o = r.only bs a in no_more done o.0 bs count rest l a.count o.1 o.3 p

-- ---- parts
pub head_of : (bytes : List ℕ) (p : Part) → IsParsed bytes p → IsHead bytes p.header (length p.buckets) (buckets_text p.buckets)
head_of bytes p i = record { header = i.header; count = i.count; text = i.text }

pub without_head : (bytes : List ℕ) → HasNoHead bytes → IsNoPart bytes
without_head bytes n p i = n p.header (length p.buckets) (buckets_text p.buckets) (head_of bytes p i)

-- the header of a text is one
pub heads_same : (bytes rest rest' : List ℕ) (h h' : Header) (n n' : ℕ) → IsHead bytes h n rest → IsHead bytes h' n' rest' → (h ≡ h') × (n ≡ n') × (rest ≡ rest')
heads_same bytes rest rest' h h' n n' i j =
    let k = j.header in
    let s = head_same 1380276560 1095914545 h'.width h'.height h'.one h'.side h'.tag n' rest' rest h n (omega arith) (omega arith) (let r = k.wide in omega arith) (let r = k.high in omega arith) (let r = k.one in omega arith)
    (let r = k.side in omega arith) k.tag j.count i.header i.count (i.text ∙ sym j.text) in
    (s.2, s.3, s.4)

pub without_buckets : (bytes rest : List ℕ) (h : Header) (n : ℕ) → IsHead bytes h n rest → AreNotBuckets h n rest → IsNoPart bytes
without_buckets bytes rest h n k none p i =
    let s = heads_same bytes (buckets_text p.buckets) rest p.header h (length p.buckets) n (head_of bytes p i) k in
    none p.buckets (record { count = s.1; buckets = subst (λ g. AreBuckets g 0 p.buckets) s.0 i.buckets; text = s.2 })

pub with_buckets : (bytes rest : List ℕ) (h : Header) (n : ℕ) (bs : List Bucket) → IsHead bytes h n rest → AreAll h n rest bs → IsParsed bytes (record { header = h; buckets = bs })
with_buckets bytes rest h n bs k a = record {
  header = k.header;
  count = subst (λ m. m < 2 ^ 32) (sym a.count) k.count;
  buckets = a.buckets;
  text = ap (λ m. with_header h m (buckets_text bs)) a.count ∙ ap (with_header h n) a.text ∙ k.text;
}

-- ---- the parts of a text are one
buckets_same : (h : Header) (least m : ℕ) (bs cs : List Bucket) → IsHeader h → AreBuckets h least bs → AreBuckets h m cs → length bs ≡ length cs → buckets_text bs ≡ buckets_text cs → bs ≡ cs
buckets_same h least m [] [] k a b l e = refl
buckets_same h least m [] (c ∷ cs) k a b l e = absurd (omega (arith, l))
buckets_same h least m (b ∷ bs) [] k a c l e = absurd (omega (arith, l))
buckets_same h least m (b ∷ bs) (c ∷ cs) k a d l e =
    let s = first_same h least m (buckets_text (b ∷ bs)) (buckets_text bs) (buckets_text cs) b c k (record { bucket = a.0; text = refl }) (record { bucket = d.0; text = sym e }) in
    let r = buckets_same h (b.number + 1) (c.number + 1) bs cs k a.1 d.1 (omega (arith, l)) s.1 in
    ap (λ (x : Bucket). x ∷ bs) s.0 ∙ ap (λ (xs : List Bucket). c ∷ xs) r

abbrev part_by : Header → List Bucket → Part
part_by h bs = record { header = h; buckets = bs }

pub parsed_same : (bytes : List ℕ) (p q : Part) → IsParsed bytes p → IsParsed bytes q → p ≡ q
parsed_same bytes p q i j =
    let s = heads_same bytes (buckets_text p.buckets) (buckets_text q.buckets) p.header q.header (length p.buckets) (length q.buckets) (head_of bytes p i) (head_of bytes q j) in
    let r = buckets_same q.header 0 0 p.buckets q.buckets j.header (subst (λ h. AreBuckets h 0 p.buckets) s.0 i.buckets) j.buckets s.1 s.2 in
    ap (λ h. part_by h p.buckets) s.0 ∙ ap (λ bs. part_by q.header bs) r

-- ---- the parts of texts, one more
pub parsed_more : (texts : List (List ℕ)) (ps after : List Part) (i : ℕ) (p : Part) → length ps ≡ i → ((j : ℕ) → j < i → IsParsed (get_or texts j []) (get_or ps j no_part)) → IsParsed (get_or texts i []) p → after ≡ ps ++ p ∷ [] →
    (j : ℕ) → j < i + 1 → IsParsed (get_or texts j []) (get_or after j no_part)
parsed_more texts ps after i p c f g e j l = subst (λ qs. IsParsed (get_or texts j []) (get_or qs j no_part)) (sym e) (⊎_elim
    (λ (s : j < i). subst (IsParsed (get_or texts j [])) (sym (get_or_append_left ps (p ∷ []) no_part j (omega (arith, c, s)))) (f j s))
    (λ (s : i ≤ j). (let r : i ≡ j = omega (arith, l, s) in subst (IsParsed (get_or texts j [])) (sym (get_or_push ps p no_part j (c ∙ r))) (subst (λ k. IsParsed (get_or texts k []) p) r g)))
    (cases_lt j i))

-- ---- the front of a text, read
pub first_number : (h : Header) (least n : ℕ) (bytes rest behind : List ℕ) (b : Bucket) → IsHeader h → IsFirst h least bytes b behind → n < 2 ^ 32 → word n ++ rest ≡ bytes → (b.number ≡ n) × (b.pixels ++ behind ≡ rest)
first_number h least n bytes rest behind b k f l e =
    let t = few h k in
    let r = f.bucket.there in
    word_cancel b.number n (b.pixels ++ behind) rest (omega (arith, t, r)) l (f.text ∙ sym e)

pub none_short : (h : Header) (least : ℕ) (bytes : List ℕ) → length bytes < 4 → HasNoBucket h least bytes
none_short h least bytes l b rest f = let e = ap length f.text in absurd (omega (arith, e, l))

pub none_below : (h : Header) (least n : ℕ) (bytes rest : List ℕ) → IsHeader h → n < 2 ^ 32 → word n ++ rest ≡ bytes → n < least → HasNoBucket h least bytes
none_below h least n bytes rest k l e m b behind f = let s = (first_number h least n bytes rest behind b k f l e).0 in let o = f.bucket.order in absurd (omega (arith, s, o, m))

pub none_past : (h : Header) (least n : ℕ) (bytes rest : List ℕ) → IsHeader h → n < 2 ^ 32 → word n ++ rest ≡ bytes → bucket_total h ≤ n → HasNoBucket h least bytes
none_past h least n bytes rest k l e m b behind f = let s = (first_number h least n bytes rest behind b k f l e).0 in let o = f.bucket.there in absurd (omega (arith, s, o, m))

pub none_cut : (h : Header) (least n : ℕ) (bytes rest : List ℕ) → IsHeader h → n < 2 ^ 32 → word n ++ rest ≡ bytes → length rest < channel_bytes h.one * (3 * area h n) → HasNoBucket h least bytes
none_cut h least n bytes rest k l e m b behind f =
    let s = first_number h least n bytes rest behind b k f l e in
    let o : length b.pixels ≡ channel_bytes h.one * (3 * area h n) = f.bucket.long ∙ ap (λ j. channel_bytes h.one * (3 * area h j)) s.0 in
    let t = ap length s.1 in
    let u = length-append b.pixels behind in
    absurd (omega (arith, o, t, u, m))

pub none_high : (h : Header) (least n : ℕ) (bytes rest pixels after : List ℕ) → IsHeader h → n < 2 ^ 32 → word n ++ rest ≡ bytes → pixels ++ after ≡ rest → length pixels ≡ channel_bytes h.one * (3 * area h n) →
    (AreLevels h.one (3 * area h n) pixels → ⊥) → HasNoBucket h least bytes
none_high h least n bytes rest pixels after k l e p m none b behind f =
    let s = first_number h least n bytes rest behind b k f l e in
    let o : length b.pixels ≡ length pixels = f.bucket.long ∙ ap (λ j. channel_bytes h.one * (3 * area h j)) s.0 ∙ sym m in
    let t = front_same b.pixels pixels behind after o (s.1 ∙ sym p) in
    none (subst (AreLevels h.one (3 * area h n)) t.0 (subst (λ j. AreLevels h.one (3 * area h j) b.pixels) s.0 f.bucket.levels))

pub first_is : (h : Header) (least n : ℕ) (bytes rest pixels after : List ℕ) → word n ++ rest ≡ bytes → pixels ++ after ≡ rest → least ≤ n → n < bucket_total h → length pixels ≡ channel_bytes h.one * (3 * area h n) →
    AreLevels h.one (3 * area h n) pixels → IsFirst h least bytes (bucket_by n pixels) after
first_is h least n bytes rest pixels after e p l m t v = record {
  bucket = record { order = l; there = m; long = t; levels = v };
  text = ap (λ (x : List ℕ). word n ++ x) p ∙ e;
}
