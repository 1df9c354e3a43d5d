-- Where buckets stand: one more, and all.
use Rattle.std.proofs.Common.{◌≡◌, ◌∙◌, ap, sym, refl, subst, ℕ, suc, ◌+◌, ◌<◌, ◌≤◌, arith, List, [], ◌∷◌, ◌++◌, length, get_or, set, take, append_assoc, length-append, Option, Some, None, true, false, ⊎_elim}
use Rattle.std.specs.Option.{is_some}
use Rattle.std.proofs.Math.Seq.{take-suc}
use Rattle.std.proofs.lemmas.Bool.{cases_eq, cases_lt, false≢true}
use Rattle.std.proofs.lemmas.List.{append-nil, get_or-set_same, get_or-set_other, length-set, get_or_append_left, get_or_push, length-take-le}
use Rattle.parts.specs.Formats.{Bucket, Part, no_part}
use Rattle.parts.specs.Placing.{Placed, placed_in, placed_from, not_placed, number_of, AreDistinct, ArePlaced, IsAgain}

abbrev pub placed_by : ℕ → Bucket → Placed
placed_by part b = record { part = part; bucket = b }

-- the buckets before place m are placed
pub record PlacedTo (all : List Placed) (total m : ℕ) (places : List (Option ℕ)) : Type 0 where
  pub count : length places ≡ total
  pub distinct : AreDistinct all m
  pub some : (n k : ℕ) → get_or places n None ≡ Some k → (k < m) × (number_of all k ≡ n)
  pub none : (n : ℕ) → n < total → get_or places n None ≡ None → (k : ℕ) → k < m → number_of all k ≡ n → ⊥

-- the buckets of the numbers below n stand in their order
pub record OrderedTo (all : List Placed) (n : ℕ) (ordered : List Placed) : Type 0 where
  pub count : length ordered ≡ n
  pub each : (i : ℕ) → i < n → (k : ℕ) × (k < length all) × (number_of all k ≡ i) × (get_or ordered i not_placed ≡ get_or all k not_placed)

none_or_some : {P : Type 0} (o : Option ℕ) → (o ≡ None → P) → ((k : ℕ) → o ≡ Some k → P) → P
none_or_some None f g = f refl
none_or_some (Some k) f g = g k refl

none-some : (k : ℕ) → None ≡ Some k → ⊥
none-some k e = absurd cc

some_same : (j k : ℕ) → Some j ≡ Some k → j ≡ k
some_same j k e = ap held e
  where
    held : Option ℕ → ℕ
    held None = 0
    held (Some n) = n

-- one more bucket whose number wasn't there
pub placed_more : (all : List Placed) (total m n : ℕ) (places after : List (Option ℕ)) → PlacedTo all total m places → number_of all m ≡ n → n < total → get_or places n None ≡ None → after ≡ set places n (Some m) →
    PlacedTo all total (m + 1) after
placed_more all total m n places after p e l none a = subst (PlacedTo all total (m + 1)) (sym a) (record {
  count = length-set places n (Some m) ∙ p.count;
  distinct = λ i k h t q. ⊎_elim (λ (s : k < m). p.distinct i k h s q) (λ (s : m ≤ k). (let r : k ≡ m = omega (arith, s, t) in p.none n l none i (omega (arith, h, r)) (q ∙ ap (number_of all) r ∙ e))) (cases_lt k m);
  some = λ i k q. ⊎_elim
      (λ (s : i ≡ n). (let x : Some m ≡ Some k = sym (get_or-set_same places n (Some m) None (omega (arith, l, p.count))) ∙ ap (λ j. get_or (set places n (Some m)) j None) (sym s) ∙ q in
      let r = some_same m k x in (omega (arith, r), ap (number_of all) (sym r) ∙ e ∙ sym s)))
      (λ (s : i ≡ n → ⊥). (let x = p.some i k (sym (get_or-set_other places n i (Some m) None s) ∙ q) in (omega (arith, x.0), x.1)))
      (cases_eq i n);
  none = λ i h q k t r. ⊎_elim
      (λ (s : i ≡ n). none-some m (sym q ∙ ap (λ j. get_or (set places n (Some m)) j None) s ∙ get_or-set_same places n (Some m) None (omega (arith, l, p.count))))
      (λ (s : i ≡ n → ⊥). ⊎_elim
      (λ (u : k < m). p.none i h (sym (get_or-set_other places n i (Some m) None s) ∙ q) k u r)
      (λ (u : m ≤ k). (let v : k ≡ m = omega (arith, u, t) in s (sym r ∙ ap (number_of all) v ∙ e)))
      (cases_lt k m))
      (cases_eq i n);
})

pub placed_all : (all : List Placed) (total m : ℕ) (places : List (Option ℕ)) → PlacedTo all total m places → m ≡ length all → ArePlaced all total places
placed_all all total m places p e = subst (λ k. PlacedTo all total k places → ArePlaced all total places) (sym e) (λ p. record {
  count = p.count;
  distinct = p.distinct;
  some = p.some;
  none = λ n l h t. p.none n l h t.0 t.1 t.2;
}) p

-- a bucket whose number was there
pub doubled : (all : List Placed) (total m n k : ℕ) (places : List (Option ℕ)) → PlacedTo all total m places → m < length all → number_of all m ≡ n → get_or places n None ≡ Some k → IsAgain all m
doubled all total m n k places p l e h = let s = p.some n k h in record { there = l; before = p.distinct; again = (k, s.0, s.1 ∙ sym e) }

pub nothing : (o : Option ℕ) → is_some o ≡ false → o ≡ None
nothing None e = refl
nothing (Some k) e = absurd (false≢true (sym e))

pub again_is : (all : List Placed) (total m n : ℕ) (places : List (Option ℕ)) → PlacedTo all total m places → m < length all → number_of all m ≡ n → is_some (get_or places n None) ≡ true → IsAgain all m
again_is all total m n places p l e h = none_or_some (get_or places n None)
    (λ q. absurd (false≢true (sym (ap is_some q) ∙ h)))
    (λ k q. doubled all total m n k places p l e q)

-- ---- one more bucket in order
pub placed_same : (g : Placed) (part : ℕ) (b : Bucket) → part ≡ g.part → b ≡ g.bucket → placed_by part b ≡ g
placed_same g part b e f = ap (λ i. placed_by i b) e ∙ ap (λ (x : Bucket). placed_by g.part x) f

pub ordered_more : (all : List Placed) (n k : ℕ) (ordered after : List Placed) (p : Placed) → OrderedTo all n ordered → k < length all → number_of all k ≡ n → p ≡ get_or all k not_placed → after ≡ ordered ++ p ∷ [] → OrderedTo all (n + 1) after
ordered_more all n k ordered after p o l e q a = subst (OrderedTo all (n + 1)) (sym a) (record {
  count = (let c = length-append ordered (p ∷ []) in let d = o.count in omega (arith, c, d));
  each = λ i t. ⊎_elim
      (λ (s : i < n). (let f = o.each i s in (f.0, f.1, f.2, get_or_append_left ordered (p ∷ []) not_placed i (let d = o.count in omega (arith, s, d)) ∙ f.3)))
      (λ (s : n ≤ i). (let r : i ≡ n = omega (arith, s, t) in (k, l, e ∙ sym r, get_or_push ordered p not_placed i (o.count ∙ sym r) ∙ q)))
      (cases_lt i n);
})

-- ---- the buckets of parts, one after another
pub placed_push : (n : ℕ) (ps : List Part) (p : Part) → placed_from n (ps ++ p ∷ []) ≡ placed_from n ps ++ placed_in (n + length ps) p.buckets
placed_push n [] p = let z : n + 0 ≡ n = omega arith in append-nil (placed_in n p.buckets) ∙ ap (λ k. placed_in k p.buckets) (sym z)
placed_push n (q ∷ qs) p =
    let s : n + 1 + length qs ≡ n + suc (length qs) = omega arith in
    ap (λ l. placed_in n q.buckets ++ l) (placed_push (n + 1) qs p) ∙ sym (append_assoc (placed_in n q.buckets) (placed_from (n + 1) qs) (placed_in (n + 1 + length qs) p.buckets))
    ∙ ap (λ k. placed_in n q.buckets ++ placed_from (n + 1) qs ++ placed_in k p.buckets) s

pub placed_take : (ps : List Part) (i : ℕ) → i < length ps → placed_from 0 (take (i + 1) ps) ≡ placed_from 0 (take i ps) ++ placed_in i (get_or ps i no_part).buckets
placed_take ps i l =
    let s : i + 1 ≡ suc i = omega arith in
    let n : 0 + length (take i ps) ≡ i = (let e = length-take-le i ps (omega (arith, l)) in omega (arith, e)) in
    ap (λ j. placed_from 0 (take j ps)) s
    ∙ ap (λ (qs : List Part). placed_from 0 qs) (take-suc ps i no_part l)
    ∙ placed_push 0 (take i ps) (get_or ps i no_part)
    ∙ ap (λ j. placed_from 0 (take i ps) ++ placed_in j (get_or ps i no_part).buckets) n
