-- Texts one behind the other.
use Rattle.std.proofs.Common.{◌≡◌, ◌∙◌, ap, sym, refl, ℕ, zero, suc, ◌+◌, ◌-◌, ◌*◌, ◌<◌, ◌≤◌, arith, List, ◌++◌, length, take, drop, append_assoc, length-append, ⊎_elim, length-drop}
use Rattle.std.proofs.Math.Nat.{mul-le-mul_left}
use Rattle.std.proofs.Math.Seq.{take-add}
use Rattle.std.proofs.lemmas.Bool.{cases_eq, cases_lt}
use Rattle.std.proofs.lemmas.List.{append-nil, drop_at, take_all, drop-drop, take-append-le, drop-append-le}
use Rattle.parts.specs.Pictures.{run}

pub run_same : (n : ℕ) (f g : ℕ → List ℕ) → ((i : ℕ) → i < n → f i ≡ g i) → run n f ≡ run n g
unfolding run
run_same zero f g e = refl
run_same (suc n) f g e = let a = run_same n f g (λ i l. e i (omega arith)) in let b = e n (omega arith) in rw (a, b) refl

pub run_add : (m n : ℕ) (f : ℕ → List ℕ) → run (m + n) f ≡ run m f ++ run n (λ i. f (m + i))
unfolding run
run_add m zero f = let z : m + 0 ≡ m = omega arith in ap (λ k. run k f) z ∙ sym (append-nil (run m f))
run_add m (suc n) f =
    let s : m + suc n ≡ suc (m + n) = omega arith in
    ap (λ k. run k f) s ∙ ap (λ (l : List ℕ). l ++ f (m + n)) (run_add m n f) ∙ append_assoc (run m f) (run n (λ i. f (m + i))) (f (m + n))

pub length-run : (n d : ℕ) (f : ℕ → List ℕ) → ((i : ℕ) → i < n → length (f i) ≡ d) → length (run n f) ≡ d * n
unfolding run
length-run zero d f e = omega arith
length-run (suc n) d f e =
    let a = length-run n d f (λ i l. e i (omega arith)) in
    let b = e n (omega arith) in
    let c = length-append (run n f) (f n) in
    omega (arith, a, b, c)

-- pieces of a text, each behind the one before it
pub run_slices : (n s a : ℕ) (xs : List ℕ) → run n (λ i. take s (drop (s * (a + i)) xs)) ≡ take (s * n) (drop (s * a) xs)
unfolding run
run_slices zero s a xs = let z : s * 0 ≡ 0 = omega arith in sym (ap (λ k. take k (drop (s * a) xs)) z)
run_slices (suc n) s a xs =
    let p : s * suc n ≡ s * n + s = omega arith in
    let q : s * a + s * n ≡ s * (a + n) = omega arith in
    ap (λ (l : List ℕ). l ++ take s (drop (s * (a + n)) xs)) (run_slices n s a xs)
    ∙ ap (λ k. take (s * n) (drop (s * a) xs) ++ take s (drop k xs)) (sym q)
    ∙ ap (λ (l : List ℕ). take (s * n) (drop (s * a) xs) ++ take s l) (sym (drop-drop (s * n) (s * a) xs))
    ∙ sym (take-add (s * n) s (drop (s * a) xs))
    ∙ ap (λ k. take k (drop (s * a) xs)) (sym p)

-- one of texts of one length
pub run_piece : (n q d : ℕ) (f : ℕ → List ℕ) → ((i : ℕ) → i < n → length (f i) ≡ d) → q < n → take d (drop (d * q) (run n f)) ≡ f q
unfolding run
run_piece zero q d f e l = absurd (omega arith)
run_piece (suc n) q d f e l =
    let long = length-run n d f (λ i m. e i (omega arith)) in
    ⊎_elim
    (λ (s : q ≡ n).
    let t : length (run n f) ≡ d * q = long ∙ ap (λ k. d * k) (sym s) in
    ap (take d) (drop_at (run n f) (f n) (d * q) t) ∙ take_all d (f n) (let b = e n (omega arith) in omega (arith, b)) ∙ ap f (sym s))
    (λ (s : q ≡ n → ⊥).
    let r : q < n = below q n l s in
    let room = row d q n r in
    ap (take d) (drop-append-le (d * q) (run n f) (f n) (omega (arith, long, room)))
    ∙ take-append-le d (drop (d * q) (run n f)) (f n) (let x = length-drop_is (d * q) (run n f) in omega (arith, x, long, room))
    ∙ run_piece n q d f (λ i m. e i (omega arith)) r)
    (cases_eq q n)
  where
    below : (q n : ℕ) → q < suc n → (q ≡ n → ⊥) → q < n
    below q n l s = ⊎_elim (λ (c : q < n). c) (λ (c : n ≤ q). absurd (s (omega (arith, c, l)))) (cases_lt q n)

    row : (d q n : ℕ) → q < n → d * q + d ≤ d * n
    row d q n l = let e = mul-le-mul_left d l in omega (arith, e)

    length-drop_is : (k : ℕ) (xs : List ℕ) → length (drop k xs) ≡ length xs - k
    length-drop_is k xs = length-drop k xs
