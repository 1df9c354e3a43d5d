-- A picture's pixels, row by row and bucket by bucket.
use Rattle.std.proofs.Common.{◌≡◌, ◌∙◌, ap, sym, ℕ, ◌+◌, ◌-◌, ◌*◌, ◌/◌, ◌%◌, ◌<◌, arith, List, ◌++◌, get_or, take, drop, append_assoc}
use Rattle.std.specs.Prelude.{min}
use Rattle.std.proofs.Math.Nat.{lt-div-mul-add}
use Rattle.std.proofs.lemmas.Nat.{div-mul-add, mod-mul-add}
use Rattle.std.proofs.lemmas.List.{append-nil}
use Rattle.fixed_math.specs.Buckets.{bucket}
use Rattle.parts.specs.declared.header.Header.{Header}
use Rattle.parts.specs.Formats.{IsHeader, frame, channel_bytes}
use Rattle.parts.specs.Pictures.{place_in, pixel_in, run}
use Rattle.parts.specs.Placing.{Placed, not_placed, width_at, pixel_of}
use Rattle.parts.proofs.Runs.{run_same, run_add, run_slices}
use Rattle.parts.proofs.Squares.{columns_of, number_is, place_is, column_starts}

-- the bytes of the bucket in a column, at row y
abbrev pub bytes_at : Header → List Placed → ℕ → ℕ → List ℕ
bytes_at h buckets y c = (get_or buckets (y / h.side * columns_of h + c) not_placed).bucket.pixels

pixel_at : (h : Header) (buckets : List Placed) (y c i : ℕ) → IsHeader h → h.side * c < h.width → i < width_at h c →
    pixel_of h buckets (h.side * c + i) y ≡ take (3 * channel_bytes h.one) (drop (3 * channel_bytes h.one * (y % h.side * width_at h c + i)) (bytes_at h buckets y c))
unfolding pixel_in
pixel_at h buckets y c i k l m =
    let s = 3 * channel_bytes h.one in
    ap (λ j. take s (drop (s * place_in (bucket h.side (frame h) j) (h.side * c + i) y) (get_or buckets j not_placed).bucket.pixels)) (number_is h y c i m)
    ∙ ap (λ p. take s (drop (s * p) (bytes_at h buckets y c))) (place_is h y c i k l)

pub run_of_bucket : (h : Header) (buckets : List Placed) (y c : ℕ) → IsHeader h → h.side * c < h.width →
    run (width_at h c) (λ i. pixel_of h buckets (h.side * c + i) y) ≡ take (3 * channel_bytes h.one * width_at h c) (drop (3 * channel_bytes h.one * (y % h.side * width_at h c)) (bytes_at h buckets y c))
run_of_bucket h buckets y c k l =
    let s = 3 * channel_bytes h.one in
    let a = y % h.side * width_at h c in
    run_same (width_at h c) (λ i. pixel_of h buckets (h.side * c + i) y) (λ i. take s (drop (s * (a + i)) (bytes_at h buckets y c))) (λ i m. pixel_at h buckets y c i k l m)
    ∙ run_slices (width_at h c) s a (bytes_at h buckets y c)

-- the same bytes, with each number replaced by an equal one
pub slice_same : (d e v w r : ℕ) (xs ys : List ℕ) → d ≡ e → v ≡ w → xs ≡ ys → take (3 * d * (r * v) + 3 * d * v - 3 * d * (r * v)) (drop (3 * d * (r * v)) xs) ≡ take (3 * e * w) (drop (3 * e * (r * w)) ys)
slice_same d e v w r xs ys a b c =
    let s : 3 * d * (r * v) + 3 * d * v - 3 * d * (r * v) ≡ 3 * d * v = back (3 * d * (r * v)) (3 * d * v) in
    ap (λ n. take n (drop (3 * d * (r * v)) xs)) s
    ∙ ap (λ j. take (3 * j * v) (drop (3 * j * (r * v)) xs)) a
    ∙ ap (λ j. take (3 * e * j) (drop (3 * e * (r * j)) xs)) b
    ∙ ap (λ (zs : List ℕ). take (3 * e * w) (drop (3 * e * (r * w)) zs)) c
  where
    back : (m n : ℕ) → m + n - m ≡ n
    back m n = omega arith

-- ---- a row, bucket by bucket
next_column : (h : Header) (c : ℕ) → h.side * c < h.width → min (h.side * (c + 1)) h.width ≡ min (h.side * c) h.width + width_at h c
next_column h c l = let e : h.side * (c + 1) ≡ h.side * c + h.side = omega arith in omega (arith, e, l)

at_column : (h : Header) (c : ℕ) → h.side * c < h.width → min (h.side * c) h.width ≡ h.side * c
at_column h c l = omega (arith, l)

pub row_none : (h : Header) (bytes : List ℕ) (f : ℕ → List ℕ) → bytes ≡ bytes ++ run (min (h.side * 0) h.width) f
unfolding run
row_none h bytes f = let z : min (h.side * 0) h.width ≡ 0 = omega arith in rw z (sym (append-nil bytes))

pub row_more : (h : Header) (bytes after start : List ℕ) (f : ℕ → List ℕ) (c : ℕ) → IsHeader h → c < columns_of h → bytes ≡ start ++ run (min (h.side * c) h.width) f → after ≡ bytes ++ run (width_at h c) (λ i. f (h.side * c + i)) →
    after ≡ start ++ run (min (h.side * (c + 1)) h.width) f
row_more h bytes after start f c k l e a =
    let m = column_starts h c k l in
    a ∙ ap (λ (xs : List ℕ). xs ++ run (width_at h c) (λ i. f (h.side * c + i))) e
    ∙ append_assoc start (run (min (h.side * c) h.width) f) (run (width_at h c) (λ i. f (h.side * c + i)))
    ∙ ap (λ n. start ++ (run (min (h.side * c) h.width) f ++ run (width_at h c) (λ i. f (n + i)))) (sym (at_column h c m))
    ∙ ap (λ (xs : List ℕ). start ++ xs) (sym (run_add (min (h.side * c) h.width) (width_at h c) f))
    ∙ ap (λ n. start ++ run n f) (sym (next_column h c m))

pub row_end : (h : Header) (c : ℕ) → IsHeader h → c ≡ columns_of h → min (h.side * c) h.width ≡ h.width
row_end h c k e =
    let some = k.some_side in
    let w : h.width - 0 + (h.side - 1) ≡ h.width + (h.side - 1) = omega arith in
    let d = lt-div-mul-add {a = h.width + (h.side - 1)} {b = h.side} (omega (arith, some)) in
    let f : h.side * c ≡ (h.width + (h.side - 1)) / h.side * h.side = ap (λ n. h.side * n) (e ∙ ap (λ n. n / h.side) w) ∙ turned h.side ((h.width + (h.side - 1)) / h.side) in
    omega (arith, d, f, some)
  where
    turned : (a b : ℕ) → a * b ≡ b * a
    turned a b = omega arith

-- ---- the picture, row by row
pub rows_none : (w : ℕ) (start : List ℕ) (f : ℕ → List ℕ) → start ≡ start ++ run (0 * w) f
unfolding run
rows_none w start f = let z : 0 * w ≡ 0 = omega arith in rw z (sym (append-nil start))

pub rows_more : (w y : ℕ) (pixel : ℕ → ℕ → List ℕ) (bytes after start : List ℕ) → bytes ≡ start ++ run (y * w) (λ p. pixel (p % w) (p / w)) → after ≡ bytes ++ run w (λ x. pixel x y) →
    after ≡ start ++ run ((y + 1) * w) (λ p. pixel (p % w) (p / w))
rows_more w y pixel bytes after start e a =
    let f : ℕ → List ℕ = λ p. pixel (p % w) (p / w) in
    let next : (y + 1) * w ≡ y * w + w = omega arith in
    a ∙ ap (λ (xs : List ℕ). xs ++ run w (λ x. pixel x y)) e
    ∙ append_assoc start (run (y * w) f) (run w (λ x. pixel x y))
    ∙ ap (λ (xs : List ℕ). start ++ (run (y * w) f ++ xs)) (sym (run_same w (λ x. f (y * w + x)) (λ x. pixel x y) (λ x l. ap (λ i. pixel i ((y * w + x) / w)) (mod-mul-add y w x l) ∙ ap (λ j. pixel x j) (div-mul-add y w x l))))
    ∙ ap (λ (xs : List ℕ). start ++ xs) (sym (run_add (y * w) w f))
    ∙ ap (λ n. start ++ run n f) (sym next)
