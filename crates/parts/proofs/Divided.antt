-- The parts of a table are parts.
use Rattle.std.proofs.Common.{◌≡◌, ◌∙◌, ap, sym, refl, ℕ, zero, suc, ◌+◌, ◌*◌, ◌/◌, ◌%◌, ◌<◌, ◌≤◌, arith, List, [], ◌∷◌, ◌++◌, length, get_or, take, drop, map, Bool, true, false}
use Rattle.std.specs.Prelude.{nat_le, if◌then◌else◌}
use Rattle.std.proofs.lemmas.List.{get_or-take, get_or-drop, length-map}
use Rattle.std.proofs.lemmas.Nat.{div-add-mod', mod_below, div_below}
use Rattle.fixed_math.specs.Spots.{pixel_x, pixel_y}
use Rattle.fixed_math.specs.Buckets.{bucket}
use Rattle.parts.specs.Formats.{IsBucket, AreBuckets, IsParsed, channel, channel_bytes, area, bucket_total, frame, part_text}
use Rattle.parts.specs.Pictures.{run}
use Rattle.parts.specs.Division.{Table, IsTable, Ascend, pixel_bytes, bucket_of, part_of}
use Rattle.parts.proofs.Runs.{length-run, run_piece}
use Rattle.parts.proofs.Squares.{few, pixel_in_picture}

-- ---- the bytes of a pixel, by whether a channel takes one byte
abbrev bytes_by : Bool → ℕ
bytes_by b = if b then 1 else 2

abbrev level_by : Bool → ℕ → List ℕ
level_by b v = if b then v ∷ [] else v / 256 ∷ v % 256 ∷ []

abbrev pixel_by : Bool → (ℕ → ℕ) → List ℕ
pixel_by b f = level_by b (f 0) ++ (level_by b (f 1) ++ level_by b (f 2))

abbrev channel_by : Bool → List ℕ → ℕ → ℕ
channel_by b bytes k = if b then get_or bytes k 0 else get_or bytes (2 * k) 0 * 256 + get_or bytes (2 * k + 1) 0

long_by : (b : Bool) (f : ℕ → ℕ) → length (pixel_by b f) ≡ 3 * bytes_by b
long_by true f = refl
long_by false f = refl

back : (v : ℕ) → v / 256 * 256 + v % 256 ≡ v
back v = div-add-mod' v 256

told_by : (b : Bool) (f : ℕ → ℕ) (c : ℕ) → c < 3 → channel_by b (pixel_by b f) c ≡ f c
told_by true f zero l = refl
told_by true f (suc zero) l = refl
told_by true f (suc (suc zero)) l = refl
told_by true f (suc (suc (suc c))) l = absurd (omega (arith, l))
told_by false f zero l = back (f 0)
told_by false f (suc zero) l = back (f 1)
told_by false f (suc (suc zero)) l = back (f 2)
told_by false f (suc (suc (suc c))) l = absurd (omega (arith, l))

in_piece : (n at i k : ℕ) (bytes : List ℕ) → i < n → at + i ≡ k → get_or bytes k 0 ≡ get_or (take n (drop at bytes)) i 0
in_piece n at i k bytes l e = ap (λ j. get_or bytes j 0) (sym e) ∙ sym (get_or-drop at bytes i 0) ∙ sym (get_or-take n (drop at bytes) i 0 l)

piece_by : (b : Bool) (bytes : List ℕ) (q c : ℕ) → c < 3 → channel_by b bytes (3 * q + c) ≡ channel_by b (take (3 * bytes_by b) (drop (3 * bytes_by b * q) bytes)) c
piece_by true bytes q c l = in_piece 3 (3 * q) c (3 * q + c) bytes l refl
piece_by false bytes q c l =
    let e = in_piece 6 (6 * q) (2 * c) (2 * (3 * q + c)) bytes (omega (arith, l)) (omega arith) in
    let f = in_piece 6 (6 * q) (2 * c + 1) (2 * (3 * q + c) + 1) bytes (omega (arith, l)) (omega arith) in
    ap (λ x. x * 256 + get_or bytes (2 * (3 * q + c) + 1) 0) e ∙ ap (λ x. get_or (take 6 (drop (6 * q) bytes)) (2 * c) 0 * 256 + x) f

pub long_pixel : (one : ℕ) (f : ℕ → ℕ) → length (pixel_bytes one f) ≡ 3 * channel_bytes one
long_pixel one f = long_by (nat_le one 255) f

-- a channel of pixels, one behind the other
pub channel_of : (one n : ℕ) (f : ℕ → ℕ → ℕ) (k : ℕ) → k < 3 * n → channel one (run n (λ p. pixel_bytes one (f p))) k ≡ f (k / 3) (k % 3)
channel_of one n f k l =
    let g : ℕ → List ℕ = λ p. pixel_bytes one (f p) in
    let e : 3 * (k / 3) + k % 3 ≡ k = (let r = div-add-mod' k 3 in omega (arith, r)) in
    let c = mod_below k 3 (omega arith) in
    let q = div_below k 3 n (omega arith) (omega (arith, l)) in
    ap (channel one (run n g)) (sym e)
    ∙ piece_by (nat_le one 255) (run n g) (k / 3) (k % 3) c
    ∙ ap (λ bytes. channel one bytes (k % 3)) (run_piece n (k / 3) (3 * channel_bytes one) g (λ p m. long_pixel one (f p)) q)
    ∙ told_by (nat_le one 255) (f (k / 3)) (k % 3) c

-- ---- the buckets and parts of a table
pub bucket_of_is : (t : Table) (least n : ℕ) → IsTable t → least ≤ n → n < bucket_total t.header → IsBucket t.header least (bucket_of t n)
bucket_of_is t least n k l m =
    let r = bucket t.header.side (frame t.header) n in
    let f : ℕ → ℕ → ℕ = λ p. t.level (pixel_x r p) (pixel_y r p) in
    let long = length-run (area t.header n) (3 * channel_bytes t.header.one) (λ p. pixel_bytes t.header.one (f p)) (λ p h. long_pixel t.header.one (f p)) in
    record {
      order = l;
      there = m;
      long = omega (arith, long);
      levels = λ j h. (
          let e = channel_of t.header.one (area t.header n) f j h in
          let i = pixel_in_picture t.header n (j / 3) (div_below j 3 (area t.header n) (omega arith) (omega (arith, h))) in
          let b = k.levels (pixel_x r (j / 3)) (pixel_y r (j / 3)) (j % 3) i.0 i.1 (mod_below j 3 (omega arith)) in
          omega (arith, e, b));
    }

buckets_of_are : (t : Table) (least : ℕ) (ns : List ℕ) → IsTable t → Ascend (bucket_total t.header) least ns → AreBuckets t.header least (map (bucket_of t) ns)
buckets_of_are t least [] k a = tt
buckets_of_are t least (n ∷ ns) k a = (bucket_of_is t least n k a.0 a.1, buckets_of_are t (n + 1) ns k a.2)

ascend_few : (total least : ℕ) (ns : List ℕ) → least ≤ total → Ascend total least ns → least + length ns ≤ total
ascend_few total least [] l a = omega (arith, l)
ascend_few total least (n ∷ ns) l a =
    let e = ascend_few total (n + 1) ns (let b = a.1 in omega (arith, b)) a.2 in
    let c = a.0 in
    omega (arith, e, c)

pub part_of_is : (t : Table) (ns : List ℕ) → IsTable t → Ascend (bucket_total t.header) 0 ns → IsParsed (part_text (part_of t ns)) (part_of t ns)
part_of_is t ns k a = record {
  header = k.header;
  count = (let e = ascend_few (bucket_total t.header) 0 ns (omega arith) a in let f = few t.header k.header in let g = length-map ns (bucket_of t) in omega (arith, e, f, g));
  buckets = buckets_of_are t 0 ns k a;
  text = refl;
}
