-- The samples that stand in bytes.
use Rattle.std.proofs.Common.{◌≡◌, ◌∙◌, ap, sym, ℕ, zero, suc, ◌+◌, ◌*◌, ◌<◌, ◌≤◌, min, true, cond, List, [], ◌∷◌, length, get_or, arith}
use Rattle.std.specs.Prelude.{nat_lt, ◌&&◌}
use Rattle.std.proofs.Math.Nat.{mul-le-mul_right}
use Rattle.std.proofs.lemmas.Bool.Decides.{nat_tests}
use Rattle.texture.specs.Images.{image_in, number_in, byte_count, sample_count, listed, IsStored}
use Rattle.texture.specs.Pyramid.{sample}
use Rattle.texture.proofs.Listed.{length-listed, get_listed}

sample_index : (w h x y c : ℕ) → c < 3 → x < w → y < h → 3 * (w * y + x) + c < sample_count w h
sample_index w h x y c hc hx hy =
    let e : (y + 1) * w ≤ h * w = mul-le-mul_right w (omega arith) in
    omega (arith, e)

in_image : (x y w h : ℕ) → x < w → y < h → (nat_lt x w && nat_lt y h) ≡ true
in_image x y w h hx hy = grind (arith, nat_tests)

pub sample_stored : (w h m : ℕ) (bs : List ℕ) (c x y : ℕ) → c < 3 → x < w → y < h → min (number_in m bs (3 * (w * y + x) + c)) m ≡ sample (image_in w h m bs) c x y
unfolding sample
sample_stored w h m bs c x y hc hx hy =
    let f : ℕ → ℕ = λ k. min (number_in m bs k) m in
    sym (ap (λ t. cond t (get_or (listed (sample_count w h) f) (3 * (w * y + x) + c) 0) 0) (in_image x y w h hx hy)
    ∙ get_listed (sample_count w h) f (3 * (w * y + x) + c) 0 (sample_index w h x y c hc hx hy))

below_all : (b : ℕ) (xs : List ℕ) → ((k : ℕ) → k < length xs → get_or xs k 0 ≤ b) → (k : ℕ) → get_or xs k 0 ≤ b
below_all b [] h k = omega arith
below_all b (x ∷ xs) h zero = h 0 (omega arith)
below_all b (x ∷ xs) h (suc k) = below_all b xs (λ i l. h (suc i) (omega (arith, l))) k

sample_below : (w h m : ℕ) (bs : List ℕ) (k : ℕ) → get_or (image_in w h m bs).samples k 0 ≤ m
sample_below w h m bs = below_all m (image_in w h m bs).samples (λ k l.
    let f : ℕ → ℕ = λ k. min (number_in m bs k) m in
    let n = length-listed (sample_count w h) f in
    let e = get_listed (sample_count w h) f k 0 (omega (arith, n, l)) in
    omega (arith, e))

pub image_stored : (w h m : ℕ) (bs : List ℕ) → 1 ≤ w → 1 ≤ h → w ≤ 2048 → h ≤ 2048 → 1 ≤ m → m ≤ 65535 → length bs ≡ byte_count w h m → IsStored w h m bs
image_stored w h m bs a b c d e f g = record {
  image = record {
    some_width = a;
    some_height = b;
    width = c;
    height = d;
    some = e;
    most = f;
    size = length-listed (sample_count w h) (λ k. min (number_in m bs k) m);
    each = sample_below w h m bs;
  };
  size = g;
}
