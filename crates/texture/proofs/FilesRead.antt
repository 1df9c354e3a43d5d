-- A file by its header and what stands behind it.
use Rattle.std.proofs.Common.{◌≡◌, ◌∙◌, ap, sym, refl, subst, ℕ, ◌-◌, ◌*◌, ◌^◌, ◌<◌, ◌≤◌, max, if◌then◌else◌, List, ◌++◌, length, length-append, take, drop, arith, Bool, true, false}
use Rattle.std.specs.Prelude.{nat_le}
use Rattle.std.proofs.lemmas.List.{take-append-drop, length-take-le}
use Rattle.std.proofs.Math.Nat.{mul-le-mul}
use Rattle.std.proofs.Math.Seq.{take-append_seam}
use Rattle.texture.specs.Images.{Image, image_in, byte_count, bytes_each}
use Rattle.texture.specs.Files.{IsHead, IsFile, IsNoFile, IsTexture, IsTooLarge, FilesAreOfOneImage}
use Rattle.texture.specs.declared.header.Header.{Header}
use Rattle.texture.specs.Scans.{cut, IsWhole, HasNoHead, IsCutHead}
use Rattle.texture.proofs.Heads.{head_same}

some_each : (m : ℕ) → 1 ≤ bytes_each m
some_each m = at_least (nat_le m 255)
  where
    at_least : (b : Bool) → 1 ≤ (if b then 1 else 2)
    at_least true = omega arith
    at_least false = omega arith

-- the number of bytes isn't less than either side times three
sides_within : (w h m : ℕ) → 1 ≤ w → 1 ≤ h → (3 * w ≤ byte_count w h m) × (3 * h ≤ byte_count w h m)
sides_within w h m a b =
    let e = some_each m in
    let f : w * 1 ≤ w * h = mul-le-mul (omega arith) b in
    let g : 1 * h ≤ w * h = mul-le-mul a (omega arith) in
    let k : 3 * (w * h) * 1 ≤ 3 * (w * h) * bytes_each m = mul-le-mul (omega arith) e in
    (omega (arith, f, k), omega (arith, g, k))

cut_same : (n : ℕ) → n < 2 ^ 64 → cut n ≡ n
cut_same n h = omega arith

-- numbers that were cut don't fit any bytes
pub whole_cut : (w h m n : ℕ) → n < 2 ^ 64 → IsWhole w h m n → IsWhole (cut w) (cut h) (cut m) n
whole_cut w h m n l k =
    let s = sides_within w h m k.some_width k.some_height in
    let r = k.room in
    let a : cut w ≡ w = cut_same w (omega (arith, s.0, r, l)) in
    let b : cut h ≡ h = cut_same h (omega (arith, s.1, r, l)) in
    let d : cut m ≡ m = let e = k.most_fits in cut_same m (omega (arith, e)) in
    subst (λ x. IsWhole x (cut h) (cut m) n) (sym a) (subst (λ x. IsWhole w x (cut m) n) (sym b) (subst (λ x. IsWhole w h x n) (sym d) k))

pub record AreExact (w h m : ℕ) : Type 0 where
  pub width : cut w ≡ w
  pub height : cut h ≡ h
  pub most : cut m ≡ m

below_exact : (n : ℕ) → cut n < 2 ^ 64 - 1 → cut n ≡ n
below_exact n h = omega (arith, h)

pub whole_exact : (w h m n : ℕ) → n < 2 ^ 64 → IsWhole (cut w) (cut h) (cut m) n → AreExact w h m
whole_exact w h m n l k =
    let s = sides_within (cut w) (cut h) (cut m) k.some_width k.some_height in
    let r = k.room in
    let f = k.most_fits in
    record {
      width = below_exact w (omega (arith, s.0, r, l));
      height = below_exact h (omega (arith, s.1, r, l));
      most = below_exact m (omega (arith, f));
    }

-- a file that was read
pub file_made : (bytes : List ℕ) (w h m : ℕ) (rest : List ℕ) → IsHead bytes w h m rest → IsWhole w h m (length rest) → IsFile bytes (image_in w h m (take (byte_count w h m) rest))
file_made bytes w h m rest i k = record {
  samples = take (byte_count w h m) rest;
  rest = drop (byte_count w h m) rest;
  head = subst (IsHead bytes w h m) (sym (take-append-drop (byte_count w h m) rest)) i;
  some_width = k.some_width;
  some_height = k.some_height;
  some_most = k.some_most;
  most = k.most_fits;
  size = length-take-le (byte_count w h m) rest k.room;
  image = refl;
}

-- what a file says of the header that was read
pub file_whole : (bytes : List ℕ) (p : Image) → (f : IsFile bytes p) → IsWhole p.width p.height p.most (length (f.samples ++ f.rest))
file_whole bytes p f = record {
  some_width = f.some_width;
  some_height = f.some_height;
  some_most = f.some_most;
  most_fits = f.most;
  room = let e = f.size in let d = length-append f.samples f.rest in omega (arith, e, d);
}

pub no_head_no_file : (bytes : List ℕ) → HasNoHead bytes → IsNoFile bytes
no_head_no_file bytes n p f = n p.width p.height p.most (f.samples ++ f.rest) f.head

-- the numbers of a header that was read, where the samples are there, are not cut
exact_whole : (h : Header) (w u m n : ℕ) → h.width ≡ cut w → h.height ≡ cut u → h.most ≡ cut m → IsWhole h.width h.height h.most n → IsWhole (cut w) (cut u) (cut m) n
exact_whole h w u m n a b c k =
    subst (λ x. IsWhole x (cut u) (cut m) n) a (subst (λ x. IsWhole h.width x (cut m) n) b (subst (λ x. IsWhole h.width h.height x n) c k))

cut_whole : (h : Header) (w u m n : ℕ) → h.width ≡ cut w → h.height ≡ cut u → h.most ≡ cut m → IsWhole (cut w) (cut u) (cut m) n → IsWhole h.width h.height h.most n
cut_whole h w u m n a b c k =
    subst (λ x. IsWhole x h.height h.most n) (sym a) (subst (λ x. IsWhole (cut w) x h.most n) (sym b) (subst (λ x. IsWhole (cut w) (cut u) x n) (sym c) k))

head_exact : (bytes : List ℕ) (h : Header) (rest : List ℕ) (n : ℕ) → n < 2 ^ 64 → IsCutHead bytes h rest → IsWhole h.width h.height h.most n → IsHead bytes h.width h.height h.most rest
head_exact bytes h rest n l c k =
    let e = whole_exact c.width c.height c.most n l (exact_whole h c.width c.height c.most n c.width_value c.height_value c.most_value k) in
    subst (λ x. IsHead bytes x h.height h.most rest) (sym (c.width_value ∙ e.width))
    (subst (λ x. IsHead bytes c.width x h.most rest) (sym (c.height_value ∙ e.height))
    (subst (λ x. IsHead bytes c.width c.height x rest) (sym (c.most_value ∙ e.most)) c.text))

pub not_whole : (bytes : List ℕ) (h : Header) (rest : List ℕ) (n : ℕ) → n ≡ length rest → n < 2 ^ 64 → IsCutHead bytes h rest → (IsWhole h.width h.height h.most n → ⊥) → IsNoFile bytes
not_whole bytes h rest n e l c none p f =
    let s = head_same bytes p.width p.height p.most c.width c.height c.most (f.samples ++ f.rest) rest f.head c.text in
    let k = file_whole bytes p f in
    none (cut_whole h c.width c.height c.most n c.width_value c.height_value c.most_value
    (whole_cut c.width c.height c.most n l
    (subst (λ x. IsWhole x c.height c.most n) s.width (subst (λ x. IsWhole p.width x c.most n) s.height
    (subst (λ x. IsWhole p.width p.height x n) s.most (subst (IsWhole p.width p.height p.most) (ap length s.rest ∙ sym e) k))))))

file_of : (bytes : List ℕ) (h : Header) (rest : List ℕ) (n : ℕ) → n ≡ length rest → n < 2 ^ 64 → IsCutHead bytes h rest → IsWhole h.width h.height h.most n →
    IsFile bytes (image_in h.width h.height h.most (take (byte_count h.width h.height h.most) rest))
file_of bytes h rest n e l c k = file_made bytes h.width h.height h.most rest (head_exact bytes h rest n l c k) (subst (IsWhole h.width h.height h.most) e k)

pub too_large : (bytes : List ℕ) (h : Header) (rest : List ℕ) (n : ℕ) → n ≡ length rest → n < 2 ^ 64 → IsCutHead bytes h rest → IsWhole h.width h.height h.most n → 2048 < max h.width h.height → IsTooLarge bytes
too_large bytes h rest n e l c k s = record {
  image = image_in h.width h.height h.most (take (byte_count h.width h.height h.most) rest);
  file = file_of bytes h rest n e l c k;
  sides = s;
}

pub texture_of : (bytes : List ℕ) (h : Header) (rest : List ℕ) (n : ℕ) → n ≡ length rest → n < 2 ^ 64 → IsCutHead bytes h rest → IsWhole h.width h.height h.most n → max h.width h.height ≤ 2048 →
    IsTexture bytes (image_in h.width h.height h.most (take (byte_count h.width h.height h.most) rest))
texture_of bytes h rest n e l c k s = record { file = file_of bytes h rest n e l c k; sides = s }

-- a file is of one image
samples_same : (n : ℕ) (xs ys us vs : List ℕ) → xs ++ us ≡ ys ++ vs → length xs ≡ n → length ys ≡ n → xs ≡ ys
samples_same n xs ys us vs e a b =
    sym (take-append_seam xs us) ∙ ap (take (length xs)) e ∙ ap (λ k. take k (ys ++ vs)) (a ∙ sym b) ∙ take-append_seam ys vs

pub one_image : FilesAreOfOneImage
one_image bytes p q f g =
    let s = head_same bytes p.width p.height p.most q.width q.height q.most (f.samples ++ f.rest) (g.samples ++ g.rest) f.head g.head in
    let c : byte_count p.width p.height p.most ≡ byte_count q.width q.height q.most = ap (λ w. byte_count w p.height p.most) s.width ∙ ap (λ h. byte_count q.width h p.most) s.height ∙ ap (byte_count q.width q.height) s.most in
    let e = samples_same (byte_count q.width q.height q.most) f.samples g.samples f.rest g.rest s.rest (f.size ∙ c) g.size in
    f.image ∙ ap (λ w. image_in w p.height p.most f.samples) s.width ∙ ap (λ h. image_in q.width h p.most f.samples) s.height
    ∙ ap (λ m. image_in q.width q.height m f.samples) s.most ∙ ap (image_in q.width q.height q.most) e ∙ sym g.image
