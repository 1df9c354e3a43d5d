-- Exact decimals of fixed-point numbers.
use Rattle.std.specs.Prelude.{ℕ, zero, suc, ◌+◌, ◌*◌, ◌/◌, ◌%◌, ◌==◌, ℤ, pos, negsuc, unsigned_abs, List, [], ◌∷◌, ◌++◌, codes, decimal, if◌then◌else◌, ◌≡◌, refl}
use Rattle.std.specs.Fmt.{digits}

-- the first digits after the point of rest / ones, which is below 1: long division, to where nothing is left
unfoldable pub places : ℕ → ℕ → ℕ → List ℕ
places zero ones rest = []
places (suc n) ones rest = if rest == 0 then [] else (48 + 10 * rest / ones) ∷ places n ones (10 * rest % ones)

-- what follows the whole part: nothing where the number is whole
abbrev pub fraction : ℕ → ℕ → List ℕ
fraction ones rest = if rest == 0 then [] else 46 ∷ places 32 ones rest

abbrev pub sign : ℤ → List ℕ
sign (pos n) = []
sign (negsuc n) = codes "-"

-- the decimal raw / ones; it is exact where ones is a power of 2 of at most 2 ^ 32
unfoldable pub exact : ℕ → ℤ → List ℕ
exact ones raw = sign raw ++ (decimal (unsigned_abs raw / ones) ++ fraction ones (unsigned_abs raw % ones))

-- worked values
half : exact 65536 (pos 32768) ≡ codes "0.5"
unfolding digits places exact
half = refl

least : exact 65536 (pos 1) ≡ codes "0.0000152587890625"
unfolding digits places exact
least = refl

below_nothing : exact 256 (negsuc 383) ≡ codes "-1.5"
unfolding digits places exact
below_nothing = refl

whole : exact 65536 (pos 196608) ≡ codes "3"
unfolding digits places exact
whole = refl
