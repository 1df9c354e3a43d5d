-- All numbers of the pixels are at most the greatest one.
use Rattle.std.proofs.Common.{ℕ, zero, suc, ◌≡◌, ◌≤◌, List, [], ◌∷◌, arith}
use Rattle.std.specs.Prelude.{All}
use Rattle.calls.proofs.filters.bytes_of_pictures.Goals as goal

all_two : (P : List ℕ → Type 0) (a b : List ℕ) → P a → P b → All P (a ∷ b ∷ [])
all_two P a b x y zero d lt = x
all_two P a b x y (suc zero) d lt = y
all_two P a b x y (suc (suc k)) d lt = absurd (omega arith)

all_three : (P : ℕ → Type 0) (a b c : ℕ) → P a → P b → P c → All P (a ∷ b ∷ c ∷ [])
all_three P a b c x y z zero d lt = x
all_three P a b c x y z (suc zero) d lt = y
all_three P a b c x y z (suc (suc zero)) d lt = z
all_three P a b c x y z (suc (suc (suc k))) d lt = absurd (omega arith)

pub band_bytes-requires : goal.band_bytes-requires
band_bytes-requires g c =
    let one : c.filtered-options.result.one ≡ 255 = c.filtered-options.ensures in
    let P : ℕ → Type 0 = λ v. v ≤ c.filtered-options.result.one in
    all_two (λ p. All P p) _ _
    (all_three P 0 128 255 (omega (arith, one)) (omega (arith, one)) (omega (arith, one)))
    (all_three P 10 13 1 (omega (arith, one)) (omega (arith, one)) (omega (arith, one)))
