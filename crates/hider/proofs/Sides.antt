-- The sides of a triangle's edges on which a place lies.
use Rattle.std.proofs.Common.{◌≡◌, ◌<◌, ◌^◌, ap, refl, sym, ◌∙◌, Bool, true, false, to_z, of_z}
use Rattle.std.specs.Prelude.{ℤ, ◌-ℤ◌}
use Rattle.std.specs.Int.{w64}
use lib.Signed.{mag}
use Rattle.fixed_math.specs.Spots.{Spot}
use Rattle.fixed_math.specs.Edges.{edge, owns, by_side, is_inside}
use Rattle.hider.specs.Coverage.{is_in_three}
use Rattle.hider.proofs.Small.{read_whole}

pub inside_by : (a b s : Spot) (e : ℤ) (o r : Bool) → mag e < 2 ^ 63 → r ≡ by_side (to_z w64 (of_z w64 e)) o → e ≡ edge a b s → o ≡ owns (b.x -ℤ a.x) (b.y -ℤ a.y) → is_inside a b s ≡ r
unfolding is_inside
inside_by a b s e o r m h f g = sym (h ∙ ap (λ z. by_side z o) (read_whole e m ∙ f) ∙ ap (λ d. by_side (edge a b s) d) g)

pub first_out : (a b c s : Spot) → is_inside a b s ≡ false → is_in_three a b c s ≡ false
unfolding is_in_three
first_out a b c s h = rw h refl

pub second_out : (a b c s : Spot) → is_inside a b s ≡ true → is_inside b c s ≡ false → is_in_three a b c s ≡ false
unfolding is_in_three
second_out a b c s g h = rw (g, h) refl

pub third_out : (a b c s : Spot) → is_inside a b s ≡ true → is_inside b c s ≡ true → is_inside c a s ≡ false → is_in_three a b c s ≡ false
unfolding is_in_three
third_out a b c s f g h = rw (f, g, h) refl

pub all_in : (a b c s : Spot) → is_inside a b s ≡ true → is_inside b c s ≡ true → is_inside c a s ≡ true → is_in_three a b c s ≡ true
unfolding is_in_three
all_in a b c s f g h = rw (f, g, h) refl
