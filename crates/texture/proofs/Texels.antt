-- A texel by the sums of its channels.
use Rattle.std.proofs.Common.{◌≡◌, ◌∙◌, ap, sym, subst, ℕ, ◌*◌, ◌/◌, ◌^◌, ◌≤◌, pos}
use Rattle.fixed_math.specs.declared.vec3.Vec3.{Vec3}
use Rattle.texture.specs.Images.{Image, IsImage}
use Rattle.texture.specs.Pyramid.{square_sum, texel_part, texel, inside}
use Rattle.texture.proofs.Tables.{square_sum-below}

module _ (p : Image) (l x y whole : ℕ) (is : whole ≡ p.most * (inside p.width (2 ^ l) x * inside p.height (2 ^ l) y)) where
  pub sum_most : (c sum : ℕ) → IsImage p → sum ≡ square_sum p c (2 ^ l) x y → sum ≤ whole
  sum_most c sum h e = subst (λ n. sum ≤ n) (sym is) (subst (λ n. n ≤ p.most * (inside p.width (2 ^ l) x * inside p.height (2 ^ l) y)) (sym e) (square_sum-below p c (2 ^ l) x y h))

  pub part_is : (c sum part : ℕ) → sum ≡ square_sum p c (2 ^ l) x y → part ≡ 65536 * sum / whole → part ≡ texel_part p (2 ^ l) x y c
  unfolding texel_part
  part_is c sum part e d = d ∙ ap (λ n. 65536 * n / whole) e ∙ ap (λ n. 65536 * square_sum p c (2 ^ l) x y / n) is

abbrev pub colour : ℕ → ℕ → ℕ → Vec3
colour r g b = record { x = pos r; y = pos g; z = pos b }

pub texel_is : (p : Image) (l x y r g b : ℕ) → r ≡ texel_part p (2 ^ l) x y 0 → g ≡ texel_part p (2 ^ l) x y 1 → b ≡ texel_part p (2 ^ l) x y 2 → colour r g b ≡ texel p l x y
texel_is p l x y r g b er eg eb =
    ap (λ n. colour n g b) er ∙ ap (λ n. colour (texel_part p (2 ^ l) x y 0) n b) eg ∙ ap (λ n. colour (texel_part p (2 ^ l) x y 0) (texel_part p (2 ^ l) x y 1) n) eb
