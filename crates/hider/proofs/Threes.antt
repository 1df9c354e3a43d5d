-- What a covered place is to the corners of a triangle.
use Rattle.std.proofs.Common.{◌≡◌, true}
use Rattle.std.proofs.lemmas.Bool.{and_parts}
use Rattle.std.specs.Prelude.{pos, ◌≤ℤ◌, ◌<ℤ◌, ◌-ℤ◌, ◌&&◌}
use Rattle.fixed_math.specs.Spots.{Spot}
use Rattle.fixed_math.specs.Edges.{edge, owns, is_inside}
use Rattle.fixed_math.proofs.Around.{IsAround, inside_around, by_side-true}
use Rattle.hider.specs.Coverage.{is_in_three}

pub three_around : (a b c s : Spot) → is_in_three a b c s ≡ true → pos 0 <ℤ edge a b c → IsAround a b c s
unfolding is_in_three is_inside
three_around a b c s e h =
    let f = and_parts (is_inside a b s) (is_inside b c s && is_inside c a s) e in
    let g = and_parts (is_inside b c s) (is_inside c a s) f.1 in
    inside_around a b c s (by_side-true (edge a b s) (owns (b.x -ℤ a.x) (b.y -ℤ a.y)) f.0)
    (by_side-true (edge b c s) (owns (c.x -ℤ b.x) (c.y -ℤ b.y)) g.0) (by_side-true (edge c a s) (owns (a.x -ℤ c.x) (a.y -ℤ c.y)) g.1) h

-- the place lies on no negative side
pub sides_of_three : (a b c s : Spot) → is_in_three a b c s ≡ true → (pos 0 ≤ℤ edge a b s) × (pos 0 ≤ℤ edge b c s) × (pos 0 ≤ℤ edge c a s)
unfolding is_in_three is_inside
sides_of_three a b c s e =
    let f = and_parts (is_inside a b s) (is_inside b c s && is_inside c a s) e in
    let g = and_parts (is_inside b c s) (is_inside c a s) f.1 in (
      by_side-true (edge a b s) (owns (b.x -ℤ a.x) (b.y -ℤ a.y)) f.0,
      by_side-true (edge b c s) (owns (c.x -ℤ b.x) (c.y -ℤ b.y)) g.0,
      by_side-true (edge c a s) (owns (a.x -ℤ c.x) (a.y -ℤ c.y)) g.1,
    )
