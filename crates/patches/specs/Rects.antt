-- Rectangles of parameters, in numerators over 4096.
use Rattle.std.specs.Prelude.{ℕ, ◌≤◌}
use Rattle.fixed_math.specs.Blossom.{denominator}

pub record Rect : Type 0 where
  pub left : ℕ
  pub right : ℕ
  pub bottom : ℕ
  pub top : ℕ

-- the sides are in order and within the unit square
pub record IsRect (r : Rect) : Type 0 where
  pub across : r.left ≤ r.right
  pub right_in : r.right ≤ denominator
  pub up : r.bottom ≤ r.top
  pub top_in : r.top ≤ denominator

-- the parameters u and v lie in r
pub record IsAt (r : Rect) (u v : ℕ) : Type 0 where
  pub from_left : r.left ≤ u
  pub to_right : u ≤ r.right
  pub from_bottom : r.bottom ≤ v
  pub to_top : v ≤ r.top

-- q is a part of r
pub record IsInside (q r : Rect) : Type 0 where
  pub left : r.left ≤ q.left
  pub right : q.right ≤ r.right
  pub bottom : r.bottom ≤ q.bottom
  pub top : q.top ≤ r.top
