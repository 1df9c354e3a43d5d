-- What the areas of a triangle at a place inside it are known to be.
use Rattle.std.specs.Prelude.{◌≡◌, pos, ◌+ℤ◌, ◌≤ℤ◌, ◌<ℤ◌}
use Rattle.hider.specs.declared.areas.Areas.{Areas}

-- parts of a whole that is above 0, none of them below 0
pub record AreAreas (w : Areas) : Type 0 where
  pub low_a : pos 0 ≤ℤ w.a
  pub low_b : pos 0 ≤ℤ w.b
  pub low_c : pos 0 ≤ℤ w.c
  pub sum : w.whole ≡ w.a +ℤ w.b +ℤ w.c
  pub some : pos 0 <ℤ w.whole
