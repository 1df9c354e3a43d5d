-- The parts of a primitive's parameters, made by halving, and their halves.
use Rattle.std.specs.Prelude.{ℕ, ◌≤◌, ◌<◌, ◌*◌, ◌+◌, ◌-◌, ◌^◌, ◌≡◌, refl}
use Rattle.patches.specs.Rects.{Rect}

-- of primitive prim: along u the part i of 2 ^ a equal ones, along v the part j of 2 ^ b
pub record Part : Type 0 where
  pub prim : ℕ
  pub a : ℕ
  pub i : ℕ
  pub b : ℕ
  pub j : ℕ

-- a part that at most eight halvings each way have made
pub record IsPart (p : Part) : Type 0 where
  pub depth_u : p.a ≤ 8
  pub depth_v : p.b ≤ 8
  pub place_u : p.i < 2 ^ p.a
  pub place_v : p.j < 2 ^ p.b

-- the parameters of a part, as numerators over 4096: from i / 2 ^ a to (i + 1) / 2 ^ a, and alike along v
abbrev pub rect_of : Part → Rect
rect_of p = record { left = p.i * 2 ^ (12 - p.a); right = (p.i + 1) * 2 ^ (12 - p.a); bottom = p.j * 2 ^ (12 - p.b); top = (p.j + 1) * 2 ^ (12 - p.b) }

-- the whole of a primitive
abbrev pub whole_of : ℕ → Part
whole_of prim = record { prim = prim; a = 0; i = 0; b = 0; j = 0 }

-- the halves along u and along v, the lower parameters first
abbrev pub low_u : Part → Part
low_u p = record { prim = p.prim; a = p.a + 1; i = 2 * p.i; b = p.b; j = p.j }

-- the upper half along u
abbrev pub high_u : Part → Part
high_u p = record { prim = p.prim; a = p.a + 1; i = 2 * p.i + 1; b = p.b; j = p.j }

-- the lower half along v
abbrev pub low_v : Part → Part
low_v p = record { prim = p.prim; a = p.a; i = p.i; b = p.b + 1; j = 2 * p.j }

-- the upper half along v
abbrev pub high_v : Part → Part
high_v p = record { prim = p.prim; a = p.a; i = p.i; b = p.b + 1; j = 2 * p.j + 1 }

-- worked values
rect_of_whole : rect_of (whole_of 7) ≡ record { left = 0; right = 4096; bottom = 0; top = 4096 }
rect_of_whole = refl

rect_of_quarter : rect_of (high_v (low_u (whole_of 7))) ≡ record { left = 0; right = 2048; bottom = 2048; top = 4096 }
rect_of_quarter = refl
