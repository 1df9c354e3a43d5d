-- The bases of bicubic patches (RenderMan Interface 3.2, section 5.2, Basis): what each makes of a row of four numbers in Bezier form.
use Rattle.std.specs.Prelude.{ℕ, ◌≤◌, ◌==◌, ℤ, pos, neg_ℤ, ◌+ℤ◌, ◌*ℤ◌, unsigned_abs, ◌&&◌, if◌then◌else◌, List, [], ◌∷◌, ◌≡◌, refl}
use Rattle.fixed_math.specs.Whole.{floor_by}
use Rattle.mesh_basis.specs.declared.blend.Weights.{Weights}
use Rattle.mesh_basis.specs.declared.basis.Basis.{Basis}
use Rattle.mesh_basis.specs.declared.basis.Basis.TheVariants.{Bezier, BSpline, CatmullRom, Hermite, Power}

abbrev pub sixths : ℤ → ℤ → ℤ → ℤ → Weights
sixths a b c d = record { first = a; second = b; third = c; fourth = d }

-- the one at place 0, 1, 2 or 3
abbrev pub one_at : {A : Type 0} → ℕ → A → A → A → A → A
one_at k a b c d = if k == 0 then a else if k == 1 then b else if k == 2 then c else d

-- the weights, in sixths, of a row's four numbers in the Bezier number at place 0, 1, 2 or 3
abbrev pub weights : Basis → ℕ → Weights
weights Bezier k = one_at k
    (sixths (pos 6) (pos 0) (pos 0) (pos 0))
    (sixths (pos 0) (pos 6) (pos 0) (pos 0))
    (sixths (pos 0) (pos 0) (pos 6) (pos 0))
    (sixths (pos 0) (pos 0) (pos 0) (pos 6))
weights BSpline k = one_at k
    (sixths (pos 1) (pos 4) (pos 1) (pos 0))
    (sixths (pos 0) (pos 4) (pos 2) (pos 0))
    (sixths (pos 0) (pos 2) (pos 4) (pos 0))
    (sixths (pos 0) (pos 1) (pos 4) (pos 1))
weights CatmullRom k = one_at k
    (sixths (pos 0) (pos 6) (pos 0) (pos 0))
    (sixths (neg_ℤ (pos 1)) (pos 6) (pos 1) (pos 0))
    (sixths (pos 0) (pos 1) (pos 6) (neg_ℤ (pos 1)))
    (sixths (pos 0) (pos 0) (pos 6) (pos 0))
weights Hermite k = one_at k
    (sixths (pos 6) (pos 0) (pos 0) (pos 0))
    (sixths (pos 6) (pos 2) (pos 0) (pos 0))
    (sixths (pos 0) (pos 0) (pos 6) (neg_ℤ (pos 2)))
    (sixths (pos 0) (pos 0) (pos 6) (pos 0))
weights Power k = one_at k
    (sixths (pos 0) (pos 0) (pos 0) (pos 6))
    (sixths (pos 0) (pos 0) (pos 2) (pos 6))
    (sixths (pos 0) (pos 2) (pos 4) (pos 6))
    (sixths (pos 6) (pos 6) (pos 6) (pos 6))

pub record AreSmall (w : Weights) : Type 0 where
  pub first : unsigned_abs w.first ≤ 8
  pub second : unsigned_abs w.second ≤ 8
  pub third : unsigned_abs w.third ≤ 8
  pub fourth : unsigned_abs w.fourth ≤ 8

-- the sum of the weights times four numbers
abbrev pub blend : Weights → ℤ → ℤ → ℤ → ℤ → ℤ
blend w a b c d = w.first *ℤ a +ℤ (w.second *ℤ b +ℤ (w.third *ℤ c +ℤ w.fourth *ℤ d))

-- the blend of row y of control numbers, c x y being that in column x and row y
abbrev pub across : Weights → (ℕ → ℕ → ℤ) → ℕ → ℤ
across w c y = blend w (c 0 y) (c 1 y) (c 2 y) (c 3 y)

-- the Bezier number in column x and row y, in sixths of sixths: both directions exact
abbrev pub exact : Basis → Basis → (ℕ → ℕ → ℤ) → ℕ → ℕ → ℤ
exact bu bv c x y = let w = weights bu x in blend (weights bv y) (across w c 0) (across w c 1) (across w c 2) (across w c 3)

-- rounded down once
abbrev pub bezier : Basis → Basis → (ℕ → ℕ → ℤ) → ℕ → ℕ → ℤ
bezier bu bv c x y = floor_by (exact bu bv c x y) 36

-- worked values: the rows of each basis, of numbers that are the same along v
abbrev row_of : Basis → ℤ → ℤ → ℤ → ℤ → List ℤ
row_of b p0 p1 p2 p3 =
    let c : ℕ → ℕ → ℤ = λ x y. one_at x p0 p1 p2 p3 in
    bezier b Bezier c 0 0 ∷ bezier b Bezier c 1 0 ∷ bezier b Bezier c 2 0 ∷ bezier b Bezier c 3 0 ∷ []

row_of_bezier : row_of Bezier (pos 1) (pos 2) (pos 3) (pos 4) ≡ pos 1 ∷ pos 2 ∷ pos 3 ∷ pos 4 ∷ []
row_of_bezier = refl

row_of_bspline : row_of BSpline (pos 0) (pos 0) (pos 0) (pos 393216) ≡ pos 0 ∷ pos 0 ∷ pos 0 ∷ pos 65536 ∷ []
row_of_bspline = refl

row_of_catmull_rom : row_of CatmullRom (pos 0) (pos 6) (pos 12) (pos 0) ≡ pos 6 ∷ pos 8 ∷ pos 13 ∷ pos 12 ∷ []
row_of_catmull_rom = refl

row_of_hermite : row_of Hermite (pos 1) (pos 3) (pos 10) (pos 6) ≡ pos 1 ∷ pos 2 ∷ pos 8 ∷ pos 10 ∷ []
row_of_hermite = refl

row_of_power : row_of Power (pos 1) (pos 3) (pos 3) (pos 9) ≡ pos 9 ∷ pos 10 ∷ pos 12 ∷ pos 16 ∷ []
row_of_power = refl

-- a fraction between 0 and -1 goes down
rounded_down : row_of BSpline (neg_ℤ (pos 1)) (pos 0) (pos 0) (pos 0) ≡ neg_ℤ (pos 1) ∷ pos 0 ∷ pos 0 ∷ pos 0 ∷ []
rounded_down = refl

-- 4/6 of 4/6 of 7 is 3 and a part; 4/6 of the 4 that 4/6 of 7 rounds down to would be 2 and a part
abbrev inner : ℕ → ℕ → ℤ
inner x y = if x == 1 && y == 1 then pos 7 else pos 0

rounded_once : bezier BSpline BSpline inner 1 1 ≡ pos 3
rounded_once = refl
