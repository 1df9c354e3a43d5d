-- The variables of a quadric at the corners of its patches (RenderMan Interface 3.2, section 5, on quadrics). Its patches are four in
-- a row around it, and a sphere has two such rows, so there are five corners in a row. A value that varies is given at the four
-- corners of the whole quadric, and is bilinear between them.
use Rattle.std.specs.Prelude.{ℕ, ◌+◌, ◌*◌, ◌/◌, ◌%◌, ◌^◌, ℤ, pos, List, [], ◌∷◌, map, if◌then◌else◌, ◌≡◌, refl}
use Rattle.std.specs.List.{range_with_len}
use Rattle.fixed_math.specs.Blossom.{denominator, mix}
use Rattle.fixed_math.specs.Whole.{floor_by}
use Rattle.scene.specs.declared.params.Kind.{Kind}
use Rattle.scene.specs.declared.params.Kind.TheVariants as kinds
use Rattle.scene.specs.declared.params.Values.{Values}
use Rattle.scene.specs.declared.params.Values.TheVariants.{Numbers, Strings}
use Rattle.scene.specs.declared.params.Param.{Param}
use Rattle.scene.specs.Kinds.{width}
use Rattle.scene.specs.Seats.{varies}
use Rattle.primitives.specs.Points.{item}

-- the bilinear value of four numbers, one floor of one exact fraction
abbrev pub blended : ℕ → ℕ → ℤ → ℤ → ℤ → ℤ → ℤ
blended u v a b c d = floor_by (mix v (mix u a b) (mix u c d)) (denominator ^ 2)

-- the corners of the patches of a quadric of so many halves
abbrev pub corners_in : ℕ → ℕ
corners_in halves = 5 * (halves + 1)

-- number m of those at the corners, of which a value has w: at a quarter of u, and a half of v where there are two
abbrev pub blended_at : ℕ → ℕ → List ℤ → ℕ → ℤ
blended_at halves w xs m =
    blended (1024 * (m / w % 5)) (4096 / halves * (m / w / 5)) (item xs (m % w)) (item xs (w + m % w)) (item xs (2 * w + m % w)) (item xs (3 * w + m % w))

abbrev pub corner_numbers : ℕ → ℕ → List ℤ → List ℤ
corner_numbers halves w xs = map (blended_at halves w xs) (range_with_len 0 (w * corners_in halves))

-- strings aren't blended: each corner has the first
abbrev pub corner_texts : ℕ → List (List ℕ) → List (List ℕ)
corner_texts halves [] = []
corner_texts halves (t ∷ ts) = map (λ _. t) (range_with_len 0 (corners_in halves))

-- the values of a variable at all corners of a quadric's patches
abbrev pub corner_values : ℕ → Kind → Values → Values
corner_values halves k (Numbers xs) = Numbers (corner_numbers halves (width k) xs)
corner_values halves k (Strings ts) = Strings (corner_texts halves ts)

-- the variable with its values at the corners, where it varies
abbrev pub spread_param : ℕ → Param → Param
spread_param halves p = record {
  name = p.name;
  class = p.class;
  kind = p.kind;
  values = if varies p.class then corner_values halves p.kind p.values else p.values;
}

-- the variables of a quadric with a value at each corner of its patches
abbrev pub spread : ℕ → List Param → List Param
spread halves ps = map (spread_param halves) ps

-- worked values: from 0 to 1 around a sphere, and from 0 to 1 from its south to its north
around : corner_values 2 kinds.Float (Numbers (pos 0 ∷ pos 65536 ∷ pos 0 ∷ pos 65536 ∷ []))
    ≡ Numbers (pos 0 ∷ pos 16384 ∷ pos 32768 ∷ pos 49152 ∷ pos 65536 ∷ pos 0 ∷ pos 16384 ∷ pos 32768 ∷ pos 49152 ∷ pos 65536 ∷ pos 0 ∷ pos 16384 ∷ pos 32768 ∷ pos 49152 ∷ pos 65536 ∷ [])
around = refl

northward : corner_values 2 kinds.Float (Numbers (pos 0 ∷ pos 0 ∷ pos 65535 ∷ pos 65535 ∷ []))
    ≡ Numbers (pos 0 ∷ pos 0 ∷ pos 0 ∷ pos 0 ∷ pos 0 ∷ pos 32767 ∷ pos 32767 ∷ pos 32767 ∷ pos 32767 ∷ pos 32767 ∷ pos 65535 ∷ pos 65535 ∷ pos 65535 ∷ pos 65535 ∷ pos 65535 ∷ [])
northward = refl
