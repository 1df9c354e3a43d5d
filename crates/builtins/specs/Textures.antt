-- Textures looked up at the places of a grid (RenderMan Interface 3.2, Shading Language, section 15.7): how far s and t go to the neighbours that `Du`
-- and `Dv` take says which level of the texture is read.
use Rattle.std.specs.Prelude.{ℕ, ◌+◌, ◌-◌, ◌*◌, ◌/◌, ◌%◌, ◌==◌, max, ℤ, pos, unsigned_abs, cond, nat_lt, List, [], ◌∷◌, length, get_or, Option, Some, None, ◌≡◌, refl}
use Rattle.fixed_math.specs.Axes.{origin}
use Rattle.fixed_math.specs.Fixed.{sub}
use Rattle.fixed_math.specs.Whole.{first_passing}
use Rattle.texture.specs.Images.{Image}
use Rattle.texture.specs.Levels.{level_of}
use Rattle.texture.specs.Looks.{look_of}
use Rattle.texture.specs.Pyramid.{four, texel_part, square_sum, sum_to, sample}
use Rattle.texture.specs.Slots.{no_image}
use Rattle.sl_ast.specs.declared.typed.Value.{Value}
use Rattle.sl_ast.specs.declared.typed.Value.TheVariants.{Number, Triple, Word}
use Rattle.builtins.specs.Differences.{Lines}
use Rattle.builtins.specs.Values.{number_of}

-- the two places whose values `Du` takes from one another at place i, and those of `Dv`: the later ones and the earlier ones
unfoldable pub later_u : Lines → ℕ → ℕ
later_u g i = cond (nat_lt (i % g.columns + 1) g.columns) (i + 1) i

unfoldable pub earlier_u : Lines → ℕ → ℕ
earlier_u g i = cond (nat_lt (i % g.columns + 1) g.columns) i (i - 1)

unfoldable pub later_v : Lines → ℕ → ℕ
later_v g i = cond (nat_lt (i / g.columns + 1) g.rows) (i + g.columns) i

unfoldable pub earlier_v : Lines → ℕ → ℕ
earlier_v g i = cond (nat_lt (i / g.columns + 1) g.rows) i (i - g.columns)

-- how many 65536ths of a sample's side two numbers lie apart, across so many samples
abbrev pub ways : ℕ → ℤ → ℤ → ℕ
ways side x y = unsigned_abs (sub x y) * side

-- the greater of the ways in s and in t from one place to another
abbrev pub way : Image → (ℕ → ℤ) → (ℕ → ℤ) → ℕ → ℕ → ℕ
way p s t i j = max (ways p.width (s i) (s j)) (ways p.height (t i) (t j))

-- the greater of those to the neighbours
abbrev pub step : Lines → Image → (ℕ → ℤ) → (ℕ → ℤ) → ℕ → ℕ
step g p s t i = max (way p s t (later_u g i) (earlier_u g i)) (way p s t (later_v g i) (earlier_v g i))

-- the look-up at place i in a texture, or black where there is none, by s and t of the places
unfoldable pub looked_up : Lines → Option Image → (ℕ → ℤ) → (ℕ → ℤ) → ℕ → Value
looked_up g None s t i = Triple origin
looked_up g (Some p) s t i = Triple (look_of p (level_of p (pos (step g p s t i))) (s i) (t i))

-- s and t of a look-up's operands, which are its name, s and t
abbrev pub s_of : List Value → ℤ
s_of vs = number_of (get_or vs 1 (Number (pos 0)))

abbrev pub t_of : List Value → ℤ
t_of vs = number_of (get_or vs 2 (Number (pos 0)))

-- the same by the operands of the places
abbrev pub textured : Lines → Option Image → (ℕ → List Value) → ℕ → Value
textured g p f i = looked_up g p (λ j. s_of (f j)) (λ j. t_of (f j)) i

-- the image that a look-up's entry names, where it names one of these
abbrev pub image_named : List Image → Option ℕ → Option Image
image_named ps None = None
image_named ps (Some k) = cond (nat_lt k (length ps)) (Some (get_or ps k no_image)) None

-- the entry at a number's place among numbers; a number that isn't one of them has none
abbrev pub entry_of : List ℕ → List (Option ℕ) → ℕ → Option ℕ
entry_of [] es k = None
entry_of (n ∷ ns) [] k = None
entry_of (n ∷ ns) (e ∷ es) k = cond (n == k) e (entry_of ns es k)

-- worked values on two columns and two rows of places, in four samples: red, green, blue and white
abbrev lines : Lines
lines = record { columns = 2; rows = 2; du = pos 65536; dv = pos 65536 }

abbrev operands : ℤ → ℤ → List Value
operands s t = Word [] ∷ Number s ∷ Number t ∷ []

-- the same s and t at all places: the first sample's middle
in_the_first : textured lines (Some four) (λ i. operands (pos 16384) (pos 16384)) 0 ≡ Triple (record { x = pos 65536; y = pos 0; z = pos 0 })
unfolding looked_up later_u earlier_u later_v earlier_v look_of first_passing texel_part square_sum sum_to sample
in_the_first = refl

-- s goes by four textures from a column to the next, so that the one texel of the last level is read
abbrev four_times : ℕ → List Value
four_times i = operands (pos (262144 * (i % 2))) (pos (65536 * (i / 2)))

in_the_last : textured lines (Some four) four_times 3 ≡ Triple (record { x = pos 32768; y = pos 32768; z = pos 32768 })
unfolding looked_up later_u earlier_u later_v earlier_v look_of first_passing texel_part square_sum sum_to sample
in_the_last = refl

without_texture : textured lines None four_times 3 ≡ Triple origin
unfolding looked_up
without_texture = refl

second_entry : entry_of (3 ∷ 8 ∷ []) (None ∷ Some 5 ∷ []) 8 ≡ Some 5
second_entry = refl

none_named : image_named (four ∷ []) (Some 1) ≡ None
none_named = refl
