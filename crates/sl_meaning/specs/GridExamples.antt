-- Worked values of the meaning on a grid, of statements over lights and of a light's answer.
use Rattle.std.specs.Prelude.{ℕ, pos, neg_ℤ, None, codes, Bool, true, false, [], ◌∷◌, get_or, List, ◌≡◌, refl}
use Rattle.fixed_math.specs.declared.vec3.Vec3.{Vec3}
use Rattle.transforms.specs.declared.spaces.Spaces.{Spaces}
use Rattle.builtins.specs.Differences.{along_u}
use Rattle.builtins.specs.Lights.{ambient, unlit, lit}
use Rattle.builtins.specs.Table.{of_two}
use Rattle.builtins.specs.Textures.{textured}
use Rattle.sl_ast.specs.declared.kinds.LightStmt.TheVariants.{Illuminance, Illuminate}
use Rattle.sl_ast.specs.declared.kinds.NodeType.TheVariants as nodes
use Rattle.sl_ast.specs.declared.kinds.Predefined.TheVariants as names
use Rattle.sl_ast.specs.declared.kinds.SetOperator.TheVariants as sets
use Rattle.sl_ast.specs.declared.kinds.SlKind.TheVariants as shaders
use Rattle.sl_ast.specs.declared.kinds.SlType.TheVariants as types
use Rattle.sl_ast.specs.declared.operations.Difference.TheVariants.{Du}
use Rattle.sl_ast.specs.declared.operations.Look.TheVariants.{Here}
use Rattle.sl_ast.specs.declared.operations.Operation.TheVariants as operations
use Rattle.sl_ast.specs.declared.operations.ValueOperation.TheVariants as ops
use Rattle.sl_ast.specs.declared.typed.Value.{Value}
use Rattle.sl_ast.specs.declared.typed.Value.TheVariants.{Number, Triple, Word}
use Rattle.sl_ast.specs.declared.typed.Variable.TheVariants.{Level, Predefined}
use Rattle.sl_ast.specs.Examples.{at}
use Rattle.sl_ast.specs.Typed as T
use Rattle.sl_ast.specs.Typed.{Expr, number, word, variable, apply, none, more, Stmt, assign, block, repeat, lights, leave, Stmts, done, first}
use Rattle.sl_meaning.specs.Environment.{Env, Around, bare, with_name, zero_value}
use Rattle.sl_meaning.specs.Alone.{run}
use Rattle.sl_meaning.specs.Grid.{Envs, values, grid}
use Rattle.sl_meaning.specs.Dark.{dark}
use Rattle.sl_meaning.specs.Runs.{light_answer}

abbrev num : ℕ → Value
num n = Number (pos n)

abbrev of : ℕ → Expr
of n = number (pos n) (at 0)

abbrev level : ℕ → Expr
level k = variable (Level k) nodes.Float (at 0)

-- two columns and two rows, half a unit of u from one column to the next
abbrev small : Spaces → Around
small sp = record { lines = record { columns = 2; rows = 2; du = pos 32768; dv = pos 65536 }; spaces = sp; lights = []; images = λ k. None }

-- one variable that is 1, 3, 10 and 20 at the four places
abbrev four : Envs
four i = record (bare 5 7) { values = get_or (num 65536 ∷ num 196608 ∷ num 655360 ∷ num 1310720 ∷ []) i zero_value ∷ [] }

abbrev du_at : Spaces → ℕ → Value
du_at sp i = (values (apply (operations.Difference Du) (more (level 0) none) nodes.Float (at 0)) (false ∷ []) (small sp) 9 four).0 i

-- (3 - 1) / 0.5 = 4 in the first row and (20 - 10) / 0.5 = 20 in the second; the last column has no next one and takes the step to it
du_first : (sp : Spaces) → du_at sp 0 ≡ num 262144
unfolding along_u
du_first sp = refl

du_in_last_column : (sp : Spaces) → du_at sp 1 ≡ num 262144
unfolding along_u
du_in_last_column sp = refl

du_second_row : (sp : Spaces) → du_at sp 2 ≡ num 1310720
unfolding along_u
du_second_row sp = refl

du_at_the_end : (sp : Spaces) → du_at sp 3 ≡ num 1310720
unfolding along_u
du_at_the_end sp = refl

-- texture("a") looks up at s and t
looked : (sp : Spaces) (i : ℕ) (s t : ℕ → Value) →
    (values (apply (operations.Look Here) (more (word (codes "a") (at 0)) none) nodes.Color (at 0)) [] (small sp) 9 (λ j. with_name names.S (s j) (with_name names.T (t j) (bare 5 7)))).0 i ≡
    textured (small sp).lines None (λ j. Word (codes "a") ∷ s j ∷ t j ∷ []) i
looked sp i s t = refl

-- a uniform count and a varying sum, which begins as the place's number
abbrev counted : Envs
counted i = record (bare 5 7) { values = num 0 ∷ num i ∷ [] }

abbrev scope : List Bool
scope = true ∷ false ∷ []

abbrev plus : ℕ → ℕ → Stmt
plus k n = assign (Level k) sets.Add types.Float (of n) (at 0)

abbrev less : Expr → Expr → Expr
less a b = apply (operations.Value ops.Less) (more a (more b none)) nodes.Test (at 0)

-- while (count < 2) { count += 1; sum += 10; }
abbrev together : Stmt
together = repeat (less (level 0) (of 2)) (block (first (plus 0 1) (first (plus 1 10) done)) (at 0)) (at 0)

-- all places take the two turns of the first one: the sum at place 3 is 3 + 20, and the uniform budget fell from 5 to 3 there too
uniform_loop : (sp : Spaces) → (grid together scope (small sp) 9 counted).1 3 ≡ record (bare 3 7) { values = num 2 ∷ num 23 ∷ [] }
unfolding of_two
uniform_loop sp = refl

-- while (sum < 3) sum += 1;
abbrev apart : Stmt
apart = repeat (less (level 1) (of 3)) (plus 1 1) (at 0)

-- each place takes turns of its own: three at the first place, where the sum begins as 0, and none at the last, where it is 3 already
varying_loop : (sp : Spaces) → (grid apart scope (small sp) 9 counted).1 0 ≡ record (bare 5 4) { values = num 0 ∷ num 3 ∷ [] }
unfolding of_two
varying_loop sp = refl

no_turn : (sp : Spaces) → (grid apart scope (small sp) 9 counted).1 3 ≡ record (bare 5 7) { values = num 0 ∷ num 3 ∷ [] }
unfolding of_two
no_turn sp = refl

abbrev vec : ℕ → ℕ → ℕ → Vec3
vec x y z = record { x = pos x; y = pos y; z = pos z }

-- two lights, whose directions are from them to the point
abbrev lit_by_two : Spaces → Around
lit_by_two sp = record (dark sp) { lights = (λ p. lit (vec 1 2 3) (vec 4 5 6)) ∷ (λ p. lit (vec 7 8 9) (vec 10 11 12)) ∷ [] }

-- while (1) illuminance (P) { Ci += Cl; break; }
abbrev first_light : Stmt
first_light =
    repeat (of 65536) (lights Illuminance (more (variable (Predefined names.P) nodes.Point (at 0)) none)
    (block (first (assign (Predefined names.Ci) sets.Add types.Color (variable (Predefined names.Cl) nodes.Color (at 0)) (at 0))
    (first (leave (at 0)) done)) (at 0)) (at 0)) (at 0)

abbrev behind_break : Spaces → Env
behind_break sp = (run first_light [] true (lit_by_two sp) 9 (bare 5 7)).1

-- the break leaves the second light and the loop: Ci is 0 and the first colour, L points to the first light, and one turn was taken
broken_colour : (sp : Spaces) → (behind_break sp).named names.Ci ≡ Triple (vec 4 5 6)
unfolding of_two
broken_colour sp = refl

broken_direction : (sp : Spaces) → (behind_break sp).named names.L ≡ Triple (record { x = neg_ℤ (pos 1); y = neg_ℤ (pos 2); z = neg_ℤ (pos 3) })
unfolding of_two
broken_direction sp = refl

broken_turns : (sp : Spaces) → (behind_break sp).own ≡ 6
unfolding of_two
broken_turns sp = refl

-- a light of one parameter, a triple: its body
abbrev light : T.Stmts → T.Tree
light body = record {
  kind = shaders.Light;
  params = record { name = codes "from"; kind = types.Point; uniform = true } ∷ [];
  defaults = record { value = T.number (pos 0) (at 2); place = at 1 } ∷ [];
  body = body;
  place = at 0;
}

abbrev from : T.Expr
from = T.variable (Level 0) nodes.Point (at 4)

-- Cl = 0.5;
abbrev half : T.Stmt
half = T.assign (Predefined names.Cl) sets.Set types.Color (T.number (pos 32768) (at 6)) (at 5)

-- illuminate (from) Cl = 0.5;
abbrev lamp : T.Tree
lamp = light (T.first (T.lights Illuminate (T.more from T.none) half (at 3)) T.done)

-- its light goes from (1, 2, 3) to (5, 5, 5): along (4, 3, 2)
lamp_answer : (sp : Spaces) → light_answer lamp sp (Triple (vec 1 2 3) ∷ []) (vec 5 5 5) ≡ lit (vec 4 3 2) (vec 32768 32768 32768)
lamp_answer sp = refl

-- without a statement over lights it is ambient
ambient_answer : (sp : Spaces) → light_answer (light (T.first half T.done)) sp (Triple (vec 1 2 3) ∷ []) (vec 5 5 5) ≡ ambient (vec 32768 32768 32768)
ambient_answer sp = refl

-- if (0 == 1) illuminate (from) Cl = 0.5; never runs, and the light gives nothing
abbrev never : T.Stmt
never =
    T.test (T.apply (operations.Value ops.Equal) (T.more (T.number (pos 0) (at 8)) (T.more (T.number (pos 65536) (at 9)) T.none)) nodes.Test (at 7))
    (T.lights Illuminate (T.more from T.none) half (at 3)) (at 2)

no_answer : (sp : Spaces) → light_answer (light (T.first never T.done)) sp (Triple (vec 1 2 3) ∷ []) (vec 5 5 5) ≡ unlit
unfolding of_two
no_answer sp = refl
