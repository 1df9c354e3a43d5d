-- Which code is valid in a shader of some kind.
use Rattle.std.specs.Prelude.{ℕ, ◌+◌, Bool, true, false, ◌&&◌, ◌||◌, not, max, List, [], ◌∷◌, ◌≡◌, refl}
use Rattle.sl_ast.specs.declared.kinds.SlKind.{SlKind}
use Rattle.sl_ast.specs.declared.kinds.SlKind.TheVariants.{Surface, Light}
use Rattle.sl_ast.specs.declared.operations.Difference.TheVariants as differences
use Rattle.sl_ast.specs.Names.{has_surface, is_surface, has_lights}
use Rattle.builtins.specs.declared.shape.Shape.TheVariants as shapes
use Rattle.grid_code.specs.declared.code.Register.{Register}
use Rattle.grid_code.specs.declared.code.Register.TheVariants.{Varying}
use Rattle.grid_code.specs.declared.code.Source.{Source}
use Rattle.grid_code.specs.declared.code.Source.TheVariants.{Constant, Copy, Into, Apply}
use Rattle.grid_code.specs.Code.{Block, end, put, differ, sum, texture, branch, loops, lights, breaks, continues}
use Rattle.grid_code.specs.Masked.{same_shape}
use Rattle.grid_code.specs.Shapes.{register_class, register_shape, difference_shape, source_shape}

-- operands: at most three, three, and one to three
abbrev pub at_most_three : List Register → Bool
at_most_three [] = true
at_most_three (a ∷ []) = true
at_most_three (a ∷ b ∷ []) = true
at_most_three (a ∷ b ∷ c ∷ []) = true
at_most_three _ = false

abbrev pub are_three : List Register → Bool
are_three (a ∷ b ∷ c ∷ []) = true
are_three _ = false

abbrev pub one_to_three : List Register → Bool
one_to_three [] = false
one_to_three qs = at_most_three qs

abbrev pub has_operands : Source → Bool
has_operands (Constant v) = true
has_operands (Copy q) = true
has_operands (Into s q) = true
has_operands (Apply op qs) = one_to_three qs

-- registers take values of their shape; operands are few; what is over lights stands in the kinds of shaders that have it; break and continue
-- stand in a loop, and differences and look-ups in uniform control of a shader of surfaces. `l` says that the block stands in a loop, `u` that it does in
-- uniform control.
abbrev pub is_placed : SlKind → Bool → Bool → Block → Bool
is_placed k l u end = true
is_placed k l u (put r o x) = same_shape (source_shape o) (register_shape r) && (has_operands o && is_placed k l u x)
is_placed k l u (differ r d q x) = u && (has_surface k && (same_shape (difference_shape d (register_shape q)) (register_shape r) && is_placed k l u x))
is_placed k l u (sum r which qs x) = is_surface k && (same_shape shapes.Triple (register_shape r) && (at_most_three qs && is_placed k l u x))
is_placed k l u (texture r m qs x) = u && (has_surface k && (same_shape shapes.Triple (register_shape r) && (are_three qs && is_placed k l u x)))
is_placed k l u (branch t a b x) = is_placed k l (u && register_class t) a && (is_placed k l (u && register_class t) b && is_placed k l u x)
is_placed k l u (loops v d t e a x) = is_placed k false (u && v) d && (is_placed k false (u && v) e && (is_placed k true (u && v) a && is_placed k l u x))
is_placed k l u (lights w qs a x) = has_lights k w && (at_most_three qs && (is_placed k l false a && is_placed k l u x))
is_placed k l u (breaks x) = l && is_placed k l u x
is_placed k l u (continues x) = l && is_placed k l u x

-- how many blocks lie in one another within a block
abbrev pub nesting : Block → ℕ
nesting end = 0
nesting (put r o x) = nesting x
nesting (differ r d q x) = nesting x
nesting (sum r which qs x) = nesting x
nesting (texture r k qs x) = nesting x
nesting (branch t a b x) = max (1 + max (nesting a) (nesting b)) (nesting x)
nesting (loops u d t e a x) = max (1 + max (nesting d) (max (nesting e) (nesting a))) (nesting x)
nesting (lights w qs a x) = max (1 + nesting a) (nesting x)
nesting (breaks x) = nesting x
nesting (continues x) = nesting x

-- whether a statement over lights stands in a block
abbrev pub has_light_statement : Block → Bool
has_light_statement end = false
has_light_statement (put r o x) = has_light_statement x
has_light_statement (differ r d q x) = has_light_statement x
has_light_statement (sum r which qs x) = has_light_statement x
has_light_statement (texture r k qs x) = has_light_statement x
has_light_statement (branch t a b x) = has_light_statement a || (has_light_statement b || has_light_statement x)
has_light_statement (loops u d t e a x) = has_light_statement d || (has_light_statement e || (has_light_statement a || has_light_statement x))
has_light_statement (lights w qs a x) = true
has_light_statement (breaks x) = has_light_statement x
has_light_statement (continues x) = has_light_statement x

-- a light with neither `illuminate` nor `solar` is ambient
abbrev pub is_ambient : SlKind → Block → Bool
is_ambient Light x = not (has_light_statement x)
is_ambient _ x = false

-- worked: a difference, and the same under a varying condition; a break, and the same in a loop; a number put into a triple's register
abbrev a_number : Register
a_number = Varying shapes.Number 22

abbrev a_triple : Register
a_triple = Varying shapes.Triple 22

abbrev a_difference : Block
a_difference = differ a_triple differences.Du a_triple end

abbrev in_uniform_control : is_placed Surface false true a_difference ≡ true
in_uniform_control = refl

abbrev under_a_condition : is_placed Surface false true (branch a_number a_difference end end) ≡ false
under_a_condition = refl

abbrev of_a_light : is_placed Light false true a_difference ≡ false
of_a_light = refl

abbrev a_look_up : is_placed Surface false true (texture a_triple 0 (a_number ∷ a_number ∷ a_number ∷ []) end) ≡ true
a_look_up = refl

abbrev a_look_up_apart : is_placed Surface false false (texture a_triple 0 (a_number ∷ a_number ∷ a_number ∷ []) end) ≡ false
a_look_up_apart = refl

abbrev outside_loops : is_placed Surface false true (breaks end) ≡ false
outside_loops = refl

abbrev in_a_loop : is_placed Surface false true (loops false end a_number end (breaks end) end) ≡ true
in_a_loop = refl

abbrev of_another_shape : is_placed Surface false true (put a_triple (Copy a_number) end) ≡ false
of_another_shape = refl

abbrev in_one_another : nesting (branch a_number (branch a_number end end end) end (branch a_number end end end)) ≡ 2
in_one_another = refl
