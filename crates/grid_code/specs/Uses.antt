-- The registers that code names, and the sets of those that it has.
use Rattle.std.specs.Prelude.{ℕ, ◌+◌, ◌*◌, ◌==◌, Bool, true, ◌&&◌, List, [], ◌∷◌, ◌++◌, length, map, ◌≡◌, refl}
use Rattle.std.specs.List.{list_all, list_any}
use Rattle.sl_ast.specs.declared.kinds.SlKind.{SlKind}
use Rattle.sl_ast.specs.declared.kinds.SlKind.TheVariants.{Displacement, Light}
use Rattle.sl_ast.specs.declared.kinds.Predefined.TheVariants as names
use Rattle.sl_ast.specs.Variables.{variables}
use Rattle.builtins.specs.declared.shape.Shape.{Shape}
use Rattle.builtins.specs.declared.shape.Shape.TheVariants as shapes
use Rattle.builtins.specs.Values.{shape_of}
use Rattle.grid_code.specs.declared.code.Register.{Register}
use Rattle.grid_code.specs.declared.code.Register.TheVariants.{Uniform, Varying}
use Rattle.grid_code.specs.declared.code.Source.{Source}
use Rattle.grid_code.specs.declared.code.Source.TheVariants.{Constant, Copy, Into, Apply}
use Rattle.grid_code.specs.declared.register_set.RegisterSet.{RegisterSet}
use Rattle.grid_code.specs.declared.slot.Slot.{Slot}
use Rattle.grid_code.specs.Names.{reg, name_at, lit_at, first_free}
use Rattle.grid_code.specs.Code.{Block, end, put, differ, sum, texture, branch, loops, lights, breaks, continues}

-- the numbers of a set's registers of that shape, and whether one is among them
abbrev pub numbers_of : RegisterSet → Shape → List ℕ
numbers_of s shapes.Number = s.numbers
numbers_of s shapes.Triple = s.triples
numbers_of s shapes.Word = s.words

-- a register of a shape is in a set
abbrev pub is_in : RegisterSet → Shape → ℕ → Bool
is_in s shape r = list_any (λ k. k == r) (numbers_of s shape)

-- how many rows of numbers the registers of a set take
abbrev pub rows_in : RegisterSet → ℕ
rows_in s = length s.numbers + 3 * length s.triples + length s.words

-- a register is one of the varying or one of the uniform ones
abbrev pub has : RegisterSet → RegisterSet → Register → Bool
has varying uniform (Varying s r) = is_in varying s r
has varying uniform (Uniform s r) = is_in uniform s r

-- the registers of the predefined variables that such a shader reads or writes; those of a light have whether it is lit
abbrev pub names_at : SlKind → List Register
names_at kind = name_at names.Pi ∷ map (λ row. name_at row.name) (variables kind)

-- the registers of the predefined variables of a kind of shader
abbrev pub kind_registers : SlKind → List Register
kind_registers Light = lit_at ∷ names_at Light
kind_registers kind = names_at kind

-- those of the parameters, from a register on
abbrev pub registers_from : ℕ → List Slot → List Register
registers_from r [] = []
registers_from r (s ∷ ss) = reg s.uniform (shape_of s.kind) r ∷ registers_from (r + 1) ss

-- the registers that a shader's state begins with
abbrev pub given_registers : SlKind → List Slot → List Register
given_registers kind params = kind_registers kind ++ registers_from first_free params

-- the registers that code reads or writes by name each pass a test
abbrev pub source_within : (Register → Bool) → Source → Bool
source_within p (Constant v) = true
source_within p (Copy q) = p q
source_within p (Into s q) = p q
source_within p (Apply op qs) = list_all p qs

-- each register that a block names passes a test
abbrev pub within : (Register → Bool) → Block → Bool
within p end = true
within p (put r o x) = p r && (source_within p o && within p x)
within p (differ r d q x) = p r && (p q && within p x)
within p (sum r which qs x) = p r && (list_all p qs && within p x)
within p (texture r k qs x) = p r && (list_all p qs && within p x)
within p (branch t a b x) = p t && (within p a && (within p b && within p x))
within p (loops u d t e a x) = within p d && (p t && (within p e && (within p a && within p x)))
within p (lights w qs a x) = list_all p qs && (within p a && within p x)
within p (breaks x) = within p x
within p (continues x) = within p x

-- the numbers of the look-ups' nodes each pass a test
abbrev pub looks_within : (ℕ → Bool) → Block → Bool
looks_within p end = true
looks_within p (put r o x) = looks_within p x
looks_within p (differ r d q x) = looks_within p x
looks_within p (sum r which qs x) = looks_within p x
looks_within p (texture r k qs x) = p k && looks_within p x
looks_within p (branch t a b x) = looks_within p a && (looks_within p b && looks_within p x)
looks_within p (loops u d t e a x) = looks_within p d && (looks_within p e && (looks_within p a && looks_within p x))
looks_within p (lights w qs a x) = looks_within p a && looks_within p x
looks_within p (breaks x) = looks_within p x
looks_within p (continues x) = looks_within p x

-- a number is one of these
abbrev pub is_one_of : List ℕ → ℕ → Bool
is_one_of ks k = list_any (λ n. n == k) ks

-- worked: a displacement has P, N, Ng, I, E, u, v, du, dv, s, t, Cs, Os, dPdu, dPdv and PI; a light PI, Ps, E, L, Cl, and whether it is lit
abbrev of_displacement : length (kind_registers Displacement) ≡ 16
of_displacement = refl

abbrev of_light : kind_registers Light ≡ Varying shapes.Number 21 ∷ Uniform shapes.Number 20 ∷ Varying shapes.Triple 19 ∷ Uniform shapes.Triple 4 ∷ Varying shapes.Triple 15 ∷ Varying shapes.Triple 16 ∷ []
of_light = refl
