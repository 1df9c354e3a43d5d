-- The varying variables that shaders are given, and those that they can't see.
use Rattle.std.specs.Prelude.{ℕ, pos, ◌==◌, Bool, true, false, not, ◌||◌, List, [], ◌∷◌, ◌≡◌, refl}
use Rattle.std.specs.List.{list_any}
use Rattle.fixed_math.specs.Axes.{origin}
use Rattle.sl_ast.specs.declared.kinds.SlKind.{SlKind}
use Rattle.sl_ast.specs.declared.kinds.SlKind.TheVariants.{Surface, Displacement, Light, Volume}
use Rattle.sl_ast.specs.declared.kinds.Predefined.{Predefined}
use Rattle.sl_ast.specs.declared.kinds.Predefined.TheVariants as names
use Rattle.sl_ast.specs.declared.typed.Value.{Value}
use Rattle.sl_ast.specs.declared.typed.Value.TheVariants.{Number, Triple, Word}
use Rattle.sl_ast.specs.Names.{name_type}
use Rattle.builtins.specs.declared.shape.Shape.{Shape}
use Rattle.builtins.specs.declared.shape.Shape.TheVariants as shapes
use Rattle.builtins.specs.Names.{place_of}
use Rattle.builtins.specs.Values.{shape_of}
use Rattle.grid_code.specs.declared.code.Register.{Register}
use Rattle.grid_code.specs.declared.code.Register.TheVariants.{Uniform, Varying}
use Rattle.grid_code.specs.declared.register_set.RegisterSet.{RegisterSet}
use Rattle.grid_code.specs.Names.{name_at}
use Rattle.grid_code.specs.Uses.{is_in}

-- the varying variables that a kind is given: those that it reads alone, and then those that it writes
abbrev pub given_order : SlKind → List Predefined
given_order Surface = names.P ∷ names.N ∷ names.Ng ∷ names.I ∷ names.U ∷ names.V ∷ names.S ∷ names.T ∷ names.Cs ∷ names.Os ∷ names.DPdu ∷ names.DPdv ∷ []
given_order Displacement = names.Ng ∷ names.I ∷ names.U ∷ names.V ∷ names.S ∷ names.T ∷ names.Cs ∷ names.Os ∷ names.DPdu ∷ names.DPdv ∷ names.P ∷ names.N ∷ []
given_order Light = names.Ps ∷ []
given_order Volume = names.P ∷ names.I ∷ names.Ci ∷ names.Oi ∷ []

-- those of them that are nothing to a run whose code doesn't name them: others start as they are, are written, or are seen by lights
abbrev pub optional : SlKind → List Predefined
optional Surface = names.N ∷ names.Ng ∷ names.I ∷ names.U ∷ names.V ∷ names.S ∷ names.T ∷ names.DPdu ∷ names.DPdv ∷ []
optional Displacement = names.Ng ∷ names.I ∷ names.U ∷ names.V ∷ names.S ∷ names.T ∷ names.Cs ∷ names.Os ∷ names.DPdu ∷ names.DPdv ∷ []
optional kind = []

-- by the place of a variable's register
abbrev pub is_optional : SlKind → ℕ → Bool
is_optional kind k = list_any (λ p. place_of p == k) (optional kind)

-- code names this varying register
abbrev pub is_named : RegisterSet → Register → Bool
is_named set (Uniform s k) = false
is_named set (Varying s k) = is_in set s k

-- whether a shader whose code names these varying registers is given a variable as it is, and not as 0
abbrev pub wanted : SlKind → RegisterSet → Predefined → Bool
wanted kind named p = not (is_optional kind (place_of p)) || is_named named (name_at p)

-- the value 0 of a predefined variable
abbrev pub zero_of : Shape → Value
zero_of shapes.Number = Number (pos 0)
zero_of shapes.Triple = Triple origin
zero_of shapes.Word = Word []

abbrev pub zero_of_name : Predefined → Value
zero_of_name p = zero_of (shape_of (name_type p))

-- worked: a surface needs Cs, which Ci starts as, and no N; a displacement needs N, which it leaves
abbrev of_surface : is_optional Surface (place_of names.Cs) ≡ false
of_surface = refl

abbrev normal_of_surface : is_optional Surface (place_of names.N) ≡ true
normal_of_surface = refl

abbrev normal_of_displacement : is_optional Displacement (place_of names.N) ≡ false
normal_of_displacement = refl
