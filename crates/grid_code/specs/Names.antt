-- The registers of the predefined variables, and of whether a light is lit.
use Rattle.std.specs.Prelude.{ℕ, Bool, true, false}
use Rattle.sl_ast.specs.declared.kinds.Predefined.{Predefined}
use Rattle.sl_ast.specs.Names.{name_type}
use Rattle.sl_ast.specs.Classes.{is_uniform_name}
use Rattle.builtins.specs.declared.shape.Shape.{Shape}
use Rattle.builtins.specs.declared.shape.Shape.TheVariants as shapes
use Rattle.builtins.specs.Values.{shape_of}
use Rattle.builtins.specs.Names.{place_of}
use Rattle.grid_code.specs.declared.code.Register.{Register}
use Rattle.grid_code.specs.declared.code.Register.TheVariants.{Uniform, Varying}

-- a register of that class
abbrev pub reg : Bool → Shape → ℕ → Register
reg true s r = Uniform s r
reg false s r = Varying s r

abbrev pub name_at : Predefined → Register
name_at p = reg (is_uniform_name p) (shape_of (name_type p)) (place_of p)

abbrev pub lit_at : Register
lit_at = Varying shapes.Number 21

-- the first register behind them
abbrev pub first_free : ℕ
first_free = 22
