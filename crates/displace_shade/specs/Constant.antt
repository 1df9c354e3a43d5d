-- What the stock shader `constant` draws: its tree, and the law that a leaf under it has the colour times the opacity (RenderMan Interface 3.2,
-- section 11, `constant`).
use Rattle.std.specs.Prelude.{◌≡◌, ℕ, List, [], ◌∷◌, Some, None}
use Rattle.fixed_math.specs.Fixed.{mul}
use Rattle.sl_ast.specs.declared.kinds.NodeType.TheVariants as nodes
use Rattle.sl_ast.specs.declared.kinds.Predefined.{Predefined as Name}
use Rattle.sl_ast.specs.declared.kinds.Predefined.TheVariants as names
use Rattle.sl_ast.specs.declared.kinds.SetOperator.TheVariants.{Set}
use Rattle.sl_ast.specs.declared.kinds.SlKind.TheVariants.{Surface}
use Rattle.sl_ast.specs.declared.kinds.SlType.TheVariants as types
use Rattle.sl_ast.specs.declared.operations.Operation.TheVariants.{Value}
use Rattle.sl_ast.specs.declared.operations.ValueOperation.TheVariants.{Multiply}
use Rattle.sl_ast.specs.declared.typed.Place.{Place}
use Rattle.sl_ast.specs.declared.typed.Variable.TheVariants.{Predefined}
use Rattle.sl_ast.specs.Typed.{Expr, variable, apply, none, more, Stmt, assign, stmts, Tree}
use Rattle.builtins.specs.Triples.{each_two}
use Rattle.builtins.specs.Values.{triple_of}
use Rattle.scene.specs.declared.uses.ShaderUse.{ShaderUse}
use Rattle.shader_binding.specs.Sets.{SetValue, Bound, bound_at}
use Rattle.grid_variables.specs.Points.{Leaf}
use Rattle.grid_variables.specs.Variables.{cs_at, os_at}
use Rattle.grid_variables.specs.Kept.{opacity}
use Rattle.displace_shade.specs.Shaded.{shaded_names}

-- the node of that number, on the first line
abbrev at : ℕ → Place
at n = record { line = 1; number = n }

abbrev named : Name → ℕ → Expr
named x n = variable (Predefined x) nodes.Color (at n)

abbrev sets : Name → Expr → ℕ → Stmt
sets x e n = assign (Predefined x) Set types.Color e (at n)

-- Oi = Os; Ci = Os * Cs;
abbrev pub constant_tree : Tree
constant_tree = record {
  kind = Surface;
  params = [];
  defaults = [];
  body = stmts (sets names.Oi (named names.Os 2) 1 ∷ sets names.Ci (apply (Value Multiply) (more (named names.Os 5) (more (named names.Cs 6) none)) nodes.Color (at 4)) 3 ∷ []);
  place = at 0;
}

-- each point of a leaf, displaced or not, has the opacity times the colour that its primitive gives there, and that opacity put into 0 to 1
pub record IsFlat (l : Leaf) (s : SetValue) (uses : List ShaderUse) : Type 0 where
  pub colour : (i : ℕ) → triple_of (shaded_names l s uses i names.Ci) ≡ each_two mul (os_at l i) (cs_at l i)
  pub opacity : (i : ℕ) → opacity (triple_of (shaded_names l s uses i names.Oi)) ≡ opacity (os_at l i)

abbrev pub ConstantLaw : Type 0
ConstantLaw = (l : Leaf) (s : SetValue) (uses : List ShaderUse) (b : Bound) → bound_at s uses l.prim.surface ≡ Some b → b.tree ≡ constant_tree → l.prim.atmosphere ≡ None → IsFlat l s uses
