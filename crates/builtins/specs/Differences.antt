-- Differences between the neighbours of a grid (RenderMan Interface 3.2, Shading Language, section 15.1, Du, Dv and calculatenormal).
use Rattle.std.specs.Prelude.{ℕ, ◌+◌, ◌-◌, ◌/◌, ◌%◌, ℤ, Bool, cond, nat_lt}
use Rattle.fixed_math.specs.Fixed.{sub, div}
use Rattle.sl_ast.specs.declared.operations.Difference.{Difference}
use Rattle.sl_ast.specs.declared.operations.Difference.TheVariants as differences
use Rattle.sl_ast.specs.declared.typed.Value.{Value}
use Rattle.sl_ast.specs.declared.typed.Value.TheVariants.{Triple}
use Rattle.builtins.specs.Triples.{cross, normalize, negated}
use Rattle.builtins.specs.Values.{triple_of, by_part, by_parts}

-- the columns and rows of points of a grid, by rows, and the steps of the parameters from one to the next
pub record Lines : Type 0 where
  pub columns : ℕ
  pub rows : ℕ
  pub du : ℤ
  pub dv : ℤ

-- the quotient of a difference of values by a step
abbrev pub slope : ℤ → Value → Value → Value
slope step v w = by_part (λ d. div d step) (by_parts sub v w)

-- the difference to the next column over the step of u; in the last column, that of the column before
unfoldable pub along_u : Lines → (ℕ → Value) → ℕ → Value
along_u g f i = cond (nat_lt (i % g.columns + 1) g.columns) (slope g.du (f (i + 1)) (f i)) (slope g.du (f i) (f (i - 1)))

-- the same of rows
unfoldable pub along_v : Lines → (ℕ → Value) → ℕ → Value
along_v g f i = cond (nat_lt (i / g.columns + 1) g.rows) (slope g.dv (f (i + g.columns)) (f i)) (slope g.dv (f i) (f (i - g.columns)))

-- the unit of the cross product of both, turned over where the primitive is
unfoldable pub normal_at : Lines → Bool → (ℕ → Value) → ℕ → Value
normal_at g flip f i =
    let n = normalize (cross (triple_of (along_u g f i)) (triple_of (along_v g f i))) in
    Triple (cond flip (negated n) n)

-- the difference at place i of the values f of the places
abbrev pub difference : Difference → Lines → Bool → (ℕ → Value) → ℕ → Value
difference differences.Du g flip f = along_u g f
difference differences.Dv g flip f = along_v g f
difference differences.CalculateNormal g flip f = normal_at g flip f
