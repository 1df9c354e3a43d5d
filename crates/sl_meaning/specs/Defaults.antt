-- The value of a parameter's default: that of its expression at a point with full budgets, that no light reaches and where no variable is in scope.
use Rattle.std.specs.Prelude.{ℕ, pos, true, [], get_or}
use Rattle.transforms.specs.declared.spaces.Spaces.{Spaces}
use Rattle.sl_ast.specs.declared.kinds.SlType.{SlType}
use Rattle.sl_ast.specs.declared.kinds.SlType.TheVariants as types
use Rattle.sl_ast.specs.declared.typed.Value.{Value}
use Rattle.sl_ast.specs.Typed as T
use Rattle.builtins.specs.Values.{as_kind}
use Rattle.sl_meaning.specs.Alone.{value}
use Rattle.sl_meaning.specs.Dark.{dark}
use Rattle.sl_meaning.specs.Environment.{bare}

-- the turns that a budget has at first
abbrev pub full : ℕ
full = 65536

-- the value of an expression where a value of that type is wanted
abbrev pub evaluated : SlType → T.Expr → Spaces → Value
evaluated kind e sp = as_kind kind (value e [] true (dark sp) full (bare full full)).0

abbrev pub no_local : T.Local
no_local = record { name = []; kind = types.Float; uniform = true }

abbrev pub no_default : T.Default
no_default = record { value = T.number (pos 0) (record { line = 0; number = 0 }); place = record { line = 0; number = 0 } }

-- the value of the default of the parameter with that index
abbrev pub default_of : T.Tree → ℕ → Spaces → Value
default_of t k sp = evaluated (get_or t.params k no_local).kind (get_or t.defaults k no_default).value sp
