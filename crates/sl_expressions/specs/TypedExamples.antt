-- Worked values: the last of a name, and a chain of two operators.
use Rattle.std.specs.Prelude.{◌≡◌, ℕ, true, false, [], ◌∷◌, pos, Some, None, refl}
use Rattle.sl_ast.specs.declared.kinds.SlType.TheVariants as types
use Rattle.sl_ast.specs.declared.kinds.NodeType.TheVariants.{Float}
use Rattle.sl_ast.specs.declared.operations.Operation.TheVariants.{Value}
use Rattle.sl_ast.specs.declared.operations.ValueOperation.TheVariants.{Add, Subtract}
use Rattle.sl_expressions.specs.Typed as T
use Rattle.sl_expressions.specs.Scope.{Local, level_of}

abbrev variable : ℕ → ℕ → Local
variable name line = record { uniform = true; kind = types.Float; name = name ∷ []; fixed = false; line = line }

-- of two variables of a name the later one, with its level
abbrev later : level_of (7 ∷ []) (variable 7 1 ∷ variable 8 2 ∷ variable 7 3 ∷ []) ≡ Some (2, variable 7 3)
later = refl

abbrev unknown : level_of (9 ∷ []) (variable 7 1 ∷ variable 8 2 ∷ []) ≡ None
unknown = refl

-- `1 + 2 - 3` on one line
abbrev number : ℕ → T.Expr
number n = T.number (pos n) 1

abbrev two_operators : T.chained (number 1) (record { operation = Value Add; operand = number 2; kind = Float; line = 1 } ∷ record { operation = Value Subtract; operand = number 3; kind = Float; line = 1 } ∷ []) ≡
    T.apply (Value Subtract) (T.more (T.apply (Value Add) (T.more (number 1) (T.more (number 2) T.none)) Float 1) (T.more (number 3) T.none)) Float 1
two_operators = refl
