-- The rows of binary operators, each with what stands between its operators.
use Rattle.std.specs.Prelude.{ℕ, zero, suc, List, Option, Some, None}
use Rattle.sl_ast.specs.Syntax as S
use Rattle.sl_ast.specs.declared.kinds.SlType.{SlType}
use Rattle.sl_ast.specs.declared.kinds.Row.{Row}
use Rattle.sl_ast.specs.declared.kinds.Row.TheVariants.{Or, And, Equality, Relation, Sum, Cross, Product, Dot}
use Rattle.sl_lexer.specs.declared.token.Token.{Token}
use Rattle.sl_expression_grammar.specs.Reading.{Reads}
use Rattle.sl_expression_grammar.specs.Expressions.{chain, typed_with, deep_typed, deep_operand, expr_at, unary_at, prim_at}

abbrev pub operand_with : Row → (List Token → Reads S.Expr) → List Token → Reads S.Expr
operand_with Or unary = chain And (chain Equality (chain Relation (chain Sum (chain Cross (chain Product (chain Dot unary))))))
operand_with And unary = chain Equality (chain Relation (chain Sum (chain Cross (chain Product (chain Dot unary)))))
operand_with Equality unary = chain Relation (chain Sum (chain Cross (chain Product (chain Dot unary))))
operand_with Relation unary = chain Sum (chain Cross (chain Product (chain Dot unary)))
operand_with Sum unary = chain Cross (chain Product (chain Dot unary))
operand_with Cross unary = chain Product (chain Dot unary)
operand_with Product unary = chain Dot unary
operand_with Dot unary = unary

-- the same by the next tighter row, or by what stands for the prefix row where none is tighter
abbrev pub operand_by : Option Row → (List Token → Reads S.Expr) → List Token → Reads S.Expr
operand_by None unary = unary
operand_by (Some row) unary = chain row (operand_with row unary)

-- how many rows there are from that one on
abbrev pub rows_from : Row → ℕ
rows_from Or = 8
rows_from And = 7
rows_from Equality = 6
rows_from Relation = 5
rows_from Sum = 4
rows_from Cross = 3
rows_from Product = 2
rows_from Dot = 1

-- what is read after a type and after a prefix operator, where so many levels are left
abbrev pub typed_at : ℕ → SlType → ℕ → List Token → List Token → Reads S.Expr
typed_at zero = deep_typed
typed_at (suc levels) = λ kind line rest ts. typed_with (expr_at levels) (prim_at levels) kind line rest

abbrev pub operand_at : ℕ → List Token → List Token → Reads S.Expr
operand_at zero = deep_operand
operand_at (suc levels) = λ rest ts. unary_at levels rest
