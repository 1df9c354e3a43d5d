-- The grammar of one level over what the level leaves.
use Rattle.std.proofs.Common.{◌≡◌, ℕ, zero, suc, refl}
use Rattle.sl_expression_grammar.specs.Expressions.{unary_with, prim_with, expr_at, unary_at, prim_at}
use Rattle.sl_expression_grammar.specs.Rows.{typed_at, operand_at}

pub prim_is : (levels : ℕ) → prim_at levels ≡ prim_with (expr_at levels) (typed_at levels)
prim_is zero = refl
prim_is (suc levels) = refl

pub unary_is : (levels : ℕ) → unary_at levels ≡ unary_with (prim_at levels) (operand_at levels)
unary_is zero = refl
unary_is (suc levels) = refl
