-- More than three operands.
use Rattle.std.proofs.Common.{◌≡◌, ◌≤◌, List, [], ◌∷◌, length, map, refl, arith}
use Rattle.sl_ast.specs.Typed.{exprs}
use Rattle.sl_ast.specs.TypedView.{tree_expr}
use Rattle.sl_ast.specs.WellTyped.{operands}
use Rattle.sl_ast.specs.declared.typed.TreeExpr.{TreeExpr}
use Rattle.sl_ast.specs.declared.operands.Operands.TheVariants.{Many}

pub many_operands : (xs : List TreeExpr) → 4 ≤ length xs → Many ≡ operands (exprs (map tree_expr xs))
many_operands [] h = absurd (omega (arith, h))
many_operands (a ∷ []) h = absurd (omega (arith, h))
many_operands (a ∷ b ∷ []) h = absurd (omega (arith, h))
many_operands (a ∷ b ∷ c ∷ []) h = absurd (omega (arith, h))
many_operands (a ∷ b ∷ c ∷ d ∷ rest) h = refl
