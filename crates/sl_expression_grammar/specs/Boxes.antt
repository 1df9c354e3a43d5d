-- What stands in boxes and after references, without them.
use Rattle.std.specs.Prelude.{ℕ, List, Option, option_map}
use Rattle.std.specs.Borrow.{Bor}
use Rattle.std.specs.Global.{Box}
use Rattle.sl_ast.specs.Syntax as S
use Rattle.sl_ast.specs.SyntaxView.{expr_of}
use Rattle.sl_ast.specs.declared.syntax.Expr as e
use Rattle.sl_ast.specs.declared.syntax.Space.{Space}

abbrev pub boxed_expr : Box e.Expr → S.Expr
boxed_expr b = expr_of b.value

-- the name of a space in the text, with its line
abbrev pub space_of : Bor (List ℕ) × ℕ → Space
space_of s = record { name = s.0.now; line = s.1 }

abbrev pub space_from : Option (Bor (List ℕ) × ℕ) → Option Space
space_from o = option_map space_of o
