-- A chain with and without operators.
use Rattle.std.proofs.Common.{◌≡◌, ◌<◌, List, [], ◌∷◌, length, map, refl, arith}
use Rattle.sl_ast.specs.Syntax as S
use Rattle.sl_ast.specs.SyntaxView.{link_of}
use Rattle.sl_ast.specs.declared.kinds.Row.{Row}
use Rattle.sl_ast.specs.declared.syntax.Link.{Link}
use Rattle.sl_expression_grammar.specs.Expressions.{chain_of}

pub chain_none : (row : Row) (first : S.Expr) (links : List Link) → length links ≡ 0 → chain_of row first (map link_of links) ≡ first
chain_none row first [] h = refl
chain_none row first (l ∷ ls) h = absurd (omega arith)

pub chain_some : (row : Row) (first : S.Expr) (links : List Link) → 0 < length links → chain_of row first (map link_of links) ≡ S.chain row first (S.links (map link_of links))
chain_some row first [] h = absurd (omega arith)
chain_some row first (l ∷ ls) h = refl
