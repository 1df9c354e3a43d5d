-- Worked values of the definitions.
use Rattle.std.specs.Prelude.{◌≡◌, refl, [], Ok, Err, codes}
use Rattle.sl_ast.specs.Syntax as S
use Rattle.sl_ast.specs.declared.kinds.Row.TheVariants.{Sum}
use Rattle.sl_ast.specs.declared.kinds.Operator.TheVariants as operators
use Rattle.sl_lexer.specs.Tokens.{tokens_of}
use Rattle.sl_expression_grammar.specs.declared.fault.SlCode.TheVariants.{P3}
use Rattle.sl_expression_grammar.specs.Expressions.{expr_at}

-- of expressions: a chain is one node, and a parenthesis opens no level but what stands in it does
chain_of_three : expr_at 1 (tokens_of (codes "a-b-c")) ≡ Ok (S.chain Sum (S.name (codes "a") 1) (S.link operators.Subtract 1 (S.name (codes "b") 1) (S.link operators.Subtract 1 (S.name (codes "c") 1) S.end)), [])
chain_of_three = refl

two_levels : expr_at 2 (tokens_of (codes "(a)")) ≡ Ok (S.paren (S.name (codes "a") 1) 1, [])
two_levels = refl

one_level : expr_at 1 (tokens_of (codes "(a)")) ≡ Err (P3, tokens_of (codes "a)"))
one_level = refl
