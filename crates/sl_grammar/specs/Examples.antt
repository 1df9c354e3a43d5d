-- Worked values of the definitions.
use Rattle.std.specs.Prelude.{◌≡◌, refl, true, false, codes}
use Rattle.sl_ast.specs.Syntax as S
use Rattle.sl_ast.specs.declared.kinds.Row.TheVariants.{Sum}
use Rattle.sl_ast.specs.declared.kinds.Operator.TheVariants as operators
use Rattle.sl_grammar.specs.Grammatical.{looseness, takes_else}

-- a sum binds looser than a product; an `else` would belong to the `if` at the end of an `else` branch, but
-- not to one inside a block
loose_sum : looseness (S.chain Sum (S.name (codes "a") 1) (S.link operators.Add 1 (S.name (codes "b") 1) S.end)) ≡ 5
loose_sum = refl

if_after_else : takes_else (S.test_else (S.name (codes "a") 1) (S.empty 1) (S.test (S.name (codes "b") 1) (S.empty 1) 1) 1) ≡ true
if_after_else = refl

if_in_block : takes_else (S.repeat (S.name (codes "a") 1) (S.block (S.first (S.test (S.name (codes "b") 1) (S.empty 1) 1) S.done) 1) 1) ≡ false
if_in_block = refl
