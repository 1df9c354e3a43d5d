-- Grid code without pointers.
use Rattle.std.specs.Prelude.{ℕ, Bool, List}
use Rattle.sl_ast.specs.declared.kinds.LightStmt.{LightStmt}
use Rattle.sl_ast.specs.declared.operations.Difference.{Difference}
use Rattle.sl_ast.specs.declared.operations.LightSum.{LightSum}
use Rattle.grid_code.specs.declared.code.Register.{Register}
use Rattle.grid_code.specs.declared.code.Source.{Source}

-- each node with what follows it
pub data Block : Type 0 where
  end : Block
  put : Register → Source → Block → Block
  differ : Register → Difference → Register → Block → Block
  sum : Register → LightSum → List Register → Block → Block
  -- a look-up, by the number of its node
  texture : Register → ℕ → List Register → Block → Block
  branch : Register → Block → Block → Block → Block
  -- whether it is uniform; what asks for the condition, and its register; the step; the body
  loops : Bool → Block → Register → Block → Block → Block → Block
  lights : LightStmt → List Register → Block → Block → Block
  breaks : Block → Block
  continues : Block → Block

-- one block behind another
infixr 20 ◌then◌
abbrev pub ◌then◌ : Block → Block → Block
end then y = y
put r o x then y = put r o (x then y)
differ r d q x then y = differ r d q (x then y)
sum r s qs x then y = sum r s qs (x then y)
texture r k qs x then y = texture r k qs (x then y)
branch t a b x then y = branch t a b (x then y)
loops u d t s a x then y = loops u d t s a (x then y)
lights w qs a x then y = lights w qs a (x then y)
breaks x then y = breaks (x then y)
continues x then y = continues (x then y)
