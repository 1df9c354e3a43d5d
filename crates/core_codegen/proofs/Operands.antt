-- Operands: a variable of the frame is read where it stands, and any other value is put into a register.
use Rattle.std.proofs.Common.{ℕ, ◌+◌, ◌≤◌, List, length, arith}
use Rattle.sl_ast.specs.declared.typed.Variable.TheVariants as variables
use Rattle.grid_code.specs.Names.{first_free}
use Rattle.grid_code.specs.Code.{Block, end}
use Rattle.sl_meaning.specs.Core.{Slot, Expr, literal, read, apply, differ, sum, texture, call}
use Rattle.core_codegen.specs.Compile.{place, operand_code}
use Rattle.core_codegen.specs.Fine.{FineExpr, GridExpr}

-- what holds of a variable of the frame without code, and of any other value with its code, holds of an operand
pub of_operand : (P : Expr → ℕ → Block → Type 0) (e : Expr) (b r : ℕ) (code : Block) → ((k : ℕ) → P (read (variables.Level k)) (b + k) end) → P e r code → P e (place e b r) (operand_code e code)
of_operand P (read (variables.Level k)) b r code held made = held k
of_operand P (read (variables.Predefined p)) b r code held made = made
of_operand P (literal v) b r code held made = made
of_operand P (apply op args) b r code held made = made
of_operand P (differ d e) b r code held made = made
of_operand P (sum s args) b r code held made = made
of_operand P (texture k args) b r code held made = made
of_operand P (call args body kind e) b r code held made = made

-- its register is none of a predefined variable, and lies no further than that of its value
pub place_free : (e : Expr) (b r : ℕ) → first_free ≤ b → first_free ≤ r → first_free ≤ place e b r
place_free e b r free high = of_operand (λ z q y. first_free ≤ q) e b r end (λ k. omega arith) high

module _ (e : Expr) (ss : List Slot) (b r : ℕ) (fit : b + length ss ≤ r) where
  pub fine_place : FineExpr e ss → place e b r ≤ r
  fine_place h = of_operand (λ z q y. FineExpr z ss → q ≤ r) e b r end (λ k l. omega arith) (λ l. omega arith) h

  pub grid_place : GridExpr e ss → place e b r ≤ r
  grid_place h = of_operand (λ z q y. GridExpr z ss → q ≤ r) e b r end (λ k l. omega arith) (λ l. omega arith) h
