-- The blocks of code lie no deeper in one another than those of its core tree.
use Rattle.std.proofs.Common.{ℕ, ◌+◌, ◌≤◌, max, List, length, arith}
use Rattle.std.proofs.Math.Nat.{max-le}
use Rattle.grid_code.specs.Valid.{nesting}
use Rattle.grid_code.proofs.ValidThen.{nesting_then}
use Rattle.sl_meaning.specs.Core.{Slot, Expr, literal, read, apply, differ, sum, texture, call, Exprs, none, more, Arguments, no_arguments, argument, Stmt, declare, assign, block, test, repeat, lights, leave, again, Stmts, done, first, formals, after, after_all}
use Rattle.core_codegen.specs.Compile.{behind, operand_code, expr_code, exprs_code, args_code, stmt_code, all_code}
use Rattle.core_codegen.proofs.Operands.{of_operand}
use Rattle.mask_codegen.proofs.CoreNesting.{expr_nesting, exprs_nesting, args_nesting, stmt_nesting, all_nesting}
use Rattle.mask_codegen.proofs.LoweredNesting.{max_parts}

none_in : (m : ℕ) → 0 ≤ m
none_in m = omega arith

-- blocks that lie in a node
within_one : (x m : ℕ) → 1 + x ≤ m → max (1 + x) 0 ≤ m
within_one x m h = max-le h (none_in m)

inside : (a b m : ℕ) → 1 + max a b ≤ m → (x y : ℕ) → (x ≤ a) → (y ≤ b) → 1 + max x y ≤ m
inside a b m h x y hx hy = grind (arith, h, hx, hy)

mutual
  pub expr_nests : (e : Expr) (ss : List Slot) (b r m : ℕ) → expr_nesting e ≤ m → nesting (expr_code e ss b r) ≤ m
  expr_nests (literal v) ss b r m h = none_in m
  expr_nests (read x) ss b r m h = none_in m
  expr_nests (apply op args) ss b r m h = nesting_then m (exprs_code args ss b r) _ (exprs_nest args ss b r m h) (none_in m)
  expr_nests (differ d e) ss b r m h = nesting_then m (expr_code e ss b r) _ (expr_nests e ss b r m h) (none_in m)
  expr_nests (sum s args) ss b r m h = nesting_then m (exprs_code args ss b r) _ (exprs_nest args ss b r m h) (none_in m)
  expr_nests (texture k args) ss b r m h = nesting_then m (exprs_code args ss b r) _ (exprs_nest args ss b r m h) (none_in m)
  expr_nests (call args body kind e) ss b r m h =
      let fs = formals args in
      let ss2 = after_all body fs in
      let x = max_parts (args_nesting args) _ m h in
      let y = max_parts (all_nesting body) _ m x.1 in
      nesting_then m (args_code args ss b r) _ (args_nest args ss b r m x.0)
      (nesting_then m (all_code body fs r (behind fs r body)) _ (all_nest body fs r (behind fs r body) m y.0)
      (nesting_then m (expr_code e ss2 r (r + length ss2)) _ (expr_nests e ss2 r (r + length ss2) m y.1) (none_in m)))

  pub exprs_nest : (es : Exprs) (ss : List Slot) (b r m : ℕ) → exprs_nesting es ≤ m → nesting (exprs_code es ss b r) ≤ m
  exprs_nest none ss b r m h = none_in m
  exprs_nest (more e rest) ss b r m h =
      let x = max_parts (expr_nesting e) _ m h in
      nesting_then m (operand_code e (expr_code e ss b r)) _ (of_operand (λ z q y. nesting y ≤ m) e b r (expr_code e ss b r) (λ k. none_in m) (expr_nests e ss b r m x.0)) (exprs_nest rest ss b (r + 1) m x.1)

  pub args_nest : (es : Arguments) (ss : List Slot) (b r m : ℕ) → args_nesting es ≤ m → nesting (args_code es ss b r) ≤ m
  args_nest no_arguments ss b r m h = none_in m
  args_nest (argument u kind e rest) ss b r m h =
      let x = max_parts (expr_nesting e) _ m h in
      nesting_then m (expr_code e ss b r) _ (expr_nests e ss b r m x.0) (args_nest rest ss b (r + 1) m x.1)

  pub stmt_nests : (s : Stmt) (ss : List Slot) (b t m : ℕ) → stmt_nesting s ≤ m → nesting (stmt_code s ss b t) ≤ m
  stmt_nests (declare u kind e) ss b t m h = nesting_then m (expr_code e ss b (b + length ss)) _ (expr_nests e ss b (b + length ss) m h) (none_in m)
  stmt_nests (assign x kind e) ss b t m h = nesting_then m (expr_code e ss b t) _ (expr_nests e ss b t m h) (none_in m)
  stmt_nests (block s) ss b t m h = all_nest s ss b t m h
  stmt_nests (test q x y) ss b t m h =
      let n = b + length ss in
      let parts = max_parts (expr_nesting q) _ m h in
      nesting_then m (expr_code q ss b n) _ (expr_nests q ss b n m parts.0)
      (within_one _ m (inside (all_nesting x) (all_nesting y) m parts.1 _ _ (all_nest x ss b t (all_nesting x) (omega arith)) (all_nest y ss b t (all_nesting y) (omega arith))))
  stmt_nests (repeat u q e s) ss b t m h =
      let n = b + length ss in
      let both = max (all_nesting e) (all_nesting s) in
      let parts = max_parts (all_nesting e) (all_nesting s) both (omega arith) in
      within_one _ m (inside (expr_nesting q) both m h _ _ (expr_nests q ss b n (expr_nesting q) (omega arith))
      (max-le (all_nest e ss b t both parts.0) (all_nest s ss b t both parts.1)))
  stmt_nests (lights over args s) ss b t m h =
      let n = b + length ss in
      let parts = max_parts (exprs_nesting args) _ m h in
      nesting_then m (exprs_code args ss b n) _ (exprs_nest args ss b n m parts.0)
      (within_one _ m (let k = all_nest s ss b t (all_nesting s) (omega arith) in let j : 1 + all_nesting s ≤ m = parts.1 in omega arith))
  stmt_nests leave ss b t m h = none_in m
  stmt_nests again ss b t m h = none_in m

  pub all_nest : (s : Stmts) (ss : List Slot) (b t m : ℕ) → all_nesting s ≤ m → nesting (all_code s ss b t) ≤ m
  all_nest done ss b t m h = none_in m
  all_nest (first s rest) ss b t m h =
      let x = max_parts (stmt_nesting s) _ m h in
      nesting_then m (stmt_code s ss b t) _ (stmt_nests s ss b t m x.0) (all_nest rest (after s ss) b t m x.1)
