-- The registers that code makes take no more rows than its core tree's load.
use Rattle.std.proofs.Common.{◌≡◌, ℕ, ◌+◌, ◌≤◌, Bool, true, false, cond, List, [], ◌∷◌, ◌++◌, length, arith}
use Rattle.builtins.specs.declared.shape.Shape.{Shape}
use Rattle.builtins.specs.declared.shape.Shape.TheVariants as shapes
use Rattle.builtins.specs.Values.{shape_of}
use Rattle.grid_code.specs.declared.code.Register.{Register}
use Rattle.grid_code.specs.Names.{reg}
use Rattle.sl_meaning.specs.Core.{Slot, Expr, literal, read, apply, differ, sum, texture, call, Exprs, none, more, Arguments, no_arguments, argument, Stmt, declare, assign, block, test, repeat, lights, leave, again, Stmts, done, first, formals, after, after_all, is_uniform, stmts_uniform}
use Rattle.core_codegen.specs.Compile.{at, shape_in, behind}
use Rattle.mask_codegen.proofs.Made.{shared, shared_by, made, made_exprs, made_args, made_stmt, made_all, rows_at, weight, three_unless, load, load_exprs, load_args, load_stmt, load_all}

pub weight_on : (a b : List Register) → weight (a ++ b) ≡ weight a + weight b
weight_on [] b = omega arith
weight_on (q ∷ qs) b = let h = weight_on qs b in omega arith

pub rows_reg : (u : Bool) (s : Shape) (r : ℕ) → rows_at (reg u s r) ≤ three_unless u
rows_reg true s r = omega arith
rows_reg false shapes.Number r = omega arith
rows_reg false shapes.Triple r = omega arith
rows_reg false shapes.Word r = omega arith

one_at : (e : Expr) (ss : List Slot) (r : ℕ) → weight (at e ss r ∷ []) ≤ three_unless (is_uniform e ss)
one_at e ss r = let h = rows_reg (is_uniform e ss) (shape_in e ss) r in omega arith

shared_load : (u : Bool) (t : ℕ) → weight (cond u [] (shared t)) ≤ cond u 0 5
shared_load true t = omega arith
shared_load false t = omega arith

mutual
  pub made_load : (e : Expr) (ss : List Slot) (r : ℕ) → weight (made e ss r) ≤ load e ss
  made_load (literal v) ss r = one_at (literal v) ss r
  made_load (read x) ss r = one_at (read x) ss r
  made_load (apply op args) ss r = omega (arith, weight_on (made_exprs args ss r) (at (apply op args) ss r ∷ []), exprs_load args ss r, one_at (apply op args) ss r)
  made_load (differ d e) ss r = omega (arith, weight_on (made e ss r) (at (differ d e) ss r ∷ []), made_load e ss r, one_at (differ d e) ss r)
  made_load (sum s args) ss r = omega (arith, weight_on (made_exprs args ss r) (at (sum s args) ss r ∷ []), exprs_load args ss r, one_at (sum s args) ss r)
  made_load (texture k args) ss r = omega (arith, weight_on (made_exprs args ss r) (at (texture k args) ss r ∷ []), exprs_load args ss r, one_at (texture k args) ss r)
  made_load (call args body kind e) ss r =
      let fs = formals args in
      let t = behind fs r body in
      let ss2 = after_all body fs in
      let n = r + length ss2 in
      let last = at (call args body kind e) ss r ∷ [] in
      omega (
        arith,
        weight_on (made_args args ss r) (shared_by body fs t ++ (made_all body fs r t ++ (made e ss2 n ++ last))),
        weight_on (shared_by body fs t) (made_all body fs r t ++ (made e ss2 n ++ last)),
        weight_on (made_all body fs r t) (made e ss2 n ++ last),
        weight_on (made e ss2 n) last,
        args_load args ss r,
        shared_load (stmts_uniform body fs) t,
        all_load body fs r t,
        made_load e ss2 n,
        one_at (call args body kind e) ss r,
      )

  pub exprs_load : (es : Exprs) (ss : List Slot) (r : ℕ) → weight (made_exprs es ss r) ≤ load_exprs es ss
  exprs_load none ss r = omega arith
  exprs_load (more e rest) ss r = omega (arith, weight_on (made e ss r) (made_exprs rest ss (r + 1)), made_load e ss r, exprs_load rest ss (r + 1))

  pub args_load : (es : Arguments) (ss : List Slot) (r : ℕ) → weight (made_args es ss r) ≤ load_args es ss
  args_load no_arguments ss r = omega arith
  args_load (argument u kind e rest) ss r =
      omega (arith, weight_on (made e ss r) (reg u (shape_of kind) r ∷ made_args rest ss (r + 1)), rows_reg u (shape_of kind) r, made_load e ss r, args_load rest ss (r + 1))

  pub stmt_load : (s : Stmt) (ss : List Slot) (b t : ℕ) → weight (made_stmt s ss b t) ≤ load_stmt s ss
  stmt_load (declare u kind e) ss b t =
      let n = b + length ss in
      omega (arith, weight_on (made e ss n) (reg u (shape_of kind) n ∷ []), made_load e ss n, rows_reg u (shape_of kind) n)
  stmt_load (assign x kind (literal v)) ss b t = made_load (literal v) ss t
  stmt_load (assign x kind (read y)) ss b t = made_load (read y) ss t
  stmt_load (assign x kind (apply op none)) ss b t = made_load (apply op none) ss t
  stmt_load (assign x kind (apply op (more (read y) none))) ss b t = made_load (apply op (more (read y) none)) ss t
  stmt_load (assign x kind (apply op (more (read y) (more e none)))) ss b t = made_load e ss (t + 1)
  stmt_load (assign x kind (apply op (more (read y) (more e (more d rest))))) ss b t = made_load (apply op (more (read y) (more e (more d rest)))) ss t
  stmt_load (assign x kind (apply op (more (literal v) rest))) ss b t = made_load (apply op (more (literal v) rest)) ss t
  stmt_load (assign x kind (apply op (more (apply o a) rest))) ss b t = made_load (apply op (more (apply o a) rest)) ss t
  stmt_load (assign x kind (apply op (more (differ d a) rest))) ss b t = made_load (apply op (more (differ d a) rest)) ss t
  stmt_load (assign x kind (apply op (more (sum q a) rest))) ss b t = made_load (apply op (more (sum q a) rest)) ss t
  stmt_load (assign x kind (apply op (more (texture m a) rest))) ss b t = made_load (apply op (more (texture m a) rest)) ss t
  stmt_load (assign x kind (apply op (more (call a q k e) rest))) ss b t = made_load (apply op (more (call a q k e) rest)) ss t
  stmt_load (assign x kind (differ d e)) ss b t = made_load (differ d e) ss t
  stmt_load (assign x kind (sum q args)) ss b t = made_load (sum q args) ss t
  stmt_load (assign x kind (texture m args)) ss b t = made_load (texture m args) ss t
  stmt_load (assign x kind (call args body k e)) ss b t = made_load (call args body k e) ss t
  stmt_load (block s) ss b t = all_load s ss b t
  stmt_load (test q x y) ss b t =
      let n = b + length ss in
      omega (arith, weight_on (made q ss n) (made_all x ss b t ++ made_all y ss b t), weight_on (made_all x ss b t) (made_all y ss b t), made_load q ss n, all_load x ss b t, all_load y ss b t)
  stmt_load (repeat u q e s) ss b t =
      let n = b + length ss in
      omega (arith, weight_on (made q ss n) (made_all e ss b t ++ made_all s ss b t), weight_on (made_all e ss b t) (made_all s ss b t), made_load q ss n, all_load e ss b t, all_load s ss b t)
  stmt_load (lights w args s) ss b t =
      let n = b + length ss in
      omega (arith, weight_on (made_exprs args ss n) (made_all s ss b t), exprs_load args ss n, all_load s ss b t)
  stmt_load leave ss b t = omega arith
  stmt_load again ss b t = omega arith

  pub all_load : (s : Stmts) (ss : List Slot) (b t : ℕ) → weight (made_all s ss b t) ≤ load_all s ss
  all_load done ss b t = omega arith
  all_load (first s rest) ss b t = omega (arith, weight_on (made_stmt s ss b t) (made_all rest (after s ss) b t), stmt_load s ss b t, all_load rest (after s ss) b t)
