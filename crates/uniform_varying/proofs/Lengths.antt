-- There are as many classes as nodes.
use Rattle.std.proofs.Common.{◌≡◌, ℕ, suc, Bool, true, false, List, [], ◌∷◌, ◌++◌, ◌&&◌, length, refl, ap, length-append, arith}
use Rattle.sl_ast.specs.Typed.{Expr, number, word, variable, apply, call, Exprs, none, more, Stmt, empty, leave, again, block, group, declare, start, assign, test, test_else, repeat, steps, lights, Stmts, done, first, Default, Tree, numbers, numbers_args, numbers_stmt, numbers_stmts, numbers_defaults, numbers_tree}
use Rattle.sl_ast.specs.Classes.{classes, classes_args, classes_stmt, classes_stmts, classes_defaults, classes_tree, is_uniform, is_uniform_loop, formal_classes, local_classes, after, after_all}

both : (xs ys : List Bool) (ms ns : List ℕ) → length xs ≡ length ms → length ys ≡ length ns → length (xs ++ ys) ≡ length (ms ++ ns)
both xs ys ms ns h k =
    let a = length-append xs ys in
    let b = length-append ms ns in
    omega (arith, a, b, h, k)

mutual
  length_expr : (e : Expr) (us : List Bool) (u : Bool) → length (classes e us u) ≡ length (numbers e)
  length_expr (number x p) us u = refl
  length_expr (word x p) us u = refl
  length_expr (variable x kind p) us u = refl
  length_expr (apply operation args kind p) us u = ap suc (length_args args us u)
  length_expr (call args formals body returned value kind p) us u =
      ap suc (both _ _ _ _ (length_args args us u) (both _ _ _ _ (length_stmts body (formal_classes formals) u)
      (ap suc (length_expr value (after_all body (formal_classes formals)) u))))

  length_args : (es : Exprs) (us : List Bool) (u : Bool) → length (classes_args es us u) ≡ length (numbers_args es)
  length_args none us u = refl
  length_args (more e rest) us u = both _ _ _ _ (length_expr e us u) (length_args rest us u)

  length_stmt : (s : Stmt) (us : List Bool) (u : Bool) → length (classes_stmt s us u) ≡ length (numbers_stmt s)
  length_stmt (empty p) us u = refl
  length_stmt (leave p) us u = refl
  length_stmt (again p) us u = refl
  length_stmt (block body p) us u = ap suc (length_stmts body us u)
  length_stmt (group body) us u = length_stmts body us u
  length_stmt (declare uniform kind e p) us u = ap suc (length_expr e us u)
  length_stmt (start uniform kind p) us u = refl
  length_stmt (assign x operator kind e p) us u = ap suc (length_expr e us u)
  length_stmt (test e s p) us u = ap suc (both _ _ _ _ (length_expr e us u) (length_stmt s us (u && is_uniform e us)))
  length_stmt (test_else e s r p) us u =
      ap suc (both _ _ _ _ (length_expr e us u) (both _ _ _ _ (length_stmt s us (u && is_uniform e us)) (length_stmt r us (u && is_uniform e us))))
  length_stmt (repeat e s p) us u =
      ap suc (both _ _ _ _ (length_expr e us (is_uniform_loop e s us u)) (length_stmt s us (is_uniform_loop e s us u)))
  length_stmt (steps a e b s p) us u =
      ap suc (both _ _ _ _ (length_stmts a us u) (both _ _ _ _ (length_expr e us (is_uniform_loop e s us u))
      (both _ _ _ _ (length_stmts b us (is_uniform_loop e s us u)) (length_stmt s us (is_uniform_loop e s us u)))))
  length_stmt (lights over args s p) us u = ap suc (both _ _ _ _ (length_args args us u) (length_stmt s us false))

  length_stmts : (ss : Stmts) (us : List Bool) (u : Bool) → length (classes_stmts ss us u) ≡ length (numbers_stmts ss)
  length_stmts done us u = refl
  length_stmts (first s rest) us u = both _ _ _ _ (length_stmt s us u) (length_stmts rest (after s us) u)

length_defaults : (ds : List Default) → length (classes_defaults ds) ≡ length (numbers_defaults ds)
length_defaults [] = refl
length_defaults (d ∷ ds) = ap suc (both _ _ _ _ (length_expr d.value [] true) (length_defaults ds))

pub length_tree : (t : Tree) → length (classes_tree t) ≡ length (numbers_tree t)
length_tree t = ap suc (both _ _ _ _ (length_defaults t.defaults) (length_stmts t.body (local_classes t.params) true))
