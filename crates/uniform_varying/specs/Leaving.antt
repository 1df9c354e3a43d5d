-- Whether a break or continue leaves a statement. Those of a loop in it leave that loop.
use Rattle.std.specs.Prelude.{Bool, true, false, ◌&&◌}
use Rattle.sl_ast.specs.Typed.{Stmt, empty, leave, again, block, group, declare, start, assign, test, test_else, repeat, steps, lights, Stmts, done, first}

-- none leaves it
abbrev mutual
  pub stays : Stmt → Bool
  stays (empty p) = true
  stays (leave p) = false
  stays (again p) = false
  stays (block body p) = all_stay body
  stays (group body) = all_stay body
  stays (declare uniform kind e p) = true
  stays (start uniform kind p) = true
  stays (assign x operator kind e p) = true
  stays (test e s p) = stays s
  stays (test_else e s r p) = stays s && stays r
  stays (repeat e s p) = true
  stays (steps a e b s p) = true
  stays (lights over args s p) = stays s

  pub all_stay : Stmts → Bool
  all_stay done = true
  all_stay (first s rest) = stays s && all_stay rest
