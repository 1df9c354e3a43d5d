-- For laws of the code alone, not the picture's definition: what a core tree means at one point.
use Rattle.std.specs.Prelude.{ℕ, List, []}
use Rattle.fixed_math.specs.Axes.{origin}
use Rattle.sl_ast.specs.declared.typed.Value.{Value}
use Rattle.sl_ast.specs.declared.typed.Value.TheVariants.{Triple}
use Rattle.builtins.specs.Lights.{sum_of}
use Rattle.builtins.specs.Table.{applied}
use Rattle.builtins.specs.Values.{as_kind}
use Rattle.sl_meaning.specs.Core.{Expr, literal, read, apply, differ, sum, texture, call, Exprs, none, more, Arguments, no_arguments, argument, Stmt, declare, assign, block, test, repeat, lights, leave, again, Stmts, done, first}
use Rattle.sl_meaning.specs.Environment.{Around, Next, Break, Continue, read_of, with_variable, declared}
use Rattle.sl_meaning.specs.Alone.{Gives, Runs, on_value, then_more, inlined, on_next, inside, either, loop, summed, over_lights, with_args}

abbrev mutual
  pub value : Expr → Around → ℕ → Gives Value
  value (literal v) g n e = (v, e)
  value (read x) g n e = (read_of x e, e)
  value (apply op args) g n e = on_value (applied op g.spaces) (all_values args g n) e
  -- differences and look-ups stand in no varying control, where a point has no neighbours
  value (differ d a) g n e = value a g n e
  value (sum s args) g n e = summed g (sum_of s) (all_values args g n) e
  value (texture k args) g n e = on_value (λ vs. Triple origin) (all_values args g n) e
  value (call args body kind r) g n e = inlined (arg_values args g n) (run_all body g n) (on_value (as_kind kind) (value r g n)) e

  pub all_values : Exprs → Around → ℕ → Gives (List Value)
  all_values none g n e = ([], e)
  all_values (more a rest) g n e = then_more (value a g n) (all_values rest g n) e

  pub arg_values : Arguments → Around → ℕ → Gives (List Value)
  arg_values no_arguments g n e = ([], e)
  arg_values (argument u kind a rest) g n e = then_more (on_value (as_kind kind) (value a g n)) (arg_values rest g n) e

  pub run : Stmt → Around → ℕ → Runs
  run (declare u kind a) g n e = let x = value a g n e in (Next, declared (as_kind kind x.0) x.1)
  run (assign x kind a) g n e = let y = value a g n e in (Next, with_variable x (as_kind kind y.0) y.1)
  run (block s) g n e = inside (run_all s g n) e
  run (test t a b) g n e = either (value t g n) (inside (run_all a g n)) (inside (run_all b g n)) e
  run (repeat u t step s) g n e = loop n u (value t g n) (run_all step g n) (inside (run_all s g n)) e
  run (lights which args s) g n e = with_args (all_values args g n) (λ vs. over_lights which g vs (inside (run_all s g n))) e
  run leave g n e = (Break, e)
  run again g n e = (Continue, e)

  pub run_all : Stmts → Around → ℕ → Runs
  run_all done g n e = (Next, e)
  run_all (first s rest) g n e = on_next (run s g n e) (run_all rest g n)
