-- For laws of the code alone, not the picture's definition: what a core tree means on a grid of points, in uniform control.
use Rattle.std.specs.Prelude.{ℕ, false, List, []}
use Rattle.sl_ast.specs.declared.typed.Value.{Value}
use Rattle.builtins.specs.Differences.{difference}
use Rattle.builtins.specs.Lights.{sum_of}
use Rattle.builtins.specs.Table.{applied}
use Rattle.builtins.specs.Textures.{textured}
use Rattle.builtins.specs.Values.{as_kind}
use Rattle.sl_meaning.specs.Core.{Slot, Expr, literal, read, apply, differ, sum, texture, call, Exprs, none, more, Arguments, no_arguments, argument, Stmt, declare, assign, block, test, repeat, lights, leave, again, Stmts, done, first, formals, after, is_uniform}
use Rattle.sl_meaning.specs.Environment.{Around, Next, Break, Continue, read_of, with_variable, declared}
use Rattle.sl_meaning.specs.Alone.{over_lights, inside}
use Rattle.sl_meaning.specs.CoreAlone.{run, run_all}
use Rattle.sl_meaning.specs.Grid.{GivesAll, RunsAll, on_all, more_all, summed_all, inlined_all, next_all, inside_all, choice_all, loops_all, with_args_all}

abbrev mutual
  pub values : Expr → Around → ℕ → GivesAll Value
  values (literal v) g n es = (λ i. v, es)
  values (read x) g n es = (λ i. read_of x (es i), es)
  values (apply op args) g n es = on_all (applied op g.spaces) (all_of args g n) es
  values (differ d a) g n es = let x = values a g n es in (difference d g.lines g.spaces.flip x.0, x.1)
  values (sum s args) g n es = summed_all g (sum_of s) (all_of args g n) es
  values (texture k args) g n es = let x = all_of args g n es in (textured g.lines (g.images k) x.0, x.1)
  values (call args body kind r) g n es = inlined_all (args_of args g n) (grid_all body (formals args) g n) (on_all (as_kind kind) (values r g n)) es

  pub all_of : Exprs → Around → ℕ → GivesAll (List Value)
  all_of none g n es = (λ i. [], es)
  all_of (more a rest) g n es = more_all (values a g n) (all_of rest g n) es

  pub args_of : Arguments → Around → ℕ → GivesAll (List Value)
  args_of no_arguments g n es = (λ i. [], es)
  args_of (argument u kind a rest) g n es = more_all (on_all (as_kind kind) (values a g n)) (args_of rest g n) es

  -- `ss` are the variables in scope
  pub grid : Stmt → List Slot → Around → ℕ → RunsAll
  grid (declare u kind a) ss g n es = let x = values a g n es in (Next, λ i. declared (as_kind kind (x.0 i)) (x.1 i))
  grid (assign x kind a) ss g n es = let y = values a g n es in (Next, λ i. with_variable x (as_kind kind (y.0 i)) (y.1 i))
  grid (block s) ss g n es = inside_all (grid_all s ss g n) es
  grid (test t a b) ss g n es = choice_all (is_uniform t ss) (values t g n) (inside_all (grid_all a ss g n)) (inside_all (grid_all b ss g n)) (inside (run_all a g n)) (inside (run_all b g n)) es
  grid (repeat u t step s) ss g n es = loops_all u n (values t g n) (grid_all step ss g n) (inside_all (grid_all s ss g n)) (run (repeat false t step s) g n) es
  grid (lights which args s) ss g n es = with_args_all (all_of args g n) (λ vs. over_lights which g vs (inside (run_all s g n))) es
  grid leave ss g n es = (Break, es)
  grid again ss g n es = (Continue, es)

  pub grid_all : Stmts → List Slot → Around → ℕ → RunsAll
  grid_all done ss g n es = (Next, es)
  grid_all (first s rest) ss g n es = next_all (grid s ss g n es) (grid_all rest (after s ss) g n)
