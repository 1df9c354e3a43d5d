-- What a statement means on a grid of points, in uniform control: each node at all points before the next. What stands in varying control
-- is taken at each point by itself. `us` are the classes of the variables in scope.
use Rattle.std.specs.Prelude.{ℕ, zero, suc, pos, Bool, true, false, cond, nat_lt, List, [], ◌∷◌, ◌++◌, map}
use Rattle.sl_ast.specs.declared.kinds.Predefined.{Predefined}
use Rattle.sl_ast.specs.declared.kinds.Predefined.TheVariants as names
use Rattle.sl_ast.specs.declared.kinds.SetOperator.{SetOperator}
use Rattle.sl_ast.specs.declared.kinds.SetOperator.TheVariants as sets
use Rattle.sl_ast.specs.declared.operations.Difference.{Difference}
use Rattle.sl_ast.specs.declared.operations.Operation.TheVariants as operations
use Rattle.sl_ast.specs.declared.operations.Look.TheVariants as looks
use Rattle.sl_ast.specs.declared.operations.ValueOperation.{ValueOperation}
use Rattle.sl_ast.specs.declared.operations.ValueOperation.TheVariants as ops
use Rattle.sl_ast.specs.declared.typed.TreeFormal.{TreeFormal}
use Rattle.sl_ast.specs.declared.typed.Value.{Value}
use Rattle.sl_ast.specs.declared.typed.Value.TheVariants.{Number, Word}
use Rattle.sl_ast.specs.declared.typed.Variable.{Variable}
use Rattle.sl_ast.specs.Classes.{formal_classes, after, after_all, is_uniform, is_uniform_loop}
use Rattle.sl_ast.specs.Typed.{Expr, number, word, variable, apply, call, Exprs, none, more, Stmt, empty, leave, again, block, group, declare, start, assign, test, test_else, repeat, steps, lights, Stmts, done, first}
use Rattle.transforms.specs.declared.spaces.Spaces.{Spaces}
use Rattle.builtins.specs.Differences.{difference}
use Rattle.builtins.specs.Lights.{Light, sum_of}
use Rattle.builtins.specs.Table.{applied}
use Rattle.builtins.specs.Textures.{textured}
use Rattle.builtins.specs.Values.{as_kind, is_true}
use Rattle.sl_meaning.specs.Environment.{Env, Around, Signal, Next, Break, Continue, read_of, with_variable, declared, start_value, value_type, spend, scope_of, cut_to}
use Rattle.sl_meaning.specs.Alone.{Runs, value_of, taken, first_part, answers_at, over_lights, inside, skip, run, own_turns}

-- an environment for each place of the grid; places go by rows
abbrev pub Envs : Type 0
Envs = ℕ → Env

-- a value at each place of a grid, and the points after it
abbrev pub GivesAll : Type 0 → Type 0
GivesAll A = Envs → (ℕ → A) × Envs

-- how a statement ends at all places, and the points after it
abbrev pub RunsAll : Type 0
RunsAll = Envs → Signal × Envs

abbrev pub on_all : {A B : Type 0} → (A → B) → GivesAll A → GivesAll B
on_all f a es = let x = a es in (λ i. f (x.0 i), x.1)

abbrev pub more_all : {A : Type 0} → GivesAll A → GivesAll (List A) → GivesAll (List A)
more_all a rest es = let x = a es in let y = rest x.1 in (λ i. x.0 i ∷ y.0 i, y.1)

-- behind the operands, the values that some predefined variables have then
abbrev pub and_names_all : List Predefined → GivesAll (List Value) → GivesAll (List Value)
and_names_all ps args es = let x = args es in (λ i. x.0 i ++ map (λ p. (x.1 i).named p) ps, x.1)

-- what `=`, `+=`, `-=`, `*=` and `/=` put into a variable
abbrev pub combined_all : ValueOperation → Variable → Spaces → GivesAll Value → GivesAll Value
combined_all op x sp a es = let y = a es in (λ i. applied op sp (read_of x (es i) ∷ y.0 i ∷ []), y.1)

abbrev pub put_all : SetOperator → Variable → Spaces → GivesAll Value → GivesAll Value
put_all sets.Set x sp a = a
put_all sets.Add x sp a = combined_all ops.Add x sp a
put_all sets.Subtract x sp a = combined_all ops.Subtract x sp a
put_all sets.Multiply x sp a = combined_all ops.Multiply x sp a
put_all sets.Divide x sp a = combined_all ops.Divide x sp a

-- the lights are asked at P as it is behind the operands
abbrev pub summed_all : Around → (List Value → List Light → Value) → GivesAll (List Value) → GivesAll Value
summed_all g f a es = let x = a es in (λ i. f (x.0 i) (answers_at g ((x.1 i).named names.P)), x.1)

abbrev pub inlined_all : GivesAll (List Value) → RunsAll → GivesAll Value → GivesAll Value
inlined_all args body result es =
    let a = args es in
    let r = result (body (λ i. record (a.1 i) { values = a.0 i })).1 in
    (r.0, λ i. scope_of (a.1 i) (r.1 i))

abbrev pub next_all : Signal × Envs → RunsAll → Signal × Envs
next_all r go = elim r.0 [ Next ↦ go r.1 | Break ↦ r | Continue ↦ r ]

-- a block: its variables end with it
abbrev pub inside_all : RunsAll → RunsAll
inside_all body es = let r = body es in (r.0, λ i. cut_to (es i) (r.1 i))

-- nothing is done
abbrev pub skip_all : RunsAll
skip_all es = (Next, es)

-- a `for`: its first set, and then its turns
abbrev pub set_first_all : RunsAll → RunsAll → RunsAll
set_first_all set turns = inside_all (λ es. next_all (inside_all set es) turns)

-- each place by itself; no break or continue leaves such a statement
abbrev pub each : (ℕ → Runs) → RunsAll
each f es = (Next, λ i. (f i (es i)).1)

-- a uniform condition is that of the first place, and a varying one sends each place its own way
abbrev pub choice_all : Bool → GivesAll Value → RunsAll → RunsAll → Runs → Runs → RunsAll
choice_all true t a b one other es = let x = t es in cond (is_true (x.0 0)) (a x.1) (b x.1)
choice_all false t a b one other es = let x = t es in each (λ i e. cond (is_true (x.0 i)) (one e) (other e)) x.1

abbrev pub round_all : Signal × Envs → RunsAll → RunsAll → Signal × Envs
round_all r step go = elim r.0 [ Next ↦ go (step r.1).1 | Break ↦ (Next, r.1) | Continue ↦ go (step r.1).1 ]

-- a uniform loop: its condition and its budget are those of the first place
abbrev pub loop_all : ℕ → GivesAll Value → RunsAll → RunsAll → RunsAll
loop_all zero t step body es = (Next, (t es).1)
loop_all (suc n) t step body es =
    let x = t es in
    cond (is_true (x.0 0)) (cond (nat_lt 0 (x.1 0).turns) (round_all (body (λ i. spend true (x.1 i))) step (loop_all n t step body)) (Next, x.1)) (Next, x.1)

abbrev pub loops_all : Bool → ℕ → GivesAll Value → RunsAll → RunsAll → Runs → RunsAll
loops_all true n t step body own es = loop_all n t step body es
loops_all false n t step body own es = each (λ i e. own e) es

abbrev pub with_args_all : GivesAll (List Value) → (List Value → Runs) → RunsAll
with_args_all args go es = let x = args es in each (λ i e. go (x.0 i) e) x.1

abbrev mutual
  pub values : Expr → List Bool → Around → ℕ → GivesAll Value
  values (number x p) us g n es = (λ i. Number x, es)
  values (word text p) us g n es = (λ i. Word text, es)
  values (variable x kind p) us g n es = (λ i. value_of x (es i), es)
  values (apply (operations.Value op) args kind p) us g n es = on_all (applied op g.spaces) (taken op (last_of args us g n) (all_of args us g n)) es
  -- `faceforward` of two arguments reads the geometric normal
  values (apply operations.FaceForwardNg args kind p) us g n es = on_all (applied ops.FaceForward g.spaces) (and_names_all (names.Ng ∷ []) (all_of args us g n)) es
  values (apply (operations.Sum s) args kind p) us g n es = summed_all g (sum_of s) (all_of args us g n) es
  values (apply (operations.Difference d) args kind p) us g n es = differences d args us g n es
  values (apply (operations.Look looks.At) args kind p) us g n es = let x = all_of args us g n es in (textured g.lines (g.images p.number) x.0, x.1)
  -- `texture` of a name alone looks up at the predefined s and t
  values (apply (operations.Look looks.Here) args kind p) us g n es =
      let x = and_names_all (names.S ∷ names.T ∷ []) (all_of args us g n) es in (textured g.lines (g.images p.number) x.0, x.1)
  -- `float` before a look-up
  values (apply (operations.Look looks.First) args kind p) us g n es = on_all (first_part g.spaces) (all_of args us g n) es
  values (call args formals body returned result kind p) us g n es =
      inlined_all (args_of args formals us g n) (grid_all body (formal_classes formals) g n)
      (on_all (as_kind (value_type kind)) (values result (after_all body (formal_classes formals)) g n)) es

  -- a difference of the operand's values at neighbours
  pub differences : Difference → Exprs → List Bool → Around → ℕ → GivesAll Value
  differences d none us g n es = (λ i. Number (pos 0), es)
  differences d (more a rest) us g n es = let x = values a us g n es in (difference d g.lines g.spaces.flip x.0, x.1)

  pub all_of : Exprs → List Bool → Around → ℕ → GivesAll (List Value)
  all_of none us g n es = (λ i. [], es)
  all_of (more a rest) us g n es = more_all (values a us g n) (all_of rest us g n) es

  pub last_of : Exprs → List Bool → Around → ℕ → GivesAll (List Value)
  last_of none us g n es = (λ i. [], es)
  last_of (more a none) us g n es = on_all (λ v. v ∷ []) (values a us g n) es
  last_of (more a rest) us g n es = last_of rest us g n es

  pub args_of : Exprs → List TreeFormal → List Bool → Around → ℕ → GivesAll (List Value)
  args_of none formals us g n es = (λ i. [], es)
  args_of (more a rest) [] us g n es = (λ i. [], es)
  args_of (more a rest) (f ∷ fs) us g n es = more_all (on_all (as_kind f.kind) (values a us g n)) (args_of rest fs us g n) es

  pub grid : Stmt → List Bool → Around → ℕ → RunsAll
  grid (empty p) us g n es = (Next, es)
  grid (leave p) us g n es = (Break, es)
  grid (again p) us g n es = (Continue, es)
  grid (block body p) us g n es = inside_all (grid_all body us g n) es
  grid (group body) us g n es = inside_all (grid_all body us g n) es
  grid (declare uniform kind a p) us g n es = let x = values a us g n es in (Next, λ i. declared (as_kind kind (x.0 i)) (x.1 i))
  grid (start uniform kind p) us g n es = (Next, λ i. declared (as_kind kind (start_value kind)) (es i))
  grid (assign x operator kind a p) us g n es = let y = put_all operator x g.spaces (values a us g n) es in (Next, λ i. with_variable x (as_kind kind (y.0 i)) (y.1 i))
  grid (test t s p) us g n es = choice_all (is_uniform t us) (values t us g n) (inside_all (grid s us g n)) skip_all (inside (run s us false g n)) skip es
  grid (test_else t s r p) us g n es =
      choice_all (is_uniform t us) (values t us g n) (inside_all (grid s us g n)) (inside_all (grid r us g n)) (inside (run s us false g n)) (inside (run r us false g n)) es
  grid (repeat t s p) us g n es =
      loops_all (is_uniform_loop t s us true) n (values t us g n) skip_all (inside_all (grid s us g n)) (own_turns t done s us g n) es
  grid (steps a t b s p) us g n es =
      set_first_all (grid_all a us g n) (loops_all (is_uniform_loop t s us true) n (values t us g n) (grid_all b us g n) (inside_all (grid s us g n)) (own_turns t b s us g n)) es
  grid (lights over args s p) us g n es = with_args_all (all_of args us g n) (λ vs. over_lights over g vs (inside (run s us false g n))) es

  pub grid_all : Stmts → List Bool → Around → ℕ → RunsAll
  grid_all done us g n es = (Next, es)
  grid_all (first s rest) us g n es = next_all (grid s us g n es) (grid_all rest (after s us) g n)
