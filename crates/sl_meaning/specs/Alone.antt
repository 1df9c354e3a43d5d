-- What an expression and a statement mean at one point (RenderMan Interface 3.2, Shading Language). Operands, arguments and the names of a
-- declaration are taken from left to right, each once. `us` are the classes of the variables in scope and `u` says that control is uniform: they
-- tell uniform loops from others, which take their turns from two budgets. `n` only bounds the definition: each turn of a loop takes one from a
-- budget that is at most as great.
use Rattle.std.specs.Prelude.{ℕ, zero, suc, pos, Bool, true, false, cond, nat_lt, List, [], ◌∷◌, ◌++◌, ◌&&◌, map}
use Rattle.fixed_math.specs.Axes.{origin}
use Rattle.fixed_math.specs.Fixed.{sub}
use Rattle.fixed_math.specs.declared.vec3.Vec3.{Vec3}
use Rattle.transforms.specs.declared.spaces.Spaces.{Spaces}
use Rattle.sl_ast.specs.declared.kinds.LightStmt.{LightStmt}
use Rattle.sl_ast.specs.declared.kinds.LightStmt.TheVariants.{Illuminance, Illuminate, Solar}
use Rattle.sl_ast.specs.declared.kinds.Predefined.{Predefined}
use Rattle.sl_ast.specs.declared.kinds.Predefined.TheVariants as names
use Rattle.sl_ast.specs.declared.kinds.SetOperator.{SetOperator}
use Rattle.sl_ast.specs.declared.kinds.SetOperator.TheVariants as sets
use Rattle.sl_ast.specs.declared.operations.Operation.TheVariants as operations
use Rattle.sl_ast.specs.declared.operations.Look.TheVariants as looks
use Rattle.sl_ast.specs.declared.operations.ValueOperation.{ValueOperation}
use Rattle.sl_ast.specs.declared.operations.ValueOperation.TheVariants as ops
use Rattle.sl_ast.specs.declared.typed.TreeFormal.{TreeFormal}
use Rattle.sl_ast.specs.declared.typed.Value.{Value}
use Rattle.sl_ast.specs.declared.typed.Value.TheVariants.{Number, Triple, Word}
use Rattle.sl_ast.specs.declared.typed.Variable.{Variable}
use Rattle.sl_ast.specs.declared.typed.Variable.TheVariants as variables
use Rattle.sl_ast.specs.Classes.{formal_classes, after, after_all, is_uniform, is_uniform_loop}
use Rattle.sl_ast.specs.Typed.{Expr, number, word, variable, apply, call, Exprs, none, more, Stmt, empty, leave, again, block, group, declare, start, assign, test, test_else, repeat, steps, lights, Stmts, done, first}
use Rattle.builtins.specs.Lights.{Light, is_in_cone, seen, sum_of}
use Rattle.builtins.specs.Table.{applied}
use Rattle.builtins.specs.Triples.{each_two}
use Rattle.builtins.specs.Values.{as_kind, is_true, triple_of}
use Rattle.sl_meaning.specs.Environment.{Env, Around, Signal, Next, Break, Continue, pi, read_of, with_name, with_variable, declared, start_value, value_type, budget, spend, scope_of, cut_to}

-- a value, with the environment behind it
abbrev pub Gives : Type 0 → Type 0
Gives A = Env → A × Env

-- what a statement does at a point: whether what follows it is run, and the point after it
abbrev pub Runs : Type 0
Runs = Env → Signal × Env

abbrev pub on_value : {A B : Type 0} → (A → B) → Gives A → Gives B
on_value f a e = let x = a e in (f x.0, x.1)

-- a value put before those of what follows
abbrev pub then_more : {A : Type 0} → Gives A → Gives (List A) → Gives (List A)
then_more a rest e = let x = a e in let y = rest x.1 in (x.0 ∷ y.0, y.1)

-- the value of a variable; that of `PI` is the same everywhere
abbrev pub value_of : Variable → Env → Value
value_of (variables.Predefined names.Pi) e = Number pi
value_of x e = read_of x e

-- behind the operands, the values that some predefined variables have then
abbrev pub and_names : List Predefined → Gives (List Value) → Gives (List Value)
and_names ps args e = let x = args e in (x.0 ++ map (λ p. x.1.named p) ps, x.1)

-- of a transformation the last operand is taken: the strings before it name its spaces, which stand in the operation
abbrev pub taken : {A : Type 0} → ValueOperation → A → A → A
taken (ops.Transform from into) last all = last
taken (ops.VTransform from into) last all = last
taken (ops.NTransform from into) last all = last
taken op last all = all

-- the first part of a colour
abbrev pub first_part : Spaces → List Value → Value
first_part sp vs = applied ops.Comp sp (vs ++ Number (pos 0) ∷ [])

-- an operation on what a variable held before the value was taken, and on the value
abbrev pub combined : ValueOperation → Variable → Spaces → Gives Value → Gives Value
combined op x sp a e = let y = a e in (applied op sp (read_of x e ∷ y.0 ∷ []), y.1)

-- what `=`, `+=`, `-=`, `*=` and `/=` put into a variable
abbrev pub put_into : SetOperator → Variable → Spaces → Gives Value → Gives Value
put_into sets.Set x sp a = a
put_into sets.Add x sp a = combined ops.Add x sp a
put_into sets.Subtract x sp a = combined ops.Subtract x sp a
put_into sets.Multiply x sp a = combined ops.Multiply x sp a
put_into sets.Divide x sp a = combined ops.Divide x sp a

-- the body over the arguments alone, and then the caller's variables again
abbrev pub inlined : Gives (List Value) → Runs → Gives Value → Gives Value
inlined args body result e =
    let a = args e in
    let r = result (body record a.1 { values = a.0 }).1 in
    (r.0, scope_of a.1 r.1)

abbrev pub on_next : Signal × Env → Runs → Signal × Env
on_next r go = elim r.0 [ Next ↦ go r.1 | Break ↦ r | Continue ↦ r ]

-- nothing is done
abbrev pub skip : Runs
skip e = (Next, e)

-- the variables that a block declared go out of scope
abbrev pub inside : Runs → Runs
inside body e = let r = body e in (r.0, cut_to e r.1)

abbrev pub either : Gives Value → Runs → Runs → Runs
either t a b e = let x = t e in cond (is_true x.0) (a x.1) (b x.1)

-- goes round again, behind the step, unless the body left the loop
abbrev pub round : Signal × Env → Runs → Runs → Signal × Env
round r step go = elim r.0 [ Next ↦ go (step r.1).1 | Break ↦ (Next, r.1) | Continue ↦ go (step r.1).1 ]

-- a loop: where its condition holds and its budget isn't spent it takes a turn
abbrev pub loop : ℕ → Bool → Gives Value → Runs → Runs → Runs
loop zero u t step body e = (Next, (t e).1)
loop (suc n) u t step body e =
    let x = t e in
    cond (is_true x.0) (cond (nat_lt 0 (budget u x.1)) (round (body (spend u x.1)) step (loop n u t step body)) (Next, x.1)) (Next, x.1)

-- a `for`: its first set, and then its turns
abbrev pub set_first : Runs → Runs → Runs
set_first set turns = inside (λ e. on_next (inside set e) turns)

-- the body once for each light that is seen, with its direction and colour; a break or continue leaves them all
abbrev pub under_light : Vec3 × Vec3 → Env → Env
under_light light e = with_name names.Cl (Triple light.1) (with_name names.L (Triple light.0) e)

-- a body once for each light that is seen
abbrev pub each_light : List (Vec3 × Vec3) → Runs → Runs
each_light [] body e = (Next, e)
each_light (light ∷ rest) body e = on_next (body (under_light light e)) (each_light rest body)

-- the answers of the lights at a point
abbrev pub answers_at : Around → Value → List Light
answers_at g p = map (λ light. light (triple_of p)) g.lights

-- they are asked at P as it is behind the operands
abbrev pub summed : Around → (List Value → List Light → Value) → Gives (List Value) → Gives Value
summed g f a e = let x = a e in (f x.0 (answers_at g (x.1.named names.P)), x.1)

-- the lights that an `illuminance` sees, by its place and its cone
abbrev pub seen_from : Around → List Value → List (Vec3 × Vec3)
seen_from g [] = []
seen_from g (place ∷ cone) = seen cone (answers_at g place)

-- the body under the direction l of the light itself, lit from there on
abbrev pub lighting : Vec3 → Runs → Runs
lighting l body e = body record (with_name names.L (Triple l) e) { lit = true }

-- the body of `illuminate`, where its cone holds the point
abbrev pub illuminated : List Value → Runs → Runs
illuminated [] body e = (Next, e)
illuminated (place ∷ cone) body e =
    let l = each_two sub (triple_of (e.named names.Ps)) (triple_of place) in
    cond (is_in_cone cone l) (lighting l body e) (Next, e)

-- the body of `solar`
abbrev pub solar : List Value → Runs → Runs
solar [] body e = (Next, e)
solar (axis ∷ _) body e = lighting (triple_of axis) body e

-- a statement over lights on its arguments' values
abbrev pub over_lights : LightStmt → Around → List Value → Runs → Runs
over_lights Illuminance g args body e = each_light (seen_from g args) body e
over_lights Illuminate g args body e = illuminated args body e
over_lights Solar g args body e = solar args body e

abbrev pub with_args : Gives (List Value) → (List Value → Runs) → Runs
with_args args go e = let x = args e in go x.0 x.1

abbrev mutual
  pub value : Expr → List Bool → Bool → Around → ℕ → Gives Value
  value (number x p) us u g n e = (Number x, e)
  value (word text p) us u g n e = (Word text, e)
  value (variable x kind p) us u g n e = (value_of x e, e)
  value (apply (operations.Value op) args kind p) us u g n e = on_value (applied op g.spaces) (taken op (last_value args us u g n) (all_values args us u g n)) e
  -- `faceforward` of two arguments reads the geometric normal
  value (apply operations.FaceForwardNg args kind p) us u g n e = on_value (applied ops.FaceForward g.spaces) (and_names (names.Ng ∷ []) (all_values args us u g n)) e
  value (apply (operations.Sum s) args kind p) us u g n e = summed g (sum_of s) (all_values args us u g n) e
  -- differences and look-ups stand in no varying control, where a point has no neighbours
  value (apply (operations.Difference d) args kind p) us u g n e = first_value args us u g n e
  value (apply (operations.Look looks.At) args kind p) us u g n e = on_value (λ vs. Triple origin) (all_values args us u g n) e
  value (apply (operations.Look looks.Here) args kind p) us u g n e = on_value (λ vs. Triple origin) (all_values args us u g n) e
  -- `float` before a look-up
  value (apply (operations.Look looks.First) args kind p) us u g n e = on_value (first_part g.spaces) (all_values args us u g n) e
  value (call args formals body returned result kind p) us u g n e =
      inlined (arg_values args formals us u g n) (run_all body (formal_classes formals) u g n)
      (on_value (as_kind (value_type kind)) (value result (after_all body (formal_classes formals)) u g n)) e

  pub all_values : Exprs → List Bool → Bool → Around → ℕ → Gives (List Value)
  all_values none us u g n e = ([], e)
  all_values (more a rest) us u g n e = then_more (value a us u g n) (all_values rest us u g n) e

  pub first_value : Exprs → List Bool → Bool → Around → ℕ → Gives Value
  first_value none us u g n e = (Number (pos 0), e)
  first_value (more a rest) us u g n e = value a us u g n e

  pub last_value : Exprs → List Bool → Bool → Around → ℕ → Gives (List Value)
  last_value none us u g n e = ([], e)
  last_value (more a none) us u g n e = on_value (λ v. v ∷ []) (value a us u g n) e
  last_value (more a rest) us u g n e = last_value rest us u g n e

  -- each argument in the type of its formal
  pub arg_values : Exprs → List TreeFormal → List Bool → Bool → Around → ℕ → Gives (List Value)
  arg_values none formals us u g n e = ([], e)
  arg_values (more a rest) [] us u g n e = ([], e)
  arg_values (more a rest) (f ∷ fs) us u g n e = then_more (on_value (as_kind f.kind) (value a us u g n)) (arg_values rest fs us u g n) e

  pub run : Stmt → List Bool → Bool → Around → ℕ → Runs
  run (empty p) us u g n e = (Next, e)
  run (leave p) us u g n e = (Break, e)
  run (again p) us u g n e = (Continue, e)
  run (block body p) us u g n e = inside (run_all body us u g n) e
  run (group body) us u g n e = inside (run_all body us u g n) e
  run (declare uniform kind a p) us u g n e = let x = value a us u g n e in (Next, declared (as_kind kind x.0) x.1)
  run (start uniform kind p) us u g n e = (Next, declared (as_kind kind (start_value kind)) e)
  run (assign x operator kind a p) us u g n e = let y = put_into operator x g.spaces (value a us u g n) e in (Next, with_variable x (as_kind kind y.0) y.1)
  run (test t s p) us u g n e = either (value t us u g n) (inside (run s us (u && is_uniform t us) g n)) skip e
  run (test_else t s r p) us u g n e =
      either (value t us u g n) (inside (run s us (u && is_uniform t us) g n)) (inside (run r us (u && is_uniform t us) g n)) e
  -- a uniform loop keeps uniform control within it
  run (repeat t s p) us u g n e =
      let w = is_uniform_loop t s us u in loop n w (value t us w g n) skip (inside (run s us w g n)) e
  run (steps a t b s p) us u g n e =
      let w = is_uniform_loop t s us u in
      set_first (run_all a us u g n) (loop n w (value t us w g n) (run_all b us w g n) (inside (run s us w g n))) e
  run (lights over args s p) us u g n e = with_args (all_values args us u g n) (λ vs. over_lights over g vs (inside (run s us false g n))) e

  pub run_all : Stmts → List Bool → Bool → Around → ℕ → Runs
  run_all done us u g n e = (Next, e)
  run_all (first s rest) us u g n e = on_next (run s us u g n e) (run_all rest (after s us) u g n)

-- the turns of a loop that each point takes by itself
abbrev pub own_turns : Expr → Stmts → Stmt → List Bool → Around → ℕ → Runs
own_turns t step s us g n = loop n false (value t us false g n) (run_all step us false g n) (inside (run s us false g n))
