-- What a typed tree means at a point, its core tree means there.
use Rattle.std.proofs.Common.{◌≡◌, ℕ, pos, Bool, false, List, [], ◌∷◌, ◌++◌, length, take, refl, sym, ap, ◌∙◌}
use Rattle.std.specs.Prelude.{◌&&◌}
use Rattle.fixed_math.specs.Axes.{origin}
use Rattle.sl_ast.specs.declared.kinds.Predefined.{Predefined}
use Rattle.sl_ast.specs.declared.kinds.Predefined.TheVariants as names
use Rattle.sl_ast.specs.declared.kinds.SetOperator.{SetOperator}
use Rattle.sl_ast.specs.declared.kinds.SetOperator.TheVariants as sets
use Rattle.sl_ast.specs.declared.operations.Operation.TheVariants as operations
use Rattle.sl_ast.specs.declared.operations.Look.TheVariants as looks
use Rattle.sl_ast.specs.declared.operations.ValueOperation.{ValueOperation}
use Rattle.sl_ast.specs.declared.operations.ValueOperation.TheVariants as ops
use Rattle.sl_ast.specs.declared.typed.TreeFormal.{TreeFormal}
use Rattle.sl_ast.specs.declared.typed.Value.{Value}
use Rattle.sl_ast.specs.declared.typed.Value.TheVariants.{Number, Triple}
use Rattle.sl_ast.specs.declared.typed.Variable.{Variable}
use Rattle.sl_ast.specs.declared.typed.Variable.TheVariants as variables
use Rattle.sl_ast.specs.Classes.{formal_classes, after, after_all, is_uniform, is_uniform_loop}
use Rattle.sl_ast.specs.Typed as T
use Rattle.builtins.specs.Lights.{sum_of}
use Rattle.builtins.specs.Table.{applied}
use Rattle.builtins.specs.Values.{as_kind}
use Rattle.sl_meaning.specs.Core as C
use Rattle.sl_meaning.specs.CoreAlone as core
use Rattle.sl_meaning.specs.Environment as environment
use Rattle.sl_meaning.specs.Environment.{Env, Around, Signal, Next, Break, Continue, read_of, with_variable, declared, cut_to}
use Rattle.sl_meaning.specs.Lowered as lowered
use Rattle.sl_meaning.specs.Alone.{Gives, Runs, on_value, then_more, taken, first_part, and_names, put_into, summed, inlined, on_next, skip, inside, either, loop, set_first, over_lights, with_args, value_of, value, all_values, first_value, last_value, arg_values, run, run_all}

-- the whole of a list is taken
pub take_all : {A : Type 0} (xs : List A) → take (length xs) xs ≡ xs
take_all [] = refl
take_all (x ∷ xs) = ap (λ ys. x ∷ ys) (take_all xs)

-- an empty block does nothing
pub nothing_is : skip ≡ inside skip
nothing_is = λ i e. (Next, record e { values = sym (take_all e.values) i })

next_is : (r : Signal × Env) → r ≡ on_next r skip
next_is (Next, e) = refl
next_is (Break, e) = refl
next_is (Continue, e) = refl

-- a statement alone in a block
pub alone_is : (s : Runs) (c : C.Stmt) (g : Around) (n : ℕ) → s ≡ core.run c g n → inside s ≡ inside (core.run_all (lowered.alone c) g n)
alone_is s c g n h = λ i. inside (λ e. (ap (λ f. f e) h ∙ next_is (core.run c g n e)) i)

read_is : (p : Predefined) (e : Env) (g : Around) (n : ℕ) → (value_of (variables.Predefined p) e, e) ≡ core.value (lowered.read (variables.Predefined p)) g n e
read_is names.Pi e g n = refl
read_is p e g n = refl

-- operands

taken_is : (op : ValueOperation) (es : C.Exprs) (last all : Gives (List Value)) (g : Around) (n : ℕ) → last ≡ core.all_values (lowered.last es) g n → all ≡ core.all_values es g n
    → taken op last all ≡ core.all_values (lowered.operands op es) g n
taken_is (ops.Transform from into) es last all g n h k = h
taken_is (ops.VTransform from into) es last all g n h k = h
taken_is (ops.NTransform from into) es last all g n h k = h
taken_is op es last all g n h k = k

-- the values of operands with one more behind them
with_last_is : (es : C.Exprs) (x : C.Expr) (g : Around) (n : ℕ) (e : Env)
    → core.all_values (lowered.with_last es x) g n e ≡ (let y = core.all_values es g n e in let z = core.value x g n y.1 in (y.0 ++ z.0 ∷ [], z.1))
with_last_is C.none x g n e = refl
with_last_is (C.more a rest) x g n e = ap (λ y. ((core.value a g n e).0 ∷ y.0, y.1)) (with_last_is rest x g n (core.value a g n e).1)

-- `texture` of a name alone also reads s and t
looked_is : (es : C.Exprs) (k : ℕ) (g : Around) (n : ℕ) → on_value (λ vs. Triple origin) (core.all_values es g n) ≡ core.value (lowered.looked_up looks.Here k es) g n
looked_is es k g n =
    λ i e. (
      Triple origin,
      (sym (
          ap (λ y. y.1) (with_last_is (lowered.with_last es (C.read (variables.Predefined names.S))) (C.read (variables.Predefined names.T)) g n e) ∙
          ap (λ y. y.1) (with_last_is es (C.read (variables.Predefined names.S)) g n e)
          )) i,
    )

put_is : (operator : SetOperator) (x : Variable) (g : Around) (n : ℕ) (a : Gives Value) (c : C.Expr) → a ≡ core.value c g n → put_into operator x g.spaces a ≡ core.value (lowered.put_into operator x c) g n
put_is sets.Set x g n a c h = h
put_is sets.Add x g n a c h = λ i e. (applied ops.Add g.spaces (read_of x e ∷ (h i e).0 ∷ []), (h i e).1)
put_is sets.Subtract x g n a c h = λ i e. (applied ops.Subtract g.spaces (read_of x e ∷ (h i e).0 ∷ []), (h i e).1)
put_is sets.Multiply x g n a c h = λ i e. (applied ops.Multiply g.spaces (read_of x e ∷ (h i e).0 ∷ []), (h i e).1)
put_is sets.Divide x g n a c h = λ i e. (applied ops.Divide g.spaces (read_of x e ∷ (h i e).0 ∷ []), (h i e).1)

-- a loop behind its first set
turns_are : (a : C.Stmts) (c : C.Stmt) (g : Around) (n : ℕ) → set_first (core.run_all a g n) (core.run c g n) ≡ core.run (C.block (C.first (C.block a) (lowered.alone c))) g n
turns_are a c g n = λ i. inside (λ e. on_next (inside (core.run_all a g n) e) (λ d. next_is (core.run c g n d) i))

mutual
  pub value_is : (x : T.Expr) (us : List Bool) (u : Bool) (g : Around) (n : ℕ) → value x us u g n ≡ core.value (lowered.expr x us u) g n
  value_is (T.number x p) us u g n = refl
  value_is (T.word text p) us u g n = refl
  value_is (T.variable (variables.Predefined name) kind p) us u g n = λ i e. read_is name e g n i
  value_is (T.variable (variables.Level k) kind p) us u g n = refl
  value_is (T.apply (operations.Value op) args kind p) us u g n =
      λ i e. on_value (applied op g.spaces) (taken_is op (lowered.exprs args us u) (last_value args us u g n) (all_values args us u g n) g n (last_values_are args us u g n) (values_are args us u g n) i) e
  value_is (T.apply operations.FaceForwardNg args kind p) us u g n =
      λ i e. on_value (applied ops.FaceForward g.spaces)
      (((λ j d. and_names (names.Ng ∷ []) (values_are args us u g n j) d) ∙ (λ j d. sym (with_last_is (lowered.exprs args us u) (C.read (variables.Predefined names.Ng)) g n d) j)) i) e
  value_is (T.apply (operations.Difference d) args kind p) us u g n = first_is args us u g n d
  value_is (T.apply (operations.Sum s) args kind p) us u g n = λ i e. summed g (sum_of s) (values_are args us u g n i) e
  value_is (T.apply (operations.Look looks.At) args kind p) us u g n = λ i e. on_value (λ vs. Triple origin) (values_are args us u g n i) e
  value_is (T.apply (operations.Look looks.Here) args kind p) us u g n =
      (λ i e. on_value (λ vs. Triple origin) (values_are args us u g n i) e) ∙ looked_is (lowered.exprs args us u) p.number g n
  value_is (T.apply (operations.Look looks.First) args kind p) us u g n =
      (λ i e. on_value (first_part g.spaces) (values_are args us u g n i) e) ∙
      (λ i e. let q = sym (with_last_is (lowered.exprs args us u) (C.literal (Number (pos 0))) g n e) i in (applied ops.Comp g.spaces q.0, q.1))
  value_is (T.call args formals body returned x kind p) us u g n =
      λ i e. inlined (args_are args formals us u g n i) (all_is body (formal_classes formals) u g n i)
      (on_value (as_kind (environment.value_type kind)) (value_is x (after_all body (formal_classes formals)) u g n i)) e

  values_are : (es : T.Exprs) (us : List Bool) (u : Bool) (g : Around) (n : ℕ) → all_values es us u g n ≡ core.all_values (lowered.exprs es us u) g n
  values_are T.none us u g n = refl
  values_are (T.more a rest) us u g n = λ i e. then_more (value_is a us u g n i) (values_are rest us u g n i) e

  first_is : (es : T.Exprs) (us : List Bool) (u : Bool) (g : Around) (n : ℕ) (d : _) → first_value es us u g n ≡ core.value (lowered.difference_of d (lowered.exprs es us u)) g n
  first_is T.none us u g n d = refl
  first_is (T.more a rest) us u g n d = λ i e. value_is a us u g n i e

  last_values_are : (es : T.Exprs) (us : List Bool) (u : Bool) (g : Around) (n : ℕ) → last_value es us u g n ≡ core.all_values (lowered.last (lowered.exprs es us u)) g n
  last_values_are T.none us u g n = refl
  last_values_are (T.more a T.none) us u g n = λ i e. on_value (λ v. v ∷ []) (value_is a us u g n i) e
  last_values_are (T.more a (T.more b rest)) us u g n = λ i e. last_values_are (T.more b rest) us u g n i e

  args_are : (es : T.Exprs) (fs : List TreeFormal) (us : List Bool) (u : Bool) (g : Around) (n : ℕ) → arg_values es fs us u g n ≡ core.arg_values (lowered.arguments es fs us u) g n
  args_are T.none fs us u g n = refl
  args_are (T.more a rest) [] us u g n = refl
  args_are (T.more a rest) (f ∷ fs) us u g n = λ i e. then_more (on_value (as_kind f.kind) (value_is a us u g n i)) (args_are rest fs us u g n i) e

  pub run_is : (s : T.Stmt) (us : List Bool) (u : Bool) (g : Around) (n : ℕ) → run s us u g n ≡ core.run (lowered.stmt s us u) g n
  run_is (T.empty p) us u g n = nothing_is
  run_is (T.leave p) us u g n = refl
  run_is (T.again p) us u g n = refl
  run_is (T.block body p) us u g n = λ i e. inside (all_is body us u g n i) e
  run_is (T.group body) us u g n = λ i e. inside (all_is body us u g n i) e
  run_is (T.declare uniform kind a p) us u g n = λ i e. let x = value_is a us u g n i e in (Next, declared (as_kind kind x.0) x.1)
  run_is (T.start uniform kind p) us u g n = refl
  run_is (T.assign x operator kind a p) us u g n =
      λ i e. let y = put_is operator x g n (value a us u g n) (lowered.expr a us u) (value_is a us u g n) i e in (Next, with_variable x (as_kind kind y.0) y.1)
  run_is (T.test t s p) us u g n = λ i e. either (value_is t us u g n i) (alone_is (run s us (u && is_uniform t us) g n) (lowered.stmt s us (u && is_uniform t us)) g n (run_is s us (u && is_uniform t us) g n) i) (nothing_is i) e
  run_is (T.test_else t s r p) us u g n = λ i e. either (value_is t us u g n i) (alone_is (run s us (u && is_uniform t us) g n) (lowered.stmt s us (u && is_uniform t us)) g n (run_is s us (u && is_uniform t us) g n) i) (alone_is (run r us (u && is_uniform t us) g n) (lowered.stmt r us (u && is_uniform t us)) g n (run_is r us (u && is_uniform t us) g n) i) e
  run_is (T.repeat t s p) us u g n =
      λ i e. loop n (is_uniform_loop t s us u) (value_is t us (is_uniform_loop t s us u) g n i) skip (alone_is (run s us (is_uniform_loop t s us u) g n) (lowered.stmt s us (is_uniform_loop t s us u)) g n (run_is s us (is_uniform_loop t s us u) g n) i) e
  run_is (T.steps a t b s p) us u g n =
      (λ i e. set_first (all_is a us u g n i) (loop n (is_uniform_loop t s us u) (value_is t us (is_uniform_loop t s us u) g n i) (all_is b us (is_uniform_loop t s us u) g n i) (alone_is (run s us (is_uniform_loop t s us u) g n) (lowered.stmt s us (is_uniform_loop t s us u)) g n (run_is s us (is_uniform_loop t s us u) g n) i)) e) ∙
      turns_are (lowered.stmts a us u)
      (C.repeat (is_uniform_loop t s us u) (lowered.expr t us (is_uniform_loop t s us u)) (lowered.stmts b us (is_uniform_loop t s us u)) (lowered.alone (lowered.stmt s us (is_uniform_loop t s us u)))) g n
  run_is (T.lights over args s p) us u g n = λ i e. with_args (values_are args us u g n i) (λ vs. over_lights over g vs (alone_is (run s us false g n) (lowered.stmt s us false) g n (run_is s us false g n) i)) e

  pub all_is : (ss : T.Stmts) (us : List Bool) (u : Bool) (g : Around) (n : ℕ) → run_all ss us u g n ≡ core.run_all (lowered.stmts ss us u) g n
  all_is T.done us u g n = refl
  all_is (T.first s rest) us u g n = λ i e. on_next (run_is s us u g n i e) (all_is rest (after s us) u g n i)
