-- What a typed tree means on a grid, its core tree means there, where the conditions of its branches have one class in both: those of a well typed
-- tree have.
use Rattle.std.proofs.Common.{◌≡◌, ℕ, pos, Bool, true, false, cond, List, [], ◌∷◌, ◌++◌, refl, sym, ap, ◌∙◌, subst, append_assoc}
use Rattle.sl_ast.specs.declared.kinds.Predefined.{Predefined}
use Rattle.sl_ast.specs.declared.kinds.Predefined.TheVariants as names
use Rattle.sl_ast.specs.declared.kinds.SetOperator.{SetOperator}
use Rattle.sl_ast.specs.declared.kinds.SetOperator.TheVariants as sets
use Rattle.sl_ast.specs.declared.operations.Difference.{Difference}
use Rattle.sl_ast.specs.declared.operations.Operation.TheVariants as operations
use Rattle.sl_ast.specs.declared.operations.Look.TheVariants as looks
use Rattle.sl_ast.specs.declared.operations.ValueOperation.{ValueOperation}
use Rattle.sl_ast.specs.declared.operations.ValueOperation.TheVariants as ops
use Rattle.sl_ast.specs.declared.typed.TreeFormal.{TreeFormal}
use Rattle.sl_ast.specs.declared.typed.Value.{Value}
use Rattle.sl_ast.specs.declared.typed.Value.TheVariants.{Number}
use Rattle.sl_ast.specs.declared.typed.Variable.{Variable}
use Rattle.sl_ast.specs.declared.typed.Variable.TheVariants as variables
use Rattle.sl_ast.specs.Classes.{formal_classes, after, after_all, is_uniform, is_uniform_loop}
use Rattle.sl_ast.specs.Typed as T
use Rattle.builtins.specs.Differences.{difference}
use Rattle.builtins.specs.Lights.{sum_of}
use Rattle.builtins.specs.Table.{applied}
use Rattle.builtins.specs.Textures.{textured}
use Rattle.builtins.specs.Values.{as_kind, is_true}
use Rattle.sl_meaning.specs.Core as C
use Rattle.sl_meaning.specs.Core.{Slot}
use Rattle.sl_meaning.specs.CoreAlone as alone
use Rattle.sl_meaning.specs.CoreGrid as core
use Rattle.sl_meaning.specs.Environment.{Around, Signal, Next, Break, Continue, value_type, with_variable, declared}
use Rattle.sl_meaning.specs.Lowered as lowered
use Rattle.sl_meaning.specs.Alone.{Runs, first_part, taken, value_of, skip, inside, loop, run, over_lights, own_turns}
use Rattle.sl_meaning.specs.Grid.{Envs, GivesAll, RunsAll, on_all, more_all, and_names_all, combined_all, put_all, summed_all, inlined_all, next_all, inside_all, skip_all, set_first_all, choice_all, loop_all, loops_all, with_args_all, values, differences, all_of, last_of, args_of, grid, grid_all}
use Rattle.sl_meaning.proofs.CoreMeaning.{take_all, nothing_is as nothing_alone, alone_is, value_is as value_alone, run_is as run_alone, all_is as all_alone}

-- the condition of each branch has the class in the core tree that it has in the typed tree
abbrev mutual
  pub InExpr : T.Expr → List Bool → Type 0
  InExpr (T.number x p) us = Unit {0}
  InExpr (T.word text p) us = Unit {0}
  InExpr (T.variable x kind p) us = Unit {0}
  InExpr (T.apply operation args kind p) us = InArgs args us
  InExpr (T.call args formals body returned x kind p) us =
      InArgs args us × (InAll body (formal_classes formals) (C.formals (lowered.arguments args formals us true)) × InExpr x (after_all body (formal_classes formals)))

  pub InArgs : T.Exprs → List Bool → Type 0
  InArgs T.none us = Unit {0}
  InArgs (T.more e rest) us = InExpr e us × InArgs rest us

  pub InStmt : T.Stmt → List Bool → List Slot → Type 0
  InStmt (T.empty p) us ss = Unit {0}
  InStmt (T.leave p) us ss = Unit {0}
  InStmt (T.again p) us ss = Unit {0}
  InStmt (T.block body p) us ss = InAll body us ss
  InStmt (T.group body) us ss = InAll body us ss
  InStmt (T.declare uniform kind e p) us ss = InExpr e us
  InStmt (T.start uniform kind p) us ss = Unit {0}
  InStmt (T.assign x operator kind e p) us ss = InExpr e us
  InStmt (T.test e s p) us ss = (is_uniform e us ≡ C.is_uniform (lowered.expr e us true) ss) × (InExpr e us × InStmt s us ss)
  InStmt (T.test_else e s r p) us ss = (is_uniform e us ≡ C.is_uniform (lowered.expr e us true) ss) × (InExpr e us × (InStmt s us ss × InStmt r us ss))
  InStmt (T.repeat e s p) us ss = InExpr e us × InStmt s us ss
  InStmt (T.steps a e b s p) us ss = InAll a us ss × (InExpr e us × (InAll b us ss × InStmt s us ss))
  InStmt (T.lights over args s p) us ss = InArgs args us

  pub InAll : T.Stmts → List Bool → List Slot → Type 0
  InAll T.done us ss = Unit {0}
  InAll (T.first s rest) us ss = InStmt s us ss × InAll rest (after s us) (C.after (lowered.stmt s us true) ss)

-- an empty block does nothing
nothing_is : skip_all ≡ inside_all skip_all
nothing_is = λ i es. (Next, λ k. record (es k) { values = sym (take_all (es k).values) i })

next_is : (r : Signal × Envs) → r ≡ next_all r skip_all
next_is (Next, e) = refl
next_is (Break, e) = refl
next_is (Continue, e) = refl

-- a statement alone in a block
one_is : (s : RunsAll) (c : C.Stmt) (ss : List Slot) (g : Around) (n : ℕ) → s ≡ core.grid c ss g n → inside_all s ≡ inside_all (core.grid_all (lowered.alone c) ss g n)
one_is s c ss g n h = λ i. inside_all (λ e. (ap (λ f. f e) h ∙ next_is (core.grid c ss g n e)) i)

read_is : (p : Predefined) (es : Envs) (g : Around) (n : ℕ) → ◌≡◌ {A = (ℕ → Value) × Envs} (λ k. value_of (variables.Predefined p) (es k), es) (core.values (lowered.read (variables.Predefined p)) g n es)
read_is names.Pi es g n = refl
read_is p es g n = refl

taken_is : (op : ValueOperation) (cs : C.Exprs) (last all : GivesAll (List Value)) (g : Around) (n : ℕ) → last ≡ core.all_of (lowered.last cs) g n → all ≡ core.all_of cs g n
    → taken op last all ≡ core.all_of (lowered.operands op cs) g n
taken_is (ops.Transform from into) cs last all g n h k = h
taken_is (ops.VTransform from into) cs last all g n h k = h
taken_is (ops.NTransform from into) cs last all g n h k = h
taken_is op cs last all g n h k = k

-- the values of operands with one more behind them
abbrev behind : GivesAll (List Value) → GivesAll Value → GivesAll (List Value)
behind a b es = let y = a es in let z = b y.1 in (λ k. y.0 k ++ z.0 k ∷ [], z.1)

with_last_is : (cs : C.Exprs) (x : C.Expr) (g : Around) (n : ℕ) → core.all_of (lowered.with_last cs x) g n ≡ behind (core.all_of cs g n) (core.values x g n)
with_last_is C.none x g n = refl
with_last_is (C.more a rest) x g n = λ i es. more_all (core.values a g n) (with_last_is rest x g n i) es

-- `texture` of a name alone looks up at s and t
looked_is : (a : GivesAll (List Value)) (cs : C.Exprs) (k : ℕ) (g : Around) (n : ℕ) → a ≡ core.all_of cs g n
    → (λ es. let x = and_names_all (names.S ∷ names.T ∷ []) a es in (textured g.lines (g.images k) x.0, x.1)) ≡ core.values (lowered.looked_up looks.Here k cs) g n
looked_is a cs k g n h =
    let s = C.read (variables.Predefined names.S) in
    let t = C.read (variables.Predefined names.T) in
    let q : and_names_all (names.S ∷ names.T ∷ []) a ≡ core.all_of (lowered.with_last (lowered.with_last cs s) t) g n =
    (λ i es. and_names_all (names.S ∷ names.T ∷ []) (h i) es) ∙
    (λ i es. let x = core.all_of cs g n es in (λ j. sym (append_assoc (x.0 j) ((x.1 j).named names.S ∷ []) ((x.1 j).named names.T ∷ [])) i, x.1)) ∙
    (λ i es. behind (sym (with_last_is cs s g n) i) (core.values t g n) es) ∙
    (λ i es. sym (with_last_is (lowered.with_last cs s) t g n) i es) in
    λ i es. let x = q i es in (textured g.lines (g.images k) x.0, x.1)

put_is : (operator : SetOperator) (x : Variable) (g : Around) (n : ℕ) (a : GivesAll Value) (c : C.Expr) → a ≡ core.values c g n → put_all operator x g.spaces a ≡ core.values (lowered.put_into operator x c) g n
put_is sets.Set x g n a c h = h
put_is sets.Add x g n a c h = λ i es. combined_all ops.Add x g.spaces (h i) es
put_is sets.Subtract x g n a c h = λ i es. combined_all ops.Subtract x g.spaces (h i) es
put_is sets.Multiply x g n a c h = λ i es. combined_all ops.Multiply x g.spaces (h i) es
put_is sets.Divide x g n a c h = λ i es. combined_all ops.Divide x g.spaces (h i) es

-- a loop behind its first set
turns_are : (a : C.Stmts) (c : C.Stmt) (ss : List Slot) (g : Around) (n : ℕ) → set_first_all (core.grid_all a ss g n) (core.grid c ss g n) ≡ core.grid (C.block (C.first (C.block a) (lowered.alone c))) ss g n
turns_are a c ss g n = λ i. inside_all (λ e. next_all (inside_all (core.grid_all a ss g n) e) (λ d. next_is (core.grid c ss g n d) i))

-- branches whose control is b, as the core tree marks them
choice_is : (b d : Bool) → b ≡ d → (t t' : GivesAll Value) → t ≡ t' → (a o : RunsAll) (one other : Runs) (A O : Bool → RunsAll) (X Y : Bool → Runs)
    → a ≡ A true → o ≡ O true → one ≡ X false → other ≡ Y false → choice_all b t a o one other ≡ choice_all d t' (A b) (O b) (X b) (Y b)
choice_is true d q t t' p a o one other A O X Y ha ho hx hy =
    subst (λ z. choice_all true t a o one other ≡ choice_all z t' (A true) (O true) (X true) (Y true)) q (λ i es. let x = p i es in cond (is_true (x.0 0)) (ha i x.1) (ho i x.1))
choice_is false d q t t' p a o one other A O X Y ha ho hx hy =
    subst (λ z. choice_all false t a o one other ≡ choice_all z t' (A false) (O false) (X false) (Y false)) q (λ i es. choice_all false (p i) (A false) (O false) (hx i) (hy i) es)

loops_is : (w : Bool) (n : ℕ) (t : GivesAll Value) (T' : Bool → GivesAll Value) (b s : RunsAll) (B S : Bool → RunsAll) (own : Runs) (O : Bool → Runs)
    → t ≡ T' true → b ≡ B true → s ≡ S true → own ≡ O false → loops_all w n t b s own ≡ loops_all w n (T' w) (B w) (S w) (O w)
loops_is true n t T' b s B S own O ht hb hs ho = λ i es. loop_all n (ht i) (hb i) (hs i) es
loops_is false n t T' b s B S own O ht hb hs ho = λ i es. loops_all false n (T' false) (B false) (S false) (ho i) es

-- what each point does by itself in such a loop
own_is : (t : T.Expr) (b : T.Stmts) (s : T.Stmt) (us : List Bool) (g : Around) (n : ℕ)
    → own_turns t b s us g n ≡ alone.run (C.repeat false (lowered.expr t us false) (lowered.stmts b us false) (lowered.alone (lowered.stmt s us false))) g n
own_is t b s us g n =
    λ i e. loop n false (value_alone t us false g n i) (all_alone b us false g n i) (alone_is (run s us false g n) (lowered.stmt s us false) g n (run_alone s us false g n) i) e

mutual
  pub values_is : (x : T.Expr) (us : List Bool) (g : Around) (n : ℕ) → InExpr x us → values x us g n ≡ core.values (lowered.expr x us true) g n
  values_is (T.number x p) us g n h = refl
  values_is (T.word text p) us g n h = refl
  values_is (T.variable (variables.Predefined name) kind p) us g n h = λ i es. read_is name es g n i
  values_is (T.variable (variables.Level k) kind p) us g n h = refl
  values_is (T.apply (operations.Value op) args kind p) us g n h =
      λ i es. on_all (applied op g.spaces) (taken_is op (lowered.exprs args us true) (last_of args us g n) (all_of args us g n) g n (last_is args us g n h) (all_are args us g n h) i) es
  values_is (T.apply operations.FaceForwardNg args kind p) us g n h =
      λ i es. on_all (applied ops.FaceForward g.spaces)
      (((λ j ds. and_names_all (names.Ng ∷ []) (all_are args us g n h j) ds) ∙ (λ j ds. sym (with_last_is (lowered.exprs args us true) (C.read (variables.Predefined names.Ng)) g n) j ds)) i) es
  values_is (T.apply (operations.Difference d) args kind p) us g n h = difference_is args us g n d h
  values_is (T.apply (operations.Sum s) args kind p) us g n h = λ i es. summed_all g (sum_of s) (all_are args us g n h i) es
  values_is (T.apply (operations.Look looks.At) args kind p) us g n h = λ i es. let x = all_are args us g n h i es in (textured g.lines (g.images p.number) x.0, x.1)
  values_is (T.apply (operations.Look looks.Here) args kind p) us g n h = looked_is (all_of args us g n) (lowered.exprs args us true) p.number g n (all_are args us g n h)
  values_is (T.apply (operations.Look looks.First) args kind p) us g n h =
      (λ i es. on_all (first_part g.spaces) (all_are args us g n h i) es) ∙
      (λ i es. on_all (applied ops.Comp g.spaces) (sym (with_last_is (lowered.exprs args us true) (C.literal (Number (pos 0))) g n) i) es)
  values_is (T.call args formals body returned x kind p) us g n h =
      let fs = C.formals (lowered.arguments args formals us true) in
      λ i es. inlined_all (args_are args formals us g n h.0 i) (grid_all_is body (formal_classes formals) fs g n h.1.0 i)
      (on_all (as_kind (value_type kind)) (values_is x (after_all body (formal_classes formals)) g n h.1.1 i)) es

  all_are : (es : T.Exprs) (us : List Bool) (g : Around) (n : ℕ) → InArgs es us → all_of es us g n ≡ core.all_of (lowered.exprs es us true) g n
  all_are T.none us g n h = refl
  all_are (T.more a rest) us g n h = λ i es. more_all (values_is a us g n h.0 i) (all_are rest us g n h.1 i) es

  difference_is : (es : T.Exprs) (us : List Bool) (g : Around) (n : ℕ) (d : Difference) → InArgs es us → differences d es us g n ≡ core.values (lowered.difference_of d (lowered.exprs es us true)) g n
  difference_is T.none us g n d h = refl
  difference_is (T.more a rest) us g n d h = λ i es. let x = values_is a us g n h.0 i es in (difference d g.lines g.spaces.flip x.0, x.1)

  last_is : (es : T.Exprs) (us : List Bool) (g : Around) (n : ℕ) → InArgs es us → last_of es us g n ≡ core.all_of (lowered.last (lowered.exprs es us true)) g n
  last_is T.none us g n h = refl
  last_is (T.more a T.none) us g n h = λ i es. on_all (λ v. v ∷ []) (values_is a us g n h.0 i) es
  last_is (T.more a (T.more b rest)) us g n h = λ i es. last_is (T.more b rest) us g n h.1 i es

  args_are : (es : T.Exprs) (fs : List TreeFormal) (us : List Bool) (g : Around) (n : ℕ) → InArgs es us → args_of es fs us g n ≡ core.args_of (lowered.arguments es fs us true) g n
  args_are T.none fs us g n h = refl
  args_are (T.more a rest) [] us g n h = refl
  args_are (T.more a rest) (f ∷ fs) us g n h = λ i es. more_all (on_all (as_kind f.kind) (values_is a us g n h.0 i)) (args_are rest fs us g n h.1 i) es

  pub grid_is : (s : T.Stmt) (us : List Bool) (ss : List Slot) (g : Around) (n : ℕ) → InStmt s us ss → grid s us g n ≡ core.grid (lowered.stmt s us true) ss g n
  grid_is (T.empty p) us ss g n h = nothing_is
  grid_is (T.leave p) us ss g n h = refl
  grid_is (T.again p) us ss g n h = refl
  grid_is (T.block body p) us ss g n h = λ i es. inside_all (grid_all_is body us ss g n h i) es
  grid_is (T.group body) us ss g n h = λ i es. inside_all (grid_all_is body us ss g n h i) es
  grid_is (T.declare uniform kind a p) us ss g n h = λ i es. let x = values_is a us g n h i es in (Next, λ k. declared (as_kind kind (x.0 k)) (x.1 k))
  grid_is (T.start uniform kind p) us ss g n h = refl
  grid_is (T.assign x operator kind a p) us ss g n h =
      λ i es. let y = put_is operator x g n (values a us g n) (lowered.expr a us true) (values_is a us g n h) i es in (Next, λ k. with_variable x (as_kind kind (y.0 k)) (y.1 k))
  grid_is (T.test t s p) us ss g n h =
      λ i es. choice_is (is_uniform t us) (C.is_uniform (lowered.expr t us true) ss) h.0 (values t us g n) (core.values (lowered.expr t us true) g n) (values_is t us g n h.1.0)
      (inside_all (grid s us g n)) skip_all (inside (run s us false g n)) skip
      (λ b. inside_all (core.grid_all (lowered.alone (lowered.stmt s us b)) ss g n)) (λ b. inside_all (core.grid_all C.done ss g n))
      (λ b. inside (alone.run_all (lowered.alone (lowered.stmt s us b)) g n)) (λ b. inside (alone.run_all C.done g n))
      (one_is (grid s us g n) (lowered.stmt s us true) ss g n (grid_is s us ss g n h.1.1)) nothing_is
      (alone_is (run s us false g n) (lowered.stmt s us false) g n (run_alone s us false g n)) nothing_alone i es
  grid_is (T.test_else t s r p) us ss g n h =
      λ i es. choice_is (is_uniform t us) (C.is_uniform (lowered.expr t us true) ss) h.0 (values t us g n) (core.values (lowered.expr t us true) g n) (values_is t us g n h.1.0)
      (inside_all (grid s us g n)) (inside_all (grid r us g n)) (inside (run s us false g n)) (inside (run r us false g n))
      (λ b. inside_all (core.grid_all (lowered.alone (lowered.stmt s us b)) ss g n)) (λ b. inside_all (core.grid_all (lowered.alone (lowered.stmt r us b)) ss g n))
      (λ b. inside (alone.run_all (lowered.alone (lowered.stmt s us b)) g n)) (λ b. inside (alone.run_all (lowered.alone (lowered.stmt r us b)) g n))
      (one_is (grid s us g n) (lowered.stmt s us true) ss g n (grid_is s us ss g n h.1.1.0)) (one_is (grid r us g n) (lowered.stmt r us true) ss g n (grid_is r us ss g n h.1.1.1))
      (alone_is (run s us false g n) (lowered.stmt s us false) g n (run_alone s us false g n)) (alone_is (run r us false g n) (lowered.stmt r us false) g n (run_alone r us false g n)) i es
  grid_is (T.repeat t s p) us ss g n h =
      λ i es. loops_is (is_uniform_loop t s us true) n (values t us g n) (λ w. core.values (lowered.expr t us w) g n) skip_all (inside_all (grid s us g n))
      (λ w. core.grid_all C.done ss g n) (λ w. inside_all (core.grid_all (lowered.alone (lowered.stmt s us w)) ss g n))
      (own_turns t T.done s us g n) (λ w. alone.run (C.repeat false (lowered.expr t us w) C.done (lowered.alone (lowered.stmt s us w))) g n)
      (values_is t us g n h.0) refl (one_is (grid s us g n) (lowered.stmt s us true) ss g n (grid_is s us ss g n h.1)) (own_is t T.done s us g n) i es
  grid_is (T.steps a t b s p) us ss g n h =
      (λ i es. set_first_all (grid_all_is a us ss g n h.0 i)
      (loops_is (is_uniform_loop t s us true) n (values t us g n) (λ w. core.values (lowered.expr t us w) g n) (grid_all b us g n) (inside_all (grid s us g n))
      (λ w. core.grid_all (lowered.stmts b us w) ss g n) (λ w. inside_all (core.grid_all (lowered.alone (lowered.stmt s us w)) ss g n))
      (own_turns t b s us g n) (λ w. alone.run (C.repeat false (lowered.expr t us w) (lowered.stmts b us w) (lowered.alone (lowered.stmt s us w))) g n)
      (values_is t us g n h.1.0) (grid_all_is b us ss g n h.1.1.0) (one_is (grid s us g n) (lowered.stmt s us true) ss g n (grid_is s us ss g n h.1.1.1)) (own_is t b s us g n) i) es) ∙
      turns_are (lowered.stmts a us true)
      (C.repeat (is_uniform_loop t s us true) (lowered.expr t us (is_uniform_loop t s us true)) (lowered.stmts b us (is_uniform_loop t s us true)) (lowered.alone (lowered.stmt s us (is_uniform_loop t s us true)))) ss g n
  grid_is (T.lights over args s p) us ss g n h =
      λ i es. with_args_all (all_are args us g n h i) (λ vs. over_lights over g vs (alone_is (run s us false g n) (lowered.stmt s us false) g n (run_alone s us false g n) i)) es

  pub grid_all_is : (body : T.Stmts) (us : List Bool) (ss : List Slot) (g : Around) (n : ℕ) → InAll body us ss → grid_all body us g n ≡ core.grid_all (lowered.stmts body us true) ss g n
  grid_all_is T.done us ss g n h = refl
  grid_all_is (T.first s rest) us ss g n h = λ i es. next_all (grid_is s us ss g n h.0 i es) (grid_all_is rest (after s us) (C.after (lowered.stmt s us true) ss) g n h.1 i)
