-- A tree counts no more rows than two for each of its nodes, and those of its kind.
use Rattle.std.proofs.Common.{◌≡◌, ◌+◌, ◌≤◌, ℕ, Bool, true, false, ◌&&◌, List, [], ◌∷◌, ◌++◌, length, refl, length-append, arith}
use Rattle.std.proofs.lemmas.Bool.{and_parts}
use Rattle.sl_ast.specs.declared.kinds.SlKind.{SlKind}
use Rattle.sl_ast.specs.declared.kinds.SlKind.TheVariants.{Surface, Displacement, Light, Volume}
use Rattle.sl_ast.specs.declared.kinds.SlType.{SlType}
use Rattle.sl_ast.specs.declared.typed.TreeFormal.{TreeFormal}
use Rattle.sl_ast.specs.Typed.{Expr, number, word, variable, apply, call, Exprs, none, more, Stmt, empty, leave, again, block, group, declare, start, assign, test, test_else, repeat, steps, lights, Stmts, done, first, Default, Local, Tree, numbers, numbers_args, numbers_stmt, numbers_stmts, numbers_defaults, numbers_tree}
use Rattle.sl_ast.specs.Classes.{is_uniform, formal_classes, local_classes, after, after_all}
use Rattle.sl_ast.specs.WellTyped.{Around, in_function, in_lights, in_loop, kind_of, fits, formal_types, typed, typed_args, typed_stmt, typed_stmts, types_after, types_after_all, typed_defaults, in_default, in_shader, local_types, well_typed, is_set}
use Rattle.sl_ast.specs.Rules.{takes, is_test}
use Rattle.sl_ast.specs.Registers.{row_unless, rows_of_classes, predefined_rows, rows, rows_args, rows_stmt, rows_stmts, rows_defaults, rows_of}

at_most_one : (u : Bool) → row_unless u ≤ 1
at_most_one true = omega arith
at_most_one false = omega arith

of_formals : (fs : List TreeFormal) → rows_of_classes (formal_classes fs) ≤ length fs
of_formals [] = omega arith
of_formals (f ∷ fs) =
    let here = at_most_one f.uniform in
    let rest = of_formals fs in
    omega arith

of_locals : (ls : List Local) → rows_of_classes (local_classes ls) ≤ length ls
of_locals [] = omega arith
of_locals (l ∷ ls) =
    let here = at_most_one l.uniform in
    let rest = of_locals ls in
    omega arith

of_kind : (kind : SlKind) → predefined_rows kind ≤ 16
of_kind Surface = omega arith
of_kind Displacement = omega arith
of_kind Light = omega arith
of_kind Volume = omega arith

abbrev how_many : Exprs → ℕ
how_many none = 0
how_many (more e rest) = 1 + how_many rest

as_many : (fs : List TreeFormal) (es : Exprs) → fits fs es ≡ true → length fs ≡ how_many es
as_many [] none h = refl
as_many [] (more e rest) h = absurd (cc h)
as_many (f ∷ fs) none h = absurd (cc h)
as_many (f ∷ fs) (more e rest) h =
    let next = as_many fs rest (and_parts (takes f.kind (kind_of e)) (fits fs rest) h).1 in
    omega (arith, next)

-- two numbers for each node; one of those of an expression is left over
abbrev Within : ℕ → List ℕ → Type 0
Within n ns = n ≤ length ns + length ns

mutual
  expr_within : (g : Around) (ks : List SlType) (e : Expr) (us : List Bool) → typed g ks e ≡ true → Within (rows e us + 1) (numbers e)
  expr_within g ks (number x p) us h = omega arith
  expr_within g ks (word x p) us h = omega arith
  expr_within g ks (variable x kind p) us h = let own = at_most_one (is_uniform (variable x kind p) us) in omega (arith, own)
  expr_within g ks (apply operation args kind p) us h =
      let own = at_most_one (is_uniform (apply operation args kind p) us) in
      let inside = args_within g ks args us (and_parts _ _ (and_parts _ _ h).1).1 in
      omega (arith, own, inside)
  expr_within g ks (call args formals body returned value kind p) us h =
      let a = and_parts (fits formals args) _ h in
      let b = and_parts (typed_args g ks args) _ a.1 in
      let c = and_parts (typed_stmts (in_function g) (formal_types formals) body) _ b.1 in
      let d = and_parts (typed (in_function g) (types_after_all body (formal_types formals)) value) _ c.1 in
      let own = at_most_one (is_uniform (call args formals body returned value kind p) us) in
      let passed = args_within g ks args us b.0 in
      let variables = of_formals formals in
      let many = as_many formals args a.0 in
      let ran = stmts_within (in_function g) (formal_types formals) body (formal_classes formals) c.0 in
      let result = expr_within (in_function g) (types_after_all body (formal_types formals)) value (after_all body (formal_classes formals)) d.0 in
      let l1 = length-append (numbers_args args) (numbers_stmts body ++ (returned.number ∷ numbers value)) in
      let l2 = length-append (numbers_stmts body) (returned.number ∷ numbers value) in
      omega (arith, own, passed, variables, many, ran, result, l1, l2)

  args_within : (g : Around) (ks : List SlType) (es : Exprs) (us : List Bool) → typed_args g ks es ≡ true → Within (rows_args es us + how_many es) (numbers_args es)
  args_within g ks none us h = omega arith
  args_within g ks (more e rest) us h =
      let a = and_parts (typed g ks e) (typed_args g ks rest) h in
      let here = expr_within g ks e us a.0 in
      let next = args_within g ks rest us a.1 in
      let l = length-append (numbers e) (numbers_args rest) in
      omega (arith, here, next, l)

  stmt_within : (g : Around) (ks : List SlType) (s : Stmt) (us : List Bool) → typed_stmt g ks s ≡ true → Within (rows_stmt s us) (numbers_stmt s)
  stmt_within g ks (empty p) us h = omega arith
  stmt_within g ks (leave p) us h = omega arith
  stmt_within g ks (again p) us h = omega arith
  stmt_within g ks (block body p) us h = let inside = stmts_within g ks body us h in omega (arith, inside)
  stmt_within g ks (group body) us h = stmts_within g ks body us h
  stmt_within g ks (declare uniform kind e p) us h =
      let own = at_most_one uniform in
      let value = expr_within g ks e us (and_parts (takes kind (kind_of e)) _ h).1 in
      omega (arith, own, value)
  stmt_within g ks (start uniform kind p) us h = let own = at_most_one uniform in omega (arith, own)
  stmt_within g ks (assign x operator kind e p) us h =
      let value = expr_within g ks e us (and_parts _ _ (and_parts _ _ h).1).1 in
      omega (arith, value)
  stmt_within g ks (test e s p) us h =
      let a = and_parts (is_test (kind_of e)) _ h in
      let b = and_parts (typed g ks e) _ a.1 in
      let asked = expr_within g ks e us b.0 in
      let ran = stmt_within g ks s us b.1 in
      let l = length-append (numbers e) (numbers_stmt s) in
      omega (arith, asked, ran, l)
  stmt_within g ks (test_else e s r p) us h =
      let a = and_parts (is_test (kind_of e)) _ h in
      let b = and_parts (typed g ks e) _ a.1 in
      let c = and_parts (typed_stmt g ks s) _ b.1 in
      let asked = expr_within g ks e us b.0 in
      let ran = stmt_within g ks s us c.0 in
      let other = stmt_within g ks r us c.1 in
      let l = length-append (numbers e) (numbers_stmt s ++ numbers_stmt r) in
      let m = length-append (numbers_stmt s) (numbers_stmt r) in
      omega (arith, asked, ran, other, l, m)
  stmt_within g ks (repeat e s p) us h =
      let a = and_parts (is_test (kind_of e)) _ h in
      let b = and_parts (typed g ks e) _ a.1 in
      let asked = expr_within g ks e us b.0 in
      let ran = stmt_within (in_loop g) ks s us b.1 in
      let l = length-append (numbers e) (numbers_stmt s) in
      omega (arith, asked, ran, l)
  stmt_within g ks (steps a e b s p) us h =
      let sets = and_parts (is_set a && is_set b) _ h in
      let begun = and_parts (typed_stmts g ks a) _ sets.1 in
      let tested = and_parts (is_test (kind_of e)) _ begun.1 in
      let asked = and_parts (typed g ks e) _ tested.1 in
      let turned = and_parts (typed_stmts g ks b) _ asked.1 in
      let w1 = stmts_within g ks a us begun.0 in
      let w2 = expr_within g ks e us asked.0 in
      let w3 = stmts_within g ks b us turned.0 in
      let w4 = stmt_within (in_loop g) ks s us turned.1 in
      let l1 = length-append (numbers_stmts a) (numbers e ++ (numbers_stmts b ++ numbers_stmt s)) in
      let l2 = length-append (numbers e) (numbers_stmts b ++ numbers_stmt s) in
      let l3 = length-append (numbers_stmts b) (numbers_stmt s) in
      omega (arith, w1, w2, w3, w4, l1, l2, l3)
  stmt_within g ks (lights over args s p) us h =
      let a = and_parts _ _ h in
      let b = and_parts _ _ a.1 in
      let c = and_parts (typed_args g ks args) _ b.1 in
      let passed = args_within g ks args us c.0 in
      let ran = stmt_within (in_lights g) ks s us c.1 in
      let l = length-append (numbers_args args) (numbers_stmt s) in
      omega (arith, passed, ran, l)

  stmts_within : (g : Around) (ks : List SlType) (ss : Stmts) (us : List Bool) → typed_stmts g ks ss ≡ true → Within (rows_stmts ss us) (numbers_stmts ss)
  stmts_within g ks done us h = omega arith
  stmts_within g ks (first s rest) us h =
      let a = and_parts (typed_stmt g ks s) (typed_stmts g (types_after s ks) rest) h in
      let here = stmt_within g ks s us a.0 in
      let next = stmts_within g (types_after s ks) rest (after s us) a.1 in
      let l = length-append (numbers_stmt s) (numbers_stmts rest) in
      omega (arith, here, next, l)

-- each parameter has a default with a node of its own
defaults_within : (kind : SlKind) (ls : List Local) (ds : List Default) → typed_defaults kind ls ds ≡ true → Within (rows_defaults ds + length ls) (numbers_defaults ds)
defaults_within kind [] [] h = omega arith
defaults_within kind [] (d ∷ ds) h = absurd (cc h)
defaults_within kind (l ∷ ls) [] h = absurd (cc h)
defaults_within kind (l ∷ ls) (d ∷ ds) h =
    let a = and_parts (takes l.kind (kind_of d.value)) _ h in
    let b = and_parts (typed (in_default kind) [] d.value) _ a.1 in
    let here = expr_within (in_default kind) [] d.value [] b.0 in
    let next = defaults_within kind ls ds b.1 in
    let joined = length-append (numbers d.value) (numbers_defaults ds) in
    omega (arith, here, next, joined)

pub tree_within : (t : Tree) → well_typed t ≡ true → rows_of t ≤ 16 + (length (numbers_tree t) + length (numbers_tree t))
tree_within t h =
    let a = and_parts (typed_defaults t.kind t.params t.defaults) _ h in
    let own = of_kind t.kind in
    let params = of_locals t.params in
    let defaults = defaults_within t.kind t.params t.defaults a.0 in
    let body = stmts_within (in_shader t.kind) (local_types t.params) t.body (local_classes t.params) a.1 in
    let joined = length-append (numbers_defaults t.defaults) (numbers_stmts t.body) in
    omega (arith, own, params, defaults, body, joined)
