-- What a loop of the emission has still to emit.
use Rattle.std.proofs.Common.{◌≡◌, ℕ, ◌+◌, ◌^◌, ◌<◌, ◌≤◌, Bool, true, false, List, [], ◌∷◌, ◌++◌, length, get_or, take, drop, refl, sym, ap, ◌∙◌, arith, subst, append_assoc, append-nil, length-append}
use Rattle.std.specs.Prelude.{◌&&◌}
use Rattle.std.proofs.Math.Seq.{take-append_seam}
use Rattle.builtins.specs.Values.{shape_of}
use Rattle.grid_code.specs.declared.code.Register.{Register}
use Rattle.grid_code.specs.Names.{reg}
use Rattle.grid_code.specs.Code.{Block, end, ◌then◌}
use Rattle.sl_ast.specs.declared.typed.Variable.TheVariants as variables
use Rattle.core_codegen.specs.Variables.{variable}
use Rattle.grid_code.proofs.Then.{then_assoc, then_end}
use Rattle.sl_meaning.specs.Core as C
use Rattle.sl_meaning.specs.Core.{Slot, slot, formals, after, after_all, is_uniform, all_uniform, args_uniform, stmt_uniform, stmts_uniform}
use Rattle.sl_meaning.specs.CoreView.{expr_of, exprs_of, args_of, stmt_of, stmts_of}
use Rattle.sl_meaning.specs.declared.core_tree.CoreExpr.{CoreExpr}
use Rattle.sl_meaning.specs.declared.core_tree.CoreStmt.{CoreStmt}
use Rattle.sl_meaning.specs.declared.core_tree.Argument.{Argument}
use Rattle.core_codegen.specs.Compile.{at, shape_in, operand_at, operand_code, IsMade, all_at, into, expr_code, exprs_code, args_code, locals, all_locals, stmt_code, all_code}
use Rattle.core_codegen.specs.Sizes.{ScopedExpr, ScopedExprs, ScopedArgs, ScopedStmt, ScopedAll, expr_size, exprs_size, args_size, stmt_size, all_size}
use Rattle.core_codegen.specs.Room.{expr_room, exprs_room, args_room, stmt_room, all_room, temps as temps_of, all_temps}
use Rattle.grid_code.specs.Shapes.{register_class}
use Rattle.core_codegen.proofs.Scopes.{after_long}
use Rattle.core_codegen.proofs.ValueRegisters.{class_at, next_left, nothing_left}

-- expressions

pub record Operands (all : List CoreExpr) (i base next target : ℕ) (ss : List Slot) (code0 code : Block) (qs : List Register) : Type 0 where
  pub code_left : code then exprs_code (exprs_of (drop i all)) ss base target ≡ code0 then exprs_code (exprs_of all) ss base next
  pub at_left : qs ++ all_at (exprs_of (drop i all)) ss base target ≡ all_at (exprs_of all) ss base next
  pub scoped : ScopedExprs (exprs_of (drop i all)) ss
  pub frame : base + length ss ≤ target
  pub fits : target + exprs_room (exprs_of (drop i all)) < 2 ^ 32
  pub small : exprs_size (exprs_of (drop i all)) ≤ exprs_size (exprs_of all)

pub operands_init : (all : List CoreExpr) (base next : ℕ) (ss : List Slot) (code : Block) (qs : List Register) → ScopedExprs (exprs_of all) ss → base + length ss ≤ next →
    next + exprs_room (exprs_of all) < 2 ^ 32 → qs ≡ [] → Operands all 0 base next next ss code code qs
operands_init all base next ss code qs s f g h = record { code_left = refl; at_left = ap (λ l. l ++ all_at (exprs_of all) ss base next) h; scoped = s; frame = f; fits = g; small = omega arith }

module _ (all : List CoreExpr) (i base next target : ℕ) (ss : List Slot) (code0 code : Block) (qs : List Register) (x : CoreExpr)
    (o : Operands all i base next target ss code0 code qs) (h : i < length all) (is : x ≡ get_or all i x) where
  next_expr : exprs_of (drop i all) ≡ C.more (expr_of x) (exprs_of (drop (i + 1) all))
  next_expr = ap exprs_of (next_left all i x h is)

  pub operand_scoped : ScopedExpr (expr_of x) ss
  operand_scoped = (subst (λ e. ScopedExprs e ss) next_expr o.scoped).0

  pub operand_fits : target + 1 + expr_room (expr_of x) < 2 ^ 32
  operand_fits = let q = ap exprs_room next_expr in let g = o.fits in omega arith

  pub operand_small : expr_size (expr_of x) < exprs_size (exprs_of all)
  operand_small = let q = ap exprs_size next_expr in let g = o.small in omega arith

  pub operands_step : (q : Register) (code' : Block) (qs' : List Register) → q ≡ operand_at (expr_of x) ss base target → code' ≡ code then operand_code (expr_of x) (expr_code (expr_of x) ss base target) → qs' ≡ qs ++ q ∷ [] →
      Operands all (i + 1) base next (target + 1) ss code0 code' qs'
  operands_step q code' qs' hq hc hs =
      let rest = exprs_of (drop (i + 1) all) in
      let a = operand_code (expr_of x) (expr_code (expr_of x) ss base target) in
      let z = exprs_code rest ss base (target + 1) in
      record {
        code_left = ap (λ y. y then z) hc ∙ then_assoc code a z ∙ ap (λ y. code then exprs_code y ss base target) (sym next_expr) ∙ o.code_left;
        at_left =
            ap (λ l. l ++ all_at rest ss base (target + 1)) (hs ∙ ap (λ y. qs ++ y ∷ []) hq) ∙ append_assoc qs (operand_at (expr_of x) ss base target ∷ []) (all_at rest ss base (target + 1))
            ∙ ap (λ y. qs ++ all_at y ss base target) (sym next_expr) ∙ o.at_left;
        scoped = (subst (λ e. ScopedExprs e ss) next_expr o.scoped).1;
        frame = let g = o.frame in omega arith;
        fits = let k = ap exprs_room next_expr in let g = o.fits in omega arith;
        small = let k = ap exprs_size next_expr in let g = o.small in omega arith;
      }

-- an operand that is a variable of the frame, and one whose value is put into a register
pub held_operand : (e : C.Expr) (ss : List Slot) (b r k : ℕ) (q : Register) → e ≡ C.read (variables.Level k) → q ≡ variable ss b (variables.Level k) → q ≡ operand_at e ss b r
held_operand e ss b r k q is h = h ∙ ap (λ z. operand_at z ss b r) (sym is)

pub held_code : (e : C.Expr) (ss : List Slot) (b r k : ℕ) (code : Block) → e ≡ C.read (variables.Level k) → code ≡ code then operand_code e (expr_code e ss b r)
held_code e ss b r k code is = sym (then_end code) ∙ ap (λ z. code then operand_code z (expr_code z ss b r)) (sym is)

pub made_operand : (e : C.Expr) (ss : List Slot) (b r : ℕ) (q : Register) → IsMade e → q ≡ at e ss r → q ≡ operand_at e ss b r
made_operand e ss b r q made h = h ∙ ap (λ k. reg (is_uniform e ss) (shape_in e ss) k) (sym (made b r end).0)

pub made_code : (e : C.Expr) (ss : List Slot) (b r : ℕ) (code code' : Block) → IsMade e → code' ≡ code then expr_code e ss b r → code' ≡ code then operand_code e (expr_code e ss b r)
made_code e ss b r code code' made h = h ∙ ap (λ y. code then y) (sym (made b r (expr_code e ss b r)).1)

pub operands_end : (all : List CoreExpr) (i base next target : ℕ) (ss : List Slot) (code0 code : Block) (qs : List Register) → Operands all i base next target ss code0 code qs → i ≡ length all →
    (qs ≡ all_at (exprs_of all) ss base next) × (code ≡ code0 then exprs_code (exprs_of all) ss base next)
operands_end all i base next target ss code0 code qs o h =
    let n = ap exprs_of (nothing_left all i h) in
    (sym (append-nil qs) ∙ ap (λ y. qs ++ all_at y ss base target) (sym n) ∙ o.at_left, sym (then_end code) ∙ ap (λ y. code then exprs_code y ss base target) (sym n) ∙ o.code_left)

-- arguments

-- whether arguments and their formals are uniform
abbrev pub passed_uniform : C.Arguments → List Slot → Bool
passed_uniform a ss = args_uniform a ss && all_uniform (formals a)

exchanged : (u w x a b : Bool) → (u && (w && x)) && (a && b) ≡ u && ((x && a) && (w && b))
exchanged false w x a b = refl
exchanged true false false a b = refl
exchanged true false true false b = refl
exchanged true false true true b = refl
exchanged true true false a b = refl
exchanged true true true a b = refl

pub record Passing (all : List Argument) (i base next target : ℕ) (ss : List Slot) (code0 code : Block) (inner0 inner : List Slot) (u : Bool) : Type 0 where
  pub code_left : code then args_code (args_of (drop i all)) ss base target ≡ code0 then args_code (args_of all) ss base next
  pub inner_left : inner ++ formals (args_of (drop i all)) ≡ inner0 ++ formals (args_of all)
  pub class_left : u && passed_uniform (args_of (drop i all)) ss ≡ passed_uniform (args_of all) ss
  pub scoped : ScopedArgs (args_of (drop i all)) ss
  pub frame : base + length ss ≤ target
  pub fits : target + args_room (args_of (drop i all)) < 2 ^ 32
  pub small : args_size (args_of (drop i all)) ≤ args_size (args_of all)

pub passing_init : (all : List Argument) (base next : ℕ) (ss : List Slot) (code : Block) (inner : List Slot) → ScopedArgs (args_of all) ss → base + length ss ≤ next →
    next + args_room (args_of all) < 2 ^ 32 → Passing all 0 base next next ss code code inner inner true
passing_init all base next ss code inner s f g = record { code_left = refl; inner_left = refl; class_left = refl; scoped = s; frame = f; fits = g; small = omega arith }

module _ (all : List Argument) (i base next target : ℕ) (ss : List Slot) (code0 code : Block) (inner0 inner : List Slot) (u : Bool) (x : Argument)
    (o : Passing all i base next target ss code0 code inner0 inner u) (h : i < length all) (is : x ≡ get_or all i x) where
  next_arg : args_of (drop i all) ≡ C.argument x.uniform x.kind (expr_of x.value) (args_of (drop (i + 1) all))
  next_arg = ap args_of (next_left all i x h is)

  pub passed_scoped : ScopedExpr (expr_of x.value) ss
  passed_scoped = (subst (λ e. ScopedArgs e ss) next_arg o.scoped).0

  pub passed_fits : target + 1 + expr_room (expr_of x.value) < 2 ^ 32
  passed_fits = let q = ap args_room next_arg in let g = o.fits in omega arith

  pub passed_small : expr_size (expr_of x.value) < args_size (args_of all)
  passed_small = let q = ap args_size next_arg in let g = o.small in omega arith

  pub passing_step : (q to : Register) (code1 code' : Block) (inner' : List Slot) (v w u' : Bool) → q ≡ at (expr_of x.value) ss target → code1 ≡ code then expr_code (expr_of x.value) ss base target →
      to ≡ reg x.uniform (shape_of x.kind) target → code' ≡ code1 then into to x.kind q → inner' ≡ inner ++ slot x.uniform x.kind ∷ [] →
      v ≡ register_class q → w ≡ x.uniform && v → u' ≡ u && w → Passing all (i + 1) base next (target + 1) ss code0 code' inner0 inner' u'
  passing_step q to code1 code' inner' v w u' hq h1 ht hc hi hv hw hu =
      let rest = args_of (drop (i + 1) all) in
      let a = expr_code (expr_of x.value) ss base target in
      let b = into (reg x.uniform (shape_of x.kind) target) x.kind (at (expr_of x.value) ss target) in
      let z = args_code rest ss base (target + 1) in
      let k : code' ≡ (code then a) then b =
      hc ∙ ap (λ t. code1 then into t x.kind q) ht ∙ ap (λ t. code1 then into (reg x.uniform (shape_of x.kind) target) x.kind t) hq ∙ ap (λ y. y then b) h1 in
      let hv' : v ≡ is_uniform (expr_of x.value) ss = hv ∙ ap register_class hq ∙ class_at (expr_of x.value) ss target in
      let all_u : u' ≡ u && (x.uniform && is_uniform (expr_of x.value) ss) = hu ∙ ap (λ y. u && y) hw ∙ ap (λ y. u && (x.uniform && y)) hv' in
      record {
        code_left =
            ap (λ y. y then z) k ∙ then_assoc (code then a) b z ∙ then_assoc code a (b then z)
            ∙ ap (λ y. code then args_code y ss base target) (sym next_arg) ∙ o.code_left;
        inner_left = ap (λ y. y ++ formals rest) hi ∙ append_assoc inner (slot x.uniform x.kind ∷ []) (formals rest) ∙ ap (λ y. inner ++ formals y) (sym next_arg) ∙ o.inner_left;
        class_left =
            ap (λ y. y && passed_uniform rest ss) all_u ∙ exchanged u x.uniform (is_uniform (expr_of x.value) ss) (args_uniform rest ss) (all_uniform (formals rest))
            ∙ ap (λ y. u && passed_uniform y ss) (sym next_arg) ∙ o.class_left;
        scoped = (subst (λ e. ScopedArgs e ss) next_arg o.scoped).1;
        frame = let g = o.frame in omega arith;
        fits = let q = ap args_room next_arg in let g = o.fits in omega arith;
        small = let q = ap args_size next_arg in let g = o.small in omega arith;
      }

and-true : (u : Bool) → u && true ≡ u
and-true true = refl
and-true false = refl

pub passing_end : (all : List Argument) (i base next target : ℕ) (ss : List Slot) (code0 code : Block) (inner0 inner : List Slot) (u : Bool) →
    Passing all i base next target ss code0 code inner0 inner u → i ≡ length all →
    (u ≡ passed_uniform (args_of all) ss) × ((inner ≡ inner0 ++ formals (args_of all)) × (code ≡ code0 then args_code (args_of all) ss base next))
passing_end all i base next target ss code0 code inner0 inner u o h =
    let n = ap args_of (nothing_left all i h) in (
      sym (and-true u) ∙ ap (λ y. u && passed_uniform y ss) (sym n) ∙ o.class_left,
      (
        sym (append-nil inner) ∙ ap (λ y. inner ++ formals y) (sym n) ∙ o.inner_left,
        sym (then_end code) ∙ ap (λ y. code then args_code y ss base target) (sym n) ∙ o.code_left,
      ),
    )

-- statements

pub record Running (all : List CoreStmt) (i base temps : ℕ) (code0 code : Block) (ss0 ss : List Slot) (u : Bool) : Type 0 where
  pub code_left : code then all_code (stmts_of (drop i all)) ss base temps ≡ code0 then all_code (stmts_of all) ss0 base temps
  pub scope_left : after_all (stmts_of (drop i all)) ss ≡ after_all (stmts_of all) ss0
  pub class_left : u && stmts_uniform (stmts_of (drop i all)) ss ≡ stmts_uniform (stmts_of all) ss0
  pub scoped : ScopedAll (stmts_of (drop i all)) ss
  pub fits : base + length ss + all_room (stmts_of (drop i all)) < 2 ^ 32
  pub room : base + length ss + all_locals (stmts_of (drop i all)) ≤ temps
  pub spare : temps + all_temps (stmts_of (drop i all)) < 2 ^ 32
  pub small : all_size (stmts_of (drop i all)) ≤ all_size (stmts_of all)

pub running_init : (all : List CoreStmt) (base temps : ℕ) (code : Block) (ss : List Slot) → ScopedAll (stmts_of all) ss → base + length ss + all_room (stmts_of all) < 2 ^ 32 →
    base + length ss + all_locals (stmts_of all) ≤ temps → temps + all_temps (stmts_of all) < 2 ^ 32 → Running all 0 base temps code code ss ss true
running_init all base temps code ss s f r p = record { code_left = refl; scope_left = refl; class_left = refl; scoped = s; fits = f; room = r; spare = p; small = omega arith }

pub length_after : (s : C.Stmt) (ss : List Slot) → length (after s ss) ≤ length ss + stmt_room s
length_after (C.declare u kind e) ss = omega (arith, length-append ss (slot u kind ∷ []))
length_after (C.assign x kind e) ss = omega arith
length_after (C.block s) ss = omega arith
length_after (C.test e s t) ss = omega arith
length_after (C.repeat u t e s) ss = omega arith
length_after (C.lights w args s) ss = omega arith
length_after C.leave ss = omega arith
length_after C.again ss = omega arith

pub length_after_all : (s : C.Stmts) (ss : List Slot) → length (after_all s ss) ≤ length ss + all_room s
length_after_all C.done ss = omega arith
length_after_all (C.first s rest) ss = omega (arith, length_after s ss, length_after_all rest (after s ss))

-- variables and what assignments take are no more than the size
mutual
  pub slack : (s : C.Stmt) → locals s + temps_of s ≤ stmt_room s
  slack (C.declare u kind e) = omega arith
  slack (C.assign x kind e) = omega arith
  slack (C.block s) = let a = all_slack s in omega arith
  slack (C.test t x y) = let a = all_slack x in let b = all_slack y in omega arith
  slack (C.repeat u t x y) = let a = all_slack x in let b = all_slack y in omega arith
  slack (C.lights w args s) = let a = all_slack s in omega arith
  slack C.leave = omega arith
  slack C.again = omega arith

  pub all_slack : (s : C.Stmts) → all_locals s + all_temps s ≤ all_room s
  all_slack C.done = omega arith
  all_slack (C.first s rest) = let a = slack s in let b = all_slack rest in omega arith

pub length_formals : (a : C.Arguments) → length (formals a) ≤ args_room a
length_formals C.no_arguments = omega arith
length_formals (C.argument u kind e rest) = omega (arith, length_formals rest)

pub and_assoc : (a b d : Bool) → (a && b) && d ≡ a && (b && d)
and_assoc true b d = refl
and_assoc false b d = refl

module _ (all : List CoreStmt) (i base temps : ℕ) (code0 code : Block) (ss0 ss : List Slot) (u : Bool) (x : CoreStmt)
    (o : Running all i base temps code0 code ss0 ss u) (h : i < length all) (is : x ≡ get_or all i x) where
  next_stmt : stmts_of (drop i all) ≡ C.first (stmt_of x) (stmts_of (drop (i + 1) all))
  next_stmt = ap stmts_of (next_left all i x h is)

  pub statement_scoped : ScopedStmt (stmt_of x) ss
  statement_scoped = (subst (λ e. ScopedAll e ss) next_stmt o.scoped).0

  pub statement_fits : base + length ss + stmt_room (stmt_of x) < 2 ^ 32
  statement_fits = let q = ap all_room next_stmt in let g = o.fits in omega arith

  pub statement_room : base + length ss + locals (stmt_of x) ≤ temps
  statement_room = let q = ap all_locals next_stmt in let g = o.room in omega arith

  pub statement_spare : temps + temps_of (stmt_of x) < 2 ^ 32
  statement_spare = let q = ap all_temps next_stmt in let g = o.spare in omega arith

  pub statement_small : stmt_size (stmt_of x) < all_size (stmts_of all)
  statement_small = let q = ap all_size next_stmt in let g = o.small in omega arith

  pub running_step : (code' : Block) (ss' : List Slot) (w u' : Bool) → w ≡ stmt_uniform (stmt_of x) ss → ss' ≡ after (stmt_of x) ss → code' ≡ code then stmt_code (stmt_of x) ss base temps →
      u' ≡ u && w → Running all (i + 1) base temps code0 code' ss0 ss' u'
  running_step code' ss' w u' hw hs hc hu =
      let rest = stmts_of (drop (i + 1) all) in
      let a = stmt_code (stmt_of x) ss base temps in
      record {
        code_left =
            ap (λ y. y then all_code rest ss' base temps) hc ∙ ap (λ k. (code then a) then all_code rest k base temps) hs ∙ then_assoc code a (all_code rest (after (stmt_of x) ss) base temps)
            ∙ ap (λ y. code then all_code y ss base temps) (sym next_stmt) ∙ o.code_left;
        scope_left = ap (λ k. after_all rest k) hs ∙ ap (λ y. after_all y ss) (sym next_stmt) ∙ o.scope_left;
        class_left =
            ap (λ y. y && stmts_uniform rest ss') (hu ∙ ap (λ y. u && y) hw) ∙ ap (λ k. (u && stmt_uniform (stmt_of x) ss) && stmts_uniform rest k) hs
            ∙ and_assoc u (stmt_uniform (stmt_of x) ss) (stmts_uniform rest (after (stmt_of x) ss)) ∙ ap (λ y. u && stmts_uniform y ss) (sym next_stmt) ∙ o.class_left;
        scoped = subst (λ k. ScopedAll rest k) (sym hs) (subst (λ y. ScopedAll y ss) next_stmt o.scoped).1;
        fits = let q = ap all_room next_stmt in let f = o.fits in let l = ap length hs in omega (arith, length_after (stmt_of x) ss);
        room = let q = ap all_locals next_stmt in let f = o.room in let l = ap length hs in omega (arith, after_long (stmt_of x) ss);
        spare = let q = ap all_temps next_stmt in let f = o.spare in omega arith;
        small = let q = ap all_size next_stmt in let f = o.small in omega arith;
      }

pub running_end : (all : List CoreStmt) (i base temps : ℕ) (code0 code : Block) (ss0 ss : List Slot) (u : Bool) → Running all i base temps code0 code ss0 ss u → i ≡ length all →
    (u ≡ stmts_uniform (stmts_of all) ss0) × ((ss ≡ after_all (stmts_of all) ss0) × (code ≡ code0 then all_code (stmts_of all) ss0 base temps))
running_end all i base temps code0 code ss0 ss u o h =
    let n = ap stmts_of (nothing_left all i h) in (
      sym (and-true u) ∙ ap (λ y. u && stmts_uniform y ss) (sym n) ∙ o.class_left,
      (ap (λ y. after_all y ss) (sym n) ∙ o.scope_left, sym (then_end code) ∙ ap (λ y. code then all_code y ss base temps) (sym n) ∙ o.code_left),
    )

-- blocks end their scopes

grows_one : (s : C.Stmt) (ss : List Slot) → (more : List Slot) × (after s ss ≡ ss ++ more)
grows_one (C.declare u kind e) ss = (slot u kind ∷ [], refl)
grows_one (C.assign x kind e) ss = ([], sym (append-nil ss))
grows_one (C.block s) ss = ([], sym (append-nil ss))
grows_one (C.test e s t) ss = ([], sym (append-nil ss))
grows_one (C.repeat u t e s) ss = ([], sym (append-nil ss))
grows_one (C.lights w args s) ss = ([], sym (append-nil ss))
grows_one C.leave ss = ([], sym (append-nil ss))
grows_one C.again ss = ([], sym (append-nil ss))

grows : (s : C.Stmts) (ss : List Slot) → (more : List Slot) × (after_all s ss ≡ ss ++ more)
grows C.done ss = ([], sym (append-nil ss))
grows (C.first s rest) ss =
    let one = grows_one s ss in
    let others = grows rest (after s ss) in
    (one.0 ++ others.0, others.1 ∙ ap (λ k. k ++ others.0) one.1 ∙ append_assoc ss one.0 others.0)

pub scope_ends : (s : C.Stmts) (ss ss1 ss2 : List Slot) (n : ℕ) → n ≡ length ss → ss1 ≡ after_all s ss → ss2 ≡ take n ss1 → ss2 ≡ ss
scope_ends s ss ss1 ss2 n hn h1 h2 =
    let m = grows s ss in
    h2 ∙ ap (λ k. take k ss1) hn ∙ ap (take (length ss)) (h1 ∙ m.1) ∙ take-append_seam ss m.0
