-- What the emission of each form has emitted, from what that of its parts has.
use Rattle.std.proofs.Common.{◌≡◌, ℕ, ◌+◌, Bool, false, List, length, refl, ap, ◌∙◌}
use Rattle.std.specs.Prelude.{◌&&◌}
use Rattle.sl_ast.specs.declared.kinds.SlType.{SlType}
use Rattle.sl_ast.specs.declared.kinds.LightStmt.{LightStmt}
use Rattle.sl_ast.specs.declared.operations.ValueOperation.{ValueOperation}
use Rattle.sl_ast.specs.declared.operations.Difference.{Difference}
use Rattle.sl_ast.specs.declared.operations.LightSum.{LightSum}
use Rattle.sl_ast.specs.declared.typed.Variable.{Variable}
use Rattle.builtins.specs.declared.shape.Shape.TheVariants as shapes
use Rattle.builtins.specs.Values.{shape_of}
use Rattle.builtins.specs.Shapes.{shape_applied}
use Rattle.grid_code.specs.declared.code.Register.{Register}
use Rattle.grid_code.specs.declared.code.Source.TheVariants.{Copy, Apply}
use Rattle.grid_code.specs.Names.{reg, first_free}
use Rattle.grid_code.specs.Code as c
use Rattle.grid_code.specs.Code.{Block, ◌then◌}
use Rattle.grid_code.proofs.Then.{then_assoc}
use Rattle.sl_meaning.specs.Core as C
use Rattle.sl_meaning.specs.Core.{Slot, formals, after_all, is_uniform, are_uniform, all_uniform, args_uniform, stmts_uniform, class_in}
use Rattle.core_codegen.specs.Compile.{at, all_at, into, expr_code, exprs_code, args_code, behind, stmt_code, all_code, shader_code}
use Rattle.core_codegen.specs.Variables.{variable}
use Rattle.grid_code.specs.Shapes.{register_class, register_shape, are_uniform_registers, register_shapes, difference_shape}
use Rattle.core_codegen.specs.Registers.{like, applied_at, differed_at, looked_at}
use Rattle.core_codegen.proofs.ValueRegisters.{class_at, shape_at, classes_at, shapes_at, variable_class, variable_shape, difference_shape_in}
use Rattle.core_codegen.proofs.Emitting.{passed_uniform, and_assoc}

module _ (ss : List Slot) (base next : ℕ) where
  pub read_at : (x : Variable) (from q : Register) → from ≡ variable ss base x → q ≡ like from next → q ≡ at (C.read x) ss next
  read_at x from q hf hq =
      hq ∙ ap (λ f. like f next) hf ∙ ap (λ u. reg u (register_shape (variable ss base x)) next) (variable_class x ss base) ∙
      ap (λ s. reg (class_in x ss) s next) (variable_shape x ss base)

  pub read_code : (x : Variable) (from : Register) (o n : Block) → from ≡ variable ss base x → n ≡ o then c.put (like from next) (Copy from) c.end → n ≡ o then expr_code (C.read x) ss base next
  read_code x from o n hf h =
      h ∙ ap (λ q. o then c.put q (Copy from) c.end) (read_at x from (like from next) hf refl) ∙ ap (λ f. o then c.put (at (C.read x) ss next) (Copy f) c.end) hf

  pub apply_at : (op : ValueOperation) (args : C.Exprs) (qs : List Register) (q : Register) → qs ≡ all_at args ss base next → q ≡ applied_at op qs next → q ≡ at (C.apply op args) ss next
  apply_at op args qs q hs hq =
      hq ∙ ap (λ l. applied_at op l next) hs ∙ ap (λ u. reg u (shape_applied op (register_shapes (all_at args ss base next))) next) (classes_at args ss base next) ∙
      ap (λ l. reg (are_uniform args ss) (shape_applied op l) next) (shapes_at args ss base next)

  pub apply_code : (op : ValueOperation) (args : C.Exprs) (qs : List Register) (o m n : Block) → m ≡ o then exprs_code args ss base next → qs ≡ all_at args ss base next →
      n ≡ m then c.put (applied_at op qs next) (Apply op qs) c.end → n ≡ o then expr_code (C.apply op args) ss base next
  apply_code op args qs o m n hm hs h =
      let z = c.put (at (C.apply op args) ss next) (Apply op (all_at args ss base next)) c.end in
      h ∙ ap (λ q. m then c.put q (Apply op qs) c.end) (apply_at op args qs (applied_at op qs next) hs refl) ∙ ap (λ l. m then c.put (at (C.apply op args) ss next) (Apply op l) c.end) hs ∙
      ap (λ y. y then z) hm ∙ then_assoc o (exprs_code args ss base next) z

  pub differ_at : (d : Difference) (e : C.Expr) (from q : Register) → from ≡ at e ss next → q ≡ differed_at d from next → q ≡ at (C.differ d e) ss next
  differ_at d e from q hf hq =
      hq ∙ ap (λ f. differed_at d f next) hf ∙ ap (λ s. reg false (difference_shape d s) next) (shape_at e ss next) ∙ ap (λ s. reg false s next) (difference_shape_in d e ss)

  pub differ_code : (d : Difference) (e : C.Expr) (from : Register) (o m n : Block) → m ≡ o then expr_code e ss base next → from ≡ at e ss next →
      n ≡ m then c.differ (differed_at d from next) d from c.end → n ≡ o then expr_code (C.differ d e) ss base next
  differ_code d e from o m n hm hf h =
      let z = c.differ (at (C.differ d e) ss next) d (at e ss next) c.end in
      h ∙ ap (λ q. m then c.differ q d from c.end) (differ_at d e from (differed_at d from next) hf refl) ∙ ap (λ f. m then c.differ (at (C.differ d e) ss next) d f c.end) hf ∙
      ap (λ y. y then z) hm ∙ then_assoc o (expr_code e ss base next) z

  pub sum_code : (s : LightSum) (args : C.Exprs) (qs : List Register) (o m n : Block) → m ≡ o then exprs_code args ss base next → qs ≡ all_at args ss base next →
      n ≡ m then c.sum (reg false shapes.Triple next) s qs c.end → n ≡ o then expr_code (C.sum s args) ss base next
  sum_code s args qs o m n hm hs h =
      let z = c.sum (at (C.sum s args) ss next) s (all_at args ss base next) c.end in
      h ∙ ap (λ l. m then c.sum (at (C.sum s args) ss next) s l c.end) hs ∙ ap (λ y. y then z) hm ∙ then_assoc o (exprs_code args ss base next) z

module _ (ss : List Slot) (base next : ℕ) where
  pub look_at : (k : ℕ) (args : C.Exprs) (qs : List Register) (q : Register) → qs ≡ all_at args ss base next → q ≡ looked_at qs next → q ≡ at (C.texture k args) ss next
  look_at k args qs q hs hq = hq ∙ ap (λ l. looked_at l next) hs ∙ ap (λ u. reg u shapes.Triple next) (classes_at args ss base next)

  pub look_code : (k : ℕ) (args : C.Exprs) (qs : List Register) (o m n : Block) → m ≡ o then exprs_code args ss base next → qs ≡ all_at args ss base next →
      n ≡ m then c.texture (looked_at qs next) k qs c.end → n ≡ o then expr_code (C.texture k args) ss base next
  look_code k args qs o m n hm hs h =
      let z = c.texture (at (C.texture k args) ss next) k (all_at args ss base next) c.end in
      h ∙ ap (λ q. m then c.texture q k qs c.end) (look_at k args qs (looked_at qs next) hs refl) ∙ ap (λ l. m then c.texture (at (C.texture k args) ss next) k l c.end) hs ∙
      ap (λ y. y then z) hm ∙ then_assoc o (exprs_code args ss base next) z

-- a call: the variables of its frame before its body and behind it, and where they end
module _ (a : C.Arguments) (body : C.Stmts) (kind : SlType) (x : C.Expr) (ss ss1 ss2 : List Slot) (base next end : ℕ) (from to : Register)
    (h1 : ss1 ≡ formals a) (h2 : ss2 ≡ after_all body ss1) (hf : from ≡ at x ss2 end) where
  scope_behind : ss2 ≡ after_all body (formals a)
  scope_behind = h2 ∙ ap (after_all body) h1

  pub call_at : (passed ran w v u : Bool) → passed ≡ passed_uniform a ss → ran ≡ stmts_uniform body ss1 → w ≡ register_class from → v ≡ ran && w → u ≡ passed && v →
      to ≡ reg u (shape_of kind) next → to ≡ at (C.call a body kind x) ss next
  call_at passed ran w v u hp hr hw hv hu ht =
      let hx : w ≡ is_uniform x (after_all body (formals a)) = hw ∙ ap register_class hf ∙ class_at x ss2 end ∙ ap (is_uniform x) scope_behind in
      let hb : ran ≡ stmts_uniform body (formals a) = hr ∙ ap (stmts_uniform body) h1 in
      ht ∙ ap (λ b. reg b (shape_of kind) next)
      (hu ∙ ap (λ b. b && v) hp ∙ ap (λ b. passed_uniform a ss && b) (hv ∙ ap (λ b. b && w) hb ∙ ap (λ b. stmts_uniform body (formals a) && b) hx) ∙
      and_assoc (args_uniform a ss) (all_uniform (formals a)) (stmts_uniform body (formals a) && is_uniform x (after_all body (formals a))))

  pub call_code : (o m1 m2 m3 n : Block) (temps : ℕ) → temps ≡ behind ss1 next body → m1 ≡ o then args_code a ss base next → m2 ≡ m1 then all_code body ss1 next temps → end ≡ next + length ss2 →
      m3 ≡ m2 then expr_code x ss2 next end → to ≡ at (C.call a body kind x) ss next → n ≡ m3 then into to kind from → n ≡ o then expr_code (C.call a body kind x) ss base next
  call_code o m1 m2 m3 n temps hb e1 e2 he e3 ht h =
      let sa = after_all body (formals a) in
      let stop = next + length sa in
      let he' : end ≡ stop = he ∙ ap (λ k. next + length k) scope_behind in
      let fa = args_code a ss base next in
      let fb = all_code body (formals a) next (behind (formals a) next body) in
      let fe = expr_code x sa next stop in
      let fp = into (at (C.call a body kind x) ss next) kind (at x sa stop) in
      let b1 : m2 ≡ (o then fa) then fb = e2 ∙ ap (λ k. m1 then all_code body ss1 next k) hb ∙ ap (λ k. m1 then all_code body k next (behind k next body)) h1 ∙ ap (λ y. y then fb) e1 in
      let b2 : m3 ≡ ((o then fa) then fb) then fe = e3 ∙ ap (λ k. m2 then expr_code x k next end) scope_behind ∙ ap (λ k. m2 then expr_code x sa next k) he' ∙ ap (λ y. y then fe) b1 in
      let f1 : from ≡ at x sa stop = hf ∙ ap (λ k. at x k end) scope_behind ∙ ap (λ k. at x sa k) he' in
      h ∙ ap (λ q. m3 then into q kind from) ht ∙ ap (λ q. m3 then into (at (C.call a body kind x) ss next) kind q) f1 ∙ ap (λ y. y then fp) b2 ∙
      then_assoc ((o then fa) then fb) fe fp ∙ then_assoc (o then fa) fb (fe then fp) ∙ then_assoc o fa (fb then (fe then fp))

-- statements; ss is the scope before them
module _ (ss : List Slot) (base next temps : ℕ) (hn : next ≡ base + length ss) where
  pub declare_code : (u : Bool) (kind : SlType) (e : C.Expr) (from to : Register) (o m n : Block) → m ≡ o then expr_code e ss base next → from ≡ at e ss next →
      to ≡ reg u (shape_of kind) next → n ≡ m then into to kind from → n ≡ o then stmt_code (C.declare u kind e) ss base temps
  declare_code u kind e from to o m n hm hf ht h =
      h ∙ ap (λ q. m then into q kind from) ht ∙ ap (λ q. m then into (reg u (shape_of kind) next) kind q) hf ∙ ap (λ y. y then into (reg u (shape_of kind) next) kind (at e ss next)) hm ∙
      then_assoc o (expr_code e ss base next) (into (reg u (shape_of kind) next) kind (at e ss next)) ∙
      ap (λ k. o then (expr_code e ss base k then into (reg u (shape_of kind) k) kind (at e ss k))) hn

  pub assign_code : (x : Variable) (kind : SlType) (e : C.Expr) (from to : Register) (o m n : Block) → m ≡ o then expr_code e ss base temps → from ≡ at e ss temps →
      to ≡ variable ss base x → n ≡ m then into to kind from → n ≡ o then stmt_code (C.assign x kind e) ss base temps
  assign_code x kind e from to o m n hm hf ht h =
      h ∙ ap (λ q. m then into q kind from) ht ∙ ap (λ q. m then into (variable ss base x) kind q) hf ∙ ap (λ y. y then into (variable ss base x) kind (at e ss temps)) hm ∙
      then_assoc o (expr_code e ss base temps) (into (variable ss base x) kind (at e ss temps))

  pub test_code : (t : C.Expr) (a b : C.Stmts) (q : Register) (ss1 : List Slot) (o m n x0 x y0 y : Block) → m ≡ o then expr_code t ss base next → q ≡ at t ss next →
      x0 ≡ c.end → x ≡ x0 then all_code a ss base temps → ss1 ≡ ss → y0 ≡ c.end → y ≡ y0 then all_code b ss1 base temps → n ≡ m then c.branch q x y c.end → n ≡ o then stmt_code (C.test t a b) ss base temps
  test_code t a b q ss1 o m n x0 x y0 y hm hq hx0 hx hs hy0 hy h =
      let z = c.branch (at t ss next) (all_code a ss base temps) (all_code b ss base temps) c.end in
      h ∙ ap (λ r. m then c.branch r x y c.end) hq ∙ ap (λ r. m then c.branch (at t ss next) r y c.end) (hx ∙ ap (λ r. r then all_code a ss base temps) hx0) ∙
      ap (λ r. m then c.branch (at t ss next) (all_code a ss base temps) r c.end) (hy ∙ ap (λ r. r then all_code b ss1 base temps) hy0 ∙ ap (λ k. all_code b k base temps) hs) ∙
      ap (λ r. r then z) hm ∙ then_assoc o (expr_code t ss base next) z ∙
      ap (λ k. o then (expr_code t ss base k then c.branch (at t ss k) (all_code a ss base temps) (all_code b ss base temps) c.end)) hn

  pub repeat_code : (u : Bool) (t : C.Expr) (e s : C.Stmts) (q : Register) (ss1 : List Slot) (o n z0 z x0 x y0 y : Block) → z0 ≡ c.end → z ≡ z0 then expr_code t ss base next → q ≡ at t ss next →
      x0 ≡ c.end → x ≡ x0 then all_code e ss base temps → ss1 ≡ ss → y0 ≡ c.end → y ≡ y0 then all_code s ss1 base temps → n ≡ o then c.loops u z q x y c.end → n ≡ o then stmt_code (C.repeat u t e s) ss base temps
  repeat_code u t e s q ss1 o n z0 z x0 x y0 y hz0 hz hq hx0 hx hs hy0 hy h =
      h ∙ ap (λ r. o then c.loops u r q x y c.end) (hz ∙ ap (λ r. r then expr_code t ss base next) hz0) ∙ ap (λ r. o then c.loops u (expr_code t ss base next) r x y c.end) hq ∙
      ap (λ r. o then c.loops u (expr_code t ss base next) (at t ss next) r y c.end) (hx ∙ ap (λ r. r then all_code e ss base temps) hx0) ∙
      ap (λ r. o then c.loops u (expr_code t ss base next) (at t ss next) (all_code e ss base temps) r c.end) (hy ∙ ap (λ r. r then all_code s ss1 base temps) hy0 ∙ ap (λ k. all_code s k base temps) hs) ∙
      ap (λ k. o then c.loops u (expr_code t ss base k) (at t ss k) (all_code e ss base temps) (all_code s ss base temps) c.end) hn

  pub lights_code : (w : LightStmt) (args : C.Exprs) (s : C.Stmts) (qs : List Register) (o m n x0 x : Block) → m ≡ o then exprs_code args ss base next → qs ≡ all_at args ss base next →
      x0 ≡ c.end → x ≡ x0 then all_code s ss base temps → n ≡ m then c.lights w qs x c.end → n ≡ o then stmt_code (C.lights w args s) ss base temps
  lights_code w args s qs o m n x0 x hm hq hx0 hx h =
      let z = c.lights w (all_at args ss base next) (all_code s ss base temps) c.end in
      h ∙ ap (λ r. m then c.lights w r x c.end) hq ∙ ap (λ r. m then c.lights w (all_at args ss base next) r c.end) (hx ∙ ap (λ r. r then all_code s ss base temps) hx0) ∙
      ap (λ r. r then z) hm ∙ then_assoc o (exprs_code args ss base next) z ∙
      ap (λ k. o then (exprs_code args ss base k then c.lights w (all_at args ss base k) (all_code s ss base temps) c.end)) hn

-- classes

pub class_of : (e : C.Expr) (ss : List Slot) (r : ℕ) (q : Register) (w : Bool) → q ≡ at e ss r → w ≡ register_class q → w ≡ is_uniform e ss
class_of e ss r q w h hw = hw ∙ ap register_class h ∙ class_at e ss r

pub classes_of : (es : C.Exprs) (ss : List Slot) (b r : ℕ) (qs : List Register) (w : Bool) → qs ≡ all_at es ss b r → w ≡ are_uniform_registers qs → w ≡ are_uniform es ss
classes_of es ss b r qs w h hw = hw ∙ ap are_uniform_registers h ∙ classes_at es ss b r

pub both_of : (u a b a' b' : Bool) → u ≡ a && b → a ≡ a' → b ≡ b' → u ≡ a' && b'
both_of u a b a' b' h ha hb = h ∙ ap (λ x. x && b) ha ∙ ap (λ x. a' && x) hb

pub assigned_class : (x : Variable) (ss : List Slot) (base : ℕ) (to : Register) (w : Bool) → to ≡ variable ss base x → w ≡ register_class to → w ≡ class_in x ss
assigned_class x ss base to w h hw = hw ∙ ap register_class h ∙ variable_class x ss base

-- the whole code of a shader
pub emitted : (o n : Block) (body : C.Stmts) (ss1 ss : List Slot) (temps : ℕ) → o ≡ c.end → temps ≡ behind ss1 first_free body → ss1 ≡ ss → n ≡ o then all_code body ss1 first_free temps → n ≡ shader_code body ss
emitted o n body ss1 ss temps ho ht hs h =
    h ∙ ap (λ x. x then all_code body ss1 first_free temps) ho ∙ ap (all_code body ss1 first_free) ht ∙ ap (λ k. all_code body k first_free (behind k first_free body)) hs
