-- The registers that the code of a core tree names: those of predefined variables, of the frame, and those that it makes.
use Rattle.std.proofs.Common.{◌≡◌, ℕ, zero, suc, ◌+◌, ◌<◌, Bool, true, false, cond, List, [], ◌∷◌, ◌++◌, length, get_or, refl, sym, ◌∙◌, subst, arith}
use Rattle.std.specs.List.{list_all}
use Rattle.std.proofs.lemmas.Bool.{and_left, and_right}
use Rattle.std.proofs.lemmas.List.Folds.{list_all-append}
use Rattle.sl_ast.specs.declared.kinds.SlKind.{SlKind}
use Rattle.sl_ast.specs.declared.kinds.SlType.{SlType}
use Rattle.sl_ast.specs.declared.kinds.Predefined.{Predefined}
use Rattle.sl_ast.specs.declared.operations.ValueOperation.{ValueOperation}
use Rattle.sl_ast.specs.declared.typed.Variable.{Variable}
use Rattle.sl_ast.specs.declared.typed.Variable.TheVariants as variables
use Rattle.sl_ast.specs.Names.{reads}
use Rattle.builtins.specs.declared.shape.Shape.{Shape}
use Rattle.builtins.specs.declared.shape.Shape.TheVariants as shapes
use Rattle.builtins.specs.Values.{shape_of}
use Rattle.grid_code.specs.declared.code.Register.{Register}
use Rattle.grid_code.specs.declared.code.Register.TheVariants.{Uniform, Varying}
use Rattle.grid_code.specs.Names.{reg, name_at}
use Rattle.grid_code.specs.Code.{end}
use Rattle.grid_code.specs.Uses.{within}
use Rattle.grid_code.proofs.Both.{both, left, right}
use Rattle.grid_code.proofs.ValidThen.{within_then}
use Rattle.sl_meaning.specs.Core.{Slot, slot, no_slot, Expr, literal, read, apply, differ, sum, texture, call, Exprs, none, more, Arguments, no_arguments, argument, Stmt, declare, assign, block, test, repeat, lights, leave, again, Stmts, done, first, formals, after, after_all, class_in, is_uniform, stmt_uniform, stmts_uniform}
use Rattle.core_codegen.specs.Compile.{shape_in, at, operand_at, all_at, operand_code, into, behind, expr_code, exprs_code, args_code, stmt_code, all_code}
use Rattle.core_codegen.specs.Variables.{slot_at, variable}
use Rattle.core_codegen.specs.Fine.{InScope}
use Rattle.core_codegen.specs.Sizes.{ScopedExpr, ScopedExprs, ScopedArgs, ScopedStmt, ScopedAll}
use Rattle.core_codegen.proofs.Operands.{of_operand}
use Rattle.mask_codegen.proofs.CorePlaced.{Reads, PlacedExpr, PlacedExprs, PlacedArgs, PlacedStmt, PlacedAll}
use Rattle.mask_codegen.proofs.Made.{frame, shared, shared_by, made, made_exprs, made_args, made_stmt, made_all}

pub all_first : {A : Type 0} (p : A → Bool) (xs ys : List A) → list_all p (xs ++ ys) ≡ true → list_all p xs ≡ true
all_first p xs ys h = left (list_all p xs) (list_all p ys) (sym (list_all-append p xs ys) ∙ h)

pub all_second : {A : Type 0} (p : A → Bool) (xs ys : List A) → list_all p (xs ++ ys) ≡ true → list_all p ys ≡ true
all_second p xs ys h = right (list_all p xs) (list_all p ys) (sym (list_all-append p xs ys) ∙ h)

pub all_join : {A : Type 0} (p : A → Bool) (xs ys : List A) → list_all p xs ≡ true → list_all p ys ≡ true → list_all p (xs ++ ys) ≡ true
all_join p xs ys h g = list_all-append p xs ys ∙ both _ _ h g

module _ (p : Register → Bool) (k : SlKind) (named : (x : Predefined) → reads k true x ≡ true → p (name_at x) ≡ true) (free : (s : Shape) (r : ℕ) → p (Uniform s r) ≡ true) where
  abbrev pub All : List Register → Type 0
  All qs = list_all p qs ≡ true

  frame_at : (ss : List Slot) (b j : ℕ) → All (frame b ss) → j < length ss → p (slot_at (get_or ss j no_slot) (b + j)) ≡ true
  frame_at [] b j h lt = absurd (omega arith)
  frame_at (s ∷ ss) b zero h lt = let e : b ≡ b + 0 = omega arith in subst (λ n. p (slot_at s n) ≡ true) e (left (p (slot_at s b)) _ h)
  frame_at (s ∷ ss) b (suc j) h lt =
      let e : b + 1 + j ≡ b + suc j = omega arith in
      subst (λ n. p (slot_at (get_or ss j no_slot) n) ≡ true) e (frame_at ss (b + 1) j (right (p (slot_at s b)) _ h) (omega arith))

  frame_more : (ss : List Slot) (b : ℕ) (s : Slot) → All (frame b ss) → p (slot_at s (b + length ss)) ≡ true → All (frame b (ss ++ s ∷ []))
  frame_more [] b s h g = let e : b + 0 ≡ b = omega arith in both _ _ (subst (λ n. p (slot_at s n) ≡ true) e g) refl
  frame_more (x ∷ ss) b s h g =
      let e : b + suc (length ss) ≡ b + 1 + length ss = omega arith in
      both _ _ (left (p (slot_at x b)) _ h) (frame_more ss (b + 1) s (right (p (slot_at x b)) _ h) (subst (λ n. p (slot_at s n) ≡ true) e g))

  variable_in : (x : Variable) (ss : List Slot) (b : ℕ) → Reads k x → InScope x ss → All (frame b ss) → p (variable ss b x) ≡ true
  variable_in (variables.Predefined n) ss b r s f = named n r
  variable_in (variables.Level j) ss b r s f = frame_at ss b j f s

  last_of : (xs : List Register) (q : Register) → All (xs ++ q ∷ []) → p q ≡ true
  last_of xs q h = left (p q) true (all_second p xs (q ∷ []) h)

  at_made : (e : Expr) (ss : List Slot) (r : ℕ) → All (made e ss r) → p (at e ss r) ≡ true
  at_made (literal v) ss r h = left (p (at (literal v) ss r)) true h
  at_made (read x) ss r h = left (p (at (read x) ss r)) true h
  at_made (apply op args) ss r h = last_of (made_exprs args ss r) _ h
  at_made (differ d e) ss r h = last_of (made e ss r) _ h
  at_made (sum s args) ss r h = last_of (made_exprs args ss r) _ h
  at_made (texture m args) ss r h = last_of (made_exprs args ss r) _ h
  at_made (call args body kind e) ss r h =
      let fs = formals args in
      let t = behind fs r body in
      let ss2 = after_all body fs in
      last_of (made e ss2 (r + length ss2)) _ (all_second p (made_all body fs r t) _ (all_second p (shared_by body fs t) _ (all_second p (made_args args ss r) _ h)))

  operand_in : (e : Expr) (ss : List Slot) (b r : ℕ) → ScopedExpr e ss → All (frame b ss) → All (made e ss r) → p (operand_at e ss b r) ≡ true
  operand_in e ss b r s f h = of_operand (λ z q y. ScopedExpr z ss → p (reg (is_uniform z ss) (shape_in z ss) q) ≡ true) e b r end (λ j i. frame_at ss b j f i) (λ i. at_made e ss r h) s

  all_at_made : (es : Exprs) (ss : List Slot) (b r : ℕ) → ScopedExprs es ss → All (frame b ss) → All (made_exprs es ss r) → All (all_at es ss b r)
  all_at_made none ss b r s f h = refl
  all_at_made (more e rest) ss b r s f h = both _ _ (operand_in e ss b r s.0 f (all_first p (made e ss r) _ h)) (all_at_made rest ss b (r + 1) s.1 f (all_second p (made e ss r) _ h))

  args_frame : (es : Arguments) (ss : List Slot) (r : ℕ) → All (made_args es ss r) → All (frame r (formals es))
  args_frame no_arguments ss r h = refl
  args_frame (argument u kind e rest) ss r h =
      let g = all_second p (made e ss r) (reg u (shape_of kind) r ∷ made_args rest ss (r + 1)) h in
      both _ _ (left (p (reg u (shape_of kind) r)) _ g) (args_frame rest ss (r + 1) (right (p (reg u (shape_of kind) r)) _ g))

  stmt_frame : (s : Stmt) (ss : List Slot) (b t : ℕ) → All (frame b ss) → All (made_stmt s ss b t) → All (frame b (after s ss))
  stmt_frame (declare u kind e) ss b t f h = frame_more ss b (slot u kind) f (last_of (made e ss (b + length ss)) _ h)
  stmt_frame (assign x kind e) ss b t f h = f
  stmt_frame (block s) ss b t f h = f
  stmt_frame (test q x y) ss b t f h = f
  stmt_frame (repeat u q e s) ss b t f h = f
  stmt_frame (lights w args s) ss b t f h = f
  stmt_frame leave ss b t f h = f
  stmt_frame again ss b t f h = f

  all_frame : (s : Stmts) (ss : List Slot) (b t : ℕ) → All (frame b ss) → All (made_all s ss b t) → All (frame b (after_all s ss))
  all_frame done ss b t f h = f
  all_frame (first s rest) ss b t f h = all_frame rest (after s ss) b t (stmt_frame s ss b t f (all_first p (made_stmt s ss b t) _ h)) (all_second p (made_stmt s ss b t) _ h)

  -- what shares the first registers of a frame's assignments
  shared_at : (u : Bool) (s : Shape) (t : ℕ) → (u ≡ false → All (shared t)) → p (reg u s t) ≡ true
  shared_at true s t h = free s t
  shared_at false shapes.Number t h = left (p (Varying shapes.Number t)) _ (h refl)
  shared_at false shapes.Triple t h = left (p (Varying shapes.Triple t)) _ (right (p (Varying shapes.Number t)) _ (h refl))
  shared_at false shapes.Word t h = left (p (Varying shapes.Word t)) _ (right (p (Varying shapes.Triple t)) _ (right (p (Varying shapes.Number t)) _ (h refl)))

  shared_in : (u : Bool) (t : ℕ) → All (cond u [] (shared t)) → u ≡ false → All (shared t)
  shared_in true t h g = absurd cc
  shared_in false t h g = h

  combined_made : (op : ValueOperation) (y : Variable) (e : Expr) (ss : List Slot) (t : ℕ) → (is_uniform (apply op (more (read y) (more e none))) ss ≡ false → All (shared t)) → All (made e ss (t + 1)) →
      All (made (apply op (more (read y) (more e none))) ss t)
  combined_made op y e ss t g h =
      all_join p (made_exprs (more (read y) (more e none)) ss t) _
      (both _ _ (shared_at (class_in y ss) _ t (λ n. g (and_left (class_in y ss) _ n))) (all_join p (made e ss (t + 1)) [] h refl))
      (both _ _ (shared_at (is_uniform (apply op (more (read y) (more e none))) ss) _ t g) refl)

  assigned_made : (x : Variable) (kind : SlType) (e : Expr) (ss : List Slot) (b t : ℕ) → (stmt_uniform (assign x kind e) ss ≡ false → All (shared t)) → All (made_stmt (assign x kind e) ss b t) → All (made e ss t)
  assigned_made x kind (literal v) ss b t g h = h
  assigned_made x kind (read y) ss b t g h = h
  assigned_made x kind (apply op none) ss b t g h = h
  assigned_made x kind (apply op (more (read y) none)) ss b t g h = h
  assigned_made x kind (apply op (more (read y) (more e none))) ss b t g h = combined_made op y e ss t (λ n. g (and_right (class_in x ss) _ n)) h
  assigned_made x kind (apply op (more (read y) (more e (more d rest)))) ss b t g h = h
  assigned_made x kind (apply op (more (literal v) rest)) ss b t g h = h
  assigned_made x kind (apply op (more (apply o a) rest)) ss b t g h = h
  assigned_made x kind (apply op (more (differ d a) rest)) ss b t g h = h
  assigned_made x kind (apply op (more (sum q a) rest)) ss b t g h = h
  assigned_made x kind (apply op (more (texture m a) rest)) ss b t g h = h
  assigned_made x kind (apply op (more (call a q r e) rest)) ss b t g h = h
  assigned_made x kind (differ d e) ss b t g h = h
  assigned_made x kind (sum q args) ss b t g h = h
  assigned_made x kind (texture m args) ss b t g h = h
  assigned_made x kind (call args body r e) ss b t g h = h

  into_within : (to : Register) (kind : SlType) (from : Register) → p to ≡ true → p from ≡ true → within p (into to kind from) ≡ true
  into_within to kind from h g = both _ _ h (both _ _ g refl)

  mutual
    pub expr_within : (e : Expr) (ss : List Slot) (b r : ℕ) → ScopedExpr e ss → PlacedExpr k e → All (frame b ss) → All (made e ss r) → within p (expr_code e ss b r) ≡ true
    expr_within (literal v) ss b r s q f h = both _ _ (at_made (literal v) ss r h) refl
    expr_within (read x) ss b r s q f h = both _ _ (at_made (read x) ss r h) (both _ _ (variable_in x ss b q s f) refl)
    expr_within (apply op args) ss b r s q f h =
        let g = all_first p (made_exprs args ss r) _ h in
        within_then p (exprs_code args ss b r) _ (exprs_within args ss b r s q.1 f g) (both _ _ (at_made (apply op args) ss r h) (both _ _ (all_at_made args ss b r s f g) refl))
    expr_within (differ d e) ss b r s q f h =
        let g = all_first p (made e ss r) _ h in
        within_then p (expr_code e ss b r) _ (expr_within e ss b r s q.1 f g) (both _ _ (at_made (differ d e) ss r h) (both _ _ (at_made e ss r g) refl))
    expr_within (sum w args) ss b r s q f h =
        let g = all_first p (made_exprs args ss r) _ h in
        within_then p (exprs_code args ss b r) _ (exprs_within args ss b r s q.1.1 f g) (both _ _ (at_made (sum w args) ss r h) (both _ _ (all_at_made args ss b r s f g) refl))
    expr_within (texture m args) ss b r s q f h =
        let g = all_first p (made_exprs args ss r) _ h in
        within_then p (exprs_code args ss b r) _ (exprs_within args ss b r s q.1.1 f g) (both _ _ (at_made (texture m args) ss r h) (both _ _ (all_at_made args ss b r s f g) refl))
    expr_within (call args body kind e) ss b r s q f h =
        let fs = formals args in
        let t = behind fs r body in
        let ss2 = after_all body fs in
        let n = r + length ss2 in
        let h1 = all_first p (made_args args ss r) _ h in
        let h2 = all_second p (made_args args ss r) _ h in
        let h3 = all_first p (shared_by body fs t) _ h2 in
        let h4 = all_second p (shared_by body fs t) _ h2 in
        let h5 = all_first p (made_all body fs r t) _ h4 in
        let h6 = all_first p (made e ss2 n) _ (all_second p (made_all body fs r t) _ h4) in
        let inner = args_frame args ss r h1 in
        within_then p (args_code args ss b r) _ (args_within args ss b r s.0 q.0 f h1)
        (within_then p (all_code body fs r t) _ (all_within false body fs r t s.1.0 q.1.0 inner (shared_in (stmts_uniform body fs) t h3) h5)
        (within_then p (expr_code e ss2 r n) _ (expr_within e ss2 r n s.1.1 q.1.1 (all_frame body fs r t inner h5) h6)
        (into_within (at (call args body kind e) ss r) kind (at e ss2 n) (at_made (call args body kind e) ss r h) (at_made e ss2 n h6))))

    pub exprs_within : (es : Exprs) (ss : List Slot) (b r : ℕ) → ScopedExprs es ss → PlacedExprs k es → All (frame b ss) → All (made_exprs es ss r) → within p (exprs_code es ss b r) ≡ true
    exprs_within none ss b r s q f h = refl
    exprs_within (more e rest) ss b r s q f h =
        let g = expr_within e ss b r s.0 q.0 f (all_first p (made e ss r) _ h) in
        within_then p (operand_code e (expr_code e ss b r)) _ (of_operand (λ z i y. within p y ≡ true) e b r (expr_code e ss b r) (λ j. refl) g) (exprs_within rest ss b (r + 1) s.1 q.1 f (all_second p (made e ss r) _ h))

    pub args_within : (es : Arguments) (ss : List Slot) (b r : ℕ) → ScopedArgs es ss → PlacedArgs k es → All (frame b ss) → All (made_args es ss r) → within p (args_code es ss b r) ≡ true
    args_within no_arguments ss b r s q f h = refl
    args_within (argument u kind e rest) ss b r s q f h =
        let to = reg u (shape_of kind) r in
        let g = all_first p (made e ss r) (to ∷ made_args rest ss (r + 1)) h in
        let i = all_second p (made e ss r) (to ∷ made_args rest ss (r + 1)) h in
        within_then p (expr_code e ss b r) _ (expr_within e ss b r s.0 q.0 f g)
        (within_then p (into to kind (at e ss r)) (args_code rest ss b (r + 1)) (into_within to kind (at e ss r) (left (p to) _ i) (at_made e ss r g)) (args_within rest ss b (r + 1) s.1 q.1 f (right (p to) _ i)))

    pub stmt_within : (l : Bool) (s : Stmt) (ss : List Slot) (b t : ℕ) → ScopedStmt s ss → PlacedStmt k l s ss → All (frame b ss) → (stmt_uniform s ss ≡ false → All (shared t)) → All (made_stmt s ss b t) →
        within p (stmt_code s ss b t) ≡ true
    stmt_within l (declare u kind e) ss b t s q f c h =
        let n = b + length ss in
        let g = all_first p (made e ss n) _ h in
        within_then p (expr_code e ss b n) _ (expr_within e ss b n s q f g) (into_within (reg u (shape_of kind) n) kind (at e ss n) (last_of (made e ss n) _ h) (at_made e ss n g))
    stmt_within l (assign x kind e) ss b t s q f c h =
        let g = assigned_made x kind e ss b t c h in
        within_then p (expr_code e ss b t) _ (expr_within e ss b t s.0 q.0 f g) (into_within (variable ss b x) kind (at e ss t) (variable_in x ss b q.1.0 s.1 f) (at_made e ss t g))
    stmt_within l (block s) ss b t d q f c h = all_within l s ss b t d q f c h
    stmt_within l (test w x y) ss b t s q f c h =
        let n = b + length ss in
        let g = all_first p (made w ss n) _ h in
        let i = all_second p (made w ss n) (made_all x ss b t ++ made_all y ss b t) h in
        within_then p (expr_code w ss b n) _ (expr_within w ss b n s.0 q.0 f g)
        (both _ _ (at_made w ss n g)
        (both _ _ (all_within l x ss b t s.1.0 q.1.0 f (λ m. c (and_right (is_uniform w ss) _ (and_left (stmts_uniform x ss) _ m))) (all_first p (made_all x ss b t) _ i))
        (both _ _ (all_within l y ss b t s.1.1 q.1.1 f (λ m. c (and_right (is_uniform w ss) _ (and_right (stmts_uniform x ss) _ m))) (all_second p (made_all x ss b t) _ i)) refl)))
    stmt_within l (repeat u w e d) ss b t s q f c h =
        let n = b + length ss in
        let g = all_first p (made w ss n) _ h in
        let i = all_second p (made w ss n) (made_all e ss b t ++ made_all d ss b t) h in
        both _ _ (expr_within w ss b n s.0 q.0 f g)
        (both _ _ (at_made w ss n g)
        (both _ _ (all_within false e ss b t s.1.0 q.1.0 f (λ m. c (and_right (is_uniform w ss) _ (and_left (stmts_uniform e ss) _ m))) (all_first p (made_all e ss b t) _ i))
        (both _ _ (all_within true d ss b t s.1.1 q.1.1 f (λ m. c (and_right (is_uniform w ss) _ (and_right (stmts_uniform e ss) _ m))) (all_second p (made_all e ss b t) _ i)) refl)))
    stmt_within l (lights w args d) ss b t s q f c h =
        let n = b + length ss in
        let g = all_first p (made_exprs args ss n) _ h in
        within_then p (exprs_code args ss b n) _ (exprs_within args ss b n s.0 q.1.1.0 f g)
        (both _ _ (all_at_made args ss b n s.0 f g)
        (both _ _ (all_within l d ss b t s.1 q.1.1.1 f (λ m. c (and_right _ (stmts_uniform d ss) m)) (all_second p (made_exprs args ss n) _ h)) refl))
    stmt_within l leave ss b t s q f c h = refl
    stmt_within l again ss b t s q f c h = refl

    pub all_within : (l : Bool) (s : Stmts) (ss : List Slot) (b t : ℕ) → ScopedAll s ss → PlacedAll k l s ss → All (frame b ss) → (stmts_uniform s ss ≡ false → All (shared t)) → All (made_all s ss b t) →
        within p (all_code s ss b t) ≡ true
    all_within l done ss b t d q f c h = refl
    all_within l (first s rest) ss b t d q f c h =
        let g = all_first p (made_stmt s ss b t) _ h in
        within_then p (stmt_code s ss b t) _ (stmt_within l s ss b t d.0 q.0 f (λ m. c (and_left (stmt_uniform s ss) _ m)) g)
        (all_within l rest (after s ss) b t d.1 q.1 (stmt_frame s ss b t f g) (λ m. c (and_right (stmt_uniform s ss) _ m)) (all_second p (made_stmt s ss b t) _ h))
