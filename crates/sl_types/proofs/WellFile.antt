-- The tree of a file without faults of names, types, kinds and places is well typed.
use Rattle.std.proofs.Common.{◌≡◌, ℕ, ◌+◌, Bool, true, false, ◌&&◌, List, [], ◌∷◌, ◌++◌, map, length, is_some, Option, Some, None, Ok, refl, sym, ap, ap₂, ◌∙◌, subst, append_assoc, append-nil}
use Rattle.std.proofs.lemmas.Bool.{cond_both}
use Rattle.sl_ast.specs.Syntax as U
use Rattle.sl_ast.specs.WellTyped as W
use Rattle.sl_ast.specs.Rules.{node_type, takes}
use Rattle.sl_ast.specs.declared.kinds.SlKind.{SlKind}
use Rattle.sl_ast.specs.declared.kinds.SlType.{SlType}
use Rattle.sl_ast.specs.declared.kinds.SlType.TheVariants as types
use Rattle.sl_ast.specs.declared.kinds.NodeType.{NodeType}
use Rattle.sl_ast.specs.declared.kinds.NodeType.TheVariants as nodes
use Rattle.sl_expressions.specs.Found.{Found}
use Rattle.sl_expressions.specs.Typed as T
use Rattle.sl_expressions.specs.Typed.{kind_of}
use Rattle.sl_expressions.specs.Scope.{Local, level_of, Callee, callee_named, Around, body_in}
use Rattle.sl_expressions.specs.Exprs.{typed_expr}
use Rattle.sl_typing.specs.Stmts.{value_in, typed_rows}
use Rattle.sl_typing.specs.Assigned.{assigned_in}
use Rattle.sl_typing.specs.Functions.{gives_any, given_last, but_last, returned, ended, typed_body, formals_of, scope_from, body_of, spot_within, within, callee_in, known_from, Param, locals_of, by_default, default_in, typed_param, typed_params, typed_groups, Program, in_body, program}
use Rattle.sl_types.specs.Inline.{Built, count, count_params, inline, inline_stmts, tree_formal, built_in, built_from, declared_of, defaults_at, tree_of}
use Rattle.sl_types.proofs.WellScope.{Good, good_bind, good_as, good_any, types_of}
use Rattle.sl_types.proofs.WellExprs.{Works, Ready, Fine, kind_kept}
use Rattle.sl_types.proofs.WellCalls.{expr_fine}
use Rattle.sl_types.proofs.WellStmts.{RowsFine, GoodRows, rows_typed, rows_after, value_fine, rows_fine}

-- what goes into a variable of a type goes into a node of it
takes_goes : (kind : SlType) (value : NodeType) → takes kind value ≡ true → W.goes_into (node_type kind) (Some value) ≡ true
takes_goes types.Float nodes.Float h = refl
takes_goes types.Float nodes.Color h = absurd (cc h)
takes_goes types.Float nodes.Point h = absurd (cc h)
takes_goes types.Float nodes.Vector h = absurd (cc h)
takes_goes types.Float nodes.Normal h = absurd (cc h)
takes_goes types.Float nodes.Str h = absurd (cc h)
takes_goes types.Float nodes.Test h = absurd (cc h)
takes_goes types.Color nodes.Float h = refl
takes_goes types.Color nodes.Color h = refl
takes_goes types.Color nodes.Point h = absurd (cc h)
takes_goes types.Color nodes.Vector h = absurd (cc h)
takes_goes types.Color nodes.Normal h = absurd (cc h)
takes_goes types.Color nodes.Str h = absurd (cc h)
takes_goes types.Color nodes.Test h = absurd (cc h)
takes_goes types.Point nodes.Float h = refl
takes_goes types.Point nodes.Color h = absurd (cc h)
takes_goes types.Point nodes.Point h = refl
takes_goes types.Point nodes.Vector h = refl
takes_goes types.Point nodes.Normal h = refl
takes_goes types.Point nodes.Str h = absurd (cc h)
takes_goes types.Point nodes.Test h = absurd (cc h)
takes_goes types.Vector nodes.Float h = refl
takes_goes types.Vector nodes.Color h = absurd (cc h)
takes_goes types.Vector nodes.Point h = refl
takes_goes types.Vector nodes.Vector h = refl
takes_goes types.Vector nodes.Normal h = refl
takes_goes types.Vector nodes.Str h = absurd (cc h)
takes_goes types.Vector nodes.Test h = absurd (cc h)
takes_goes types.Normal nodes.Float h = refl
takes_goes types.Normal nodes.Color h = absurd (cc h)
takes_goes types.Normal nodes.Point h = refl
takes_goes types.Normal nodes.Vector h = refl
takes_goes types.Normal nodes.Normal h = refl
takes_goes types.Normal nodes.Str h = absurd (cc h)
takes_goes types.Normal nodes.Test h = absurd (cc h)
takes_goes types.Str nodes.Float h = absurd (cc h)
takes_goes types.Str nodes.Color h = absurd (cc h)
takes_goes types.Str nodes.Point h = absurd (cc h)
takes_goes types.Str nodes.Vector h = absurd (cc h)
takes_goes types.Str nodes.Normal h = absurd (cc h)
takes_goes types.Str nodes.Str h = refl
takes_goes types.Str nodes.Test h = absurd (cc h)

-- the body of a function
abbrev BodyFine : W.Around → List Built → List SlType → SlType → T.Body → Type 0
BodyFine g fs ks kind b =
    ((n : ℕ) → W.typed_stmts g ks (inline_stmts fs n b.stmts) ≡ true)
    × ((n m : ℕ) → W.typed g (W.types_after_all (inline_stmts fs n b.stmts) ks) (inline fs m b.value) ≡ true)
    × (takes kind (kind_of b.value) ≡ true)

returned_fine : (g : Around) (fs : List Built) → Ready g.at.kind g.at.default g.known fs → (ks : List SlType) (kind : SlType) (ts : List T.Stmt) (ls : List Local) (x : U.Expr × ℕ)
    → RowsFine g.at fs ks ts (types_of ls) → Good (returned g kind ts ls x) (BodyFine g.at fs ks kind)
returned_fine g fs r ks kind ts ls x h =
    good_bind (value_in kind x.1 (typed_expr g false ls x.0)) _ (λ t. (takes kind (kind_of t) ≡ true) × Fine g.at (types_of ls) fs t) (BodyFine g.at fs ks kind)
    (value_fine g.at (types_of ls) fs kind x.1 (typed_expr g false ls x.0) (expr_fine g fs r false ls x.0))
    (λ t p. (
      rows_typed g.at fs ks ts (types_of ls) h,
      λ n m. ap (λ k. W.typed g.at k (inline fs m t)) (rows_after g.at fs ks ts (types_of ls) h n) ∙ p.1 m,
      p.0,
    ))

ended_fine : (g : Around) (fs : List Built) → Ready g.at.kind g.at.default g.known fs → (from : ℕ) (kind : SlType) (line : ℕ) (ls : List Local) (ss : U.Stmts) (o : Option (U.Expr × ℕ))
    → Good (ended g from kind line ls ss o) (BodyFine g.at fs (types_of ls) kind)
ended_fine g fs r from kind line ls ss None =
    good_bind (typed_rows g from ls ss) _ (λ rows. Unit {0}) (BodyFine g.at fs (types_of ls) kind) (good_any (typed_rows g from ls ss)) (λ rows p. tt)
ended_fine g fs r from kind line ls ss (Some x) =
    good_bind (typed_rows g from ls (but_last ss)) _ (GoodRows g.at fs (types_of ls)) (BodyFine g.at fs (types_of ls) kind) (rows_fine g fs r from ls (but_last ss))
    (λ rows p. returned_fine g fs r (types_of ls) kind rows.0 rows.1 x p)

body_fine : (g : Around) (fs : List Built) → Ready g.at.kind g.at.default g.known fs → (from : ℕ) (ks : List SlType) (kind : SlType) (line : ℕ) (ls : List Local) (ss : U.Stmts)
    → types_of ls ≡ ks → Good (typed_body g from kind line ls ss) (BodyFine g.at fs ks kind)
body_fine g fs r from ks kind line ls ss is =
    subst (λ k. Good (typed_body g from kind line ls ss) (BodyFine g.at fs k kind)) is (ended_fine g fs r from kind line ls ss (given_last ss))

-- the scope of formals holds them
scope_is : (before : List Local) (formals : List Local) → Good (scope_from before formals) (λ ls. ls ≡ before ++ formals)
scope_is before [] = sym (append-nil before)
scope_is before (f ∷ formals) =
    cond_both (is_some (level_of f.name before)) _ _ (λ r. Good r (λ ls. ls ≡ before ++ f ∷ formals)) (λ e. tt)
    (λ e. good_as (scope_from (before ++ f ∷ []) formals) (λ ls. ls ≡ (before ++ f ∷ []) ++ formals) (λ ls. ls ≡ before ++ f ∷ formals) (scope_is (before ++ f ∷ []) formals)
    (λ ls p. p ∙ append_assoc before (f ∷ []) formals))

function_fine : (g : Around) (fs : List Built) → Ready g.at.kind g.at.default g.known fs → (f : U.Function) → Good (body_of g f) (BodyFine g.at fs (types_of (formals_of f.formals)) f.returns)
function_fine g fs r f =
    let ks = types_of (formals_of f.formals) in
    cond_both (gives_any f.body) _ _ (λ x. Good x (BodyFine g.at fs ks f.returns))
    (λ e. good_bind (scope_from [] (formals_of f.formals)) _ (λ ls. ls ≡ formals_of f.formals) (BodyFine g.at fs ks f.returns) (scope_is [] (formals_of f.formals))
    (λ ls is. body_fine g fs r (length ls) ks f.returns f.line ls f.body (ap types_of is)))
    (λ e. tt)

formal_types_are : (ls : List Local) → W.formal_types (map tree_formal ls) ≡ types_of ls
formal_types_are [] = refl
formal_types_are (l ∷ ls) = ap (λ ks. l.kind ∷ ks) (formal_types_are ls)

works_ok : (kind : SlKind) (d : Bool) (fs : List Built) (c : Callee) (b : T.Body) → BodyFine (spot_within kind d) fs (types_of c.formals) c.returns b → Works kind d c (built_in fs c.formals (Ok b))
works_ok kind d fs c b h = record {
  formals_are = refl;
  body_typed = λ n. ap (λ ks. W.typed_stmts (spot_within kind d) ks (inline_stmts fs n b.stmts)) (formal_types_are c.formals) ∙ h.0 n;
  value_typed = λ n m. ap (λ ks. W.typed (spot_within kind d) (W.types_after_all (inline_stmts fs n b.stmts) ks) (inline fs m b.value)) (formal_types_are c.formals) ∙ h.1 n m;
  value_goes = λ m. ap (λ k. W.goes_into (node_type c.returns) (Some k)) (kind_kept fs m b.value) ∙ takes_goes c.returns (kind_of b.value) h.2;
}

good_ok : {A : Type 0} (r : Found A) (a : A) (P : A → Type 0) → r ≡ Ok a → Good r P → P a
good_ok r a P is h = subst (λ x. Good x P) is h

body_found : (kind : SlKind) (d : Bool) (known : List Callee) (f : U.Function) → body_in d (callee_in kind known f) ≡ body_of (within kind d known f) f
body_found kind true known f = refl
body_found kind false known f = refl

callee_works : (kind : SlKind) (d : Bool) (known : List Callee) (fs : List Built) (f : U.Function) → Ready kind d known fs → (body : T.Body)
    → body_in d (callee_in kind known f) ≡ Ok body → Works kind d (callee_in kind known f) (built_in fs (formals_of f.formals) (body_in d (callee_in kind known f)))
callee_works kind d known fs f r body is =
    subst (λ o. Works kind d (callee_in kind known f) (built_in fs (formals_of f.formals) o)) (sym is)
    (works_ok kind d fs (callee_in kind known f) body
    (good_ok (body_of (within kind d known f) f) body (BodyFine (spot_within kind d) fs (types_of (formals_of f.formals)) f.returns) (sym (body_found kind d known f) ∙ is)
    (function_fine (within kind d known f) fs r f)))

ready_push : (kind : SlKind) (d : Bool) (cs : List Callee) (bs : List Built) (c : Callee) (b : Built) → Ready kind d cs bs → ((body : T.Body) → body_in d c ≡ Ok body → Works kind d c b)
    → Ready kind d (cs ++ c ∷ []) (bs ++ b ∷ [])
ready_push kind d [] [] c b r w = (w, tt)
ready_push kind d [] (x ∷ bs) c b r w = absurd r
ready_push kind d (y ∷ cs) [] c b r w = absurd r
ready_push kind d (y ∷ cs) (x ∷ bs) c b r w = (r.0, ready_push kind d cs bs c b r.1 w)

built_push : (d : Bool) (fs : List Built) (cs : List Callee) (c : Callee) → built_from d fs (cs ++ c ∷ []) ≡ built_from d fs cs ++ built_in (built_from d fs cs) c.formals (body_in d c) ∷ []
built_push d fs [] c = refl
built_push d fs (x ∷ cs) c = built_push d (fs ++ built_in fs x.formals (body_in d x) ∷ []) cs c

abbrev AllReady : SlKind → Bool → List Callee → Type 0
AllReady kind d known = Ready kind d known (built_from d [] known)

one_more : (kind : SlKind) (d : Bool) (known : List Callee) (f : U.Function) → AllReady kind d known → AllReady kind d (known ++ callee_in kind known f ∷ [])
one_more kind d known f r =
    let fs = built_from d [] known in
    subst (Ready kind d (known ++ callee_in kind known f ∷ [])) (sym (built_push d [] known (callee_in kind known f)))
    (ready_push kind d known fs (callee_in kind known f) (built_in fs (formals_of f.formals) (body_in d (callee_in kind known f))) r (callee_works kind d known fs f r))

abbrev BothReady : SlKind → List Callee → Type 0
BothReady kind known = AllReady kind true known × AllReady kind false known

known_ready : (kind : SlKind) (known : List Callee) (fns : List U.Function) → BothReady kind known → Good (known_from kind known fns) (BothReady kind)
known_ready kind known [] r = r
known_ready kind known (f ∷ fns) r =
    cond_both (is_some (callee_named f.name known)) _ _ (λ x. Good x (BothReady kind)) (λ e. tt)
    (λ e. known_ready kind (known ++ callee_in kind known f ∷ []) fns (one_more kind true known f r.0, one_more kind false known f r.1))

-- parameters
abbrev ParamsFine : SlKind → List Built → List Param → Type 0
ParamsFine kind fs [] = Unit {0}
ParamsFine kind fs (p ∷ ps) = ((takes p.local.kind (kind_of p.value) ≡ true) × Fine (W.in_default kind) [] fs p.value) × ParamsFine kind fs ps

params_push : (kind : SlKind) (fs : List Built) (ps : List Param) (p : Param) → ParamsFine kind fs ps → (takes p.local.kind (kind_of p.value) ≡ true) × Fine (W.in_default kind) [] fs p.value
    → ParamsFine kind fs (ps ++ p ∷ [])
params_push kind fs [] p h q = (q, tt)
params_push kind fs (x ∷ ps) p h q = (h.0, params_push kind fs ps p h.1 q)

default_fine : (kind : SlKind) (known : List Callee) (fs : List Built) → Ready kind true known fs → (type : SlType) (set_line : ℕ) (o : Option U.Expr)
    → Good (default_in (by_default kind known) type set_line o) (λ t. (takes type (kind_of t) ≡ true) × Fine (W.in_default kind) [] fs t)
default_fine kind known fs r type set_line None = tt
default_fine kind known fs r type set_line (Some e) =
    value_fine (W.in_default kind) [] fs type set_line (typed_expr (by_default kind known) false [] e) (expr_fine (by_default kind known) fs r false [] e)

param_fine : (kind : SlKind) (known : List Callee) (fs : List Built) → Ready kind true known fs → (assigned : List (List ℕ)) (uniform : Bool) (type : SlType) (ps : List Param) (d : U.Declared) → ParamsFine kind fs ps
    → Good (typed_param (by_default kind known) assigned uniform type ps d) (ParamsFine kind fs)
param_fine kind known fs r assigned uniform type ps d h =
    cond_both (is_some (level_of d.name (locals_of ps))) _ _ (λ x. Good x (ParamsFine kind fs)) (λ e. tt)
    (λ e. good_bind (default_in (by_default kind known) type d.set_line d.value) _ (λ t. (takes type (kind_of t) ≡ true) × Fine (W.in_default kind) [] fs t) (ParamsFine kind fs)
    (default_fine kind known fs r type d.set_line d.value) (λ t p. params_push kind fs ps _ h p))

params_fine : (kind : SlKind) (known : List Callee) (fs : List Built) → Ready kind true known fs → (assigned : List (List ℕ)) (uniform : Bool) (type : SlType) (ps : List Param) (ds : List U.Declared) → ParamsFine kind fs ps
    → Good (typed_params (by_default kind known) assigned uniform type ps ds) (ParamsFine kind fs)
params_fine kind known fs r assigned uniform type ps [] h = h
params_fine kind known fs r assigned uniform type ps (d ∷ ds) h =
    good_bind (typed_param (by_default kind known) assigned uniform type ps d) _ (ParamsFine kind fs) (ParamsFine kind fs) (param_fine kind known fs r assigned uniform type ps d h)
    (λ x p. params_fine kind known fs r assigned uniform type x ds p)

groups_fine : (kind : SlKind) (known : List Callee) (fs : List Built) → Ready kind true known fs → (assigned : List (List ℕ)) (ps : List Param) (gs : List U.Group) → ParamsFine kind fs ps
    → Good (typed_groups (by_default kind known) assigned ps gs) (ParamsFine kind fs)
groups_fine kind known fs r assigned ps [] h = h
groups_fine kind known fs r assigned ps (x ∷ xs) h =
    good_bind (typed_params (by_default kind known) assigned _ x.kind ps x.names) _ (ParamsFine kind fs) (ParamsFine kind fs) (params_fine kind known fs r assigned _ x.kind ps x.names h)
    (λ y p. groups_fine kind known fs r assigned y xs p)

defaults_fine : (kind : SlKind) (fs : List Built) (ps : List Param) → ParamsFine kind fs ps → (n : ℕ) → W.typed_defaults kind (map declared_of ps) (defaults_at fs n ps) ≡ true
defaults_fine kind fs [] h n = refl
defaults_fine kind fs (p ∷ ps) h n =
    ap₂ (λ a b. a && b) (ap (takes p.local.kind) (kind_kept fs (n + 1) p.value) ∙ h.0.0)
    (ap₂ (λ a b. a && b) (h.0.1 (n + 1)) (defaults_fine kind fs ps h.1 (n + 1 + count fs p.value)))

local_types_are : (ps : List Param) → W.local_types (map declared_of ps) ≡ types_of (locals_of ps)
local_types_are [] = refl
local_types_are (p ∷ ps) = ap (λ ks. p.local.kind ∷ ks) (local_types_are ps)

pub program_fine : (s : U.Shader) → Good (program s) (λ p. W.well_typed (tree_of s p) ≡ true)
program_fine s =
    good_bind (known_from s.kind [] s.functions) _ (BothReady s.kind) (λ p. W.well_typed (tree_of s p) ≡ true) (known_ready s.kind [] s.functions (tt, tt))
    (λ known r. good_bind (typed_groups (by_default s.kind known) (assigned_in s.body) [] s.params) _ (ParamsFine s.kind (built_from true [] known)) (λ p. W.well_typed (tree_of s p) ≡ true)
    (groups_fine s.kind known (built_from true [] known) r.0 (assigned_in s.body) [] s.params tt)
    (λ params h. good_bind (typed_rows (in_body s.kind known) (length params) (locals_of params) s.body) _ (GoodRows (W.in_shader s.kind) (built_from false [] known) (types_of (locals_of params)))
    (λ p. W.well_typed (tree_of s p) ≡ true)
    (rows_fine (in_body s.kind known) (built_from false [] known) r.1 (length params) (locals_of params) s.body)
    (λ rows q.
    let fs = built_from false [] known in
    let n = 1 + count_params (built_from true [] known) params in
    ap₂ (λ a b. a && b) (defaults_fine s.kind (built_from true [] known) params h 1)
    (ap (λ ks. W.typed_stmts (W.in_shader s.kind) ks (inline_stmts fs n (T.stmts rows.0))) (local_types_are params)
    ∙ rows_typed (W.in_shader s.kind) fs (types_of (locals_of params)) rows.0 (types_of rows.1) q n))))

-- a file without those faults has a well typed tree
pub well_typed_tree : (s : U.Shader) (p : Program) → program s ≡ Ok p → W.well_typed (tree_of s p) ≡ true
well_typed_tree s p is = good_ok (program s) p (λ q. W.well_typed (tree_of s q) ≡ true) is (program_fine s)
