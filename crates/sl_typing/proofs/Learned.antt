-- What is learned one after another: functions and parameters.
use Rattle.std.proofs.Common.{◌≡◌, ℕ, ◌+◌, ◌<◌, Bool, true, false, cond, List, [], ◌∷◌, ◌++◌, append_assoc, map, drop, length, get_or, is_some, Ok, Err, refl, sym, ap, ap₂, ◌∙◌}
use Rattle.std.proofs.lemmas.List.{at_drop_more}
use Rattle.sl_ast.specs.Syntax as U
use Rattle.sl_ast.specs.SyntaxView.{declared_of, function_of, group_of}
use Rattle.sl_ast.specs.declared.kinds.SlKind.{SlKind}
use Rattle.sl_ast.specs.declared.kinds.SlType.{SlType}
use Rattle.sl_ast.specs.declared.syntax.Declared.{Declared}
use Rattle.sl_ast.specs.declared.syntax.Function.{Function}
use Rattle.sl_ast.specs.declared.syntax.Group.{Group}
use Rattle.sl_expressions.specs.Found.{Found, ◌>>=◌}
use Rattle.sl_expressions.specs.Typed as T
use Rattle.sl_expressions.specs.Scope.{Around, Callee, Local, callee_named}
use Rattle.sl_expressions.specs.declared.faults.TypeCode.TheVariants.{T10}
use Rattle.sl_typing.specs.Functions.{Param, body_of, within, callee_in, formals_named, formals_of, known_from, learned, typed_param, typed_params}
use Rattle.sl_typing.specs.Stmts.{is_uniform}

abbrev callee_with : List ℕ → SlType → List Local → Found T.Body → Found T.Body → Callee
callee_with name returns formals body by_default = record { name = name; formals = formals; returns = returns; body = body; by_default = by_default }

-- a function from what is kept of it
pub callee_kept : (kind : SlKind) (known : List Callee) (f : U.Function) (formals : List Local) (body by_default : Found T.Body)
    → formals ≡ formals_of f.formals → body ≡ body_of (within kind false known f) f → by_default ≡ body_of (within kind true known f) f
    → callee_with f.name f.returns formals body by_default ≡ callee_in kind known f
callee_kept kind known f formals body by_default p q r =
    ap (λ ls. callee_with f.name f.returns ls body by_default) p ∙ ap₂ (λ x y. callee_with f.name f.returns (formals_of f.formals) x y) q r

one_more : (b : Bool) (line : ℕ) (ks : List Callee) (next : List Callee → Found (List Callee))
    → cond b (Err (T10, line)) (next ks) ≡ cond b (Err (T10, line)) (Ok ks) >>= next
one_more true line ks next = refl
one_more false line ks next = refl

-- one function of those that are left, and those after it
pub known_step : (kind : SlKind) (ks : List Callee) (xs : List Function) (i : ℕ) (x : Function) → i < length xs → x ≡ get_or xs i x
    → known_from kind ks (map function_of (drop i xs)) ≡ learned kind ks (function_of x) >>= λ k. known_from kind k (map function_of (drop (i + 1) xs))
known_step kind ks xs i x low is =
    let next : List Callee → Found (List Callee) = λ k. known_from kind k (map function_of (drop (i + 1) xs)) in
    at_drop_more (λ ys. known_from kind ks (map function_of ys)) xs i x low
    ∙ ap (λ y. known_from kind ks (function_of y ∷ map function_of (drop (i + 1) xs))) (sym is)
    ∙ one_more (is_some (callee_named (function_of x).name ks)) (function_of x).line (ks ++ callee_in kind ks (function_of x) ∷ []) next

-- the formals of a group after others, and those of the groups that are left
pub formals_step : (before : List Local) (xs : List Group) (i : ℕ) (x : Group) → i < length xs → x ≡ get_or xs i x
    → before ++ formals_of (map group_of (drop i xs))
    ≡ (before ++ formals_named (is_uniform x.class) x.kind (map declared_of x.names)) ++ formals_of (map group_of (drop (i + 1) xs))
formals_step before xs i x low is =
    let rest = formals_of (map group_of (drop (i + 1) xs)) in
    at_drop_more (λ ys. before ++ formals_of (map group_of ys)) xs i x low
    ∙ ap (λ y. before ++ (formals_named (is_uniform y.class) y.kind (map declared_of y.names) ++ rest)) (sym is)
    ∙ sym (append_assoc before (formals_named (is_uniform x.class) x.kind (map declared_of x.names)) rest)

-- one parameter of those that are left, and those after it
pub params_step : (g : Around) (assigned : List (List ℕ)) (uniform : Bool) (kind : SlType) (ps : List Param) (xs : List Declared) (i : ℕ) (x : Declared) → i < length xs → x ≡ get_or xs i x
    → typed_params g assigned uniform kind ps (map declared_of (drop i xs))
    ≡ typed_param g assigned uniform kind ps (declared_of x) >>= λ r. typed_params g assigned uniform kind r (map declared_of (drop (i + 1) xs))
params_step g assigned uniform kind ps xs i x low is =
    at_drop_more (λ ys. typed_params g assigned uniform kind ps (map declared_of ys)) xs i x low
    ∙ ap (λ y. typed_params g assigned uniform kind ps (declared_of y ∷ map declared_of (drop (i + 1) xs))) (sym is)
