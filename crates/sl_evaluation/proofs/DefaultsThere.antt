-- A well-typed tree has a default for each parameter, and its value is that of the default at the parameter's index; where the tree is
-- settled, the default is constant.
use Rattle.std.proofs.Common.{◌≡◌, ℕ, zero, suc, ◌<◌, Bool, true, false, ◌||◌, not, Ok, Err, None, List, [], ◌∷◌, length, get_or, map, refl, ap, sym, subst, ◌∙◌, arith}
use Rattle.std.proofs.lemmas.Bool.{and_parts}
use Rattle.std.proofs.lemmas.List.{length-map, get_or-map}
use Rattle.transforms.specs.declared.spaces.Spaces.{Spaces}
use Rattle.sl_ast.specs.Typed as T
use Rattle.sl_ast.specs.TypedView.{local_of, default_of}
use Rattle.sl_ast.specs.TreeView.{tree_of}
use Rattle.sl_ast.specs.Classes.{is_uniform}
use Rattle.sl_ast.specs.Settled.{Settles, ◌then◌, unless, is_varying_string, outermost, settled_expr, settled_default, settled_defaults, fault_of, settles, IsSettled}
use Rattle.sl_ast.specs.WellTyped.{kind_of, typed, in_default, typed_defaults, well_typed}
use Rattle.sl_ast.specs.Rules.{takes}
use Rattle.sl_ast.specs.declared.kinds.ControlCode.TheVariants.{T3}
use Rattle.sl_ast.specs.declared.kinds.SlKind.{SlKind}
use Rattle.sl_ast.specs.declared.tree.Tree.{Tree}
use Rattle.sl_ast.specs.declared.typed.ParamDecl.{ParamDecl}
use Rattle.sl_ast.specs.declared.typed.ParamDefault.{ParamDefault}
use Rattle.builtins.specs.Values.{as_kind}
use Rattle.sl_ast.specs.declared.kinds.SlType.{SlType}
use Rattle.sl_ast.specs.declared.typed.Value.{Value}
use Rattle.sl_meaning.specs.Alone.{Gives}
use Rattle.sl_meaning.specs.Core as C
use Rattle.sl_meaning.specs.CoreAlone as core
use Rattle.sl_meaning.specs.Dark.{dark}
use Rattle.sl_meaning.specs.Defaults as spec
use Rattle.sl_meaning.specs.Environment.{Env, bare}
use Rattle.sl_meaning.specs.Lowered.{expr}
use Rattle.sl_meaning.proofs.CoreMeaning.{value_is}
use Rattle.sl_evaluation.specs.Constant.{IsConstant}
use Rattle.sl_evaluation.proofs.Constants.{expr_constant}

as_many : (kind : SlKind) (ls : List T.Local) (ds : List T.Default) → typed_defaults kind ls ds ≡ true → length ds ≡ length ls
as_many kind [] [] h = refl
as_many kind [] (d ∷ ds) h = absurd (cc h)
as_many kind (l ∷ ls) [] h = absurd (cc h)
as_many kind (l ∷ ls) (d ∷ ds) h =
    ap suc (as_many kind ls ds (and_parts (typed (in_default kind) [] d.value) (typed_defaults kind ls ds) (and_parts _ _ h).1).1)

pub defaults_there : (t : Tree) → well_typed (tree_of t) ≡ true → length t.defaults ≡ length t.params
defaults_there t h =
    sym (length-map t.defaults default_of) ∙ as_many t.kind (map local_of t.params) (map default_of t.defaults) (and_parts _ _ h).0 ∙ length-map t.params local_of

pub found : (t : Tree) (k : ℕ) (p : ParamDecl) (d : ParamDefault) (sp : Spaces) → k < length t.params → k < length t.defaults →
    p ≡ get_or t.params k p → d ≡ get_or t.defaults k d → spec.evaluated p.kind (default_of d).value sp ≡ spec.default_of (tree_of t) k sp
found t k p d sp few there hp hd =
    let kind = ap (λ l. l.kind) (ap local_of hp ∙ sym (get_or-map local_of t.params k p spec.no_local few)) in
    let default = ap (λ l. l.value) (ap default_of hd ∙ sym (get_or-map default_of t.defaults k d spec.no_default there)) in
    ap (λ q. spec.evaluated q (default_of d).value sp) kind ∙
    ap (λ q. spec.evaluated (get_or (map local_of t.params) k spec.no_local).kind q sp) default

-- the value that its core tree has is that of the default
pub evaluated_is : (kind : SlType) (e : T.Expr) (sp : Spaces) (c : C.Expr) (env behind : Env) (v : Value) → c ≡ expr e [] true → env ≡ bare spec.full spec.full →
    core.value c (dark sp) spec.full env ≡ (v, behind) → as_kind kind v ≡ spec.evaluated kind e sp
evaluated_is kind e sp c env behind v hc he hv =
    ap (λ r. as_kind kind r.0)
    (sym hv ∙ ap (λ x. core.value x (dark sp) spec.full env) hc ∙ ap (core.value (expr e [] true) (dark sp) spec.full) he ∙
    ap (λ (f : Gives Value). f (bare spec.full spec.full)) (sym (value_is e [] true (dark sp) spec.full)))

uniform_one : (w u : Bool) (line : ℕ) (next : Settles) (after : Bool) → unless (w || not u) T3 line next ≡ Ok after → u ≡ true
uniform_one w true line next after h = refl
uniform_one true false line next after h = absurd (cc h)
uniform_one false false line next after h = absurd (cc h)

parts : (r : Settles) (next : Bool → Settles) (after : Bool) → r then next ≡ Ok after → (mid : Bool) × ((r ≡ Ok mid) × (next mid ≡ Ok after))
parts (Ok mid) next after h = (mid, (refl, h))
parts (Err e) next after h = absurd (cc h)

each_constant : (kind : SlKind) (ls : List T.Local) (ds : List T.Default) (k : ℕ) (x : T.Default) (lit after : Bool) →
    settled_defaults ds ls lit ≡ Ok after → typed_defaults kind ls ds ≡ true → k < length ds → IsConstant (expr (get_or ds k x).value [] true)
each_constant kind ls [] k x lit after s t few = absurd (omega (arith, few))
each_constant kind [] (d ∷ ds) k x lit after s t few = absurd (cc t)
each_constant kind (l ∷ ls) (d ∷ ds) zero x lit after s t few =
    let own = parts (settled_default l d lit) (settled_defaults ds ls) after s in
    let uniform = uniform_one (is_varying_string l.uniform l.kind) (is_uniform d.value []) d.place.line (settled_expr d.value [] outermost lit) own.0 own.1.0 in
    expr_constant (in_default kind) [] d.value [] true refl refl refl (and_parts _ (typed_defaults kind ls ds) (and_parts (takes l.kind (kind_of d.value)) _ t).1).0 uniform
each_constant kind (l ∷ ls) (d ∷ ds) (suc k) x lit after s t few =
    let own = parts (settled_default l d lit) (settled_defaults ds ls) after s in
    each_constant kind ls ds k x own.0 after own.1.1 (and_parts (typed (in_default kind) [] d.value) _ (and_parts (takes l.kind (kind_of d.value)) _ t).1).1 (omega (arith, few))

no_fault : (r : Settles) → fault_of r ≡ None → (after : Bool) × (r ≡ Ok after)
no_fault (Ok after) h = (after, refl)
no_fault (Err e) h = absurd (cc h)

pub constant_there : (t : Tree) (k : ℕ) (d : ParamDefault) → IsSettled (tree_of t) → well_typed (tree_of t) ≡ true → k < length t.params →
    d ≡ get_or t.defaults k d → IsConstant (expr (default_of d).value [] true)
constant_there t k d settled h few is =
    let there : k < length t.defaults = omega (arith, few, defaults_there t h) in
    let whole = no_fault (settles (tree_of t)) settled in
    let own = parts (settled_defaults (map default_of t.defaults) (map local_of t.params) false) _ whole.0 whole.1 in
    let here = each_constant t.kind (map local_of t.params) (map default_of t.defaults) k spec.no_default false own.0 own.1.0 (and_parts _ _ h).0
    (omega (arith, there, length-map t.defaults default_of)) in
    subst (λ x. IsConstant (expr x.value [] true)) (sym (ap default_of is ∙ sym (get_or-map default_of t.defaults k d spec.no_default there))) here
