-- The typed tree of an expression is well typed once functions stand in place of their calls.
use Rattle.std.proofs.Common.{◌≡◌, ◌<◌, ℕ, zero, suc, ◌+◌, Bool, true, ◌&&◌, ◌||◌, not, cond, List, [], ◌∷◌, map, get_or, length, Option, Some, None, Ok, Err, codes, refl, ap, ap₂, ◌∙◌, subst, arith}
use Rattle.std.proofs.lemmas.Bool.{cond_both, and_parts}
use Rattle.std.specs.Str.{bytes_eq}
use Rattle.sl_ast.specs.Syntax as U
use Rattle.sl_ast.specs.WellTyped as W
use Rattle.sl_ast.specs.Names.{name_type, has_surface, has_space, is_light, space_named, stands_before}
use Rattle.sl_ast.specs.Rules.{node_type, rule}
use Rattle.sl_ast.specs.declared.kinds.SlKind.{SlKind}
use Rattle.sl_ast.specs.declared.kinds.SlType.{SlType}
use Rattle.sl_ast.specs.declared.kinds.SlType.TheVariants as types
use Rattle.sl_ast.specs.declared.kinds.NodeType.{NodeType}
use Rattle.sl_ast.specs.declared.kinds.NodeType.TheVariants as nodes
use Rattle.sl_ast.specs.declared.operations.Operation.{Operation}
use Rattle.sl_ast.specs.declared.operations.Operation.TheVariants as operations
use Rattle.sl_ast.specs.declared.operations.ValueOperation.TheVariants as ops
use Rattle.sl_ast.specs.declared.operations.Look.TheVariants as looks
use Rattle.sl_ast.specs.declared.kinds.Operator.{Operator}
use Rattle.sl_ast.specs.declared.kinds.Operator.TheVariants as operators
use Rattle.sl_ast.specs.declared.kinds.Prefix.{Prefix}
use Rattle.sl_ast.specs.declared.kinds.Prefix.TheVariants as prefixes
use Rattle.sl_ast.specs.declared.kinds.Predefined.{Predefined}
use Rattle.sl_ast.specs.declared.kinds.SpaceName.{SpaceName}
use Rattle.sl_ast.specs.declared.kinds.SpaceName.TheVariants.{Current, Object, Shader}
use Rattle.sl_ast.specs.declared.operands.Operands.TheVariants.{One, Two, Three}
use Rattle.sl_ast.specs.declared.syntax.Space.{Space}
use Rattle.sl_ast.specs.declared.typed.Variable.TheVariants as variables
use Rattle.sl_expressions.specs.declared.faults.TypeCode.TheVariants.{T1, T6, T11}
use Rattle.sl_expressions.specs.Found.{Found}
use Rattle.sl_expressions.specs.Names.{entry_of}
use Rattle.sl_expressions.specs.Predefined.{predefined_names, is_read, is_own}
use Rattle.sl_expressions.specs.Rules.{operation_of, prefix_operation}
use Rattle.sl_expressions.specs.Typed as T
use Rattle.sl_expressions.specs.Scope.{Local, Callee, callee_named, body_in}
use Rattle.sl_expressions.specs.Exprs.{named, predefined_at, operands_of, ruled, applied, misfits, space_at, space_of, refuses_space, is_look_up, takes_first, conversion, converted, tripled, literal_of}
use Rattle.sl_typing.specs.Functions.{spot_within}
use Rattle.sl_types.specs.Inline.{Built, nothing, count, inline, inline_args, tree_formal}
use Rattle.sl_expressions.proofs.Named.{StandsAt, stands_at}
use Rattle.sl_types.proofs.WellScope.{Good, GoodSome, good_bind, good_any, types_of, TypedAt}

-- what a function does is well typed where it is called
pub record Works (kind : SlKind) (d : Bool) (c : Callee) (b : Built) : Type 0 where
  pub formals_are : b.formals ≡ map tree_formal c.formals
  pub body_typed : (n : ℕ) → W.typed_stmts (spot_within kind d) (W.formal_types b.formals) (b.body n) ≡ true
  pub value_typed : (n m : ℕ) → W.typed (spot_within kind d) (W.types_after_all (b.body n) (W.formal_types b.formals)) (b.value m) ≡ true
  pub value_goes : (m : ℕ) → W.goes_into (node_type c.returns) (Some (W.kind_of (b.value m))) ≡ true

abbrev pub Ready : SlKind → Bool → List Callee → List Built → Type 0
Ready kind d [] [] = Unit {0}
Ready kind d [] (b ∷ bs) = ⊥
Ready kind d (c ∷ cs) [] = ⊥
Ready kind d (c ∷ cs) (b ∷ bs) = ((body : T.Body) → body_in d c ≡ Ok body → Works kind d c b) × Ready kind d cs bs

abbrev pub WorksAt : SlKind → Bool → List Built → ℕ × Callee → Type 0
WorksAt kind d fs x = (body : T.Body) → body_in d x.1 ≡ Ok body → Works kind d x.1 (get_or fs x.0 nothing)

works_in : (kind : SlKind) (d : Bool) (cs : List Callee) (fs : List Built) (k : ℕ) (c : Callee) → Ready kind d cs fs → k < length cs → get_or cs k c ≡ c → WorksAt kind d fs (k, c)
works_in kind d [] fs k c r low is = absurd (omega (arith, low))
works_in kind d (x ∷ cs) [] k c r low is = absurd r
works_in kind d (x ∷ cs) (f ∷ fs) zero c r low is = λ body found. subst (λ y. Works kind d y f) is (r.0 body (ap (body_in d) is ∙ found))
works_in kind d (x ∷ cs) (f ∷ fs) (suc k) c r low is = works_in kind d cs fs k c r.1 (omega (arith, low)) is

works_found : (kind : SlKind) (d : Bool) (cs : List Callee) (fs : List Built) (o : Option (ℕ × Callee)) → Ready kind d cs fs → StandsAt cs o → GoodSome o (WorksAt kind d fs)
works_found kind d cs fs None r h = tt
works_found kind d cs fs (Some x) r h = works_in kind d cs fs x.0 x.1 r h.0 h.1

pub works_at : (kind : SlKind) (d : Bool) (name : List ℕ) (cs : List Callee) (fs : List Built) → Ready kind d cs fs → GoodSome (callee_named name cs) (WorksAt kind d fs)
works_at kind d name cs fs r = works_found kind d cs fs (callee_named name cs) r (stands_at (λ c. c.name) name cs)

abbrev pub Fine : W.Around → List SlType → List Built → T.Expr → Type 0
Fine g ks fs t = (n : ℕ) → W.typed g ks (inline fs n t) ≡ true

-- a string that is written out stays one
abbrev pub Literal : U.Expr → T.Expr → Type 0
Literal e t = GoodSome (literal_of e) (λ s. (line : ℕ) × (t ≡ T.word s.0 line))

abbrev pub AllFine : W.Around → List SlType → List Built → List T.Expr → Type 0
AllFine g ks fs [] = Unit {0}
AllFine g ks fs (t ∷ ts) = Fine g ks fs t × AllFine g ks fs ts

abbrev pub AllLiteral : List U.Expr → List T.Expr → Type 0
AllLiteral [] [] = Unit {0}
AllLiteral [] (t ∷ ts) = ⊥
AllLiteral (e ∷ es) [] = ⊥
AllLiteral (e ∷ es) (t ∷ ts) = Literal e t × AllLiteral es ts

abbrev pub both : (a b : Bool) → a ≡ true → b ≡ true → (a && b) ≡ true
both a b p q = ap₂ (λ x y. x && y) p q

pub kind_kept : (fs : List Built) (n : ℕ) (t : T.Expr) → W.kind_of (inline fs n t) ≡ T.kind_of t
kind_kept fs n (T.number value line) = refl
kind_kept fs n (T.word text line) = refl
kind_kept fs n (T.variable x kind line) = refl
kind_kept fs n (T.apply op args kind line) = refl
kind_kept fs n (T.call k args kind line) = refl

pub operands_kept : (fs : List Built) (n : ℕ) (ts : List T.Expr) → W.operands (inline_args fs n (T.exprs ts)) ≡ operands_of ts
operands_kept fs n [] = refl
operands_kept fs n (a ∷ []) = ap One (kind_kept fs n a)
operands_kept fs n (a ∷ b ∷ []) = ap₂ Two (kind_kept fs n a) (kind_kept fs (n + count fs a) b)
operands_kept fs n (a ∷ b ∷ c ∷ []) =
    ap₂ (λ x y. Three x y (W.kind_of (inline fs (n + count fs a + count fs b) c))) (kind_kept fs n a) (kind_kept fs (n + count fs a) b)
    ∙ ap (Three (T.kind_of a) (T.kind_of b)) (kind_kept fs (n + count fs a + count fs b) c)
operands_kept fs n (a ∷ b ∷ c ∷ d ∷ rest) = refl

pub args_fine : (g : W.Around) (ks : List SlType) (fs : List Built) (ts : List T.Expr) → AllFine g ks fs ts → (n : ℕ) → W.typed_args g ks (inline_args fs n (T.exprs ts)) ≡ true
args_fine g ks fs [] h n = refl
args_fine g ks fs (t ∷ ts) h n = ap₂ (λ x y. x && y) (h.0 n) (args_fine g ks fs ts h.1 (n + count fs t))

pub same : (k : NodeType) → W.same_type k k ≡ true
same nodes.Float = refl
same nodes.Color = refl
same nodes.Point = refl
same nodes.Vector = refl
same nodes.Normal = refl
same nodes.Str = refl
same nodes.Test = refl

-- the operation may stand before those arguments
abbrev pub Stands : W.Around → List Built → Operation → List T.Expr → Type 0
Stands g fs op ts = (kind : NodeType) → rule op (operands_of ts) ≡ Some kind → (n : ℕ) → W.stands g op (inline_args fs n (T.exprs ts)) ≡ true

pub ruled_fine : (g : W.Around) (ks : List SlType) (fs : List Built) (op : Operation) (ts : List T.Expr) (line : ℕ) (o : Option NodeType)
    → rule op (operands_of ts) ≡ o → Stands g fs op ts → AllFine g ks fs ts → Good (ruled op ts line o) (Fine g ks fs)
ruled_fine g ks fs op ts line None is s h = tt
ruled_fine g ks fs op ts line (Some kind) is s h = λ n.
    ap₂ (λ x y. x && y) (ap (λ o. W.is_type kind (rule op o)) (operands_kept fs (n + 1) ts) ∙ ap (W.is_type kind) is ∙ same kind)
    (ap₂ (λ x y. x && y) (s kind is (n + 1)) (args_fine g ks fs ts h (n + 1)))

pub applied_fine : (g : W.Around) (ks : List SlType) (fs : List Built) (op : Operation) (line : ℕ) (ts : List T.Expr)
    → Stands g fs op ts → AllFine g ks fs ts → Good (applied op line ts) (Fine g ks fs)
applied_fine g ks fs op line ts s h = ruled_fine g ks fs op ts line (rule op (operands_of ts)) refl s h

pub stands_operator : (g : W.Around) (fs : List Built) (op : Operator) (ts : List T.Expr) → Stands g fs (operation_of op) ts
stands_operator g fs operators.Or ts = λ kind is n. refl
stands_operator g fs operators.And ts = λ kind is n. refl
stands_operator g fs operators.Equal ts = λ kind is n. refl
stands_operator g fs operators.NotEqual ts = λ kind is n. refl
stands_operator g fs operators.Less ts = λ kind is n. refl
stands_operator g fs operators.LessEqual ts = λ kind is n. refl
stands_operator g fs operators.Greater ts = λ kind is n. refl
stands_operator g fs operators.GreaterEqual ts = λ kind is n. refl
stands_operator g fs operators.Add ts = λ kind is n. refl
stands_operator g fs operators.Subtract ts = λ kind is n. refl
stands_operator g fs operators.Cross ts = λ kind is n. refl
stands_operator g fs operators.Multiply ts = λ kind is n. refl
stands_operator g fs operators.Divide ts = λ kind is n. refl
stands_operator g fs operators.Dot ts = λ kind is n. refl

pub stands_prefix : (g : W.Around) (fs : List Built) (op : Prefix) (ts : List T.Expr) → Stands g fs (prefix_operation op) ts
stands_prefix g fs prefixes.Negative ts = λ kind is n. refl
stands_prefix g fs prefixes.Not ts = λ kind is n. refl

-- a variable
pub named_fine : (g : W.Around) (ls : List Local) (fs : List Built) (name : List ℕ) (line : ℕ) (o : Option (ℕ × Local)) → GoodSome o (TypedAt (types_of ls))
    → Good (named g name line o) (Fine g (types_of ls) fs)
named_fine g ls fs name line (Some x) h = λ n. ap (W.is_type (node_type x.1.kind)) h ∙ same (node_type x.1.kind)
named_fine g ls fs name line None h = predefined_fine (entry_of predefined_names name)
  where
    predefined_fine : (o : Option Predefined) → Good (predefined_at g line o) (Fine g (types_of ls) fs)
    predefined_fine None = tt
    predefined_fine (Some x) =
        cond_both (is_read g x) (Ok (T.variable (variables.Predefined x) (node_type (name_type x)) line)) (cond (is_own g x) (Err (T6, line)) (Err (T1, line))) (λ r. Good r (Fine g (types_of ls) fs))
        (λ is n. ap (λ b. W.is_type (node_type (name_type x)) (cond b (Some (node_type (name_type x))) None)) is ∙ same (node_type (name_type x)))
        (λ is. cond_both (is_own g x) (Err (T6, line)) (Err (T1, line)) (λ r. Good r (Fine g (types_of ls) fs)) (λ e. tt) (λ e. tt))

-- spaces
space_has : (kind : SlKind) (d : Bool) (name : List ℕ) → GoodSome (space_named kind d name) (λ s. has_space kind d s ≡ true)
space_has kind d name =
    let P : Option SpaceName → Type 0 = λ o. GoodSome o (λ s. has_space kind d s ≡ true) in
    cond_both (bytes_eq name (codes "current")) _ _ P (λ e. refl) (λ e.
    cond_both (bytes_eq name (codes "camera")) _ _ P (λ e. refl) (λ e.
    cond_both (bytes_eq name (codes "shader")) _ _ P (λ e. refl) (λ e.
    cond_both d _ _ P (λ e. tt) (λ off.
    cond_both (bytes_eq name (codes "world")) _ _ P (λ e. ap not off) (λ e.
    cond_both (bytes_eq name (codes "object")) _ _ P
    (λ e. cond_both (is_light kind) Shader Object (λ s. has_space kind d s ≡ true) (λ l. refl) (λ l. ap₂ (λ a b. not (a || b)) off l))
    (λ e. tt))))))

space_found : (line : ℕ) (o : Option SpaceName) (P : SpaceName → Type 0) → GoodSome o P → Good (space_at line o) P
space_found line None P h = tt
space_found line (Some s) P h = h

abbrev SpaceFits : W.Around → SlType → SpaceName → Type 0
SpaceFits g kind s = (stands_before s kind && has_space g.kind g.default s) ≡ true

space_fits : (g : W.Around) (kind : SlType) (space : Option Space) → Good (space_of g kind space) (SpaceFits g kind)
space_fits g types.Float None = refl
space_fits g types.Color None = refl
space_fits g types.Point None = refl
space_fits g types.Vector None = refl
space_fits g types.Normal None = refl
space_fits g types.Str None = refl
space_fits g types.Color (Some s) = cond_both (bytes_eq s.name (codes "rgb")) (Ok Current) (Err (T11, s.line)) (λ r. Good r (SpaceFits g types.Color)) (λ e. refl) (λ e. tt)
space_fits g types.Float (Some s) = refl
space_fits g types.Str (Some s) = refl
space_fits g types.Point (Some s) = space_found s.line (space_named g.kind g.default s.name) (SpaceFits g types.Point) (space_has g.kind g.default s.name)
space_fits g types.Vector (Some s) = space_found s.line (space_named g.kind g.default s.name) (SpaceFits g types.Vector) (space_has g.kind g.default s.name)
space_fits g types.Normal (Some s) = space_found s.line (space_named g.kind g.default s.name) (SpaceFits g types.Normal) (space_has g.kind g.default s.name)

-- where a look-up may stand, so may the first part of its colour
first_stands : (g : W.Around) (ks : List SlType) (fs : List Built) (t : T.Expr) → is_look_up t ≡ true → Fine g ks fs t → (has_surface g.kind && not g.default) ≡ true
first_stands g ks fs (T.apply (operations.Look look) args kind line) e h = (and_parts _ _ (and_parts _ _ (h 0)).1).0
first_stands g ks fs (T.apply (operations.Value op) args kind line) e h = absurd (cc e)
first_stands g ks fs (T.apply operations.FaceForwardNg args kind line) e h = absurd (cc e)
first_stands g ks fs (T.apply (operations.Difference which) args kind line) e h = absurd (cc e)
first_stands g ks fs (T.apply (operations.Sum which) args kind line) e h = absurd (cc e)
first_stands g ks fs (T.number x line) e h = absurd (cc e)
first_stands g ks fs (T.word x line) e h = absurd (cc e)
first_stands g ks fs (T.variable x kind line) e h = absurd (cc e)
first_stands g ks fs (T.call k args kind line) e h = absurd (cc e)

takes_look_up : (kind : SlType) (call : Bool) (t : T.Expr) → takes_first kind call t ≡ true → is_look_up t ≡ true
takes_look_up types.Float call t h = (and_parts call (is_look_up t) h).1
takes_look_up types.Color call t h = absurd (cc h)
takes_look_up types.Point call t h = absurd (cc h)
takes_look_up types.Vector call t h = absurd (cc h)
takes_look_up types.Normal call t h = absurd (cc h)
takes_look_up types.Str call t h = absurd (cc h)

converts : (g : W.Around) (ks : List SlType) (fs : List Built) (kind : SlType) (s : SpaceName) (call : Bool) (line : ℕ) (t : T.Expr) → SpaceFits g kind s → Fine g ks fs t
    → Good (applied (conversion kind s call t) line (t ∷ [])) (Fine g ks fs)
converts g ks fs kind s call line t p h =
    cond_both (takes_first kind call t) (operations.Look looks.First) (operations.Value (ops.Convert kind s)) (λ o. Good (applied o line (t ∷ [])) (Fine g ks fs))
    (λ e. applied_fine g ks fs (operations.Look looks.First) line (t ∷ []) (λ k is n. first_stands g ks fs t (takes_look_up kind call t e) h) (h, tt))
    (λ e. applied_fine g ks fs (operations.Value (ops.Convert kind s)) line (t ∷ []) (λ k is n. p) (h, tt))

pub converted_fine : (g : W.Around) (ks : List SlType) (fs : List Built) (kind : SlType) (space : Option Space) (call : Bool) (line : ℕ) (part : Found T.Expr) → Good part (Fine g ks fs)
    → Good (converted g kind space call line part) (Fine g ks fs)
converted_fine g ks fs kind space call line (Err e) h = good_bind (space_of g kind space) _ (λ s. Unit {0}) (Fine g ks fs) (good_any (space_of g kind space)) (λ s u. tt)
converted_fine g ks fs kind space call line (Ok t) h =
    cond_both (refuses_space kind space || misfits (conversion kind Current call t) (t ∷ [])) _ _ (λ r. Good r (Fine g ks fs)) (λ e. tt)
    (λ e. good_bind (space_of g kind space) _ (SpaceFits g kind) (Fine g ks fs) (space_fits g kind space)
    (λ s p. converts g ks fs kind s call line t p h))

pub tripled_fine : (g : W.Around) (ks : List SlType) (fs : List Built) (kind : SlType) (space : Option Space) (line : ℕ) (parts : Found (List T.Expr)) → Good parts (AllFine g ks fs)
    → Good (tripled g kind space line parts) (Fine g ks fs)
tripled_fine g ks fs kind space line (Err e) h = good_bind (space_of g kind space) _ (λ s. Unit {0}) (Fine g ks fs) (good_any (space_of g kind space)) (λ s u. tt)
tripled_fine g ks fs kind space line (Ok ts) h =
    cond_both (misfits (operations.Value (ops.Triple kind Current)) ts) _ _ (λ r. Good r (Fine g ks fs)) (λ e. tt)
    (λ e. good_bind (space_of g kind space) _ (SpaceFits g kind) (Fine g ks fs) (space_fits g kind space)
    (λ s p. applied_fine g ks fs (operations.Value (ops.Triple kind s)) line ts (λ k is n. p) h))
