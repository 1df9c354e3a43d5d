-- Calls and expressions are well typed once functions stand in place of their calls.
use Rattle.std.proofs.Common.{◌≡◌, ℕ, ◌+◌, Bool, true, false, ◌&&◌, ◌||◌, not, List, [], ◌∷◌, map, get_or, Option, Some, None, Ok, Err, is_some, refl, sym, ap, ap₂, ◌∙◌, subst}
use Rattle.std.proofs.lemmas.Bool.{cond_both, and_parts}
use Rattle.std.specs.Str.{bytes_eq}
use Rattle.sl_ast.specs.Syntax as U
use Rattle.sl_ast.specs.WellTyped as W
use Rattle.sl_ast.specs.Names.{has_operation, has_surface, is_constant, is_space, space_named}
use Rattle.sl_ast.specs.Rules.{node_type, rule, takes, through_spaces}
use Rattle.sl_ast.specs.declared.kinds.SlType.{SlType}
use Rattle.sl_ast.specs.declared.kinds.NodeType.{NodeType}
use Rattle.sl_ast.specs.declared.kinds.NodeType.TheVariants as nodes
use Rattle.sl_ast.specs.declared.operations.Operation.{Operation}
use Rattle.sl_ast.specs.declared.operations.Operation.TheVariants as operations
use Rattle.sl_ast.specs.declared.operations.ValueOperation.TheVariants as ops
use Rattle.sl_ast.specs.declared.kinds.SpaceName.{SpaceName}
use Rattle.sl_ast.specs.declared.kinds.SpaceName.TheVariants.{Current, World, Object, Shader}
use Rattle.sl_expressions.specs.declared.faults.TypeCode.TheVariants.{T11}
use Rattle.sl_expressions.specs.declared.rules.Builtin.{Builtin}
use Rattle.sl_expressions.specs.declared.rules.Builtin.TheVariants.{Plain, LeftOut}
use Rattle.sl_expressions.specs.Found.{Found, ◌>>=◌}
use Rattle.sl_expressions.specs.Names.{entry_of}
use Rattle.sl_expressions.specs.Rules.{operation_of, prefix_operation, builtin_names}
use Rattle.sl_expressions.specs.Typed as T
use Rattle.sl_expressions.specs.Scope.{Local, level_of, Callee, callee_named, Around, formals_in, body_in}
use Rattle.sl_expressions.specs.Exprs.{named, operands_of, applied, misfits, space_at, fits, called, literal_of, literal_space, space_in, spaces_of, operation_in, first_named, looking, is_call_node, by_count, is_noise, is_barred, allowed, is_amiss, operated, built, calls_itself, resolved, call_with, call_of, three, listed, typed_expr, typed_args, first_is_other, typed_links}
use Rattle.sl_types.specs.Inline.{Built, nothing, count, count_args, inline, inline_args, tree_formal}
use Rattle.sl_types.proofs.WellScope.{Good, GoodSome, good_bind, good_as, good_any, types_of, level_typed}
use Rattle.sl_types.proofs.WellExprs.{Works, Ready, WorksAt, works_at, Fine, Literal, AllFine, AllLiteral, both, kind_kept, args_fine, applied_fine, stands_operator, stands_prefix, named_fine, converted_fine, tripled_fine}

pub or_right : (a b : Bool) → (a || b) ≡ false → b ≡ false
or_right true b h = absurd (cc h)
or_right false b h = h

pub not_false : (a : Bool) → not a ≡ false → a ≡ true
not_false true h = refl
not_false false h = absurd (cc h)

-- calls of functions
fits_kept : (fs : List Built) (n : ℕ) (ls : List Local) (ts : List T.Expr) → fits ls ts ≡ true → W.fits (map tree_formal ls) (inline_args fs n (T.exprs ts)) ≡ true
fits_kept fs n [] [] h = refl
fits_kept fs n [] (t ∷ ts) h = absurd (cc h)
fits_kept fs n (l ∷ ls) [] h = absurd (cc h)
fits_kept fs n (l ∷ ls) (t ∷ ts) h =
    both (takes l.kind (W.kind_of (inline fs n t))) (W.fits (map tree_formal ls) (inline_args fs (n + count fs t) (T.exprs ts)))
    (ap (takes l.kind) (kind_kept fs n t) ∙ (and_parts (takes l.kind (T.kind_of t)) (fits ls ts) h).0)
    (fits_kept fs (n + count fs t) ls ts (and_parts (takes l.kind (T.kind_of t)) (fits ls ts) h).1)

call_fine : (g : W.Around) (ks : List SlType) (fs : List Built) (k : ℕ) (c : Callee) (ts : List T.Expr) (line : ℕ) → Works g.kind g.default c (get_or fs k nothing)
    → fits c.formals ts ≡ true → AllFine g ks fs ts → Fine g ks fs (T.call k (T.exprs ts) (node_type c.returns) line)
call_fine g ks fs k c ts line works fit h = λ n.
    let b = get_or fs k nothing in
    let m = n + 1 + count_args fs (T.exprs ts) in
    let args = inline_args fs (n + 1) (T.exprs ts) in
    ap₂ (λ x y. x && y) (ap (λ f. W.fits f args) works.formals_are ∙ fits_kept fs (n + 1) c.formals ts fit)
    (ap₂ (λ x y. x && y) (args_fine g ks fs ts h (n + 1))
    (ap₂ (λ x y. x && y) (works.body_typed m)
    (ap₂ (λ x y. x && y) (works.value_typed m (m + b.before + 1)) (works.value_goes (m + b.before + 1)))))

called_fine : (g : W.Around) (ks : List SlType) (fs : List Built) (k : ℕ) (c : Callee) (line : ℕ) (args : Found (List T.Expr))
    → ((body : T.Body) → body_in g.default c ≡ Ok body → Works g.kind g.default c (get_or fs k nothing))
    → Good args (AllFine g ks fs) → Good (called g.default k c line args) (Fine g ks fs)
called_fine g ks fs k c line (Err e) works h = good_bind (body_in g.default c) _ (λ b. Unit {0}) (Fine g ks fs) (good_any (body_in g.default c)) (λ b u. tt)
called_fine g ks fs k c line (Ok ts) works h =
    cond_both (not (fits c.formals ts)) _ _ (λ r. Good r (Fine g ks fs)) (λ e. tt) (λ e. within (body_in g.default c) refl e)
  where
    within : (o : Found T.Body) → body_in g.default c ≡ o → not (fits c.formals ts) ≡ false → Good (o >>= λ b. Ok (T.call k (T.exprs ts) (node_type c.returns) line)) (Fine g ks fs)
    within (Err x) is e = tt
    within (Ok body) is e = call_fine g ks fs k c ts line (works body is) (not_false (fits c.formals ts) e) h

-- spaces that strings name
is_same : (s : SpaceName) → is_space s (Some s) ≡ true
is_same Current = refl
is_same World = refl
is_same Object = refl
is_same Shader = refl

abbrev Names : W.Around → T.Expr → SpaceName → Type 0
Names g t s = (fs : List Built) (n : ℕ) → W.names_space g s (inline fs n t) ≡ true

space_names : (g : W.Around) (t : T.Expr) (text : List ℕ) (line at_line : ℕ) (o : Option SpaceName) → t ≡ T.word text at_line → space_named g.kind g.default text ≡ o
    → Good (space_at line o) (Names g t)
space_names g t text line at_line None is named = tt
space_names g t text line at_line (Some s) is named = λ fs n. ap (λ x. W.names_space g s (inline fs n x)) is ∙ ap (is_space s) named ∙ is_same s

literal_names : (g : W.Around) (line : ℕ) (t : T.Expr) (o : Option (List ℕ × ℕ)) → GoodSome o (λ s. (at_line : ℕ) × (t ≡ T.word s.0 at_line)) → Good (literal_space g line o) (Names g t)
literal_names g line t None h = tt
literal_names g line t (Some s) h = space_names g t s.0 s.1 h.0 (space_named g.kind g.default s.0) h.1 refl

-- one or two strings before a value
abbrev two_or_three : List T.Expr → Bool
two_or_three (a ∷ b ∷ []) = true
two_or_three (a ∷ b ∷ c ∷ []) = true
two_or_three _ = false

shaped : (kind k : NodeType) (ts : List T.Expr) → through_spaces kind (operands_of ts) ≡ Some k → two_or_three ts ≡ true
shaped kind k [] h = absurd (cc h)
shaped kind k (a ∷ []) h = absurd (cc h)
shaped kind k (a ∷ b ∷ []) h = refl
shaped kind k (a ∷ b ∷ c ∷ []) h = refl
shaped kind k (a ∷ b ∷ c ∷ d ∷ rest) h = absurd (cc h)

abbrev Moves : W.Around → List T.Expr → SpaceName × SpaceName → Type 0
Moves g ts s = two_or_three ts ≡ true → (fs : List Built) (n : ℕ) → W.names_spaces g s.0 s.1 (inline_args fs n (T.exprs ts)) ≡ true

moved : (g : W.Around) (line : ℕ) (es : List U.Expr) (ts : List T.Expr) → AllLiteral es ts → Good (spaces_of g line es) (Moves g ts)
moved g line [] [] h = λ t. absurd (cc t)
moved g line [] (a ∷ ts) h = absurd h
moved g line (x ∷ []) [] h = absurd h
moved g line (x ∷ []) (a ∷ []) h = λ t. absurd (cc t)
moved g line (x ∷ []) (a ∷ b ∷ ts) h = absurd h.1
moved g line (x ∷ y ∷ []) [] h = absurd h
moved g line (x ∷ y ∷ []) (a ∷ []) h = absurd h.1
moved g line (x ∷ y ∷ []) (a ∷ b ∷ c ∷ ts) h = absurd h.1.1
moved g line (x ∷ y ∷ []) (a ∷ b ∷ []) h =
    good_bind (space_in g line x) (λ s. Ok (Current, s)) (Names g a) (Moves g (a ∷ b ∷ [])) (literal_names g line a (literal_of x) h.0) (λ s p t fs n. p fs n)
moved g line (x ∷ y ∷ z ∷ []) [] h = absurd h
moved g line (x ∷ y ∷ z ∷ []) (a ∷ []) h = absurd h.1
moved g line (x ∷ y ∷ z ∷ []) (a ∷ b ∷ []) h = absurd h.1.1
moved g line (x ∷ y ∷ z ∷ []) (a ∷ b ∷ c ∷ d ∷ ts) h = absurd h.1.1.1
moved g line (x ∷ y ∷ z ∷ []) (a ∷ b ∷ c ∷ []) h =
    cond_both (is_some (literal_of y)) _ _ (λ r. Good r (Moves g (a ∷ b ∷ c ∷ [])))
    (λ e. good_bind (space_in g line x) (λ s. space_in g line y >>= λ r. Ok (s, r)) (Names g a) (Moves g (a ∷ b ∷ c ∷ [])) (literal_names g line a (literal_of x) h.0)
    (λ s p. good_bind (space_in g line y) (λ r. Ok (s, r)) (Names g b) (Moves g (a ∷ b ∷ c ∷ [])) (literal_names g line b (literal_of y) h.1.0)
    (λ r q t fs n. ap₂ (λ u v. u && v) (p fs n) (q fs (n + count fs a)))))
    (λ e. tt)
moved g line (x ∷ y ∷ z ∷ w ∷ es) [] h = absurd h
moved g line (x ∷ y ∷ z ∷ w ∷ es) (a ∷ []) h = absurd h.1
moved g line (x ∷ y ∷ z ∷ w ∷ es) (a ∷ b ∷ []) h = absurd h.1.1
moved g line (x ∷ y ∷ z ∷ w ∷ es) (a ∷ b ∷ c ∷ []) h = absurd h.1.1.1
moved g line (x ∷ y ∷ z ∷ w ∷ es) (a ∷ b ∷ c ∷ d ∷ ts) h = λ t. absurd (cc t)

-- built-in functions
abbrev is_call : Operation → Bool
is_call (operations.Value (ops.Triple kind space)) = false
is_call (operations.Value (ops.Convert kind space)) = false
is_call operations.FaceForwardNg = false
is_call _ = true

abbrev is_listed : Builtin → Bool
is_listed LeftOut = true
is_listed (Plain op) = is_call op

abbrev all_listed : List (List ℕ × Builtin) → Bool
all_listed [] = true
all_listed (e ∷ es) = is_listed e.1 && all_listed es

entries_listed : (es : List (List ℕ × Builtin)) (name : List ℕ) → all_listed es ≡ true → GoodSome (entry_of es name) (λ b. is_listed b ≡ true)
entries_listed [] name h = tt
entries_listed (e ∷ es) name h =
    cond_both (bytes_eq e.0 name) (Some e.1) (entry_of es name) (λ o. GoodSome o (λ b. is_listed b ≡ true))
    (λ is. (and_parts (is_listed e.1) (all_listed es) h).0) (λ is. entries_listed es name (and_parts (is_listed e.1) (all_listed es) h).1)

abbrev Allowed : W.Around → Operation → Type 0
Allowed g op = (has_operation g.kind op && (is_constant op || not g.default)) ≡ true

unbarred : (a b c d : Bool) → ((a && b) || (d && not c)) ≡ false → (c || not d) ≡ true
unbarred a b true d h = refl
unbarred a b false false h = refl
unbarred true true false true h = absurd (cc h)
unbarred true false false true h = absurd (cc h)
unbarred false b false true h = absurd (cc h)

allowed_stands : (g : W.Around) (after_type : Bool) (op : Operation) (line : ℕ) → Good (allowed g after_type op line) (λ b. Allowed g op)
allowed_stands g after_type op line =
    cond_both (not (has_operation g.kind op)) _ _ (λ r. Good r (λ b. Allowed g op)) (λ e. tt)
    (λ has. cond_both (is_barred g after_type op) (Err (T11, line)) (Ok true) (λ r. Good r (λ b. Allowed g op)) (λ e. tt)
    (λ e. both (has_operation g.kind op) (is_constant op || not g.default) (not_false (has_operation g.kind op) has) (unbarred after_type (is_noise op) (is_constant op) g.default e)))

-- what after its own faults a call of a built-in comes to
abbrev Operates : W.Around → List SlType → List Built → List Local → ℕ → List U.Expr → Bool → List T.Expr → Operation → Type 0
Operates g ks fs ls line es other ts op = Good (operation_in g ls op line es other >>= λ o. applied (by_count o ts) line ts) (Fine g ks fs)

transforms : (g : W.Around) (ks : List SlType) (fs : List Built) (line : ℕ) (es : List U.Expr) (ts : List T.Expr) (make : SpaceName → SpaceName → Operation) (kind : NodeType)
    → ((a b : SpaceName) → rule (make a b) (operands_of ts) ≡ through_spaces kind (operands_of ts)) → ((a b : SpaceName) → by_count (make a b) ts ≡ make a b)
    → ((a b : SpaceName) (n : ℕ) → W.stands g (make a b) (inline_args fs n (T.exprs ts)) ≡ W.names_spaces g a b (inline_args fs n (T.exprs ts)))
    → AllLiteral es ts → AllFine g ks fs ts → Good ((spaces_of g line es >>= λ s. Ok (make s.0 s.1)) >>= λ o. applied (by_count o ts) line ts) (Fine g ks fs)
transforms g ks fs line es ts make kind ruled_by counted stands_as lits h =
    good_bind (spaces_of g line es >>= λ s. Ok (make s.0 s.1)) (λ o. applied (by_count o ts) line ts)
    (λ o. (s : SpaceName × SpaceName) × (o ≡ make s.0 s.1) × Moves g ts s) (Fine g ks fs)
    (good_bind (spaces_of g line es) (λ s. Ok (make s.0 s.1)) (Moves g ts) (λ o. (s : SpaceName × SpaceName) × (o ≡ make s.0 s.1) × Moves g ts s) (moved g line es ts lits) (λ s p. (s, refl, p)))
    (λ o x. subst (λ y. Good (applied y line ts) (Fine g ks fs)) (sym (ap (λ y. by_count y ts) x.1 ∙ counted x.0.0 x.0.1))
    (applied_fine g ks fs (make x.0.0 x.0.1) line ts
    (λ k is n. stands_as x.0.0 x.0.1 n ∙ x.2 (shaped kind k ts (sym (ruled_by x.0.0 x.0.1) ∙ is)) fs n) h))

-- `faceforward` of two arguments reads the predefined normal
surface_there : (d has : Bool) → (d || not has) ≡ false → (has && not d) ≡ true
surface_there true has h = absurd (cc h)
surface_there false true h = refl
surface_there false false h = absurd (cc h)

faces : (g : W.Around) (ks : List SlType) (fs : List Built) (line : ℕ) (ts : List T.Expr) → Allowed g (operations.Value ops.FaceForward) → is_amiss g (operations.Value ops.FaceForward) ts ≡ false → AllFine g ks fs ts
    → Good (applied (by_count (operations.Value ops.FaceForward) ts) line ts) (Fine g ks fs)
faces g ks fs line [] a m h = tt
faces g ks fs line (x ∷ []) a m h = tt
faces g ks fs line (x ∷ y ∷ []) a m h =
    applied_fine g ks fs operations.FaceForwardNg line (x ∷ y ∷ [])
    (λ kind is n. surface_there g.default (has_surface g.kind) (or_right (misfits operations.FaceForwardNg (x ∷ y ∷ [])) (g.default || not (has_surface g.kind)) m)) h
faces g ks fs line (x ∷ y ∷ z ∷ []) a m h = applied_fine g ks fs (operations.Value ops.FaceForward) line (x ∷ y ∷ z ∷ []) (λ kind is n. a) h
faces g ks fs line (x ∷ y ∷ z ∷ w ∷ ts) a m h = tt

operates : (g : W.Around) (ks : List SlType) (fs : List Built) (ls : List Local) (line : ℕ) (es : List U.Expr) (other : Bool) (ts : List T.Expr) (op : Operation) → is_call op ≡ true → Allowed g op
    → is_amiss g op ts ≡ false → AllLiteral es ts → AllFine g ks fs ts → Operates g ks fs ls line es other ts op
operates g ks fs ls line es other ts (operations.Value (ops.Triple kind space)) c a m l h = absurd (cc c)
operates g ks fs ls line es other ts (operations.Value (ops.Convert kind space)) c a m l h = absurd (cc c)
operates g ks fs ls line es other ts operations.FaceForwardNg c a m l h = absurd (cc c)
operates g ks fs ls line es other ts (operations.Value (ops.Transform from into)) c a m l h =
    transforms g ks fs line es ts (λ x y. operations.Value (ops.Transform x y)) nodes.Point (λ x y. refl) (λ x y. refl) (λ x y n. refl) l h
operates g ks fs ls line es other ts (operations.Value (ops.VTransform from into)) c a m l h =
    transforms g ks fs line es ts (λ x y. operations.Value (ops.VTransform x y)) nodes.Vector (λ x y. refl) (λ x y. refl) (λ x y n. refl) l h
operates g ks fs ls line es other ts (operations.Value (ops.NTransform from into)) c a m l h =
    transforms g ks fs line es ts (λ x y. operations.Value (ops.NTransform x y)) nodes.Normal (λ x y. refl) (λ x y. refl) (λ x y n. refl) l h
operates g ks fs ls line es other ts (operations.Value ops.FaceForward) c a m l h = faces g ks fs line ts a m h
operates g ks fs ls line es other ts (operations.Look look) c a m l h =
    good_bind (first_named ls line other es >>= λ _. Ok (operations.Look look)) (λ o. applied (by_count o ts) line ts) (λ o. o ≡ operations.Look look) (Fine g ks fs)
    (good_bind (first_named ls line other es) (λ _. Ok (operations.Look look)) (λ b. Unit {0}) (λ o. o ≡ operations.Look look) (good_any (first_named ls line other es)) (λ b u. refl))
    (λ o is. subst (λ y. Good (applied (by_count y ts) line ts) (Fine g ks fs)) (sym is) (applied_fine g ks fs (operations.Look (looking look ts)) line ts (λ kind is n. a) h))
operates g ks fs ls line es other ts op c a m l h = applied_fine g ks fs op line ts (λ kind is n. a) h

-- the arguments of a call
abbrev pub GoodArgs : W.Around → List SlType → List Built → List U.Expr → List T.Expr → Type 0
GoodArgs g ks fs es ts = AllFine g ks fs ts × AllLiteral es ts

operated_fine : (g : W.Around) (ks : List SlType) (fs : List Built) (after_type : Bool) (ls : List Local) (line : ℕ) (es : List U.Expr) (other : Bool) (args : Found (List T.Expr)) (op : Operation) → is_call op ≡ true
    → Good args (GoodArgs g ks fs es) → Good (operated g after_type ls line es other args op) (Fine g ks fs)
operated_fine g ks fs after_type ls line es other (Err e) op c h =
    good_bind (allowed g after_type op line) _ (λ b. Unit {0}) (Fine g ks fs) (good_any (allowed g after_type op line))
    (λ b u. good_bind (operation_in g ls op line es other) _ (λ o. Unit {0}) (Fine g ks fs) (good_any (operation_in g ls op line es other)) (λ o u. tt))
operated_fine g ks fs after_type ls line es other (Ok ts) op c h =
    cond_both (is_amiss g op ts) _ _ (λ r. Good r (Fine g ks fs)) (λ e. tt)
    (λ m. good_bind (allowed g after_type op line) _ (λ b. Allowed g op) (Fine g ks fs) (allowed_stands g after_type op line)
    (λ b a. operates g ks fs ls line es other ts op c a m h.1 h.0))

built_fine : (g : W.Around) (ks : List SlType) (fs : List Built) (after_type : Bool) (ls : List Local) (line : ℕ) (es : List U.Expr) (other : Bool) (args : Found (List T.Expr)) (o : Option Builtin)
    → GoodSome o (λ b. is_listed b ≡ true) → Good args (GoodArgs g ks fs es) → Good (built g after_type ls line es other args o) (Fine g ks fs)
built_fine g ks fs after_type ls line es other args None c h = tt
built_fine g ks fs after_type ls line es other args (Some LeftOut) c h = tt
built_fine g ks fs after_type ls line es other args (Some (Plain op)) c h = operated_fine g ks fs after_type ls line es other args op c h

resolved_fine : (g : W.Around) (ks : List SlType) (fs : List Built) (after_type : Bool) (ls : List Local) (name : List ℕ) (line : ℕ) (es : List U.Expr) (other : Bool) (args : Found (List T.Expr)) (o : Option (ℕ × Callee))
    → GoodSome o (WorksAt g.kind g.default fs) → Good args (GoodArgs g ks fs es) → Good (resolved g after_type ls name line es other args o) (Fine g ks fs)
resolved_fine g ks fs after_type ls name line es other args None w h = built_fine g ks fs after_type ls line es other args (entry_of builtin_names name) (entries_listed builtin_names name refl) h
resolved_fine g ks fs after_type ls name line es other args (Some x) w h =
    called_fine g ks fs x.0 x.1 line args w (good_as args (GoodArgs g ks fs es) (AllFine g ks fs) h (λ ts p. p.0))

itself_fine : (formals : List Local) (line : ℕ) (args : Found (List T.Expr)) (P : T.Expr → Type 0) → Good (calls_itself formals line args) P
itself_fine formals line (Err e) P = tt
itself_fine formals line (Ok ts) P = cond_both (not (fits formals ts)) _ _ (λ r. Good r P) (λ e. tt) (λ e. tt)

call_with_fine : (g : Around) (ks : List SlType) (fs : List Built) (after_type : Bool) (ls : List Local) (name : List ℕ) (line : ℕ) (es : List U.Expr) (other : Bool) (args : Found (List T.Expr)) (o : Option (List Local))
    → Ready g.at.kind g.at.default g.known fs → Good args (GoodArgs g.at ks fs es) → Good (call_with g after_type ls name line es other args o) (Fine g.at ks fs)
call_with_fine g ks fs after_type ls name line es other args (Some formals) r h = itself_fine formals line args (Fine g.at ks fs)
call_with_fine g ks fs after_type ls name line es other args None r h =
    resolved_fine g.at ks fs after_type ls name line es other args (callee_named name g.known) (works_at g.at.kind g.at.default name g.known fs r) h

-- the typed tree of an expression
abbrev pub GoodExpr : W.Around → List SlType → List Built → U.Expr → T.Expr → Type 0
GoodExpr g ks fs e t = Fine g ks fs t × Literal e t

three_fine : (g : W.Around) (ks : List SlType) (fs : List Built) (x y z : Found T.Expr) → Good x (Fine g ks fs) → Good y (Fine g ks fs) → Good z (Fine g ks fs) → Good (three x y z) (AllFine g ks fs)
three_fine g ks fs x y z p q r =
    good_bind x _ (Fine g ks fs) (AllFine g ks fs) p (λ a u. good_bind y _ (Fine g ks fs) (AllFine g ks fs) q (λ b v. good_bind z _ (Fine g ks fs) (AllFine g ks fs) r (λ c w. (u, (v, (w, tt))))))

fine : (g : W.Around) (ks : List SlType) (fs : List Built) (e : U.Expr) (r : Found T.Expr) → Good r (GoodExpr g ks fs e) → Good r (Fine g ks fs)
fine g ks fs e r h = good_as r (GoodExpr g ks fs e) (Fine g ks fs) h (λ t p. p.0)

mutual
  pub expr_good : (g : Around) (fs : List Built) → Ready g.at.kind g.at.default g.known fs → (after_type : Bool) (ls : List Local) (e : U.Expr)
      → Good (typed_expr g after_type ls e) (GoodExpr g.at (types_of ls) fs e)
  expr_good g fs r after_type ls (U.number text line) = (λ n. refl, tt)
  expr_good g fs r after_type ls (U.string text line) = (λ n. refl, (line, refl))
  expr_good g fs r after_type ls (U.name name line) =
      good_as (named g.at name line (level_of name ls)) (Fine g.at (types_of ls) fs) _ (named_fine g.at ls fs name line (level_of name ls) (level_typed name ls)) (λ t p. (p, tt))
  expr_good g fs r after_type ls (U.call name args line) =
      good_as (call_of g after_type ls name line (listed args) (first_is_other g ls args) (typed_args g ls args)) (Fine g.at (types_of ls) fs) _
      (call_with_fine g (types_of ls) fs after_type ls name line (listed args) (first_is_other g ls args) (typed_args g ls args) (formals_in name g.own) r (args_good g fs r ls args)) (λ t p. (p, tt))
  expr_good g fs r after_type ls (U.paren e line) = expr_good g fs r false ls e
  expr_good g fs r after_type ls (U.triple kind space x y z line) =
      good_as _ (Fine g.at (types_of ls) fs) _ (tripled_fine g.at (types_of ls) fs kind space line _
      (three_fine g.at (types_of ls) fs (typed_expr g false ls x) (typed_expr g false ls y) (typed_expr g false ls z) (fine g.at (types_of ls) fs x (typed_expr g false ls x) (expr_good g fs r false ls x)) (fine g.at (types_of ls) fs y (typed_expr g false ls y) (expr_good g fs r false ls y)) (fine g.at (types_of ls) fs z (typed_expr g false ls z) (expr_good g fs r false ls z)))) (λ t p. (p, tt))
  expr_good g fs r after_type ls (U.typed kind space e line) =
      good_as _ (Fine g.at (types_of ls) fs) _ (converted_fine g.at (types_of ls) fs kind space (is_call_node e) line (typed_expr g true ls e) (fine g.at (types_of ls) fs e (typed_expr g true ls e) (expr_good g fs r true ls e))) (λ t p. (p, tt))
  expr_good g fs r after_type ls (U.prefixed operator e line) =
      good_bind (typed_expr g false ls e) _ (Fine g.at (types_of ls) fs) _ (fine g.at (types_of ls) fs e (typed_expr g false ls e) (expr_good g fs r false ls e))
      (λ t p. good_as (applied (prefix_operation operator) line (t ∷ [])) (Fine g.at (types_of ls) fs) _
      (applied_fine g.at (types_of ls) fs (prefix_operation operator) line (t ∷ []) (stands_prefix g.at fs operator (t ∷ [])) (p, tt)) (λ x q. (q, tt)))
  expr_good g fs r after_type ls (U.chain row e rest) =
      good_bind (typed_expr g false ls e) _ (Fine g.at (types_of ls) fs) _ (fine g.at (types_of ls) fs e (typed_expr g false ls e) (expr_good g fs r false ls e))
      (λ t p. good_as (typed_links g ls t rest) (Fine g.at (types_of ls) fs) _ (links_fine g fs r ls t rest p) (λ x q. (q, tt)))
  expr_good g fs r after_type ls (U.choice t a b line) =
      good_bind (typed_expr g false ls t) _ (Fine g.at (types_of ls) fs) _ (fine g.at (types_of ls) fs t (typed_expr g false ls t) (expr_good g fs r false ls t))
      (λ x p. good_bind (typed_expr g false ls a) _ (Fine g.at (types_of ls) fs) _ (fine g.at (types_of ls) fs a (typed_expr g false ls a) (expr_good g fs r false ls a))
      (λ y q. good_bind (typed_expr g false ls b) _ (Fine g.at (types_of ls) fs) _ (fine g.at (types_of ls) fs b (typed_expr g false ls b) (expr_good g fs r false ls b))
      (λ z s. good_as (applied (operations.Value ops.Select) line (x ∷ y ∷ z ∷ [])) (Fine g.at (types_of ls) fs) _
      (applied_fine g.at (types_of ls) fs (operations.Value ops.Select) line (x ∷ y ∷ z ∷ []) (λ kind is n. refl) (p, (q, (s, tt)))) (λ w u. (u, tt)))))

  pub args_good : (g : Around) (fs : List Built) → Ready g.at.kind g.at.default g.known fs → (ls : List Local) (es : U.Exprs)
      → Good (typed_args g ls es) (GoodArgs g.at (types_of ls) fs (listed es))
  args_good g fs r ls U.none = (tt, tt)
  args_good g fs r ls (U.more e rest) =
      good_bind (typed_expr g false ls e) _ (GoodExpr g.at (types_of ls) fs e) _ (expr_good g fs r false ls e)
      (λ t p. good_bind (typed_args g ls rest) _ (GoodArgs g.at (types_of ls) fs (listed rest)) _ (args_good g fs r ls rest) (λ ts q. ((p.0, q.0), (p.1, q.1))))

  links_fine : (g : Around) (fs : List Built) → Ready g.at.kind g.at.default g.known fs → (ls : List Local) (t : T.Expr) (rest : U.Links) → Fine g.at (types_of ls) fs t
      → Good (typed_links g ls t rest) (Fine g.at (types_of ls) fs)
  links_fine g fs r ls t U.end h = h
  links_fine g fs r ls t (U.link operator line e rest) h =
      good_bind (typed_expr g false ls e) _ (Fine g.at (types_of ls) fs) _ (fine g.at (types_of ls) fs e (typed_expr g false ls e) (expr_good g fs r false ls e))
      (λ s p. good_bind (applied (operation_of operator) line (t ∷ s ∷ [])) _ (Fine g.at (types_of ls) fs) _
      (applied_fine g.at (types_of ls) fs (operation_of operator) line (t ∷ s ∷ []) (stands_operator g.at fs operator (t ∷ s ∷ [])) (h, (p, tt)))
      (λ x q. links_fine g fs r ls x rest q))

pub expr_fine : (g : Around) (fs : List Built) → Ready g.at.kind g.at.default g.known fs → (after_type : Bool) (ls : List Local) (e : U.Expr)
    → Good (typed_expr g after_type ls e) (Fine g.at (types_of ls) fs)
expr_fine g fs r after_type ls e = fine g.at (types_of ls) fs e (typed_expr g after_type ls e) (expr_good g fs r after_type ls e)
