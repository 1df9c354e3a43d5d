-- The variables in scope of a core tree are those of the typed tree that it is made from: their classes and their types.
use Rattle.std.proofs.Common.{◌≡◌, ℕ, zero, suc, ◌<◌, Bool, true, false, List, [], ◌∷◌, ◌++◌, length, get_or, refl, ap, ◌∙◌, arith}
use Rattle.std.specs.Prelude.{Some, None, cond, nat_lt}
use Rattle.std.proofs.lemmas.Bool.{and_parts, ltb-true}
use Rattle.sl_ast.specs.declared.kinds.NodeType.{NodeType}
use Rattle.sl_ast.specs.declared.kinds.SlType.{SlType}
use Rattle.sl_ast.specs.declared.kinds.SlType.TheVariants as types
use Rattle.sl_ast.specs.declared.typed.TreeFormal.{TreeFormal}
use Rattle.sl_ast.specs.declared.typed.Variable.{Variable}
use Rattle.sl_ast.specs.declared.typed.Variable.TheVariants as variables
use Rattle.sl_ast.specs.Typed as T
use Rattle.sl_ast.specs.Classes as classes
use Rattle.sl_ast.specs.Classes.{class_of, formal_classes, local_classes}
use Rattle.sl_ast.specs.WellTyped.{Around, is_type, level_type, set_type, read_type, fits, formal_types, local_types, types_after, types_after_all}
use Rattle.sl_meaning.specs.Core as C
use Rattle.sl_meaning.specs.Core.{Slot, slot, no_slot, class_in}
use Rattle.sl_meaning.specs.Lowered.{stmt, stmts, arguments, slots}
use Rattle.core_codegen.specs.Fine.{InScope}
use Rattle.mask_codegen.specs.CoreClasses.{classes_of}

abbrev pub types_of : List Slot → List SlType
types_of [] = []
types_of (s ∷ ss) = s.kind ∷ types_of ss

-- these slots have these classes and these types
pub record Scope (ss : List Slot) (us : List Bool) (ks : List SlType) : Type 0 where
  pub classes : classes_of ss ≡ us
  pub types : types_of ss ≡ ks

classes_behind : (ss : List Slot) (u : Bool) (k : SlType) → classes_of (ss ++ slot u k ∷ []) ≡ classes_of ss ++ u ∷ []
classes_behind [] u k = refl
classes_behind (s ∷ ss) u k = ap (λ r. s.uniform ∷ r) (classes_behind ss u k)

types_behind : (ss : List Slot) (u : Bool) (k : SlType) → types_of (ss ++ slot u k ∷ []) ≡ types_of ss ++ k ∷ []
types_behind [] u k = refl
types_behind (s ∷ ss) u k = ap (λ r. s.kind ∷ r) (types_behind ss u k)

pub declared : (ss : List Slot) (us : List Bool) (ks : List SlType) (u : Bool) (k : SlType) → Scope ss us ks → Scope (ss ++ slot u k ∷ []) (us ++ u ∷ []) (ks ++ k ∷ [])
declared ss us ks u k q =
    record { classes = classes_behind ss u k ∙ ap (λ r. r ++ u ∷ []) q.classes; types = types_behind ss u k ∙ ap (λ r. r ++ k ∷ []) q.types }

-- behind a statement, and behind a list of them
pub scope_after : (s : T.Stmt) (u : Bool) (ss : List Slot) (us : List Bool) (ks : List SlType) → Scope ss us ks → Scope (C.after (stmt s us u) ss) (classes.after s us) (types_after s ks)
scope_after (T.empty p) u ss us ks q = q
scope_after (T.leave p) u ss us ks q = q
scope_after (T.again p) u ss us ks q = q
scope_after (T.block body p) u ss us ks q = q
scope_after (T.group body) u ss us ks q = q
scope_after (T.declare uniform kind e p) u ss us ks q = declared ss us ks uniform kind q
scope_after (T.start uniform kind p) u ss us ks q = declared ss us ks uniform kind q
scope_after (T.assign x operator kind e p) u ss us ks q = q
scope_after (T.test e s p) u ss us ks q = q
scope_after (T.test_else e s r p) u ss us ks q = q
scope_after (T.repeat e s p) u ss us ks q = q
scope_after (T.steps a e b s p) u ss us ks q = q
scope_after (T.lights over args s p) u ss us ks q = q

pub scope_after_all : (body : T.Stmts) (u : Bool) (ss : List Slot) (us : List Bool) (ks : List SlType) → Scope ss us ks → Scope (C.after_all (stmts body us u) ss) (classes.after_all body us) (types_after_all body ks)
scope_after_all T.done u ss us ks q = q
scope_after_all (T.first s rest) u ss us ks q =
    scope_after_all rest u (C.after (stmt s us u) ss) (classes.after s us) (types_after s ks) (scope_after s u ss us ks q)

-- the variables of a call
pub scope_of_formals : (args : T.Exprs) (formals : List TreeFormal) (us : List Bool) (u : Bool) → fits formals args ≡ true → Scope (C.formals (arguments args formals us u)) (formal_classes formals) (formal_types formals)
scope_of_formals T.none [] us u h = record { classes = refl; types = refl }
scope_of_formals T.none (f ∷ fs) us u h = absurd (cc h)
scope_of_formals (T.more e rest) [] us u h = absurd (cc h)
scope_of_formals (T.more e rest) (f ∷ fs) us u h =
    let q = scope_of_formals rest fs us u (and_parts _ _ h).1 in
    record { classes = ap (λ r. f.uniform ∷ r) q.classes; types = ap (λ r. f.kind ∷ r) q.types }

-- the parameters
pub scope_of_params : (ls : List T.Local) → Scope (slots ls) (local_classes ls) (local_types ls)
scope_of_params [] = record { classes = refl; types = refl }
scope_of_params (l ∷ ls) =
    let q = scope_of_params ls in
    record { classes = ap (λ r. l.uniform ∷ r) q.classes; types = ap (λ r. l.kind ∷ r) q.types }

level_class : (ss : List Slot) (k : ℕ) → (get_or ss k no_slot).uniform ≡ get_or (classes_of ss) k false
level_class [] k = refl
level_class (s ∷ ss) zero = refl
level_class (s ∷ ss) (suc k) = level_class ss k

pub level_kind : (ss : List Slot) (k : ℕ) → (get_or ss k no_slot).kind ≡ get_or (types_of ss) k types.Float
level_kind [] k = refl
level_kind (s ∷ ss) zero = refl
level_kind (s ∷ ss) (suc k) = level_kind ss k

-- the class of a variable
pub variable_class : (x : Variable) (ss : List Slot) (us : List Bool) → classes_of ss ≡ us → class_in x ss ≡ class_of x us
variable_class (variables.Predefined p) ss us q = refl
variable_class (variables.Level k) ss us q = level_class ss k ∙ ap (λ r. get_or r k false) q

length_types : (ss : List Slot) → length (types_of ss) ≡ length ss
length_types [] = refl
length_types (s ∷ ss) = ap suc (length_types ss)

level_there : (b : Bool) (kind other : NodeType) → is_type kind (cond b (Some other) None) ≡ true → b ≡ true
level_there true kind other h = refl
level_there false kind other h = absurd (cc h)

-- a variable that is read or set is in scope
level_in_scope : (kind : NodeType) (ks : List SlType) (k : ℕ) (ss : List Slot) → types_of ss ≡ ks → is_type kind (level_type ks k) ≡ true → k < length ss
level_in_scope kind ks k ss q h =
    let there = level_there (nat_lt k (length ks)) kind _ h in
    let l = ltb-true k (length ks) there in
    let z = length_types ss in
    let y = ap length q in
    omega arith

pub read_in_scope : (g : Around) (kind : NodeType) (ks : List SlType) (x : Variable) (ss : List Slot) → types_of ss ≡ ks → is_type kind (read_type g ks x) ≡ true → InScope x ss
read_in_scope g kind ks (variables.Predefined p) ss q h = tt
read_in_scope g kind ks (variables.Level k) ss q h = level_in_scope kind ks k ss q h

pub set_in_scope : (g : Around) (kind : NodeType) (ks : List SlType) (x : Variable) (ss : List Slot) → types_of ss ≡ ks → is_type kind (set_type g ks x) ≡ true → InScope x ss
set_in_scope g kind ks (variables.Predefined p) ss q h = tt
set_in_scope g kind ks (variables.Level k) ss q h = level_in_scope kind ks k ss q h
