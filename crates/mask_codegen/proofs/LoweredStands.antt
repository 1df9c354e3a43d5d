-- The parts of the core tree of a well typed tree stand where they may.
use Rattle.std.proofs.Common.{◌≡◌, ℕ, pos, Bool, true, false, List, refl, sym, ap, ◌∙◌}
use Rattle.std.specs.Prelude.{◌&&◌, ◌||◌, not, Option, Some, None, cond, nat_lt, length, get_or}
use Rattle.std.proofs.lemmas.Bool.{and_parts}
use Rattle.sl_ast.specs.declared.kinds.LightStmt.{LightStmt}
use Rattle.sl_ast.specs.declared.kinds.LightStmt.TheVariants.{Illuminance, Illuminate, Solar}
use Rattle.sl_ast.specs.declared.kinds.NodeType.{NodeType}
use Rattle.sl_ast.specs.declared.kinds.Predefined.{Predefined}
use Rattle.sl_ast.specs.declared.kinds.Predefined.TheVariants as names
use Rattle.sl_ast.specs.declared.kinds.SetOperator.{SetOperator}
use Rattle.sl_ast.specs.declared.kinds.SetOperator.TheVariants as sets
use Rattle.sl_ast.specs.declared.kinds.SlKind.{SlKind}
use Rattle.sl_ast.specs.declared.kinds.SlKind.TheVariants.{Surface, Displacement, Light, Volume}
use Rattle.sl_ast.specs.declared.kinds.SlType.{SlType}
use Rattle.sl_ast.specs.declared.kinds.SlType.TheVariants as types
use Rattle.sl_ast.specs.declared.operands.Operands.TheVariants.{Nothing, Many}
use Rattle.sl_ast.specs.declared.operations.Difference.{Difference}
use Rattle.sl_ast.specs.declared.operations.LightSum.{LightSum}
use Rattle.sl_ast.specs.declared.operations.LightSum.TheVariants as sums
use Rattle.sl_ast.specs.declared.operations.Look.{Look}
use Rattle.sl_ast.specs.declared.operations.Look.TheVariants as looks
use Rattle.sl_ast.specs.declared.operations.Operation.{Operation}
use Rattle.sl_ast.specs.declared.operations.Operation.TheVariants as operations
use Rattle.sl_ast.specs.declared.operations.ValueOperation.{ValueOperation}
use Rattle.sl_ast.specs.declared.operations.ValueOperation.TheVariants as ops
use Rattle.sl_ast.specs.declared.typed.Value.TheVariants.{Number}
use Rattle.sl_ast.specs.declared.typed.Variable.{Variable}
use Rattle.sl_ast.specs.declared.typed.Variable.TheVariants as variables
use Rattle.sl_ast.specs.Typed as T
use Rattle.sl_ast.specs.Names.{name_type, reads, writes, is_pi, surface_reads, has_surface, is_surface}
use Rattle.sl_ast.specs.Rules.{node_type, rule, value_rule, components, conversion}
use Rattle.sl_ast.specs.WellTyped.{Around, same_type, is_type, operands, read_type, set_type, stands, lights_take}
use Rattle.sl_meaning.specs.Core as C
use Rattle.sl_meaning.specs.Core.{Slot, kind_in}
use Rattle.sl_meaning.specs.Lowered as lowered
use Rattle.sl_meaning.specs.Lowered.{exprs, put_into, read, with_last}
use Rattle.mask_codegen.proofs.CorePlaced.{are_few, are_some, are_triple, Reads, PlacedExpr, PlacedExprs}
use Rattle.mask_codegen.proofs.LoweredScopes.{types_of, level_kind}

-- a value goes into a variable of its type
same_kind : (k l : SlType) → same_type (node_type k) (node_type l) ≡ true → k ≡ l
same_kind types.Float types.Float h = refl
same_kind types.Color types.Color h = refl
same_kind types.Point types.Point h = refl
same_kind types.Vector types.Vector h = refl
same_kind types.Normal types.Normal h = refl
same_kind types.Str types.Str h = refl
same_kind k l h = absurd (cc h)

kind_there : (b : Bool) (k l : SlType) → is_type (node_type k) (cond b (Some (node_type l)) None) ≡ true → k ≡ l
kind_there true k l h = same_kind k l h
kind_there false k l h = absurd (cc h)

pub set_kind : (g : Around) (kind : SlType) (ks : List SlType) (x : Variable) (ss : List Slot) → types_of ss ≡ ks → is_type (node_type kind) (set_type g ks x) ≡ true → kind_in x ss ≡ kind
set_kind g kind ks (variables.Predefined p) ss q h = sym (kind_there (not g.bare && writes g.kind p) kind (name_type p) h)
set_kind g kind ks (variables.Level k) ss q h =
    level_kind ss k ∙ ap (λ r. get_or r k types.Float) q ∙ sym (kind_there (nat_lt k (length ks)) kind (get_or ks k types.Float) h)

-- what a kind of shader reads, it reads in the body of a statement over lights too
surface_lit : (p : Predefined) → surface_reads false p ≡ true → surface_reads true p ≡ true
surface_lit names.L h = refl
surface_lit names.Cl h = refl
surface_lit p h = h

reads_lit : (k : SlKind) (lit : Bool) (p : Predefined) → reads k lit p ≡ true → reads k true p ≡ true
reads_lit k true p h = h
reads_lit Surface false p h = surface_lit p h
reads_lit Displacement false p h = h
reads_lit Light false names.L h = refl
reads_lit Light false p h = h
reads_lit Volume false p h = h

-- and what it sets, it reads
written : (k : SlKind) (p : Predefined) → writes k p ≡ true → reads k true p ≡ true
written Surface names.Ci h = refl
written Surface names.Oi h = refl
written Surface p h = absurd (cc h)
written Displacement names.P h = refl
written Displacement names.N h = refl
written Displacement p h = absurd (cc h)
written Light names.Cl h = refl
written Light p h = absurd (cc h)
written Volume names.Ci h = refl
written Volume names.Oi h = refl
written Volume p h = absurd (cc h)

is_there : (b : Bool) (kind other : NodeType) → is_type kind (cond b (Some other) None) ≡ true → b ≡ true
is_there true kind other h = refl
is_there false kind other h = absurd (cc h)

plainly : (a b r : Bool) → (a || (b && r)) ≡ true → (a || r) ≡ true
plainly true b r h = refl
plainly false true r h = h
plainly false false r h = absurd (cc h)

wider : (a r s : Bool) → (a || r) ≡ true → (r ≡ true → s ≡ true) → (a || s) ≡ true
wider true r s h k = refl
wider false r s h k = k h

placed_predefined : (k : SlKind) (p : Predefined) → (is_pi p || reads k true p) ≡ true → PlacedExpr k (read (variables.Predefined p))
placed_predefined k names.Pi h = tt
placed_predefined k p h = h

pub placed_read : (g : Around) (kind : NodeType) (ks : List SlType) (x : Variable) → is_type kind (read_type g ks x) ≡ true → PlacedExpr g.kind (read x)
placed_read g kind ks (variables.Predefined p) h =
    let there = is_there (is_pi p || (not g.bare && reads g.kind g.lit p)) kind (node_type (name_type p)) h in
    let plain = plainly (is_pi p) (not g.bare) (reads g.kind g.lit p) there in
    placed_predefined g.kind p (wider (is_pi p) (reads g.kind g.lit p) (reads g.kind true p) plain (reads_lit g.kind g.lit p))
placed_read g kind ks (variables.Level k) h = tt

pub placed_set : (g : Around) (kind : NodeType) (ks : List SlType) (x : Variable) → is_type kind (set_type g ks x) ≡ true → Reads g.kind x
placed_set g kind ks (variables.Predefined p) h = written g.kind p (and_parts (not g.bare) (writes g.kind p) (is_there (not g.bare && writes g.kind p) kind (node_type (name_type p)) h)).1
placed_set g kind ks (variables.Level k) h = tt

-- each operation of values takes one to three operands
components_of : (k : SlType) → (components k Nothing ≡ None) × (components k Many ≡ None)
components_of types.Float = (refl, refl)
components_of types.Str = (refl, refl)
components_of k = (refl, refl)

conversion_of : (k : SlType) → (conversion k Nothing ≡ None) × (conversion k Many ≡ None)
conversion_of types.Str = (refl, refl)
conversion_of k = (refl, refl)

takes_some : (op : ValueOperation) → (value_rule op Nothing ≡ None) × (value_rule op Many ≡ None)
takes_some (ops.Triple kind space) = components_of kind
takes_some (ops.Convert kind space) = conversion_of kind
takes_some op = (refl, refl)

no_type : (kind : NodeType) (r : Option NodeType) → r ≡ None → is_type kind r ≡ true → ⊥
no_type kind r q h = let k = ap (is_type kind) q in absurd (cc (h, k))

value_few : (op : ValueOperation) (args : T.Exprs) (kind : NodeType) (us : List Bool) (u : Bool) → is_type kind (value_rule op (operands args)) ≡ true → are_some (exprs args us u) ≡ true
value_few op T.none kind us u h = absurd (no_type kind _ (takes_some op).0 h)
value_few op (T.more a T.none) kind us u h = refl
value_few op (T.more a (T.more b T.none)) kind us u h = refl
value_few op (T.more a (T.more b (T.more c T.none))) kind us u h = refl
value_few op (T.more a (T.more b (T.more c (T.more d rest)))) kind us u h = absurd (no_type kind _ (takes_some op).1 h)

last_few : (es : C.Exprs) → are_some es ≡ true → are_some (lowered.last es) ≡ true
last_few C.none h = absurd (cc h)
last_few (C.more a C.none) h = refl
last_few (C.more a (C.more b C.none)) h = refl
last_few (C.more a (C.more b (C.more c C.none))) h = refl
last_few (C.more a (C.more b (C.more c (C.more d rest)))) h = absurd (cc h)

operands_few : (op : ValueOperation) (es : C.Exprs) → are_some es ≡ true → are_some (lowered.operands op es) ≡ true
operands_few (ops.Transform from into) es h = last_few es h
operands_few (ops.VTransform from into) es h = last_few es h
operands_few (ops.NTransform from into) es h = last_few es h
operands_few op es h = h

last_placed : (k : SlKind) (es : C.Exprs) → PlacedExprs k es → PlacedExprs k (lowered.last es)
last_placed k C.none h = tt
last_placed k (C.more e C.none) h = h
last_placed k (C.more e (C.more d rest)) h = last_placed k (C.more d rest) h.1

operands_placed : (k : SlKind) (op : ValueOperation) (es : C.Exprs) → PlacedExprs k es → PlacedExprs k (lowered.operands op es)
operands_placed k (ops.Transform from into) es h = last_placed k es h
operands_placed k (ops.VTransform from into) es h = last_placed k es h
operands_placed k (ops.NTransform from into) es h = last_placed k es h
operands_placed k op es h = h

-- `faceforward` of two operands has three
normal_few : (args : T.Exprs) (kind : NodeType) (us : List Bool) (u : Bool) (x : C.Expr) → is_type kind (rule operations.FaceForwardNg (operands args)) ≡ true → are_some (with_last (exprs args us u) x) ≡ true
normal_few T.none kind us u x h = refl
normal_few (T.more a T.none) kind us u x h = refl
normal_few (T.more a (T.more b T.none)) kind us u x h = refl
normal_few (T.more a (T.more b (T.more c T.none))) kind us u x h = absurd (cc h)
normal_few (T.more a (T.more b (T.more c (T.more d rest)))) kind us u x h = absurd (cc h)

normal_read : (k : SlKind) → has_surface k ≡ true → reads k true names.Ng ≡ true
normal_read Surface h = refl
normal_read Displacement h = refl
normal_read Light h = absurd (cc h)
normal_read Volume h = absurd (cc h)

with_last_placed : (k : SlKind) (es : C.Exprs) (x : C.Expr) → PlacedExprs k es → PlacedExpr k x → PlacedExprs k (with_last es x)
with_last_placed k C.none x h p = (p, tt)
with_last_placed k (C.more e rest) x h p = (h.0, with_last_placed k rest x h.1 p)

difference_placed : (k : SlKind) (d : Difference) (es : C.Exprs) → has_surface k ≡ true → PlacedExprs k es → PlacedExpr k (lowered.difference_of d es)
difference_placed k d C.none s h = tt
difference_placed k d (C.more e rest) s h = (s, h.0)

sum_few : (s : LightSum) (args : T.Exprs) (kind : NodeType) (us : List Bool) (u : Bool) → is_type kind (rule (operations.Sum s) (operands args)) ≡ true → are_few (exprs args us u) ≡ true
sum_few s T.none kind us u h = refl
sum_few s (T.more a T.none) kind us u h = refl
sum_few s (T.more a (T.more b T.none)) kind us u h = refl
sum_few s (T.more a (T.more b (T.more c T.none))) kind us u h = refl
sum_few sums.Ambient (T.more a (T.more b (T.more c (T.more d rest)))) kind us u h = absurd (cc h)
sum_few sums.Diffuse (T.more a (T.more b (T.more c (T.more d rest)))) kind us u h = absurd (cc h)
sum_few sums.Specular (T.more a (T.more b (T.more c (T.more d rest)))) kind us u h = absurd (cc h)

-- a look-up has three operands: its name, s and t
three_there : (args : T.Exprs) (kind : NodeType) (us : List Bool) (u : Bool) → is_type kind (rule (operations.Look looks.At) (operands args)) ≡ true → are_triple (exprs args us u) ≡ true
three_there T.none kind us u h = absurd (cc h)
three_there (T.more a T.none) kind us u h = absurd (cc h)
three_there (T.more a (T.more b T.none)) kind us u h = absurd (cc h)
three_there (T.more a (T.more b (T.more c T.none))) kind us u h = refl
three_there (T.more a (T.more b (T.more c (T.more d rest)))) kind us u h = absurd (cc h)

two_more : (args : T.Exprs) (kind : NodeType) (us : List Bool) (u : Bool) (x y : C.Expr) → is_type kind (rule (operations.Look looks.Here) (operands args)) ≡ true → are_triple (with_last (with_last (exprs args us u) x) y) ≡ true
two_more T.none kind us u x y h = absurd (cc h)
two_more (T.more a T.none) kind us u x y h = refl
two_more (T.more a (T.more b T.none)) kind us u x y h = absurd (cc h)
two_more (T.more a (T.more b (T.more c T.none))) kind us u x y h = absurd (cc h)
two_more (T.more a (T.more b (T.more c (T.more d rest)))) kind us u x y h = absurd (cc h)

one_more : (args : T.Exprs) (kind : NodeType) (us : List Bool) (u : Bool) (x : C.Expr) → is_type kind (rule (operations.Look looks.First) (operands args)) ≡ true → are_some (with_last (exprs args us u) x) ≡ true
one_more T.none kind us u x h = refl
one_more (T.more a T.none) kind us u x h = refl
one_more (T.more a (T.more b T.none)) kind us u x h = refl
one_more (T.more a (T.more b (T.more c T.none))) kind us u x h = absurd (cc h)
one_more (T.more a (T.more b (T.more c (T.more d rest)))) kind us u x h = absurd (cc h)

-- the predefined s and t are there where a surface is
places_read : (k : SlKind) → has_surface k ≡ true → (reads k true names.S ≡ true) × (reads k true names.T ≡ true)
places_read Surface h = (refl, refl)
places_read Displacement h = (refl, refl)
places_read Light h = absurd (cc h)
places_read Volume h = absurd (cc h)

looked_placed : (look : Look) (n : ℕ) (args : T.Exprs) (kind : NodeType) (k : SlKind) (us : List Bool) (u : Bool) → is_type kind (rule (operations.Look look) (operands args)) ≡ true → has_surface k ≡ true
    → PlacedExprs k (exprs args us u) → PlacedExpr k (lowered.looked_up look n (exprs args us u))
looked_placed looks.At n args kind k us u h has p = (has, (three_there args kind us u h, p))
looked_placed looks.Here n args kind k us u h has p =
    let r = places_read k has in
    (has, (two_more args kind us u _ _ h, with_last_placed k _ (C.read (variables.Predefined names.T)) (with_last_placed k (exprs args us u) (C.read (variables.Predefined names.S)) p r.0) r.1))
looked_placed looks.First n args kind k us u h has p = (one_more args kind us u _ h, with_last_placed k (exprs args us u) (C.literal (Number (pos 0))) p tt)

pub operated_placed : (operation : Operation) (n : ℕ) (args : T.Exprs) (kind : NodeType) (g : Around) (us : List Bool) (u : Bool) → is_type kind (rule operation (operands args)) ≡ true → stands g operation args ≡ true
    → PlacedExprs g.kind (exprs args us u) → PlacedExpr g.kind (lowered.operated operation n (exprs args us u))
operated_placed (operations.Value op) n args kind g us u h k p = (operands_few op (exprs args us u) (value_few op args kind us u h), operands_placed g.kind op (exprs args us u) p)
operated_placed operations.FaceForwardNg n args kind g us u h k p =
    (normal_few args kind us u _ h, with_last_placed g.kind (exprs args us u) (C.read (variables.Predefined names.Ng)) p (normal_read g.kind (and_parts (has_surface g.kind) (not g.default) k).0))
operated_placed (operations.Difference d) n args kind g us u h k p = difference_placed g.kind d (exprs args us u) (and_parts (has_surface g.kind) _ k).0 p
operated_placed (operations.Sum s) n args kind g us u h k p = ((and_parts (is_surface g.kind) _ k).0, (sum_few s args kind us u h, p))
operated_placed (operations.Look look) n args kind g us u h k p = looked_placed look n args kind g.kind us u h (and_parts (has_surface g.kind) _ k).0 p

pub put_placed : (k : SlKind) (x : Variable) (operator : SetOperator) (e : C.Expr) → Reads k x → PlacedExpr k e → PlacedExpr k (put_into operator x e)
put_placed k x sets.Set e r h = h
put_placed k x sets.Add e r h = (refl, (r, (h, tt)))
put_placed k x sets.Subtract e r h = (refl, (r, (h, tt)))
put_placed k x sets.Multiply e r h = (refl, (r, (h, tt)))
put_placed k x sets.Divide e r h = (refl, (r, (h, tt)))

pub lights_few : (over : LightStmt) (args : T.Exprs) (us : List Bool) (u : Bool) → lights_take over (operands args) ≡ true → are_few (exprs args us u) ≡ true
lights_few over T.none us u h = refl
lights_few over (T.more a T.none) us u h = refl
lights_few over (T.more a (T.more b T.none)) us u h = refl
lights_few over (T.more a (T.more b (T.more c T.none))) us u h = refl
lights_few Illuminance (T.more a (T.more b (T.more c (T.more d rest)))) us u h = absurd (cc h)
lights_few Illuminate (T.more a (T.more b (T.more c (T.more d rest)))) us u h = absurd (cc h)
lights_few Solar (T.more a (T.more b (T.more c (T.more d rest)))) us u h = absurd (cc h)
