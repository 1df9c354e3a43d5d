-- What is found is good; and the last variable of a name has the type that stands at its level.
use Rattle.std.proofs.Common.{◌≡◌, ◌<◌, ℕ, zero, suc, cond, List, [], ◌∷◌, map, get_or, length, Option, Some, None, Ok, Err, refl, ap, ◌∙◌, arith}
use Rattle.std.proofs.lemmas.Bool.{lt-ltb}
use Rattle.sl_ast.specs.declared.kinds.SlType.{SlType}
use Rattle.sl_ast.specs.declared.kinds.SlType.TheVariants as values
use Rattle.sl_ast.specs.Rules.{node_type}
use Rattle.sl_ast.specs.WellTyped.{level_type}
use Rattle.sl_expressions.specs.Found.{Found, ◌>>=◌}
use Rattle.sl_expressions.specs.Scope.{Local, level_of}
use Rattle.sl_expressions.proofs.Named.{StandsAt, stands_at}

abbrev pub Good : {A : Type 0} → Found A → (A → Type 0) → Type 0
Good (Ok x) P = P x
Good (Err e) P = Unit {0}

abbrev pub GoodSome : {A : Type 0} → Option A → (A → Type 0) → Type 0
GoodSome (Some x) P = P x
GoodSome None P = Unit {0}

pub good_bind : {A B : Type 0} (r : Found A) (f : A → Found B) (P : A → Type 0) (Q : B → Type 0) → Good r P → ((a : A) → P a → Good (f a) Q) → Good (r >>= f) Q
good_bind (Ok a) f P Q h k = k a h
good_bind (Err e) f P Q h k = tt

pub good_as : {A : Type 0} (r : Found A) (P Q : A → Type 0) → Good r P → ((a : A) → P a → Q a) → Good r Q
good_as (Ok a) P Q h k = k a h
good_as (Err e) P Q h k = tt

pub good_any : {A : Type 0} (r : Found A) → Good r (λ a. Unit {0})
good_any (Ok a) = tt
good_any (Err e) = tt

abbrev pub types_of : List Local → List SlType
types_of ls = map (λ l. l.kind) ls

abbrev pub TypedAt : List SlType → ℕ × Local → Type 0
TypedAt ks x = level_type ks x.0 ≡ Some (node_type x.1.kind)

in_range : (ks : List SlType) (k : ℕ) (x : SlType) → k < length ks → get_or ks k values.Float ≡ x → level_type ks k ≡ Some (node_type x)
in_range ks k x low is = ap (λ b. cond b (Some (node_type (get_or ks k values.Float))) None) (lt-ltb k (length ks) low) ∙ ap (λ y. Some (node_type y)) is

kind_at : (ls : List Local) (k : ℕ) (l : Local) → k < length ls → get_or (types_of ls) k values.Float ≡ (get_or ls k l).kind
kind_at [] k l low = absurd (omega (arith, low))
kind_at (x ∷ ls) zero l low = refl
kind_at (x ∷ ls) (suc k) l low = kind_at ls k l (omega (arith, low))

as_many : (ls : List Local) → length (types_of ls) ≡ length ls
as_many [] = refl
as_many (l ∷ ls) = ap suc (as_many ls)

typed_at : (ls : List Local) (o : Option (ℕ × Local)) → StandsAt ls o → GoodSome o (TypedAt (types_of ls))
typed_at ls None h = tt
typed_at ls (Some x) h = in_range (types_of ls) x.0 x.1.kind (omega (arith, h.0, as_many ls)) (kind_at ls x.0 x.1 h.0 ∙ ap (λ l. l.kind) h.1)

pub level_typed : (name : List ℕ) (ls : List Local) → GoodSome (level_of name ls) (TypedAt (types_of ls))
level_typed name ls = typed_at ls (level_of name ls) (stands_at (λ l. l.name) name ls)
