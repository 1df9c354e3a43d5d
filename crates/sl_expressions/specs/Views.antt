-- What the code holds, and what its answers say of the definitions.
use Rattle.std.specs.Prelude.{◌≡◌, ℕ, Bool, List, [], ◌∷◌, ◌++◌, Vec, Option, option_map, Result, Ok, Err, map}
use Rattle.std.specs.declared.alloc.Global.{Global}
use Rattle.sl_expressions.specs.declared.faults.TypeFault.{TypeFault}
use Rattle.sl_expressions.specs.declared.faults.TypeFault.TheVariants.{At, NoMemory}
use Rattle.sl_expressions.specs.declared.places.Args.{Args}
use Rattle.sl_expressions.specs.declared.places.Local.{Local}
use Rattle.sl_expressions.specs.declared.places.Body.{Body}
use Rattle.sl_expressions.specs.declared.places.Faulty.{Faulty}
use Rattle.sl_expressions.specs.declared.places.Known.{Known}
use Rattle.sl_expressions.specs.declared.places.Own.{Own}
use Rattle.sl_expressions.specs.declared.places.Spot.{Spot}
use Rattle.sl_expressions.specs.declared.places.Around.{Around}
use Rattle.sl_ast.specs.Syntax as U
use Rattle.sl_ast.specs.WellTyped as W
use Rattle.sl_ast.specs.declared.kinds.NodeType.{NodeType}
use Rattle.sl_ast.specs.declared.operations.Operation.{Operation}
use Rattle.std.specs.Borrow.{Bor}
use Rattle.sl_expressions.specs.declared.typed.TypedExpr.{TypedExpr}
use Rattle.sl_expressions.specs.declared.typed.TypedLink.{TypedLink}
use Rattle.sl_expressions.specs.Found.{Found, ◌>>=◌}
use Rattle.sl_expressions.specs.Exprs.{applied, typed_args, first_is_other}
use Rattle.sl_expressions.specs.Typed as T
use Rattle.sl_expressions.specs.TypedView.{typed_of, tlink_of, tstmt_of}
use Rattle.sl_expressions.specs.Scope as S

-- what an answer says: its value or its fault is the one that the definition finds; want of memory says nothing
abbrev pub Gives : {A B : Type 0} → (A → B) → Result A TypeFault → Found B → Type 0
Gives view (Ok v) found = found ≡ Ok (view v)
Gives view (Err (At code line)) found = found ≡ Err (code, line)
Gives view (Err NoMemory) found = Unit {0}

-- what an answer says where it holds the items of a vector
abbrev pub GivesAll : {A B : Type 0} → (A → B) → Result (Vec A Global) TypeFault → Found (List B) → Type 0
GivesAll view (Ok v) found = found ≡ Ok (map view v.items)
GivesAll view (Err (At code line)) found = found ≡ Err (code, line)
GivesAll view (Err NoMemory) found = Unit {0}

abbrev pub local_of : Local → S.Local
local_of l = record { uniform = l.uniform; kind = l.kind; name = l.name.now; fixed = l.fixed; line = l.line }

-- a chain of operators after what stands before
abbrev pub chain_of : T.Expr → Vec TypedLink Global → T.Expr
chain_of t links = T.chained t (map tlink_of links.items)

-- expressions, and one more after them
abbrev pub one_more : Found (List T.Expr) → Found T.Expr → Found (List T.Expr)
one_more before found = before >>= λ ts. found >>= λ t. Ok (ts ++ t ∷ [])

-- an operator after what stands before, from what is found of the operand after it
abbrev pub operated : Operation → ℕ → T.Expr → Found T.Expr → Found T.Expr
operated operation line before operand = operand >>= λ t. applied operation line (before ∷ t ∷ [])

-- what an answer says of the links after a first operand: their chain, whose type it holds
abbrev pub GivesLinks : Result NodeType TypeFault → T.Expr → List TypedLink → Found T.Expr → Type 0
GivesLinks (Ok kind) first links found = (found ≡ Ok (T.chained first (map tlink_of links))) × (T.kind_of (T.chained first (map tlink_of links)) ≡ kind)
GivesLinks (Err (At code line)) first links found = found ≡ Err (code, line)
GivesLinks (Err NoMemory) first links found = Unit {0}

-- what is said of a call's arguments: what is found of them, and whether the first has a type other than a string's; want of memory says nothing
abbrev pub IsOther : Result (Vec TypedExpr Global) TypeFault → Bool → Bool → Type 0
IsOther (Err NoMemory) said other = Unit {0}
IsOther typed said other = said ≡ other

abbrev pub GivesArgs : Args → Bool → Found (List T.Expr) → Type 0
GivesArgs args other found = GivesAll typed_of args.typed found × IsOther args.typed args.other other

-- the arguments of a call that stand in the text
abbrev pub IsArgs : Args → S.Around → List S.Local → U.Exprs → Type 0
IsArgs args g ls es = GivesArgs args (first_is_other g ls es) (typed_args g ls es)

-- arguments after others
abbrev pub args_after : List T.Expr → Found (List T.Expr) → Found (List T.Expr)
args_after before found = found >>= λ ts. Ok (before ++ ts)

-- a node from what is found of a call's arguments
abbrev pub OfArgs : Args → (Bool → Found (List T.Expr) → Found T.Expr) → Result TypedExpr TypeFault → Type 0
OfArgs args node result = (other : Bool) (found : Found (List T.Expr)) → GivesArgs args other found → Gives typed_of result (node other found)

-- a link more after those after a first operand, by a step from what stands before and what is found of the operand after it
abbrev pub AddsLink : (T.Expr → Found T.Expr → Found T.Expr) → NodeType → Result TypedExpr TypeFault → List TypedLink → List TypedLink → Result NodeType TypeFault → Type 0
AddsLink step before operand old new result =
    (first : T.Expr) (found : Found T.Expr) → T.kind_of (T.chained first (map tlink_of old)) ≡ before → Gives typed_of operand found
    → GivesLinks result first new (step (T.chained first (map tlink_of old)) found)

abbrev pub found_of : ℕ × Local → ℕ × S.Local
found_of l = (l.0, local_of l.1)

abbrev pub stmts_of : Body → T.Body
stmts_of b = record { stmts = T.stmts (map tstmt_of b.stmts); returned = b.returned; value = typed_of b.value }

abbrev pub body_of : Result Body Faulty → Found T.Body
body_of (Ok b) = Ok (stmts_of b)
body_of (Err p) = Err (p.code, p.line)

abbrev pub callee_of : Known → S.Callee
callee_of k = record { name = k.name.now; formals = map local_of k.formals.items; returns = k.returns; body = body_of k.body; by_default = body_of k.by_default }

abbrev pub own_of : Own → S.Own
own_of o = record { name = o.name.now; formals = map local_of o.formals.now; returns = o.returns }

abbrev pub spot_of : Spot → W.Around
spot_of s = record { kind = s.kind; default = s.default; bare = s.bare; lit = s.lit; looped = s.looped }

abbrev pub around_of : Around → S.Around
around_of g = record { at = spot_of g.at; own = option_map own_of g.own; known = map callee_of g.known.now }

-- a literal with its line
abbrev pub literal_from : Option (Bor (List ℕ) × ℕ) → Option (List ℕ × ℕ)
literal_from o = option_map (λ s. (s.0.now, s.1)) o
