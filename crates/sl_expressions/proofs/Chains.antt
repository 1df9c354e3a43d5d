-- Chains of operators: what the code holds of them.
use Rattle.std.proofs.Common.{◌≡◌, List, [], ◌∷◌, ◌++◌, map, Ok, Err, refl, sym, ap, ◌∙◌}
use Rattle.std.proofs.lemmas.List.{map-append}
use Rattle.sl_expressions.specs.Found.{Found, ◌>>=◌}
use Rattle.sl_expressions.specs.Typed as T
use Rattle.sl_expressions.specs.TypedView.{typed_of, tlink_of}
use Rattle.sl_expressions.specs.Views.{Gives, GivesLinks}
use Rattle.sl_expressions.specs.declared.faults.TypeFault.{TypeFault}
use Rattle.sl_expressions.specs.declared.faults.TypeFault.TheVariants.{At, NoMemory}
use Rattle.sl_expressions.specs.declared.typed.TypedExpr.{TypedExpr}
use Rattle.sl_expressions.specs.declared.typed.TypedLink.{TypedLink}

-- a chain with its last operator
pub chained_push : (e : T.Expr) (ls : List T.Link) (l : T.Link) → T.chained e (ls ++ l ∷ []) ≡ T.linked (T.chained e ls) l
chained_push e [] l = refl
chained_push e (x ∷ ls) l = chained_push (T.linked e x) ls l

-- one more link is typed
pub grown_chain : (e : T.Expr) (links more : List TypedLink) (l : TypedLink) → more ≡ links ++ l ∷ [] → T.chained e (map tlink_of more) ≡ T.linked (T.chained e (map tlink_of links)) (tlink_of l)
grown_chain e links more l is =
    ap (λ xs. T.chained e (map tlink_of xs)) is ∙ ap (T.chained e) (map-append tlink_of links (l ∷ [])) ∙ chained_push e (map tlink_of links) (tlink_of l)

-- one whose last operator stands apart
pub chain_parted : (e : TypedExpr) (links front : List TypedLink) (last : TypedLink) → links ≡ front ++ last ∷ []
    → T.linked (T.chained (typed_of e) (map tlink_of front)) (tlink_of last) ≡ T.chained (typed_of e) (map tlink_of links)
chain_parted e links front last is = sym (grown_chain (typed_of e) front links last is)

-- what is found step by step
pub in_steps : {A B C : Type 0} (found : Found A) (f : A → Found B) (g : B → Found C) → found >>= (λ x. f x >>= g) ≡ (found >>= f) >>= g
in_steps (Ok x) f g = refl
in_steps (Err e) f g = refl

-- a fault at one of the links is that of the chain
pub link_fault : {A : Type 0} (view : A → T.Expr) (first : T.Expr) (links : List TypedLink) (fault : TypeFault) (one all : Found T.Expr) (rest : T.Expr → Found T.Expr)
    → all ≡ one >>= rest → GivesLinks (Err fault) first links one → Gives view (Err fault) all
link_fault view first links (At code line) one all rest is h = is ∙ ap (λ r. r >>= rest) h
link_fault view first links NoMemory one all rest is h = tt
