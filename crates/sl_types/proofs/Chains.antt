-- Chains of operators: what they show, how great they are, and their trees with functions in place.
use Rattle.std.proofs.Common.{◌≡◌, ◌≤◌, ◌<◌, ℕ, zero, suc, ◌+◌, List, [], ◌∷◌, length, map, drop, get_or, Result, Ok, Err, OnOk, refl, sym, ap, ap₂, ◌∙◌, arith}
use Rattle.std.specs.declared.alloc.Global.{Global}
use Rattle.std.specs.declared.boxed.Box.{Box}
use Rattle.sl_ast.specs.Typed as A
use Rattle.sl_ast.specs.declared.kinds.NodeType.{NodeType}
use Rattle.sl_ast.specs.declared.operations.Operation.{Operation}
use Rattle.sl_ast.specs.declared.typed.Place.{Place}
use Rattle.sl_expressions.specs.Typed as T
use Rattle.sl_expressions.specs.TypedView.{typed_of, tlink_of}
use Rattle.sl_types.specs.Inline.{Built, nothing, at, called_at, count, count_args, inline, inline_args}
use Rattle.sl_types.specs.Folds.{fold}
use Rattle.sl_types.specs.Placing.{weighing}
use Rattle.sl_expressions.specs.declared.typed.TypedExpr.{TypedExpr, Chain}
use Rattle.sl_expressions.specs.declared.typed.TypedLink.{TypedLink}
use Rattle.sl_expressions.proofs.Rows.{held_chain}

-- what the code holds of a chain
pub chain_shown : (e : TypedExpr) (first : Box TypedExpr Global) (links : List TypedLink) (operation : Operation) (operand : Box TypedExpr Global) (kind : NodeType) (line : ℕ)
    → e ≡ Chain first links operation operand kind line
    → typed_of e ≡ T.apply operation (T.more (T.chained (typed_of first.value) (map tlink_of links)) (T.more (typed_of operand.value) T.none)) kind line
chain_shown e first links operation operand kind line h =
    ap typed_of h ∙ ap (λ x. T.apply operation (T.more x (T.more (typed_of operand.value) T.none)) kind line) (held_chain (typed_of first.value) links)

-- nodes of operands, and weights of links
abbrev pub count_links : List Built → List T.Link → ℕ
count_links fs [] = 0
count_links fs (l ∷ ls) = count fs l.operand + count_links fs ls

abbrev pub weight_links : List T.Link → ℕ
weight_links [] = 0
weight_links (l ∷ ls) = fold weighing [] l.operand + 4 + weight_links ls

pub links_counted : (fs : List Built) (e : T.Expr) (ls : List T.Link) → count fs (T.chained e ls) ≡ count fs e + length ls + count_links fs ls
links_counted fs e [] = omega arith
links_counted fs e (l ∷ ls) = omega (arith, links_counted fs (T.linked e l) ls)

pub links_weighed : (e : T.Expr) (ls : List T.Link) → fold weighing [] (T.chained e ls) ≡ fold weighing [] e + weight_links ls
links_weighed e [] = omega arith
links_weighed e (l ∷ ls) = omega (arith, links_weighed (T.linked e l) ls)

-- trees of operators over `t`, whose operands are numbered from m on: n is the number of the last one's node
abbrev pub tree_links : List Built → ℕ → A.Expr → ℕ → List T.Link → A.Expr
tree_links fs n t m [] = t
tree_links fs n t m (l ∷ ls) =
    tree_links fs n (A.apply l.operation (A.more t (A.more (inline fs m l.operand) A.none)) l.kind (at l.line (n + length ls))) (m + count fs l.operand) ls

pub links_inlined : (fs : List Built) (n : ℕ) (e : T.Expr) (ls : List T.Link)
    → inline fs n (T.chained e ls) ≡ tree_links fs n (inline fs (n + length ls) e) (n + length ls + count fs e) ls
links_inlined fs n e [] =
    let p : n ≡ n + 0 = omega arith in
    ap (λ k. inline fs k e) p
links_inlined fs n e (l ∷ ls) =
    let k = n + length ls in
    let p : k + 1 ≡ n + suc (length ls) = omega arith in
    let q : k + count fs (T.linked e l) ≡ n + suc (length ls) + count fs e + count fs l.operand = omega arith in
    links_inlined fs n (T.linked e l) ls
    ∙ ap₂ (λ i j. tree_links fs n (A.apply l.operation (A.more (inline fs i e) (A.more (inline fs (i + count fs e) l.operand) A.none)) l.kind (at l.line k)) j ls) p q

-- one operator and those after it
pub links_split : (xs : List TypedLink) (i : ℕ) (x : TypedLink) → i < length xs → x ≡ get_or xs i x → map tlink_of (drop i xs) ≡ tlink_of x ∷ map tlink_of (drop (i + 1) xs)
links_split [] i x low is = absurd (omega (arith, low))
links_split (y ∷ ys) zero x low is = ap (λ z. tlink_of z ∷ map tlink_of ys) (sym is)
links_split (y ∷ ys) (suc i) x low is =
    let e : suc (i + 1) ≡ suc i + 1 = omega arith in
    links_split ys i x (omega (arith, low)) is ∙ ap (λ k. tlink_of x ∷ map tlink_of (drop k (y ∷ ys))) e

pub links_end : (xs : List TypedLink) (i : ℕ) → length xs ≤ i → map tlink_of (drop i xs) ≡ []
links_end [] zero high = refl
links_end [] (suc i) high = refl
links_end (y ∷ ys) zero high = absurd (omega (arith, high))
links_end (y ∷ ys) (suc i) high = links_end ys i (omega (arith, high))

pub light_link : (xs : List TypedLink) (i : ℕ) (x : TypedLink) → i < length xs → x ≡ get_or xs i x → fold weighing [] (typed_of x.operand) < weight_links (map tlink_of xs)
light_link [] i x low is = absurd (omega (arith, low))
light_link (y ∷ ys) zero x low is = let q = ap (λ l. fold weighing [] (typed_of l.operand)) is in omega arith
light_link (y ∷ ys) (suc i) x low is = omega (arith, light_link ys i x (omega (arith, low)) is)

-- an operator over two operands, and a call, from trees of their parts
pub pair_tree : (fs : List Built) (n : ℕ) (operation : Operation) (x y : T.Expr) (kind : NodeType) (line : ℕ) (p : Place) (a b : A.Expr) (m k : ℕ)
    → p ≡ at line n → m ≡ n + 1 → a ≡ inline fs m x → k ≡ m + count fs x → b ≡ inline fs k y
    → A.apply operation (A.more a (A.more b A.none)) kind p ≡ inline fs n (T.apply operation (T.more x (T.more y T.none)) kind line)
pair_tree fs n operation x y kind line p a b m k place next tree after_it other =
    ap (λ q. A.apply operation (A.more a (A.more b A.none)) kind q) place
    ∙ ap₂ (λ u v. A.apply operation (A.more u (A.more v A.none)) kind (at line n)) (tree ∙ ap (λ i. inline fs i x) next)
    (other ∙ ap (λ i. inline fs i y) (after_it ∙ ap (λ i. i + count fs x) next))

pub call_tree : (fs : List Built) (n k : ℕ) (args : T.Exprs) (kind : NodeType) (line : ℕ) (p : Place) (a : A.Exprs) (m j : ℕ)
    → p ≡ at line n → j ≡ n + 1 → a ≡ inline_args fs j args → m ≡ j + count_args fs args
    → called_at (get_or fs k nothing) m a kind p ≡ inline fs n (T.call k args kind line)
call_tree fs n k args kind line p a m j place next tree after_it =
    ap (λ q. called_at (get_or fs k nothing) m a kind q) place
    ∙ ap₂ (λ i b. called_at (get_or fs k nothing) i b kind (at line n)) (after_it ∙ ap (λ i. i + count_args fs args) next) (tree ∙ ap (λ i. inline_args fs i args) next)

pub on_ok : {A E : Type 0} {P : Type 0} (r : Result A E) → P → OnOk r P
on_ok (Ok x) p = p
on_ok (Err e) p = tt
