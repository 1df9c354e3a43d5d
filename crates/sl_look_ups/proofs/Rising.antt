-- The numbers of look-ups stand among those of all nodes in the same order, so that they rise.
use Rattle.std.proofs.Common.{◌≡◌, ℕ, zero, suc, ◌+◌, ◌≤◌, ◌<◌, ◌==◌, true, List, [], ◌∷◌, ◌++◌, map, refl, sym, subst, inl, inr, ◌⊎◌, arith}
use Rattle.std.specs.Prelude.{slice_index}
use Rattle.std.specs.List.Sorted.{IsStrictlyIncreasing}
use Rattle.std.proofs.lemmas.Bool.{and_parts, eqb-true}
use Rattle.sl_ast.specs.declared.operations.Operation.{Operation}
use Rattle.sl_ast.specs.declared.operations.Operation.TheVariants as operations
use Rattle.sl_ast.specs.declared.operations.Look.TheVariants as looks
use Rattle.sl_ast.specs.declared.typed.Place.{Place}
use Rattle.sl_ast.specs.Textures.{TextureNode, own_look_up, look_ups, look_ups_args, look_ups_stmt, look_ups_stmts, texture_nodes}
use Rattle.sl_ast.specs.Typed as T
use Rattle.sl_ast.specs.Typed.{numbers, numbers_args, numbers_stmt, numbers_stmts, numbers_defaults, numbers_tree, counts_up}

-- the numbers of the look-ups stand among these, in order
abbrev Among : List TextureNode → List ℕ → Type 0
Among [] ns = Unit {0}
Among (l ∷ ls) [] = ⊥
Among (l ∷ ls) (n ∷ ns) = ((l.number ≡ n) × Among ls ns) ⊎ Among (l ∷ ls) ns

past : (n : ℕ) (ls : List TextureNode) (ns : List ℕ) → Among ls ns → Among ls (n ∷ ns)
past n [] ns h = tt
past n (l ∷ ls) ns h = inr h

past_all : (ms : List ℕ) (ls : List TextureNode) (ns : List ℕ) → Among ls ns → Among ls (ms ++ ns)
past_all [] ls ns h = h
past_all (m ∷ ms) ls ns h = past m ls (ms ++ ns) (past_all ms ls ns h)

behind : (ks : List TextureNode) (ms : List ℕ) (ls : List TextureNode) (ns : List ℕ) → Among ks ms → Among ls ns → Among (ks ++ ls) (ms ++ ns)
behind [] ms ls ns h g = past_all ms ls ns g
behind (k ∷ ks) [] ls ns h g = absurd h
behind (k ∷ ks) (m ∷ ms) ls ns (inl h) g = inl (h.0, behind ks ms ls ns h.1 g)
behind (k ∷ ks) (m ∷ ms) ls ns (inr h) g = inr (behind (k ∷ ks) ms ls ns h g)

own_among : (operation : Operation) (p : Place) (args : T.Exprs) (ls : List TextureNode) (ns : List ℕ) → Among ls ns → Among (own_look_up operation p args ++ ls) (p.number ∷ ns)
own_among (operations.Look looks.At) p T.none ls ns h = past p.number ls ns h
own_among (operations.Look looks.At) p (T.more name rest) ls ns h = inl (refl, h)
own_among (operations.Look looks.Here) p T.none ls ns h = past p.number ls ns h
own_among (operations.Look looks.Here) p (T.more name rest) ls ns h = inl (refl, h)
own_among (operations.Look looks.First) p args ls ns h = past p.number ls ns h
own_among (operations.Value op) p args ls ns h = past p.number ls ns h
own_among operations.FaceForwardNg p args ls ns h = past p.number ls ns h
own_among (operations.Difference d) p args ls ns h = past p.number ls ns h
own_among (operations.Sum w) p args ls ns h = past p.number ls ns h

mutual
  among_expr : (e : T.Expr) → Among (look_ups e) (numbers e)
  among_expr (T.number x p) = tt
  among_expr (T.word x p) = tt
  among_expr (T.variable x kind p) = tt
  among_expr (T.apply operation args kind p) = own_among operation p args (look_ups_args args) (numbers_args args) (among_args args)
  among_expr (T.call args formals body returned value kind p) =
      past p.number _ _ (behind (look_ups_args args) (numbers_args args) _ _ (among_args args)
      (behind (look_ups_stmts body) (numbers_stmts body) _ _ (among_stmts body) (past returned.number _ _ (among_expr value))))

  among_args : (args : T.Exprs) → Among (look_ups_args args) (numbers_args args)
  among_args T.none = tt
  among_args (T.more e rest) = behind (look_ups e) (numbers e) _ _ (among_expr e) (among_args rest)

  among_stmt : (s : T.Stmt) → Among (look_ups_stmt s) (numbers_stmt s)
  among_stmt (T.empty p) = tt
  among_stmt (T.leave p) = tt
  among_stmt (T.again p) = tt
  among_stmt (T.block body p) = past p.number _ _ (among_stmts body)
  among_stmt (T.group body) = among_stmts body
  among_stmt (T.declare uniform kind e p) = past p.number _ _ (among_expr e)
  among_stmt (T.start uniform kind p) = tt
  among_stmt (T.assign x operator kind e p) = past p.number _ _ (among_expr e)
  among_stmt (T.test e s p) = past p.number _ _ (behind (look_ups e) (numbers e) _ _ (among_expr e) (among_stmt s))
  among_stmt (T.test_else e s r p) =
      past p.number _ _ (behind (look_ups e) (numbers e) _ _ (among_expr e) (behind (look_ups_stmt s) (numbers_stmt s) _ _ (among_stmt s) (among_stmt r)))
  among_stmt (T.repeat e s p) = past p.number _ _ (behind (look_ups e) (numbers e) _ _ (among_expr e) (among_stmt s))
  among_stmt (T.steps a e b s p) =
      past p.number _ _ (behind (look_ups_stmts a) (numbers_stmts a) _ _ (among_stmts a)
      (behind (look_ups e) (numbers e) _ _ (among_expr e) (behind (look_ups_stmts b) (numbers_stmts b) _ _ (among_stmts b) (among_stmt s))))
  among_stmt (T.lights over args s p) = past p.number _ _ (behind (look_ups_args args) (numbers_args args) _ _ (among_args args) (among_stmt s))

  among_stmts : (body : T.Stmts) → Among (look_ups_stmts body) (numbers_stmts body)
  among_stmts T.done = tt
  among_stmts (T.first s rest) = behind (look_ups_stmt s) (numbers_stmt s) _ _ (among_stmt s) (among_stmts rest)

-- the numbers go up from that one
abbrev Above : ℕ → List TextureNode → Type 0
Above k [] = Unit {0}
Above k (l ∷ ls) = (k ≤ l.number) × Above (suc l.number) ls

among_above : (k : ℕ) (ls : List TextureNode) (ns : List ℕ) → counts_up k ns ≡ true → Among ls ns → Above k ls
among_above k [] ns c h = tt
among_above k (l ∷ ls) [] c h = absurd h
among_above k (l ∷ ls) (n ∷ ns) c (inl h) =
    let both = and_parts (n == k) (counts_up (k + 1) ns) c in
    let is : n ≡ k = eqb-true n k both.0 in
    let at : k + 1 ≡ suc l.number = omega (arith, is, h.0) in
    (omega (arith, is, h.0), subst (λ m. Above m ls) at (among_above (k + 1) ls ns both.1 h.1))
among_above k (l ∷ ls) (n ∷ ns) c (inr h) =
    let both = and_parts (n == k) (counts_up (k + 1) ns) c in
    let rest = among_above (k + 1) (l ∷ ls) ns both.1 h in
    (omega (arith, rest.0), rest.1)

rises_behind : (x : ℕ) (xs : List ℕ) (i : ℕ) → slice_index xs i < slice_index xs (i + 1) → slice_index (x ∷ xs) (suc i) < slice_index (x ∷ xs) (suc i + 1)
rises_behind x xs i h = let e : suc i + 1 ≡ suc (i + 1) = omega arith in subst (λ n. slice_index (x ∷ xs) (suc i) < slice_index (x ∷ xs) n) (sym e) h

above_rises : (k : ℕ) (ls : List TextureNode) → Above k ls → IsStrictlyIncreasing (map (λ l. l.number) ls)
above_rises k [] h i within = absurd (omega arith)
above_rises k (l ∷ []) h i within = absurd (omega arith)
above_rises k (l ∷ m ∷ ls) h zero within = h.1.0
above_rises k (l ∷ m ∷ ls) h (suc i) within = rises_behind l.number (map (λ n. n.number) (m ∷ ls)) i (above_rises (suc l.number) (m ∷ ls) h.1 i (omega arith))

pub nodes_rise : (t : T.Tree) → counts_up 0 (numbers_tree t) ≡ true → IsStrictlyIncreasing (map (λ l. l.number) (texture_nodes t))
nodes_rise t c =
    above_rises 0 (texture_nodes t) (among_above 0 (texture_nodes t) (numbers_tree t) c
    (past t.place.number _ _ (past_all (numbers_defaults t.defaults) _ _ (among_stmts t.body))))
