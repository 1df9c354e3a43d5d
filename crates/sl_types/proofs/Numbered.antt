-- The nodes of the tree with functions in place are numbered one after another, and its extent is what was said without it.
use Rattle.std.proofs.Common.{◌≡◌, ℕ, zero, suc, ◌+◌, max, List, [], ◌∷◌, ◌++◌, get_or, refl, sym, ap, ap₂, ◌∙◌, arith}
use Rattle.sl_ast.specs.Typed as A
use Rattle.sl_expressions.specs.Typed.{Expr, number, word, variable, apply, call, Exprs, none, more, Stmt, empty, leave, again, block, group, declare, start, assign, test, test_else, repeat, steps, lights, Stmts, done, first}
use Rattle.sl_types.specs.Extents.{absent}
use Rattle.sl_types.specs.Inline.{Built, nothing, extents_of, count, count_args, count_stmt, count_stmts, inline, inline_args, inline_stmt, inline_stmts}

-- so many numbers from that one on
abbrev pub upto : ℕ → ℕ → List ℕ
upto n zero = []
upto n (suc m) = n ∷ upto (n + 1) m

upto_append : (n a b : ℕ) → upto n a ++ upto (n + a) b ≡ upto n (a + b)
upto_append n zero b =
    let e : n + 0 ≡ n = omega arith in
    let f : b ≡ 0 + b = omega arith in
    ap (λ k. upto k b) e ∙ ap (upto n) f
upto_append n (suc a) b =
    let e : n + suc a ≡ n + 1 + a = omega arith in
    let f : suc (a + b) ≡ suc a + b = omega arith in
    ap (λ k. n ∷ (upto (n + 1) a ++ upto k b)) e ∙ ap (λ r. n ∷ r) (upto_append (n + 1) a b) ∙ ap (upto n) f

pub node : (n m : ℕ) (xs : List ℕ) → xs ≡ upto (n + 1) m → n ∷ xs ≡ upto n (1 + m)
node n m xs p =
    let f : suc m ≡ 1 + m = omega arith in
    ap (λ r. n ∷ r) p ∙ ap (upto n) f

pub join : (n a b : ℕ) (xs ys : List ℕ) → xs ≡ upto n a → ys ≡ upto (n + a) b → xs ++ ys ≡ upto n (a + b)
join n a b xs ys p q = ap₂ (λ x y. x ++ y) p q ∙ upto_append n a b

-- what a function does is numbered so, and has the extent that it is said to have
pub record Sound (b : Built) : Type 0 where
  pub value_nodes : ℕ
  pub body_is : (n : ℕ) → A.numbers_stmts (b.body n) ≡ upto n b.before
  pub value_is : (n : ℕ) → A.numbers (b.value n) ≡ upto n value_nodes
  pub nodes_are : b.extent.nodes ≡ b.before + (1 + value_nodes)
  pub depth_is : (n m : ℕ) → max (A.depth_stmts (b.body n)) (1 + A.depth (b.value m)) ≡ b.extent.depth

abbrev pub AllSound : List Built → Type 0
AllSound [] = Unit {0}
AllSound (b ∷ bs) = Sound b × AllSound bs

pub nothing_sound : Sound nothing
nothing_sound = record { value_nodes = 1; body_is = λ n. refl; value_is = λ n. refl; nodes_are = refl; depth_is = λ n m. refl }

pub sound_at : (fs : List Built) (k : ℕ) → AllSound fs → Sound (get_or fs k nothing)
sound_at [] k all = nothing_sound
sound_at (f ∷ fs) zero all = all.0
sound_at (f ∷ fs) (suc k) all = sound_at fs k all.1

pub extent_at : (fs : List Built) (k : ℕ) → get_or (extents_of fs) k absent ≡ (get_or fs k nothing).extent
extent_at [] k = refl
extent_at (f ∷ fs) zero = refl
extent_at (f ∷ fs) (suc k) = extent_at fs k

call_numbers : (fs : List Built) (k n c : ℕ) (args : List ℕ) (b : Built) → b ≡ get_or fs k nothing → Sound b → args ≡ upto (n + 1) c
    → n ∷ (args ++ (A.numbers_stmts (b.body (n + 1 + c)) ++ ((n + 1 + c + b.before) ∷ A.numbers (b.value (n + 1 + c + b.before + 1)))))
    ≡ upto n (1 + (c + (get_or (extents_of fs) k absent).nodes))
call_numbers fs k n c args b is s p =
    let m = n + 1 + c in
    let value = A.numbers (b.value (m + b.before + 1)) in
    let last : (m + b.before) ∷ value ≡ upto (m + b.before) (1 + s.value_nodes) = node (m + b.before) s.value_nodes value (s.value_is (m + b.before + 1)) in
    let inner = join m b.before (1 + s.value_nodes) (A.numbers_stmts (b.body m)) ((m + b.before) ∷ value) (s.body_is m) last in
    let whole = join (n + 1) c (b.before + (1 + s.value_nodes)) args (A.numbers_stmts (b.body m) ++ ((m + b.before) ∷ value)) p inner in
    let nodes : (get_or (extents_of fs) k absent).nodes ≡ b.before + (1 + s.value_nodes) =
    ap (λ x. x.nodes) (extent_at fs k) ∙ ap (λ x. x.extent.nodes) (sym is) ∙ s.nodes_are in
    node n (c + (b.before + (1 + s.value_nodes))) _ whole ∙ ap (λ x. upto n (1 + (c + x))) (sym nodes)

mutual
  pub numbered : (fs : List Built) → AllSound fs → (n : ℕ) (e : Expr) → A.numbers (inline fs n e) ≡ upto n (count fs e)
  numbered fs all n (number value line) = refl
  numbered fs all n (word text line) = refl
  numbered fs all n (variable x kind line) = refl
  numbered fs all n (apply op args kind line) = node n (count_args fs args) _ (numbered_args fs all (n + 1) args)
  numbered fs all n (call k args kind line) =
      call_numbers fs k n (count_args fs args) (A.numbers_args (inline_args fs (n + 1) args)) (get_or fs k nothing) refl (sound_at fs k all) (numbered_args fs all (n + 1) args)

  pub numbered_args : (fs : List Built) → AllSound fs → (n : ℕ) (es : Exprs) → A.numbers_args (inline_args fs n es) ≡ upto n (count_args fs es)
  numbered_args fs all n none = refl
  numbered_args fs all n (more e rest) =
      join n (count fs e) (count_args fs rest) (A.numbers (inline fs n e)) (A.numbers_args (inline_args fs (n + count fs e) rest))
      (numbered fs all n e) (numbered_args fs all (n + count fs e) rest)

mutual
  pub numbered_stmt : (fs : List Built) → AllSound fs → (n : ℕ) (s : Stmt) → A.numbers_stmt (inline_stmt fs n s) ≡ upto n (count_stmt fs s)
  numbered_stmt fs all n (empty line) = refl
  numbered_stmt fs all n (leave line) = refl
  numbered_stmt fs all n (again line) = refl
  numbered_stmt fs all n (block ss line) = node n (count_stmts fs ss) _ (numbered_stmts fs all (n + 1) ss)
  numbered_stmt fs all n (group ss) = numbered_stmts fs all n ss
  numbered_stmt fs all n (declare uniform kind e line) = node n (count fs e) _ (numbered fs all (n + 1) e)
  numbered_stmt fs all n (start uniform kind line) = refl
  numbered_stmt fs all n (assign x operator kind e line) = node n (count fs e) _ (numbered fs all (n + 1) e)
  numbered_stmt fs all n (test e s line) =
      node n (count fs e + count_stmt fs s) _ (join (n + 1) (count fs e) (count_stmt fs s) _ _ (numbered fs all (n + 1) e) (numbered_stmt fs all (n + 1 + count fs e) s))
  numbered_stmt fs all n (test_else e s r line) =
      node n (count fs e + (count_stmt fs s + count_stmt fs r)) _ (join (n + 1) (count fs e) (count_stmt fs s + count_stmt fs r) _ _ (numbered fs all (n + 1) e)
      (join (n + 1 + count fs e) (count_stmt fs s) (count_stmt fs r) _ _ (numbered_stmt fs all (n + 1 + count fs e) s)
      (numbered_stmt fs all (n + 1 + count fs e + count_stmt fs s) r)))
  numbered_stmt fs all n (repeat e s line) =
      node n (count fs e + count_stmt fs s) _ (join (n + 1) (count fs e) (count_stmt fs s) _ _ (numbered fs all (n + 1) e) (numbered_stmt fs all (n + 1 + count fs e) s))
  numbered_stmt fs all n (steps a e b s line) =
      node n (count_stmts fs a + (count fs e + (count_stmts fs b + count_stmt fs s))) _ (join (n + 1) (count_stmts fs a) (count fs e + (count_stmts fs b + count_stmt fs s)) _ _ (numbered_stmts fs all (n + 1) a)
      (join (n + 1 + count_stmts fs a) (count fs e) (count_stmts fs b + count_stmt fs s) _ _ (numbered fs all (n + 1 + count_stmts fs a) e)
      (join (n + 1 + count_stmts fs a + count fs e) (count_stmts fs b) (count_stmt fs s) _ _ (numbered_stmts fs all (n + 1 + count_stmts fs a + count fs e) b)
      (numbered_stmt fs all (n + 1 + count_stmts fs a + count fs e + count_stmts fs b) s))))
  numbered_stmt fs all n (lights which args s line) =
      node n (count_args fs args + count_stmt fs s) _ (join (n + 1) (count_args fs args) (count_stmt fs s) _ _ (numbered_args fs all (n + 1) args) (numbered_stmt fs all (n + 1 + count_args fs args) s))

  pub numbered_stmts : (fs : List Built) → AllSound fs → (n : ℕ) (ss : Stmts) → A.numbers_stmts (inline_stmts fs n ss) ≡ upto n (count_stmts fs ss)
  numbered_stmts fs all n done = refl
  numbered_stmts fs all n (first s rest) =
      join n (count_stmt fs s) (count_stmts fs rest) (A.numbers_stmt (inline_stmt fs n s)) (A.numbers_stmts (inline_stmts fs (n + count_stmt fs s) rest))
      (numbered_stmt fs all n s) (numbered_stmts fs all (n + count_stmt fs s) rest)
