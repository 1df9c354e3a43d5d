-- Nodes and blocks: how the code holds them, and how many nodes a block has.
use Rattle.std.proofs.Common.{◌≡◌, ℕ, suc, ◌+◌, ◌<◌, Bool, List, [], ◌∷◌, length, get_or, drop, refl, sym, ap, ◌∙◌, arith, add-one}
use Rattle.std.proofs.Math.Seq.{drop-cons}
use Rattle.sl_ast.specs.declared.kinds.LightStmt.{LightStmt}
use Rattle.grid_code.specs.declared.code.Register.{Register}
use Rattle.grid_code.specs.declared.code.Node.{Node, Put, Differ, Sum, Texture, If, If', Loop, Loop', Lights, Lights', Break, Continue, Row_of-Node, end_of-Node, more_of-Node, items-the_row-Node}
use Rattle.grid_code.specs.declared.code.Node.TheBlock.{hidden-the_row-Node-0, items_hidden-the_row-Node-0}
use Rattle.grid_code.specs.Code.{Block, end, put, differ, sum, texture, branch, loops, lights, breaks, continues}
use Rattle.grid_code.specs.View.{with_node, row_block, block_of}

row_block-items : (m : _) (k : Row_of-Node m) → row_block k ≡ block_of (items-the_row-Node m k)
row_block-items m end_of-Node = refl
row_block-items m (more_of-Node n rest) = ap (with_node n) (row_block-items _ rest)

held_block : (xs : List Node) → row_block (hidden-the_row-Node-0 xs) ≡ block_of xs
held_block xs = row_block-items _ (hidden-the_row-Node-0 xs) ∙ ap block_of (items_hidden-the_row-Node-0 xs)

pub branch_is : (x : Node) (t : Register) (a b : List Node) (rest : Block) → x ≡ If t a b → with_node x rest ≡ branch t (block_of a) (block_of b) rest
branch_is x t a b rest h =
    ap (λ y. with_node y rest) h ∙ ap (λ y. branch t y (row_block (hidden-the_row-Node-0 b)) rest) (held_block a) ∙ ap (λ y. branch t (block_of a) y rest) (held_block b)

pub loop_is : (x : Node) (u : Bool) (d : List Node) (t : Register) (s b : List Node) (rest : Block) → x ≡ Loop u d t s b → with_node x rest ≡ loops u (block_of d) t (block_of s) (block_of b) rest
loop_is x u d t s b rest h =
    ap (λ y. with_node y rest) h ∙ ap (λ y. loops u y t (row_block (hidden-the_row-Node-0 s)) (row_block (hidden-the_row-Node-0 b)) rest) (held_block d)
    ∙ ap (λ y. loops u (block_of d) t y (row_block (hidden-the_row-Node-0 b)) rest) (held_block s) ∙ ap (λ y. loops u (block_of d) t (block_of s) y rest) (held_block b)

pub lights_is : (x : Node) (w : LightStmt) (qs : List Register) (b : List Node) (rest : Block) → x ≡ Lights w qs b → with_node x rest ≡ lights w qs (block_of b) rest
lights_is x w qs b rest h = ap (λ y. with_node y rest) h ∙ ap (λ y. lights w qs y rest) (held_block b)

-- how many nodes a block has, and the blocks in it
abbrev pub block_size : Block → ℕ
block_size end = 0
block_size (put r o x) = 1 + block_size x
block_size (differ r d q x) = 1 + block_size x
block_size (sum r s qs x) = 1 + block_size x
block_size (texture r k qs x) = 1 + block_size x
block_size (branch t a b x) = 1 + block_size a + block_size b + block_size x
block_size (loops u d t e a x) = 1 + block_size d + block_size e + block_size a + block_size x
block_size (lights w qs a x) = 1 + block_size a + block_size x
block_size (breaks x) = 1 + block_size x
block_size (continues x) = 1 + block_size x

pub node_size : (x : Node) (rest : Block) → block_size (with_node x rest) ≡ block_size (with_node x end) + block_size rest
node_size (Put to source) rest = omega arith
node_size (Differ to d q) rest = omega arith
node_size (Sum to s qs) rest = omega arith
node_size (Texture to k qs) rest = omega arith
node_size (If' t k a m b) rest = omega arith
node_size (Loop' u k a t m s p b) rest = omega arith
node_size (Lights' w qs k b) rest = omega arith
node_size Break rest = omega arith
node_size Continue rest = omega arith

pub next_node : (block : List Node) (i : ℕ) (x : Node) → i < length block → x ≡ get_or block i x → block_of (drop i block) ≡ with_node x (block_of (drop (i + 1) block))
next_node block i x h is = ap block_of (drop-cons block i x h) ∙ ap (λ y. with_node y (block_of (drop (suc i) block))) (sym is) ∙ ap (λ k. with_node x (block_of (drop k block))) (sym (add-one i))

pub none_left : (block : List Node) (i : ℕ) → i ≡ length block → drop i block ≡ []
none_left [] i h = ap (λ n. drop n []) h
none_left (x ∷ xs) i h = ap (λ n. drop n (x ∷ xs)) h ∙ none_left xs (length xs) refl
