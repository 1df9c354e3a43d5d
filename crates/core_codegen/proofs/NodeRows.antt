-- What code one node longer is, and what a node that holds lists of nodes is.
use Rattle.std.proofs.Common.{◌≡◌, Bool, List, [], ◌∷◌, ◌++◌, refl, sym, ap, ◌∙◌}
use Rattle.sl_ast.specs.declared.kinds.LightStmt.{LightStmt}
use Rattle.grid_code.specs.declared.code.Register.{Register}
use Rattle.grid_code.specs.declared.code.Node.{Node, Put, Differ, Sum, Texture, If, If', Loop, Loop', Lights, Lights', Break, Continue, Row_of-Node, end_of-Node, more_of-Node, items-the_row-Node}
use Rattle.grid_code.specs.declared.code.Node.TheBlock.{hidden-the_row-Node-0, items_hidden-the_row-Node-0}
use Rattle.grid_code.specs.Code as c
use Rattle.grid_code.specs.Code.{Block, ◌then◌}
use Rattle.grid_code.specs.View.{with_node, row_block, block_of}

with_node_then : (n : Node) (x y : Block) → with_node n x then y ≡ with_node n (x then y)
with_node_then (Put to source) x y = refl
with_node_then (Differ to d q) x y = refl
with_node_then (Sum to s qs) x y = refl
with_node_then (Texture to k qs) x y = refl
with_node_then (If' t k a m b) x y = refl
with_node_then (Loop' u k a t m s p b) x y = refl
with_node_then (Lights' w qs k b) x y = refl
with_node_then Break x y = refl
with_node_then Continue x y = refl

block_of-append : (xs ys : List Node) → block_of (xs ++ ys) ≡ block_of xs then block_of ys
block_of-append [] ys = refl
block_of-append (n ∷ xs) ys = ap (with_node n) (block_of-append xs ys) ∙ sym (with_node_then n (block_of xs) (block_of ys))

pub block_pushed : (xs ys : List Node) (n : Node) → ys ≡ xs ++ n ∷ [] → block_of ys ≡ block_of xs then with_node n c.end
block_pushed xs ys n h = ap block_of h ∙ block_of-append xs (n ∷ [])

row_block-items : (m : _) (k : Row_of-Node m) → row_block k ≡ block_of (items-the_row-Node m k)
row_block-items m end_of-Node = refl
row_block-items m (more_of-Node n rest) = ap (with_node n) (row_block-items _ rest)

held_block : (xs : List Node) → row_block (hidden-the_row-Node-0 xs) ≡ block_of xs
held_block xs = row_block-items _ (hidden-the_row-Node-0 xs) ∙ ap block_of (items_hidden-the_row-Node-0 xs)

module _ (xs ys : List Node) where
  pub branch_pushed : (t : Register) (a b : List Node) → ys ≡ xs ++ If t a b ∷ [] → block_of ys ≡ block_of xs then c.branch t (block_of a) (block_of b) c.end
  branch_pushed t a b h =
      block_pushed xs ys (If t a b) h ∙
      ap (λ x. block_of xs then c.branch t x (row_block (hidden-the_row-Node-0 b)) c.end) (held_block a) ∙
      ap (λ x. block_of xs then c.branch t (block_of a) x c.end) (held_block b)

  pub loop_pushed : (u : Bool) (d : List Node) (t : Register) (s b : List Node) → ys ≡ xs ++ Loop u d t s b ∷ [] →
      block_of ys ≡ block_of xs then c.loops u (block_of d) t (block_of s) (block_of b) c.end
  loop_pushed u d t s b h =
      block_pushed xs ys (Loop u d t s b) h ∙
      ap (λ x. block_of xs then c.loops u x t (row_block (hidden-the_row-Node-0 s)) (row_block (hidden-the_row-Node-0 b)) c.end) (held_block d) ∙
      ap (λ x. block_of xs then c.loops u (block_of d) t x (row_block (hidden-the_row-Node-0 b)) c.end) (held_block s) ∙
      ap (λ x. block_of xs then c.loops u (block_of d) t (block_of s) x c.end) (held_block b)

  pub lights_pushed : (w : LightStmt) (qs : List Register) (b : List Node) → ys ≡ xs ++ Lights w qs b ∷ [] → block_of ys ≡ block_of xs then c.lights w qs (block_of b) c.end
  lights_pushed w qs b h = block_pushed xs ys (Lights w qs b) h ∙ ap (λ x. block_of xs then c.lights w qs x c.end) (held_block b)

-- nodes that hold lists, and a node before others
pub branch_shown : (n : Node) (t : Register) (a b : List Node) → n ≡ If t a b → with_node n c.end ≡ c.branch t (block_of a) (block_of b) c.end
branch_shown n t a b h =
    ap (λ x. with_node x c.end) h ∙ ap (λ x. c.branch t x (row_block (hidden-the_row-Node-0 b)) c.end) (held_block a) ∙ ap (λ x. c.branch t (block_of a) x c.end) (held_block b)

pub loop_shown : (n : Node) (u : Bool) (d : List Node) (t : Register) (s b : List Node) → n ≡ Loop u d t s b → with_node n c.end ≡ c.loops u (block_of d) t (block_of s) (block_of b) c.end
loop_shown n u d t s b h =
    ap (λ x. with_node x c.end) h ∙ ap (λ x. c.loops u x t (row_block (hidden-the_row-Node-0 s)) (row_block (hidden-the_row-Node-0 b)) c.end) (held_block d) ∙
    ap (λ x. c.loops u (block_of d) t x (row_block (hidden-the_row-Node-0 b)) c.end) (held_block s) ∙ ap (λ x. c.loops u (block_of d) t (block_of s) x c.end) (held_block b)

pub lights_shown : (n : Node) (w : LightStmt) (qs : List Register) (b : List Node) → n ≡ Lights w qs b → with_node n c.end ≡ c.lights w qs (block_of b) c.end
lights_shown n w qs b h = ap (λ x. with_node x c.end) h ∙ ap (λ x. c.lights w qs x c.end) (held_block b)

pub node_before : (n : Node) (x : Block) → with_node n c.end then x ≡ with_node n x
node_before n x = with_node_then n c.end x
