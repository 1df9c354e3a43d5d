-- The texts that a run of a block has still to gather.
use Rattle.std.proofs.Common.{◌≡◌, ℕ, ◌+◌, ◌<◌, ◌≤◌, List, [], ◌++◌, length, get_or, drop, Result, Ok, Err, OnOk, refl, sym, ap, ◌∙◌, arith, append_assoc, append-nil}
use Rattle.grid_code.specs.declared.code.Node.{Node, Put, Differ, Sum, Texture, If', Loop', Lights', Break, Continue}
use Rattle.grid_code.specs.Code.{end}
use Rattle.grid_code.specs.View.{with_node, block_of}
use Rattle.grid_code.specs.Code.{Block}
use Rattle.grid_code.specs.Texts.{texts_of_source, texts_in}
use Rattle.grid_code.proofs.Blocks.{block_size, next_node, none_left, node_size}

node_texts : (x : Node) (rest : Block) → texts_in (with_node x rest) ≡ texts_in (with_node x end) ++ texts_in rest
node_texts (Put to source) rest = sym (append_assoc (texts_of_source source) [] (texts_in rest))
node_texts (Differ to d q) rest = refl
node_texts (Sum to s qs) rest = refl
node_texts (Texture to k qs) rest = refl
node_texts (If' t k a m b) rest = search (append_assoc, append-nil)
node_texts (Loop' u k a t m s p b) rest = search (append_assoc, append-nil)
node_texts (Lights' w qs k b) rest = search (append_assoc, append-nil)
node_texts Break rest = refl
node_texts Continue rest = refl

pub record Gathering (block : List Node) (i : ℕ) (old now : List (List ℕ)) : Type 0 where
  pub texts : now ++ texts_in (block_of (drop i block)) ≡ old ++ texts_in (block_of block)
  pub small : block_size (block_of (drop i block)) ≤ block_size (block_of block)

pub gathering_init : (block : List Node) (old : List (List ℕ)) → Gathering block 0 old old
gathering_init block old = record { texts = refl; small = omega arith }

module _ (block : List Node) (i : ℕ) (old now : List (List ℕ)) (x : Node) (e : Gathering block i old now) (h : i < length block) (is : x ≡ get_or block i x) where
  pub gathering_small : block_size (with_node x end) ≤ block_size (block_of block)
  gathering_small = let q = ap block_size (next_node block i x h is) in let f = e.small in omega (arith, node_size x (block_of (drop (i + 1) block)))

  pub gathering_next : (new : List (List ℕ)) → new ≡ now ++ texts_in (with_node x end) → Gathering block (i + 1) old new
  gathering_next new st =
      let q = next_node block i x h is in
      let rest = block_of (drop (i + 1) block) in
      record {
        texts = ap (λ n. n ++ texts_in rest) st ∙ append_assoc now (texts_in (with_node x end)) (texts_in rest) ∙ ap (λ n. now ++ n) (sym (ap texts_in q ∙ node_texts x rest)) ∙ e.texts;
        small = let s = ap block_size q in let f = e.small in omega (arith, node_size x rest);
      }

pub gathering_end : (block : List Node) (i : ℕ) (old now : List (List ℕ)) → Gathering block i old now → i ≡ length block → now ≡ old ++ texts_in (block_of block)
gathering_end block i old now e h = sym (append-nil now) ∙ ap (λ b. now ++ texts_in (block_of b)) (sym (none_left block i h)) ∙ e.texts

-- what follows of what a call did
pub follows : {T E P Q : Type 0} (r : Result T E) → (P → Q) → OnOk r P → OnOk r Q
follows (Ok x) f h = f h
follows (Err e) f h = tt

pub one_gathered : (old t a : List (List ℕ)) → t ≡ old ++ a → t ≡ old ++ (a ++ [])
one_gathered old t a h = h ∙ ap (λ x. old ++ x) (sym (append-nil a))

pub two_gathered : (old t u a b : List (List ℕ)) → t ≡ old ++ a → u ≡ t ++ b → u ≡ old ++ (a ++ (b ++ []))
two_gathered old t u a b h g = one_gathered t u b g ∙ ap (λ x. x ++ (b ++ [])) h ∙ append_assoc old a (b ++ [])

pub three_gathered : (old t u s a b d : List (List ℕ)) → t ≡ old ++ a → u ≡ t ++ b → s ≡ u ++ d → s ≡ old ++ (a ++ (b ++ (d ++ [])))
three_gathered old t u s a b d h g k = two_gathered t u s b d g k ∙ ap (λ x. x ++ (b ++ (d ++ []))) h ∙ append_assoc old a (b ++ (d ++ []))
