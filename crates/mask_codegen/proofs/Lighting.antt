-- Whether a statement over lights stands in nodes, one node after another.
use Rattle.std.proofs.Common.{◌≡◌, ℕ, ◌+◌, ◌<◌, Bool, true, false, List, length, get_or, drop, refl, sym, ap, ◌∙◌}
use Rattle.std.specs.Prelude.{◌||◌}
use Rattle.grid_code.specs.declared.code.Register.{Register}
use Rattle.grid_code.specs.declared.code.Node.{Node, If, Loop}
use Rattle.grid_code.specs.Code as c
use Rattle.grid_code.specs.Valid.{has_light_statement}
use Rattle.grid_code.specs.View.{with_node, block_of}
use Rattle.grid_code.proofs.ValidThen.{lights_then}
use Rattle.core_codegen.proofs.NodeRows.{branch_shown, loop_shown, node_before}
use Rattle.core_codegen.proofs.ValueRegisters.{next_left}

or_false : (a : Bool) → (a || false) ≡ a
or_false true = refl
or_false false = refl

module _ (nodes : List Node) (i : ℕ) (n : Node) (lt : i < length nodes) (is : n ≡ get_or nodes i n) (b : Bool) (hb : b ≡ has_light_statement (with_node n c.end))
    (left : has_light_statement (block_of (drop i nodes)) ≡ has_light_statement (block_of nodes)) where
  next : has_light_statement (block_of nodes) ≡ b || has_light_statement (block_of (drop (i + 1) nodes))
  next =
      sym left ∙ ap (λ l. has_light_statement (block_of l)) (next_left nodes i n lt is) ∙ ap has_light_statement (sym (node_before n (block_of (drop (i + 1) nodes)))) ∙
      lights_then (with_node n c.end) (block_of (drop (i + 1) nodes)) ∙ ap (λ x. x || has_light_statement (block_of (drop (i + 1) nodes))) (sym hb)

  pub lit_found : b ≡ true → true ≡ has_light_statement (block_of nodes)
  lit_found h = sym (next ∙ ap (λ x. x || has_light_statement (block_of (drop (i + 1) nodes))) h)

  pub lit_on : b ≡ false → has_light_statement (block_of (drop (i + 1) nodes)) ≡ has_light_statement (block_of nodes)
  lit_on h = sym (next ∙ ap (λ x. x || has_light_statement (block_of (drop (i + 1) nodes))) h)

pub lit_branch : (n : Node) (t : Register) (a b la lb : List Node) (x y r : Bool) → n ≡ If t a b → la ≡ a → x ≡ has_light_statement (block_of la) → lb ≡ b → y ≡ has_light_statement (block_of lb) →
    r ≡ x || y → r ≡ has_light_statement (with_node n c.end)
lit_branch n t a b la lb x y r h ha hx hb hy hr =
    hr ∙ ap (λ k. k || y) (hx ∙ ap (λ l. has_light_statement (block_of l)) ha) ∙ ap (λ k. has_light_statement (block_of a) || k) (hy ∙ ap (λ l. has_light_statement (block_of l)) hb) ∙
    ap (λ k. has_light_statement (block_of a) || k) (sym (or_false (has_light_statement (block_of b)))) ∙ ap has_light_statement (sym (branch_shown n t a b h))

pub lit_loop : (n : Node) (u : Bool) (d : List Node) (t : Register) (e b ld le lb : List Node) (x y z w r : Bool) → n ≡ Loop u d t e b → ld ≡ d → x ≡ has_light_statement (block_of ld) → le ≡ e →
    y ≡ has_light_statement (block_of le) → lb ≡ b → z ≡ has_light_statement (block_of lb) → w ≡ y || z → r ≡ x || w → r ≡ has_light_statement (with_node n c.end)
lit_loop n u d t e b ld le lb x y z w r h hd hx he hy hb hz hw hr =
    let dd = has_light_statement (block_of d) in
    let ee = has_light_statement (block_of e) in
    hr ∙ ap (λ k. x || k) hw ∙ ap (λ k. k || (y || z)) (hx ∙ ap (λ l. has_light_statement (block_of l)) hd) ∙ ap (λ k. dd || (k || z)) (hy ∙ ap (λ l. has_light_statement (block_of l)) he) ∙
    ap (λ k. dd || (ee || k)) (hz ∙ ap (λ l. has_light_statement (block_of l)) hb ∙ sym (or_false (has_light_statement (block_of b)))) ∙
    ap has_light_statement (sym (loop_shown n u d t e b h))
