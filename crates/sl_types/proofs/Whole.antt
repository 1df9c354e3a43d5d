-- The whole tree: its numbers, its extent, and the limits.
use Rattle.std.proofs.Common.{◌≡◌, ◌≤◌, ℕ, zero, suc, ◌+◌, max, nat_lt, true, false, ◌&&◌, List, [], ◌∷◌, length, refl, sym, ap, ap₂, ◌∙◌, arith}
use Rattle.std.proofs.lemmas.Bool.{ltb-true, and_parts}
use Rattle.sl_ast.specs.Syntax as U
use Rattle.sl_ast.specs.Typed as A
use Rattle.sl_expressions.specs.Typed.{stmts}
use Rattle.sl_typing.specs.Functions.{Param, Program}
use Rattle.sl_types.specs.Folds.{fold_stmts}
use Rattle.sl_types.specs.Extents.{counting, extent_params}
use Rattle.sl_types.specs.Sizes.{extent_program, fits}
use Rattle.sl_types.specs.Inline.{Built, extents_of, count, count_params, count_stmts, inline, inline_stmts, built_from, defaults_at, tree_of}
use Rattle.sl_types.specs.Checked.{is_within}
use Rattle.sl_types.proofs.Numbered.{AllSound, upto, node, join, numbered, numbered_stmts}
use Rattle.sl_types.proofs.Deep.{deep, deep_stmts, all_sound, extents_are}
use Rattle.sl_types.proofs.Counts.{counts}

numbered_defaults : (fs : List Built) → AllSound fs → (n : ℕ) (ps : List Param) → A.numbers_defaults (defaults_at fs n ps) ≡ upto n (count_params fs ps)
numbered_defaults fs all n [] = refl
numbered_defaults fs all n (p ∷ ps) =
    let e : 1 + (count fs p.value + count_params fs ps) ≡ 1 + count fs p.value + count_params fs ps = omega arith in
    node n (count fs p.value + count_params fs ps) _
    (join (n + 1) (count fs p.value) (count_params fs ps) (A.numbers (inline fs (n + 1) p.value)) (A.numbers_defaults (defaults_at fs (n + 1 + count fs p.value) ps))
    (numbered fs all (n + 1) p.value) (numbered_defaults fs all (n + 1 + count fs p.value) ps))
    ∙ ap (upto n) e

deep_defaults : (fs : List Built) → AllSound fs → (n : ℕ) (ps : List Param) → A.depth_defaults (defaults_at fs n ps) ≡ (extent_params (extents_of fs) ps).depth
deep_defaults fs all n [] = refl
deep_defaults fs all n (p ∷ ps) = ap₂ (λ x y. max (1 + x) y) (deep fs all (n + 1) p.value) (deep_defaults fs all (n + 1 + count fs p.value) ps)

abbrev pub by_default : Program → List Built
by_default p = built_from true [] p.known

abbrev pub in_body : Program → List Built
in_body p = built_from false [] p.known

pub tree_numbered : (s : U.Shader) (p : Program) → A.numbers_tree (tree_of s p) ≡ upto 0 (1 + (count_params (by_default p) p.params + count_stmts (in_body p) (stmts p.body)))
tree_numbered s p =
    node 0 (count_params (by_default p) p.params + count_stmts (in_body p) (stmts p.body)) _
    (join 1 (count_params (by_default p) p.params) (count_stmts (in_body p) (stmts p.body))
    (A.numbers_defaults (defaults_at (by_default p) 1 p.params)) (A.numbers_stmts (inline_stmts (in_body p) (1 + count_params (by_default p) p.params) (stmts p.body)))
    (numbered_defaults (by_default p) (all_sound true [] p.known tt) 1 p.params)
    (numbered_stmts (in_body p) (all_sound false [] p.known tt) (1 + count_params (by_default p) p.params) (stmts p.body)))

length_upto : (n m : ℕ) → length (upto n m) ≡ m
length_upto n zero = refl
length_upto n (suc m) = ap suc (length_upto (n + 1) m)

counted : (s : U.Shader) (p : Program) → length (A.numbers_tree (tree_of s p)) ≡ (extent_program p).nodes
counted s p =
    ap length (tree_numbered s p) ∙ length_upto 0 (1 + (count_params (by_default p) p.params + count_stmts (in_body p) (stmts p.body)))
    ∙ ap₂ (λ xs ys. 1 + ((extent_params xs p.params).nodes + (fold_stmts counting ys (stmts p.body)).nodes)) (extents_are true [] p.known) (extents_are false [] p.known)

depth_is : (s : U.Shader) (p : Program) → A.depth_tree (tree_of s p) ≡ (extent_program p).depth
depth_is s p =
    ap₂ (λ x y. 1 + max x y) (deep_defaults (by_default p) (all_sound true [] p.known tt) 1 p.params)
    (deep_stmts (in_body p) (all_sound false [] p.known tt) (1 + count_params (by_default p) p.params) (stmts p.body))
    ∙ ap₂ (λ xs ys. 1 + max (extent_params xs p.params).depth (fold_stmts counting ys (stmts p.body)).depth) (extents_are true [] p.known) (extents_are false [] p.known)

pub within_is : (s : U.Shader) (p : Program) → fits (extent_program p) ≡ is_within (tree_of s p)
within_is s p = sym (ap₂ (λ a b. nat_lt a 65537 && nat_lt b 257) (counted s p) (depth_is s p))

pub nodes_are : (s : U.Shader) (p : Program) → length (A.numbers_tree (tree_of s p)) ≡ 1 + (count_params (by_default p) p.params + count_stmts (in_body p) (stmts p.body))
nodes_are s p = ap length (tree_numbered s p) ∙ length_upto 0 (1 + (count_params (by_default p) p.params + count_stmts (in_body p) (stmts p.body)))

pub numbers_go_up : (s : U.Shader) (p : Program) → A.counts_up 0 (A.numbers_tree (tree_of s p)) ≡ true
numbers_go_up s p = ap (A.counts_up 0) (tree_numbered s p) ∙ counts 0 (1 + (count_params (by_default p) p.params + count_stmts (in_body p) (stmts p.body)))

pub few_nodes : (s : U.Shader) (p : Program) → is_within (tree_of s p) ≡ true → length (A.numbers_tree (tree_of s p)) ≤ 65536
few_nodes s p h =
    let low = ltb-true (length (A.numbers_tree (tree_of s p))) 65537 (and_parts (nat_lt (length (A.numbers_tree (tree_of s p))) 65537) (nat_lt (A.depth_tree (tree_of s p)) 257) h).0 in
    omega (arith, low)

pub shallow_tree : (s : U.Shader) (p : Program) → is_within (tree_of s p) ≡ true → A.depth_tree (tree_of s p) ≤ 256
shallow_tree s p h =
    let low = ltb-true (A.depth_tree (tree_of s p)) 257 (and_parts (nat_lt (length (A.numbers_tree (tree_of s p))) 65537) (nat_lt (A.depth_tree (tree_of s p)) 257) h).1 in
    omega (arith, low)

-- how many nodes the parameters and the body may have
pub parts_fit : (s : U.Shader) (p : Program) → is_within (tree_of s p) ≡ true → count_params (by_default p) p.params + count_stmts (in_body p) (stmts p.body) ≤ 65535
parts_fit s p h = omega (arith, few_nodes s p h, nodes_are s p)
