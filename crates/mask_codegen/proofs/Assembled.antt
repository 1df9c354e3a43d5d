-- A code put together of the parts that a settled tree gives.
use Rattle.std.proofs.Common.{◌≡◌, ◌+◌, ◌*◌, ◌^◌, ◌<◌, ◌≤◌, true, false, List, ◌++◌, length, sym, ap, ◌∙◌, subst, arith}
use Rattle.std.specs.List.{list_all}
use Rattle.sl_ast.specs.Typed as T
use Rattle.sl_ast.specs.Typed.{numbers_tree, depth_tree}
use Rattle.sl_ast.specs.Registers.{rows_of}
use Rattle.sl_ast.specs.Settled.{IsSettled}
use Rattle.sl_ast.specs.WellTyped.{well_typed}
use Rattle.grid_code.specs.declared.code.Node.{Node}
use Rattle.grid_code.specs.declared.code.Register.{Register}
use Rattle.grid_code.specs.declared.register_set.RegisterSet.{RegisterSet}
use Rattle.grid_code.specs.declared.slot.Slot.{Slot}
use Rattle.grid_code.specs.Names.{first_free}
use Rattle.grid_code.specs.Uses.{has, rows_in, given_registers, within}
use Rattle.grid_code.specs.Valid.{is_placed, nesting}
use Rattle.grid_code.specs.View.{block_of}
use Rattle.sl_meaning.specs.Core.{Stmts}
use Rattle.sl_meaning.specs.Lowered.{slots, body_of}
use Rattle.mask_codegen.specs.Collected.{registers_of, IsSetOf}
use Rattle.core_codegen.specs.Compile.{shader_code}
use Rattle.core_codegen.specs.Correct.{Means, MeansTree}
use Rattle.core_codegen.specs.Fine.{GridAll, StaysAll}
use Rattle.core_codegen.specs.Room.{all_room}
use Rattle.core_codegen.specs.Slots.{slots_of}
use Rattle.mask_codegen.proofs.LoweredGrid.{body_settled}
use Rattle.mask_codegen.proofs.LoweredStays.{body_stays}
use Rattle.core_codegen.proofs.Slots.{length_slots}
use Rattle.mask_codegen.proofs.TreeMeans.{tree_means}
use Rattle.mask_codegen.proofs.TreeCode.{tree_fits, code_placed, code_shallow, code_given, code_named, code_few}

module _ (t : T.Tree) (typed : well_typed t ≡ true) (settled : IsSettled t) (ps : List Slot) (same : slots_of ps ≡ slots t.params) where
  -- the conditions of the emission, of lists that are those of the tree
  module _ (body : Stmts) (ss : List Slot) (b : body ≡ body_of t) (s : ss ≡ ps) where
    scope : slots_of ss ≡ slots t.params
    scope = ap slots_of s ∙ same

    pub emits_settled : GridAll body (slots_of ss)
    emits_settled = subst (λ x. GridAll x (slots_of ss)) (sym b) (subst (λ x. GridAll (body_of t) x) (sym scope) (body_settled t typed settled))

    pub emits_stays : StaysAll body
    emits_stays = subst StaysAll (sym b) (body_stays t typed)

    pub emits_fits : length (numbers_tree t) ≤ 65536 → first_free + length (slots_of ss) + all_room body < 2 ^ 32
    emits_fits few = let f = tree_fits t typed few in let k = ap length scope in let r = ap all_room b in omega arith

    pub params_fit : length (numbers_tree t) ≤ 65536 → first_free + length ss < 2 ^ 32
    params_fit few = let f = tree_fits t typed few in let k = ap length scope in let n = length_slots ss in omega arith

    pub code_is : (nodes : List Node) → block_of nodes ≡ shader_code body (slots_of ss) → block_of nodes ≡ shader_code (body_of t) (slots_of ps)
    code_is nodes h = h ∙ ap (λ x. shader_code x (slots_of ss)) b ∙ ap (λ x. shader_code (body_of t) (slots_of x)) s

    pub means_tree : (nodes : List Node) → Means body (slots_of ss) (block_of nodes) → MeansTree t (block_of nodes)
    means_tree nodes m = tree_means t (block_of nodes) typed (subst (λ x. Means x (slots t.params) (block_of nodes)) b (subst (λ x. Means body x (block_of nodes)) scope m))

  -- the invariant of the code
  module _ (nodes : List Node) (code : block_of nodes ≡ shader_code (body_of t) (slots_of ps)) where
    pub nodes_placed : is_placed t.kind false true (block_of nodes) ≡ true
    nodes_placed = subst (λ x. is_placed t.kind false true x ≡ true) (sym code) (code_placed t typed settled ps same)

    pub nodes_shallow : depth_tree t ≤ 256 → nesting (block_of nodes) ≤ 1024
    nodes_shallow h = subst (λ x. nesting x ≤ 1024) (sym code) (code_shallow t typed settled ps same h)

    module _ (seen : List Register) (are : seen ≡ given_registers t.kind ps ++ registers_of (block_of nodes)) (varying uniform : RegisterSet) (v0 : IsSetOf varying false seen) (u0 : IsSetOf uniform true seen) where
      all : seen ≡ given_registers t.kind ps ++ registers_of (shader_code (body_of t) (slots_of ps))
      all = are ∙ ap (λ x. given_registers t.kind ps ++ registers_of x) code

      pub sets_given : list_all (has varying uniform) (given_registers t.kind ps) ≡ true
      sets_given = code_given t typed settled ps same varying uniform (subst (IsSetOf varying false) all v0) (subst (IsSetOf uniform true) all u0)

      pub sets_named : within (has varying uniform) (block_of nodes) ≡ true
      sets_named = subst (λ x. within (has varying uniform) x ≡ true) (sym code) (code_named t typed settled ps same varying uniform (subst (IsSetOf varying false) all v0) (subst (IsSetOf uniform true) all u0))

      pub sets_few : rows_in varying ≤ 9 * rows_of t
      sets_few = code_few t typed settled ps same varying uniform (subst (IsSetOf varying false) all v0) (subst (IsSetOf uniform true) all u0)
