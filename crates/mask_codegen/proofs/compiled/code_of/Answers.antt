use Rattle.std.proofs.Common.{arith, refl, ◌≡◌, ◌++◌, ◌∙◌, ap, subst, map, true, false}
use Rattle.sl_ast.specs.TypedView.{local_of}
use Rattle.sl_ast.specs.TreeView.{tree_of}
use Rattle.grid_code.specs.Uses.{given_registers, is_one_of, looks_within}
use Rattle.grid_code.specs.Valid.{has_light_statement, is_ambient}
use Rattle.grid_code.specs.View.{block_of}
use Rattle.sl_meaning.specs.CoreView.{stmts_of}
use Rattle.sl_meaning.specs.Lowered.{slots, body_of}
use Rattle.mask_codegen.specs.Collected.{registers_of, IsSetOf}
use Rattle.core_codegen.specs.Compile.{shader_code}
use Rattle.core_codegen.specs.Slots.{slots_of}
use Rattle.mask_codegen.proofs.CoreLights.{shader_code_lights}
use Rattle.mask_codegen.proofs.Looking.{code_looks}
use Rattle.mask_codegen.proofs.Assembled.{emits_settled, emits_stays, emits_fits, params_fit, code_is, means_tree, nodes_placed, nodes_shallow, sets_given, sets_named, sets_few}
use Rattle.mask_codegen.proofs.compiled.code_of.Goals as goal

pub emit-requires-clause-settled : goal.emit-requires-clause-settled
emit-requires-clause-settled c =
    emits_settled (tree_of c.args.tree.now) c.args.tree.now.typed c.requires.settled c.in_ok-params.params.items (c.in_ok-params.ensures ∙ ap (λ l. slots (map local_of l)) c.as_slice.ensures)
    (stmts_of c.deref.result.now) c.deref-2.result.now (ap stmts_of c.deref.ensures.value ∙ c.in_ok-body.ensures) c.deref-2.ensures.value

pub emit-requires-clause-stays : goal.emit-requires-clause-stays
emit-requires-clause-stays c =
    emits_stays (tree_of c.args.tree.now) c.args.tree.now.typed c.requires.settled c.in_ok-params.params.items (c.in_ok-params.ensures ∙ ap (λ l. slots (map local_of l)) c.as_slice.ensures)
    (stmts_of c.deref.result.now) c.deref-2.result.now (ap stmts_of c.deref.ensures.value ∙ c.in_ok-body.ensures) c.deref-2.ensures.value

pub emit-requires-clause-fits : goal.emit-requires-clause-fits
emit-requires-clause-fits c =
    let counted = c.args.tree.now.counted in
    let few = c.args.tree.now.few in
    emits_fits (tree_of c.args.tree.now) c.args.tree.now.typed c.requires.settled c.in_ok-params.params.items (c.in_ok-params.ensures ∙ ap (λ l. slots (map local_of l)) c.as_slice.ensures)
    (stmts_of c.deref.result.now) c.deref-2.result.now (ap stmts_of c.deref.ensures.value ∙ c.in_ok-body.ensures) c.deref-2.ensures.value (omega arith)

pub given_registers-requires : goal.given_registers-requires
given_registers-requires c =
    let counted = c.args.tree.now.counted in
    let few = c.args.tree.now.few in
    record {
      fits =
          params_fit (tree_of c.args.tree.now) c.args.tree.now.typed c.requires.settled c.in_ok-params.params.items (c.in_ok-params.ensures ∙ ap (λ l. slots (map local_of l)) c.as_slice.ensures)
          (stmts_of c.deref.result.now) c.deref-3.result.now (ap stmts_of c.deref.ensures.value ∙ c.in_ok-body.ensures) c.deref-3.ensures.value (omega arith);
    }

pub invariant_of-result : goal.invariant_of-result
invariant_of-result c =
    let t = tree_of c.args.tree.now in
    let typed = c.args.tree.now.typed in
    let settled = c.requires.settled in
    let ps = c.in_ok-params.params.items in
    let nodes = c.in_ok-nodes.nodes.items in
    let same = c.in_ok-params.ensures ∙ ap (λ l. slots (map local_of l)) c.as_slice.ensures in
    let code = code_is t typed settled ps same (stmts_of c.deref.result.now) c.deref-2.result.now (ap stmts_of c.deref.ensures.value ∙ c.in_ok-body.ensures) c.deref-2.ensures.value nodes c.in_ok-nodes.ensures.code in
    let seen = c.name_all.new.seen.items in
    let are : seen ≡ given_registers t.kind ps ++ registers_of (block_of nodes) =
    c.in_ok-name_all.ensures ∙ ap (λ l. c.in_ok-seen.seen.items ++ registers_of (block_of l)) c.deref-4.ensures.value ∙
    ap (λ l. l ++ registers_of (block_of nodes)) (c.in_ok-seen.ensures ∙ ap (given_registers t.kind) c.deref-3.ensures.value) in
    let v = subst (IsSetOf c.in_ok-varying.varying false) c.deref-5.ensures.value c.in_ok-varying.ensures in
    let u = subst (IsSetOf c.in_ok-uniform.uniform true) c.deref-6.ensures.value c.in_ok-uniform.ensures in
    let few = sets_few t typed settled ps same nodes code seen are c.in_ok-varying.varying c.in_ok-uniform.uniform v u in
    let rows = c.requires.few in
    record {
      given = sets_given t typed settled ps same nodes code seen are c.in_ok-varying.varying c.in_ok-uniform.uniform v u;
      named = sets_named t typed settled ps same nodes code seen are c.in_ok-varying.varying c.in_ok-uniform.uniform v u;
      placed = nodes_placed t typed settled ps same nodes code;
      shallow = nodes_shallow t typed settled ps same nodes code c.args.tree.now.shallow;
      few = omega arith;
      lit = c.is_ambient-ambient.ensures ∙ ap (λ l. is_ambient t.kind (block_of l)) c.deref-7.ensures.value;
      looked = ap (λ ns. looks_within (is_one_of ns) (block_of nodes)) c.in_ok-look_ups.ensures ∙ code_looks t (slots_of ps) (block_of nodes) typed code;
    }

pub returns : goal.returns
returns c =
    let t = tree_of c.args.tree.now in
    let typed = c.args.tree.now.typed in
    let settled = c.requires.settled in
    let ps = c.in_ok-params.params.items in
    let nodes = c.in_ok-nodes.nodes.items in
    let same = c.in_ok-params.ensures ∙ ap (λ l. slots (map local_of l)) c.as_slice.ensures in
    let code = code_is t typed settled ps same (stmts_of c.deref.result.now) c.deref-2.result.now (ap stmts_of c.deref.ensures.value ∙ c.in_ok-body.ensures) c.deref-2.ensures.value nodes c.in_ok-nodes.ensures.code in
    let seen = c.name_all.new.seen.items in
    let are : seen ≡ given_registers t.kind ps ++ registers_of (block_of nodes) =
    c.in_ok-name_all.ensures ∙ ap (λ l. c.in_ok-seen.seen.items ++ registers_of (block_of l)) c.deref-4.ensures.value ∙
    ap (λ l. l ++ registers_of (block_of nodes)) (c.in_ok-seen.ensures ∙ ap (given_registers t.kind) c.deref-3.ensures.value) in
    let v = subst (IsSetOf c.in_ok-varying.varying false) c.deref-5.ensures.value c.in_ok-varying.ensures in
    let u = subst (IsSetOf c.in_ok-uniform.uniform true) c.deref-6.ensures.value c.in_ok-uniform.ensures in
    let few = sets_few t typed settled ps same nodes code seen are c.in_ok-varying.varying c.in_ok-uniform.uniform v u in
    record {
      kind = refl;
      params = same;
      text = code ∙ ap (shader_code (body_of t)) same;
      means = means_tree t typed settled ps same (stmts_of c.deref.result.now) c.deref-2.result.now (ap stmts_of c.deref.ensures.value ∙ c.in_ok-body.ensures) c.deref-2.ensures.value nodes c.in_ok-nodes.ensures.means;
      settled = settled;
      lights = ap has_light_statement code ∙ shader_code_lights (body_of t) (slots_of ps);
      rows = omega arith;
      look_ups = c.in_ok-look_ups.ensures;
    }
