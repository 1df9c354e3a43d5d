use Rattle.std.proofs.Common.{◌≡◌, ◌≤◌, ◌+◌, true, false, length, map, arith, ap, ap₂, sym, subst, ◌∙◌}
use Rattle.sl_ast.specs.ShaderView.{shader_of}
use Rattle.sl_ast.specs.Typed as A
use Rattle.sl_ast.specs.WellTyped.{well_typed}
use Rattle.sl_types.specs.Inline.{count_params, count_stmts, declared_of, defaults_at, inline_stmts, tree_of}
use Rattle.sl_types.specs.Placing.{functions}
use Rattle.sl_expressions.specs.Typed as T
use Rattle.sl_expressions.specs.TypedView.{tstmt_of}
use Rattle.sl_typing.specs.Views.{param_of, program_of}
use Rattle.sl_types.proofs.Assembled.{assembled}
use Rattle.sl_types.proofs.Whole.{numbers_go_up, nodes_are, shallow_tree, parts_fit}
use Rattle.sl_types.proofs.checking.tree.Goals as goal

pub defaults-requires : goal.defaults-requires
defaults-requires c =
    let s = shader_of c.args.shader.now in
    let p = program_of c.args.program.now in
    let e = ap₂ (λ k ps. count_params (functions true k) (map param_of ps)) c.as_slice-known.ensures.value c.as_slice-2.ensures.value in
    omega (arith, parts_fit s p c.requires.within, c.place-at.ensures.next, e)

pub stmts-requires : goal.stmts-requires
stmts-requires c =
    let s = shader_of c.args.shader.now in
    let p = program_of c.args.program.now in
    let e = ap₂ (λ k ps. count_params (functions true k) (map param_of ps)) c.as_slice-known.ensures.value c.as_slice-2.ensures.value in
    let f = ap₂ (λ k ss. count_stmts (functions false k) (T.stmts (map tstmt_of ss))) c.as_slice-known.ensures.value c.as_slice-3.ensures.value in
    omega (arith, parts_fit s p c.requires.within, c.place-at.ensures.next, c.in_ok-defaults.ensures.next, e, f)

pub invariant_of-result : goal.invariant_of-result
invariant_of-result c =
    let s = shader_of c.args.shader.now in
    let p = program_of c.args.program.now in
    let known = c.as_slice-known.ensures.value in
    let e = ap₂ (λ k ps. count_params (functions true k) (map param_of ps)) known c.as_slice-2.ensures.value in
    let f = ap₂ (λ k ss. count_stmts (functions false k) (T.stmts (map tstmt_of ss))) known c.as_slice-3.ensures.value in
    let params = c.in_ok-params.ensures ∙ ap (λ ps. map declared_of (map param_of ps)) c.as_slice.ensures.value in
    let defaults = c.in_ok-defaults.ensures.tree ∙ ap₂ (λ k ps. defaults_at (functions true k) c.place-at.new.next (map param_of ps)) known c.as_slice-2.ensures.value in
    let body = c.in_ok-body.ensures.tree ∙ ap₂ (λ k ss. inline_stmts (functions false k) c.defaults.new.next (T.stmts (map tstmt_of ss))) known c.as_slice-3.ensures.value in
    let next = c.in_ok-defaults.ensures.next ∙ ap (λ n. c.place-at.new.next + n) e in
    let w = assembled s p _ _ _ c.place-at.result c.place-at.new.next c.defaults.new.next c.place-at.ensures.place c.place-at.ensures.next params defaults next body in
    let n : c.stmts.new.next ≡ length (A.numbers_tree (tree_of s p)) = omega (arith, nodes_are s p, c.place-at.ensures.next, c.in_ok-defaults.ensures.next, c.in_ok-body.ensures.next, e, f) in
    record {
      numbered = ap (λ t. A.counts_up 0 (A.numbers_tree t)) w ∙ numbers_go_up s p;
      counted = n ∙ sym (ap (λ t. length (A.numbers_tree t)) w);
      few = omega (arith, n, nodes_are s p, parts_fit s p c.requires.within);
      shallow = subst (λ t. A.depth_tree t ≤ 256) (sym w) (shallow_tree s p c.requires.within);
      typed = ap well_typed w ∙ c.requires.typed;
    }

pub returns : goal.returns
returns c =
    let s = shader_of c.args.shader.now in
    let p = program_of c.args.program.now in
    let known = c.as_slice-known.ensures.value in
    let e = ap₂ (λ k ps. count_params (functions true k) (map param_of ps)) known c.as_slice-2.ensures.value in
    let params = c.in_ok-params.ensures ∙ ap (λ ps. map declared_of (map param_of ps)) c.as_slice.ensures.value in
    let defaults = c.in_ok-defaults.ensures.tree ∙ ap₂ (λ k ps. defaults_at (functions true k) c.place-at.new.next (map param_of ps)) known c.as_slice-2.ensures.value in
    let body = c.in_ok-body.ensures.tree ∙ ap₂ (λ k ss. inline_stmts (functions false k) c.defaults.new.next (T.stmts (map tstmt_of ss))) known c.as_slice-3.ensures.value in
    let next = c.in_ok-defaults.ensures.next ∙ ap (λ n. c.place-at.new.next + n) e in
    assembled s p _ _ _ c.place-at.result c.place-at.new.next c.defaults.new.next c.place-at.ensures.place c.place-at.ensures.next params defaults next body
