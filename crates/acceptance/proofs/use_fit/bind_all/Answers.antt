use Rattle.std.proofs.Common.{◌≡◌, ℕ, List, length, map, get_or, ap, ◌∙◌, sym, subst, Err, All, arith, rules}
use Rattle.std.proofs.lemmas.Result.{err_from_is_err_and}
use Rattle.acceptance.specs.UseFit.{uses_refused}
use Rattle.std.specs.Prelude.{slice_get}
use Rattle.shader_binding.specs.Sets.{FitsUse}
use Rattle.acceptance.specs.declared.read.ReadShader.{ReadShader}
use Rattle.acceptance.specs.Reading.{IsReadOf, name_of, tree_read, values_at}
use Rattle.acceptance.specs.Answers.{Clears}
use Rattle.acceptance.proofs.Bound.{bound_next, unbound_next, place_of_use}
use Rattle.acceptance.proofs.BoundUses.{all_next, fit_next, all_done, fit_done}
use Rattle.acceptance.proofs.Places.{as_many}
use Rattle.acceptance.proofs.use_fit.bind_all.Goals as goal

pub bind_at-requires-clause-place : goal.bind_at-requires-clause-place
bind_at-requires-clause-place c =
    place_of_use c.args.uses.now c.args.shaders.now c.as_slice-read.result.now c.as_slice-of_use.result.now c.loop-index.index c.index-uses-index.result
    c.requires c.as_slice-read.ensures c.as_slice-of_use.ensures c.loop-index-test.true c.index-uses-index.is

pub returns-in_err-bound-clause-clears : goal.returns-in_err-bound-clause-clears
returns-in_err-bound-clause-clears c = λ files all.
    let p = err_from_is_err_and c.from_residual-in_err-bound.result c.from_residual-in_err-bound.ensures.1 in
    let total = uses_refused files c.args.uses.now in
    subst (λ r. Clears r total) (sym (p.1 ∙ ap (λ s. Err s) p.2))
    (unbound_next files c.args.uses.now c.loop-index.index c.index-uses-index.result total c.in_err-bound.field-0.0 c.loop-index-test.true c.index-uses-index.is
    (c.in_err-bound.ensures.clears files (subst (λ rs. All (IsReadOf files) rs) (sym c.as_slice-read.ensures) all)) (c.loop-index.invariant.so_far files all))

pub loop-index-preserved : goal.loop-index-preserved
loop-index-preserved c =
    let many : length c.args.shaders.now.of_use ≡ length c.args.uses.now = as_many (map name_of c.args.shaders.now.read) c.args.shaders.now.of_use c.args.uses.now c.requires in
    let u = c.index-uses-index.result in
    let n : ℕ = get_or c.as_slice-of_use.result.now c.loop-index.index 0 in
    let at : n ≡ get_or c.args.shaders.now.of_use c.loop-index.index 0 = ap (λ (ps : List ℕ). get_or ps c.loop-index.index 0) c.as_slice-of_use.ensures in
    let here = c.in_ok-bound.ensures.binds.values ∙ ap (λ (rs : List ReadShader). values_at rs u n) c.as_slice-read.ensures in
    let fits = subst (λ (rs : List ReadShader). FitsUse u c.in_ok-bound.bound (slice_get (map tree_read rs) n)) c.as_slice-read.ensures c.in_ok-bound.ensures.binds.fits in
    record {
      so_far = λ files all.
          bound_next files c.args.uses.now c.loop-index.index u (uses_refused files c.args.uses.now) c.loop-index-test.true c.index-uses-index.is
          (c.in_ok-bound.ensures.clears files (subst (λ rs. All (IsReadOf files) rs) (sym c.as_slice-read.ensures) all)) (c.loop-index.invariant.so_far files all);
      values = all_next c.args.shaders.now.read c.args.uses.now c.args.shaders.now.of_use c.loop-index.index u n c.loop-index.values.items c.push.new.self.items c.in_ok-bound.bound
          many c.loop-index-test.true c.index-uses-index.is at c.loop-index.invariant.values here c.in_ok-push.ensures.items;
      fit = fit_next (map tree_read c.args.shaders.now.read) c.args.uses.now c.args.shaders.now.of_use c.loop-index.index u n c.loop-index.values.items c.push.new.self.items c.in_ok-bound.bound
          many c.loop-index-test.true c.index-uses-index.is at c.loop-index.invariant.fit fits c.in_ok-push.ensures.items;
    }

pub returns-clause-binds : goal.returns-clause-binds
returns-clause-binds c =
    let many = as_many (map name_of c.args.shaders.now.read) c.args.shaders.now.of_use c.args.uses.now c.requires in
    record {
      values = all_done c.args.shaders.now.read c.args.uses.now c.args.shaders.now.of_use c.loop-index.index _ many (omega (arith, c.loop-index-test.false)) c.loop-index.invariant.values;
      fit = fit_done (map tree_read c.args.shaders.now.read) c.args.uses.now c.args.shaders.now.of_use c.loop-index.index _ many (omega (arith, c.loop-index-test.false)) c.loop-index.invariant.fit;
      alone = search rules;
    }
