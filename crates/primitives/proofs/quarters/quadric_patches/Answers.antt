use Rattle.std.proofs.Common.{◌≡◌, ◌∙◌, ap, sym, subst, rules, true, false, nat_lt, ◌*◌, All}
use Rattle.quadrics.specs.declared.any_patch.AnyPatch.TheVariants.{Quadric}
use Rattle.mesh_basis.specs.Meshes.{all_from}
use Rattle.scene.specs.Seats.{names_of, AreDistinct, IsThere}
use Rattle.primitives.specs.Variables.{are_counted, quadric_extent, quadric_seat}
use Rattle.primitives.specs.Quadrics.{halves, patch_at}
use Rattle.primitives.specs.Spread.{spread}
use Rattle.primitives.specs.Patches.{all_seated, quadric_patches}
use Rattle.primitives.specs.Answers.{GivesMade}
use Rattle.primitives.proofs.Distinct.{variables_distinct}
use Rattle.primitives.proofs.Spreading.{quadric_there, quadric_is}
use Rattle.primitives.proofs.quarters.quadric_patches.Goals as goal

pub spread_variables-requires-clause-distinct : goal.spread_variables-requires-clause-distinct
spread_variables-requires-clause-distinct c =
    subst (λ ps. AreDistinct (names_of ps)) (sym (c.as_slice-params.ensures ∙ c.get.ensures ∙ c.in_ok-variables.ensures.value)) (variables_distinct c.args.request.now.params)

pub quadric_seated-requires : goal.quadric_seated-requires
quadric_seated-requires c =
    let form = c.args.form.now in
    let vars = c.in_ok-variables.variables in
    let params = c.as_slice-params.ensures ∙ c.get.ensures in
    let yes : c.are_counted.result ≡ true = search rules in
    let counted : are_counted quadric_extent vars ≡ true = sym (c.are_counted.ensures ∙ ap (are_counted quadric_extent) params) ∙ yes in
    let all = c.in_ok-spread.ensures ∙ ap (λ h. spread h c.as_slice-params.result.now) c.halves-halves.ensures.value ∙ ap (spread (halves form)) params in
    record { there = λ k l. subst (λ ps. All (IsThere (quadric_seat (halves form) k)) ps) (sym all) (quadric_there (halves form) k vars l c.in_ok-variables.ensures.kinds counted) }

pub returns : goal.returns
returns c =
    let form = c.args.form.now in
    let object = c.args.object.now in
    let vars = c.in_ok-variables.variables in
    let params = c.as_slice-params.ensures ∙ c.get.ensures in
    let yes : c.are_counted.result ≡ true = search rules in
    let counted : are_counted quadric_extent vars ≡ true = sym (c.are_counted.ensures ∙ ap (are_counted quadric_extent) params) ∙ yes in
    let fits : nat_lt c.args.room (4 * c.halves-halves.result) ≡ false = search rules in
    let few : nat_lt c.args.room (4 * halves form) ≡ false = subst (λ h. nat_lt c.args.room (4 * h) ≡ false) c.halves-halves.ensures.value fits in
    let all = c.in_ok-spread.ensures ∙ ap (λ h. spread h c.as_slice-params.result.now) c.halves-halves.ensures.value ∙ ap (spread (halves form)) params in
    let is = ap (λ vs. quadric_patches vs form object c.args.room) (sym c.in_ok-variables.ensures.value) ∙ quadric_is vars form object c.args.room counted few in
    subst (GivesMade c.quadric_seated.result)
    (ap (λ ps. all_seated Quadric ps (quadric_seat (halves form)) (all_from (patch_at object form) 0 (4 * halves form))) all ∙ sym is)
    c.quadric_seated.ensures
