use Rattle.std.proofs.Common.{◌≡◌, ◌∙◌, ap, sym, subst, rules, arith, true, is_some, Err, if◌then◌else◌}
use Rattle.std.proofs.lemmas.Grind.{common_steps}
use Rattle.moving_maps.specs.Motion.{joined}
use Rattle.moving_maps.specs.declared.times.Times.TheVariants.{Between}
use Rattle.rib_reader.specs.Reading.{plain}
use Rattle.scene_parts.specs.declared.code.StateCode.TheVariants.{N5}
use Rattle.scene_state.specs.State.{times_of, first_by}
use Rattle.scene_state.specs.Answers.{Steps}
use Rattle.scene_state.proofs.state.State.look_at_first.Goals as goal

pub returns : goal.returns
returns c =
    let r = plain c.args.request.now in
    let s = c.args.self.now in
    let block = Between c.args.from c.args.to in
    let opens : is_some s.world ≡ true = first_of (search rules, grind (arith, common_steps)) in
    let same =
    ap (λ b. if b then first_by (joined (times_of s) block) r s else Err N5) opens
    ∙ ap (λ t. first_by (joined t block) r s) (sym c.times.ensures) ∙ ap (λ t. first_by t r s) (sym c.joined-times.ensures) in
    subst (λ stepped. Steps c.look_at_by.result stepped s) (sym same) c.look_at_by.ensures
