use Rattle.std.proofs.Common.{◌≡◌, ◌∙◌, ap, sym, subst, rules, arith, true, is_some, Err, if◌then◌else◌}
use Rattle.std.proofs.lemmas.Grind.{common_steps}
use Rattle.rib_reader.specs.Reading.{plain}
use Rattle.scene_parts.specs.declared.code.StateCode.TheVariants.{N5}
use Rattle.scene_state.specs.State.{times_of, primitive_by}
use Rattle.scene_state.specs.Answers.{Steps}
use Rattle.scene_state.proofs.state.State.place_primitive.Goals as goal

pub returns : goal.returns
returns c =
    let r = plain c.args.request.now in
    let s = c.args.self.now in
    let opens : is_some s.world ≡ true = first_of (search rules, grind (arith, common_steps)) in
    let same = ap (λ b. if b then primitive_by (times_of s) r s else Err N5) opens ∙ ap (λ t. primitive_by t r s) (sym c.times-times.ensures) in
    subst (λ stepped. Steps c.place_by.result stepped c.place_by.new.self) (sym same) c.place_by.ensures
