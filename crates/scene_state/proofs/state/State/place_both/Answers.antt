use Rattle.std.proofs.Common.{◌≡◌, ◌∙◌, ap, sym, subst, rules, arith, true, is_some, Err, if◌then◌else◌}
use Rattle.std.proofs.lemmas.Grind.{common_steps}
use Rattle.rib_reader.specs.Reading.{plain}
use Rattle.scene_parts.specs.declared.code.StateCode.TheVariants.{N5, N6}
use Rattle.scene_state.specs.MotionBlocks.{are_alike}
use Rattle.scene_state.specs.State.{in_world, moving_set}
use Rattle.scene_state.specs.Answers.{Steps}
use Rattle.scene_state.proofs.state.State.place_both.Goals as goal

pub returns : goal.returns
returns c =
    let first = plain c.args.first.now in
    let last = plain c.args.last.now in
    let s = c.args.self.now in
    let alike : are_alike first last ≡ true = first_of (search rules, grind (arith, common_steps)) in
    let opens : is_some s.world ≡ true = first_of (search rules, grind (arith, common_steps)) in
    let placed = moving_set first last c.args.from c.args.to s in
    let same = ap (λ b. if b then in_world placed s else Err N6) alike ∙ ap (λ b. if b then placed else Err N5) opens in
    subst (λ stepped. Steps c.place_moving.result stepped c.place_moving.new.self) (sym same) c.place_moving.ensures
