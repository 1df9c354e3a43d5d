use Rattle.std.proofs.Common.{ap, subst}
use Rattle.rib_reader.specs.Reading.{plain}
use Rattle.scene_state.specs.State.{primitive_under}
use Rattle.scene_state.specs.Answers.{Steps}
use Rattle.scene_state.proofs.state.State.place_still.Goals as goal

pub returns : goal.returns
returns c =
    let r = plain c.args.request.now in
    let s = c.args.self.now in
    subst (λ stepped. Steps c.place_under.result stepped c.place_under.new.self) (ap (λ m. primitive_under r m s) c.in_ok-object.ensures) c.place_under.ensures
