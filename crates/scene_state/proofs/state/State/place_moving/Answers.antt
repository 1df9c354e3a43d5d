use Rattle.std.proofs.Common.{◌∙◌, ap, subst, Ok}
use Rattle.rib_reader.specs.Reading.{plain}
use Rattle.scene_state.specs.State.{space_of, last_space_of, moving_under}
use Rattle.scene_state.specs.Answers.{Steps}
use Rattle.scene_state.proofs.state.State.place_moving.Goals as goal

pub returns : goal.returns
returns c =
    let r = plain c.args.request.now in
    let last = plain c.args.last.now in
    let s = c.args.self.now in
    let shift = c.shift-shift.result in
    subst (λ stepped. Steps c.place_between.result stepped c.place_between.new.self)
    (ap (λ m. moving_under r last shift m (Ok c.in_ok-end.end) s) c.in_ok-object.ensures
    ∙ ap (λ m. moving_under r last shift (space_of s) m s) c.in_ok-end.ensures
    ∙ ap (λ n. moving_under r last n (space_of s) (last_space_of s) s) c.shift-shift.ensures)
    c.place_between.ensures
