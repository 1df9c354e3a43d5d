use Rattle.std.proofs.Common.{◌∙◌, ap, sym, Ok}
use Rattle.rib_reader.specs.Reading.{plain}
use Rattle.primitives.specs.Patches.{Made}
use Rattle.primitives.specs.Moving.{moving_patches_of}
use Rattle.scene_state.specs.State.{Stepped, patches_placed}
use Rattle.scene_state.specs.declared.state.State.{State}
use Rattle.scene_state.proofs.state.State.place_between.Goals as goal

abbrev done : State → Stepped
done s = Ok s

pub returns : goal.returns
returns c =
    let r = plain c.args.request.now in
    let s = c.args.self.now in
    let object = c.args.object in
    let last = plain c.args.last.request.now in
    let end = c.args.last.object.now in
    ap (λ n. patches_placed r object (moving_patches_of r s.attributes.bases object n last end c.args.shift) s) (sym c.room-room.ensures.room)
    ∙ ap (λ (made : Made). patches_placed r object made s) c.in_ok-patches.ensures.made
    ∙ ap done (sym c.in_ok-place_patches.ensures)
