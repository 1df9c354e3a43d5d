use Rattle.std.proofs.Common.{◌≤◌, ◌∙◌, sym, subst, List, length}
use Rattle.std.specs.Prelude.{Ok}
use Rattle.primitives.specs.Variables.{variables_in}
use Rattle.primitives.specs.Patches.{PatchValue, patches_over}
use Rattle.primitives.proofs.Room.{few_quadric_made, few_over, others_have_points}
use Rattle.primitives.proofs.MovingRoom.{moved_few, moving_few}
use Rattle.primitives.proofs.motion.moving_patches_of.Goals as goal

pub returns-in-Some-clause-few : goal.returns-in-Some-clause-few
returns-in-Some-clause-few c =
    let first = c.in_ok-patches.patches in
    let few = few_quadric_made (Ok first) (variables_in c.args.request.now.params) c.in-Some.form c.args.object.now c.args.room c.in_ok-patches.ensures in
    subst (λ (l : List PatchValue). length l ≤ c.args.room) (sym c.in_ok-moved.ensures) (moved_few c.args.shift first c.as_slice.result.now c.args.room few)

pub placed_points-requires-2 : goal.placed_points-requires-2
placed_points-requires-2 c =
    let r = c.args.request.now in
    sym c.requires.alike ∙ others_have_points r.name r.args c.requires.primitive (sym c.form_of.ensures ∙ c.in_default.is)

pub returns-clause-few : goal.returns-clause-few
returns-clause-few c =
    let r = c.args.request.now in
    let vars = c.in_ok-variables.variables in
    moving_few c.moving_over.result r.name c.args.shift (patches_over r.name r.args c.args.bases vars c.args.room) c.as_slice-2.result.now c.as_slice-3.result.now c.args.room
    (few_over r.name r.args c.args.bases vars c.args.room) c.moving_over.ensures
