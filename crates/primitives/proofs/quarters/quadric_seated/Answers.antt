use Rattle.std.proofs.Common.{◌∙◌, ap, sym, subst, ◌*◌, ◌++◌, ◌<◌, ◌≤◌, [], ◌∷◌, None, All}
use Rattle.quadrics.specs.declared.any_patch.AnyPatch.TheVariants.{Quadric}
use Rattle.mesh_basis.specs.Meshes.{all_from}
use Rattle.scene.specs.declared.seat.Seat.{Seat}
use Rattle.scene.specs.Seats.{IsThere}
use Rattle.primitives.specs.Variables.{quadric_seat}
use Rattle.primitives.specs.Quadrics.{halves, patch_at}
use Rattle.primitives.specs.Patches.{PatchValue, patch_with}
use Rattle.primitives.proofs.Seating.{mesh_start, mesh_next, mesh_none, mesh_end}
use Rattle.primitives.proofs.quarters.quadric_seated.Goals as goal

pub returns-in_default : goal.returns-in_default
returns-in_default c =
    let n = 4 * halves c.args.form.now in
    let f = patch_at c.args.object.now c.args.form.now in
    let seats = quadric_seat (halves c.args.form.now) in
    let params = c.args.variables.now in
    let here = subst (λ h. c.loop-k.k < 4 * h) c.halves-halves.ensures.value c.loop-k-test.true in
    sym (mesh_start Quadric params seats (all_from f 0 n))
    ∙ mesh_none Quadric f params seats c.loop-k.k n c.loop-k.all.items _ here (sym c.patch_at.ensures ∙ c.in_default.is) c.loop-k.invariant

pub loop-k-preserved : goal.loop-k-preserved
loop-k-preserved c =
    let n = 4 * halves c.args.form.now in
    let f = patch_at c.args.object.now c.args.form.now in
    let seats = quadric_seat (halves c.args.form.now) in
    let params = c.args.variables.now in
    let p = c.in-Some.patch in
    let k = c.loop-k.k in
    let done = c.loop-k.all.items in
    let here = subst (λ h. c.loop-k.k < 4 * h) c.halves-halves.ensures.value c.loop-k-test.true in
    let seat = c.quadric_seat-seat.ensures.value ∙ ap (λ h. quadric_seat h k) c.halves-halves.ensures.value in
    mesh_next Quadric f params seats k n p done c.push.new.self.items _ here (sym c.patch_at.ensures ∙ c.in-Some.is)
    (c.in_ok-push.ensures.items ∙ ap (λ (x : PatchValue). done ++ x ∷ []) (c.in_ok-placed.ensures ∙ ap (λ (at : Seat). patch_with params None at (Quadric p)) seat))
    c.loop-k.invariant

pub returns : goal.returns
returns c =
    let n = 4 * halves c.args.form.now in
    let f = patch_at c.args.object.now c.args.form.now in
    let seats = quadric_seat (halves c.args.form.now) in
    let params = c.args.variables.now in
    let past = subst (λ h. 4 * h ≤ c.loop-k.k) c.halves-halves.ensures.value c.loop-k-test.false in
    sym (mesh_start Quadric params seats (all_from f 0 n))
    ∙ mesh_end Quadric f params seats c.loop-k.k n c.loop-k.all.items _ past c.loop-k.invariant

pub patch_with-requires-clause-there : goal.patch_with-requires-clause-there
patch_with-requires-clause-there c =
    let here = subst (λ h. c.loop-k.k < 4 * h) c.halves-halves.ensures.value c.loop-k-test.true in
    let seat = c.quadric_seat-seat.ensures.value ∙ ap (λ h. quadric_seat h c.loop-k.k) c.halves-halves.ensures.value in
    subst (λ at. All (IsThere at) c.args.variables.now) (sym seat) (c.requires.there c.loop-k.k here)
