use Rattle.std.proofs.Common.{◌≡◌, List, sym, ap, ◌∙◌}
use Rattle.std.specs.Prelude.{Option, Some, option_map}
use Rattle.fixed_math.specs.declared.vec3.Vec3.{Vec3}
use Rattle.quadrics.specs.declared.any_patch.AnyPatch.{AnyPatch}
use Rattle.quadrics.specs.AnyPatches.{patch_point}
use Rattle.dice.specs.Grids.{diced_points}
use Rattle.scene.specs.Scene.{PrimValue}
use Rattle.grid_variables.specs.Points.{Leaf}
use Rattle.grid_variables.specs.Places.{point_count, over}
use Rattle.grid_variables.specs.Closings.{closing_at}
use Rattle.grid_variables.proofs.ClosingPlaces.{diced_long, closings_are}
use Rattle.grid_variables.proofs.closings.closing_in.Goals as goal

pub closing_places-requires-clause-before : goal.closing_places-requires-clause-before
closing_places-requires-clause-before c =
    let l = c.args.leaf.now in
    let k = c.in-Some.closing in
    let last = c.in_ok-last-in-Some.ensures ∙ ap (λ (m : Leaf). diced_points (patch_point k) m.part m.p m.q) c.leaf.view_is in
    diced_long l l.prim.patch c.args.before.now c.requires.before ∙ sym (diced_long l k c.in_ok-last-in-Some.last.now last)

pub closing_places-requires-clause-after : goal.closing_places-requires-clause-after
closing_places-requires-clause-after c =
    let k = c.in-Some.closing in
    let last = c.in_ok-last-in-Some.ensures ∙ ap (λ (m : Leaf). diced_points (patch_point k) m.part m.p m.q) c.leaf.view_is in
    c.requires.after ∙ sym (diced_long c.args.leaf.now k c.in_ok-last-in-Some.last.now last)

pub returns-in_ok-closing_places-in-Some : goal.returns-in_ok-closing_places-in-Some
returns-in_ok-closing_places-in-Some c =
    let l = c.args.leaf.now in
    let k = c.in-Some.closing in
    let last = c.in_ok-last-in-Some.ensures ∙ ap (λ (m : Leaf). diced_points (patch_point k) m.part m.p m.q) c.leaf.view_is in
    let there : Some k ≡ l.prim.closing = sym c.in-Some.is ∙ ap (λ (x : PrimValue). x.closing) c.prim.view_is ∙ ap (λ (m : Leaf). m.prim.closing) c.leaf.view_is in
    ap (λ (ps : List Vec3). Some ps) (c.in_ok-closing_places-in-Some.ensures ∙ closings_are l k c.in_ok-last-in-Some.last.now c.args.before.now c.args.after.now last c.requires.before)
    ∙ ap (λ (o : Option AnyPatch). option_map (λ last. over (point_count l) (closing_at l c.args.after.now last)) o) there
