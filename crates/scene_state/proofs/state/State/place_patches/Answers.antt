use Rattle.std.proofs.Common.{◌∙◌, ap, sym, subst, arith, ◌<◌, ◌++◌, List, length}
use Rattle.std.proofs.lemmas.Grind.{common_steps}
use Rattle.rib_reader.specs.Reading.{plain}
use Rattle.scene.specs.Scene.{PrimValue}
use Rattle.std.specs.Option.{option_map}
use Rattle.scene_parts.specs.Lights.{made_before}
use Rattle.scene_state.specs.Unnamed.{SomeAreAt, unnamed}
use Rattle.scene_state.proofs.Wearing.{patches_are}
use Rattle.scene_state.proofs.state.State.place_patches.Goals as goal

pub returns : goal.returns
returns c =
    let s = c.args.self.now in
    let many = c.len.ensures in
    let some : 0 < length c.args.patches = first_of (omega arith, grind (arith, common_steps)) in
    patches_are (plain c.args.request.now) c.args.object c.args.patches s (c.wear.new.self, c.in_ok-worn.worn) c.add.new.self some c.in_ok-worn.ensures
    (c.in_ok-add.ensures ∙ ap (λ (prims : List PrimValue). s.prims ++ prims) c.in_ok-prims.ensures)

pub wear-requires : goal.wear-requires
wear-requires c =
    let s = c.args.self.now in
    let slots = s.shaders.slots in
    subst (λ o. SomeAreAt slots (made_before o s.attributes.lights) (option_map (λ l. l.now) c.last_lights-last.result)) (sym c.first_named-first.ensures)
    (subst (SomeAreAt slots (unnamed s)) (sym c.last_lights-last.ensures) c.requires.lights)
