use Rattle.std.specs.Option.{option_map}
use Rattle.scene_parts.specs.Lights.{made_before}
use Rattle.scene_state.proofs.Wearing.{worn_is}
use Rattle.scene_state.proofs.UnnamedLights.{some_are_stay, worn_stay}
use Rattle.scene_state.proofs.shaders.Shaders.wear.Goals as goal

pub place_lights-requires : goal.place_lights-requires
place_lights-requires c =
    let s = c.args.self.now in
    let a = c.args.attributes.now in
    some_are_stay s.slots c.place_some-2.new.self.slots
    (worn_stay s a (c.place_some.new.self, c.in_ok-displacement.displacement) (c.place.new.self, c.in_ok-surface.surface) (c.place_some-2.new.self, c.in_ok-atmosphere.atmosphere)
    c.in_ok-displacement.ensures c.in_ok-surface.ensures c.in_ok-atmosphere.ensures)
    (made_before c.args.first a.lights) (option_map (λ l. l.now) c.args.last) c.requires

pub returns : goal.returns
returns c =
    let behind = c.place_some-2.new.self in
    worn_is c.args.self.now c.args.attributes.now (c.place_some.new.self, c.in_ok-displacement.displacement) (c.place.new.self, c.in_ok-surface.surface)
    (behind, c.in_ok-atmosphere.atmosphere) (c.place_lights.new.self, c.in_ok-lights.lights)
    c.in_ok-displacement.ensures c.in_ok-surface.ensures c.in_ok-atmosphere.ensures c.in_ok-lights.ensures
