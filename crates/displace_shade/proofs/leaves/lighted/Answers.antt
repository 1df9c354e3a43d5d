use Rattle.std.proofs.Common.{◌≡◌, ◌<◌, length, map, sym, ap, subst, ◌∙◌}
use Rattle.std.specs.Prelude.{Some}
use Rattle.scene.specs.declared.uses.ShaderKind.TheVariants as requested
use Rattle.grid_variables.proofs.Results.{if_ok}
use Rattle.grid_code.specs.declared.shader_code.Code.{Code}
use Rattle.grid_code.specs.View.{block_of}
use Rattle.displace_shade.specs.Diced.{Hold}
use Rattle.displace_shade.specs.Shaded.{shaded_by, lights_from}
use Rattle.shader_binding.specs.Sets.{bound_at}
use Rattle.displace_shade.specs.Lamps.{lamp_light}
use Rattle.displace_shade.specs.Shop.{bound_value}
use Rattle.displace_shade.specs.Stages.{set_in, uses_in}
use Rattle.displace_shade.specs.Unlit.{asks_lights}
use Rattle.displace_shade.proofs.BoundLaws.{use_there}
use Rattle.displace_shade.proofs.Surfaces.{surface_on}
use Rattle.displace_shade.proofs.leaves.lighted.Goals as goal

pub bound_at-bound-requires-clause-there : goal.bound_at-bound-requires-clause-there
bound_at-bound-requires-clause-there c =
    let uses = c.args.shaders.now.uses.now in
    subst (λ n. n < length uses) (sym c.surface.ensures) (use_there uses requested.Surface c.args.leaf.now.prim.surface c.requires.serves.uses.surface)

pub lamps_of-requires-clause-use_of : goal.lamps_of-requires-clause-use_of
lamps_of-requires-clause-use_of c = c.requires.serves.uses.lights

pub colour-requires-clause-on : goal.colour-requires-clause-on
colour-requires-clause-on c =
    let b = c.bound_at-bound.ensures in
    surface_on c.args.shaders.now c.args.leaf.now c.bound_at-bound.result c.surface.result c.surface.ensures c.requires.serves b.found b.runs b.kind

pub colour-requires-2-clause-on : goal.colour-requires-2-clause-on
colour-requires-2-clause-on c =
    let b = c.bound_at-bound.ensures in
    surface_on c.args.shaders.now c.args.leaf.now c.bound_at-bound.result c.surface.result c.surface.ensures c.requires.serves b.found b.runs b.kind

pub returns-then-asks_lights-clause-hold : goal.returns-then-asks_lights-clause-hold
returns-then-asks_lights-clause-hold c =
    let l = c.args.leaf.now in
    let s = set_in c.args.shaders.now in
    let uses = uses_in c.args.shaders.now in
    let found : bound_at s uses l.prim.surface ≡ Some (bound_value c.bound_at-bound.result) = ap (bound_at s uses) (sym c.surface.ensures) ∙ c.bound_at-bound.ensures.found in
    let lamps = ap (map (lamp_light l)) c.deref.ensures.value ∙ c.in_ok-lamps.ensures.lights in
    if_ok c.colour.result _ _
    (λ e h f k. subst (λ ls. Hold l e (shaded_by l (bound_at s uses l.prim.surface) ls f)) lamps
    (subst (λ o. Hold l e (shaded_by l o (map (lamp_light l) c.deref.result.now) f)) (sym found) (h f k)))
    c.colour.ensures.hold

pub returns-clause-hold : goal.returns-clause-hold
returns-clause-hold c =
    let l = c.args.leaf.now in
    let s = set_in c.args.shaders.now in
    let uses = uses_in c.args.shaders.now in
    let found : bound_at s uses l.prim.surface ≡ Some (bound_value c.bound_at-bound.result) = ap (bound_at s uses) (sym c.surface.ensures) ∙ c.bound_at-bound.ensures.found in
    let nodes = c.as_slice.ensures ∙ ap (λ (k : Code). k.nodes) c.code-code.ensures.code in
    let none = sym (ap (λ ns. asks_lights (block_of ns)) nodes) ∙ sym c.asks_lights.ensures ∙ c.if-asks_lights.false in
    let lights = lights_from l s uses l.prim.lights in
    if_ok c.colour-2.result _ _ (λ e h f k. subst (λ o. Hold l e (shaded_by l o lights f)) (sym found) (h none lights f k)) c.colour-2.ensures.unlit
