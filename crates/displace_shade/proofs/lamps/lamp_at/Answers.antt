use Rattle.std.proofs.Common.{refl, ◌∙◌}
use Rattle.scene.specs.declared.uses.ShaderKind.TheVariants as requested
use Rattle.displace_shade.specs.Shop.{bound_value}
use Rattle.displace_shade.proofs.BoundLaws.{of_light}
use Rattle.displace_shade.proofs.lamps.lamp_at.Goals as goal

pub returns-clause-light : goal.returns-clause-light
returns-clause-light c = record {
  runs = c.bound_at-shader.ensures.runs;
  kind = of_light _ (c.bound_at-shader.ensures.kind requested.Light c.requires.use_of);
  spaces = c.in_ok-spaces.ensures ∙ c.light_spaces.ensures (bound_value c.bound_at-shader.result) refl;
}
