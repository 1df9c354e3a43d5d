use Rattle.std.proofs.Common.{[], sym, subst}
use Rattle.scene.specs.declared.uses.ShaderKind.TheVariants as requested
use Rattle.displace_shade.specs.Diced.{Hold}
use Rattle.displace_shade.specs.Shaded.{shaded_by}
use Rattle.displace_shade.specs.Shop.{bound_value}
use Rattle.grid_variables.proofs.Results.{if_ok}
use Rattle.displace_shade.proofs.BoundLaws.{use_there, of_volume}
use Rattle.displace_shade.proofs.leaves.dimmed_by.Goals as goal

pub bound_at-bound-requires-clause-there : goal.bound_at-bound-requires-clause-there
bound_at-bound-requires-clause-there c = use_there c.args.shaders.now.uses.now requested.Volume c.args.n c.requires.serves.use_of

pub dim-requires-clause-on : goal.dim-requires-clause-on
dim-requires-clause-on c = record {
  runs = c.bound_at-bound.ensures.runs;
  variables = c.requires.serves.variables (bound_value c.bound_at-bound.result) c.bound_at-bound.ensures.found;
  kind = of_volume _ (c.bound_at-bound.ensures.kind requested.Volume c.requires.serves.use_of);
}

pub returns-clause-hold : goal.returns-clause-hold
returns-clause-hold c =
    if_ok c.dim.result _ _ (λ e h f k. subst (λ o. Hold c.args.leaf.now e (shaded_by c.args.leaf.now o [] f)) (sym c.bound_at-bound.ensures.found) (h f k)) c.dim.ensures.hold
