use Rattle.std.proofs.Common.{ap, subst, ◌∙◌}
use Rattle.std.proofs.lemmas.Option.{get_or_from_slice_get}
use Rattle.scene.specs.Scene.{HasUses}
use Rattle.displace_shade.specs.Shaded.{shaded}
use Rattle.displace_shade.specs.Shop.{set_value}
use Rattle.grid_variables.specs.Points.{Leaf}
use Rattle.grid_variables.specs.Closings.{closing_of}
use Rattle.grid_variables.proofs.Results.{if_ok}
use Rattle.displace_shade.proofs.shop.shaded_piece.Goals as goal

pub shaded_leaf-requires-clause-serves : goal.shaded_leaf-requires-clause-serves
shaded_leaf-requires-clause-serves c =
    let x = c.leaf_at-leaf.result.prim in
    let there = c.leaf_at-leaf.ensures.prim in
    let n = c.args.piece.now.prim in
    record {
      fits = c.requires.fits;
      uses = subst (HasUses c.args.shaders.now.uses.now) (get_or_from_slice_get c.args.frame.now.prims n x x there) (c.requires.uses n x c.requires.prim);
      variables = c.requires.variables x there;
    }

pub returns-clause-grid : goal.returns-clause-grid
returns-clause-grid c = if_ok c.shaded_leaf.result _ _ (λ grid h prim e. h ∙ ap (λ l. shaded l (set_value c.args.shaders.now.set.now c.args.shaders.now.textures.now) c.args.shaders.now.uses.now) (c.leaf_at-leaf.ensures.leaf prim e)) c.shaded_leaf.ensures.grid

pub returns-clause-closing : goal.returns-clause-closing
returns-clause-closing c = if_ok c.shaded_leaf.result _ _ (λ grid h prim e. h ∙ ap (λ (l : Leaf). closing_of l grid.p.now) (c.leaf_at-leaf.ensures.leaf prim e)) c.shaded_leaf.ensures.closing
