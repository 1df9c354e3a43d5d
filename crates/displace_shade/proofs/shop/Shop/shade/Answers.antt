use Rattle.std.proofs.Common.{◌≡◌, All, sym, ap, subst, ◌∙◌}
use Rattle.std.specs.Prelude.{Some, slice_get}
use Rattle.scene.specs.Scene.{HasUses}
use Rattle.displace_shade.specs.Shaded.{shaded}
use Rattle.shader_binding.specs.Bindings.{FitsPrim}
use Rattle.grid_variables.specs.Closings.{closing_of, places_in}
use Rattle.displace_shade.specs.Diced.{grid_value}
use Rattle.displace_shade.specs.Shop.{set_value, shop_set, leaf_of}
use Rattle.displace_shade.proofs.BoundLaws.{some_is}
use Rattle.displace_shade.proofs.shop.Shop.shade.Goals as goal

pub shaded_piece-shaded-requires-clause-variables : goal.shaded_piece-shaded-requires-clause-variables
shaded_piece-shaded-requires-clause-variables c =
    λ prim e. subst (λ ps. FitsPrim (set_value c.args.self.now.set ps) c.uses_of.result.now prim) (sym c.textures.ensures)
    (subst (λ us. FitsPrim (shop_set c.args.self.now) us prim) (sym c.uses_of.ensures) (c.requires.variables c.frame_at-frame.result.now prim c.frame_at-frame.ensures.frame e))

pub shaded_piece-shaded-requires-clause-prim : goal.shaded_piece-shaded-requires-clause-prim
shaded_piece-shaded-requires-clause-prim c = c.requires.prim c.frame_at-frame.result.now c.frame_at-frame.ensures.frame

pub shaded_piece-shaded-requires-clause-uses : goal.shaded_piece-shaded-requires-clause-uses
shaded_piece-shaded-requires-clause-uses c = subst (λ us. All (HasUses us) c.frame_at-frame.result.now.prims) (sym c.uses_of.ensures) c.frame_at-frame.ensures.uses

pub returns-clause-grid : goal.returns-clause-grid
returns-clause-grid c =
    let x = c.frame_at-frame.result.now in
    let s = shop_set c.args.self.now in
    λ f prim ef ep. subst (λ g. slice_get g.prims c.args.piece.now.prim ≡ Some prim → grid_value c.in_ok-grid.grid ≡ shaded (leaf_of g prim c.args.piece.now c.args.p c.args.q) s c.args.scene.now.uses) (some_is x f (sym c.frame_at-frame.ensures.frame ∙ ef))
    (λ e. c.in_ok-grid.ensures.grid prim e ∙ ap (λ ps. shaded (leaf_of x prim c.args.piece.now c.args.p c.args.q) (set_value c.args.self.now.set ps) c.uses_of.result.now) c.textures.ensures
    ∙ ap (λ us. shaded (leaf_of x prim c.args.piece.now c.args.p c.args.q) s us) c.uses_of.ensures) ep

pub returns-clause-closing : goal.returns-clause-closing
returns-clause-closing c =
    let x = c.frame_at-frame.result.now in
    λ f prim ef ep. subst (λ g. slice_get g.prims c.args.piece.now.prim ≡ Some prim → places_in c.in_ok-grid.grid.closing ≡ closing_of (leaf_of g prim c.args.piece.now c.args.p c.args.q) c.in_ok-grid.grid.p.now) (some_is x f (sym c.frame_at-frame.ensures.frame ∙ ef))
    (λ e. c.in_ok-grid.ensures.closing prim e) ep
