use Rattle.std.proofs.Common.{◌≡◌, ℕ, List, subst, sym, slice_get, Some, All}
use Rattle.std.proofs.lemmas.List.Elements.{All-get_or}
use Rattle.std.proofs.lemmas.Option.{get_or_from_slice_get, slice_get_within}
use Rattle.scene.specs.Scene.{FrameValue}
use Rattle.shader_binding.specs.Sets.{SetValue}
use Rattle.shader_binding.specs.Bindings.{FitsPrim}
use Rattle.displace_shade.specs.Shop.{set_value}
use Rattle.render.proofs.Shopping.{shop_is}
use Rattle.shader_calls.proofs.shading.Texts.grid.Goals as goal

-- what holds of all items of a list holds of the one at a place
item_of : {X : Type 0} (P : X → Type 0) (xs : List X) (n : ℕ) (x : X) → All P xs → slice_get xs n ≡ Some x → P x
item_of P xs n x a e = subst P (get_or_from_slice_get xs n x x e) (All-get_or P xs n x (slice_get_within xs n x e) a)

-- src/shading.rt:62:12
pub shade-requires-clause-variables : goal.shade-requires-clause-variables
shade-requires-clause-variables c =
    let accepted = c.in-Ok.field-0 in
    let is = shop_is c.in_ok-shop.shop accepted.set c.as_slice-2.result.now accepted.textures c.in_ok-shop.ensures.set c.in_ok-shop.ensures.textures c.as_slice-2.ensures in
    λ f prim at at_prim. subst (λ (s : SetValue). FitsPrim s accepted.scene.uses prim) (sym is)
    (item_of (FitsPrim (set_value accepted.set accepted.textures) accepted.scene.uses) f.prims c.args.piece.now.prim prim
    (item_of (λ (g : FrameValue). All (FitsPrim (set_value accepted.set accepted.textures) accepted.scene.uses) g.prims) accepted.scene.frames 0 f c.in-Ok.ensures.fits.variables at) at_prim)
