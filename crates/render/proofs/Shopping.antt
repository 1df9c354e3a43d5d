-- The set of a shop that is made of an accepted scene's shaders and textures.
use Rattle.std.proofs.Common.{◌≡◌, ◌-◌, ℕ, List, Some, All, ap, ◌∙◌, subst, arith}
use Rattle.std.specs.Prelude.{slice_get}
use Rattle.std.proofs.lemmas.List.Elements.{All-get_or}
use Rattle.std.proofs.lemmas.Option.{slice_get_within, get_or_from_slice_get}
use Rattle.scene.specs.Scene.{FrameValue, SceneValue}
use Rattle.shader_binding.specs.Bindings.{FitsPrim}
use Rattle.shader_binding.specs.Sets.{SetValue}
use Rattle.acceptance.specs.PrimFit.{FitsScene}
use Rattle.command_line.specs.declared.command.RunOptions.{RunOptions}
use Rattle.buckets.specs.declared.limits.Limits.{Limits}
use Rattle.buckets.specs.declared.limits.Report.{Report}
use Rattle.buckets.specs.Progress.{Done, drawing_of}
use Rattle.render.specs.Summary.{limits_of, work_of}
use Rattle.texture.specs.Images.{Image}
use Rattle.displace_shade.specs.Shop.{set_value, shop_set}
use Rattle.displace_shade.specs.declared.set.ShaderSet.{ShaderSet}
use Rattle.displace_shade.specs.declared.shop.Shop.{Shop}

pub shop_is : (shop : Shop) (set : ShaderSet) (slice images : List Image) → shop.set ≡ set → shop.cache.textures ≡ slice → slice ≡ images → shop_set shop ≡ set_value set images
shop_is shop set slice images es et ei = ap (λ (s : ShaderSet). set_value s shop.cache.textures) es ∙ ap (set_value set) (et ∙ ei)

-- the variables of a frame's primitives fit, where those of all frames do
pub frame_fits : (s : SetValue) (scene : SceneValue) (n : ℕ) (f : FrameValue) → FitsScene s scene → slice_get scene.frames n ≡ Some f → All (FitsPrim s scene.uses) f.prims
frame_fits s scene n f fits there =
    let fit : FrameValue → Type 0 = λ f. All (FitsPrim s scene.uses) f.prims in
    subst fit (get_or_from_slice_get scene.frames n f f there) (All-get_or fit scene.frames n f (slice_get_within scene.frames n f there) fits.variables)

-- the work on a frame, as the counts before and after its drawing tell it
pub as_work : (o : RunOptions) (scene : SceneValue) (set : SetValue) (f : FrameValue) (limits : Limits) (count count' first second : ℕ) (r r' : Report) → limits ≡ limits_of o
    → Done (drawing_of scene set f limits) count count' r r' → first ≡ count → second ≡ count'
    → (second - first ≡ (work_of o (record { scene = scene; set = set }) f).shadings) × (r'.epochs - r.epochs ≡ (work_of o (record { scene = scene; set = set }) f).epochs)
as_work o scene set f limits count count' first second r r' same done is is' =
    let d : Done (drawing_of scene set f (limits_of o)) count count' r r' = subst (λ (l : Limits). Done (drawing_of scene set f l) count count' r r') same done in
    let s = d.shadings in
    let e = d.epochs in
    (omega (arith, s, is, is'), omega (arith, e))
