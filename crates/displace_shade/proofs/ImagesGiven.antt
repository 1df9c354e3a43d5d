-- The images that a run's look-ups name are those of the use.
use Rattle.std.proofs.Common.{◌≡◌, ℕ, List, Option, map, ap, ◌∙◌}
use Rattle.texture.specs.Images.{Image}
use Rattle.sl_ast.specs.Textures.{texture_nodes}
use Rattle.sl_ast.specs.TreeView.{tree_of}
use Rattle.builtins.specs.Textures.{image_named, entry_of}
use Rattle.displace_shade.specs.Shaded.{image_at}
use Rattle.displace_shade.specs.Shop.{bound_value}
use Rattle.displace_shade.specs.declared.bound.BoundShader.{BoundShader}

pub images_given : (b : BoundShader) (nodes : List ℕ) (entries : List (Option ℕ)) (images : List Image) → images ≡ b.textures.now
    → nodes ≡ map (λ n. n.number) (texture_nodes (tree_of b.compiled.now.tree)) → entries ≡ b.look_ups.now
    → (λ k. image_named images (entry_of nodes entries k)) ≡ image_at (bound_value b)
images_given b nodes entries images ei en el =
    ap (λ ps k. image_named ps (entry_of nodes entries k)) ei
    ∙ ap (λ ns k. image_named b.textures.now (entry_of ns entries k)) en
    ∙ ap (λ es k. image_named b.textures.now (entry_of (map (λ n. n.number) (texture_nodes (tree_of b.compiled.now.tree))) es k)) el
