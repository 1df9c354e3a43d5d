-- The trees of compiled shaders, and the set of the shaders that were read.
use Rattle.std.specs.Prelude.{◌≡◌, ℕ, List, Option, map}
use Rattle.texture.specs.Images.{Image}
use Rattle.sl_ast.specs.declared.typed.Value.{Value}
use Rattle.sl_ast.specs.Typed.{Tree}
use Rattle.sl_ast.specs.TreeView.{tree_of}
use Rattle.mask_codegen.specs.Compiled.{Seen}
use Rattle.displace_shade.specs.Shop.{set_value}
use Rattle.displace_shade.specs.declared.set.ShaderSet.{ShaderSet}
use Rattle.acceptance.specs.declared.shaders.UsedShaders.{UsedShaders}
use Rattle.acceptance.specs.Reading.{tree_read}

-- the tree of a compiled shader
abbrev pub tree_compiled : Seen → Tree
tree_compiled c = tree_of c.tree

-- with any textures it is the set of these shaders, with what their uses are bound to and look up
abbrev pub IsSetOf : UsedShaders → List (List Value) → List (List (Option ℕ)) → ShaderSet → Type 0
IsSetOf shaders bound look_ups s =
    (images : List Image) → set_value s images ≡ record { trees = map tree_read shaders.read; of_use = shaders.of_use; bound = bound; look_ups = look_ups; textures = images }
