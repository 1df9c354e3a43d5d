-- The shaders of a scene over the files that are held.
use Rattle.std.specs.Prelude.{ℕ, List, [], map, Option, Some, None, Ok, Err, filter_map}
use Rattle.outside.specs.Library.{Files}
use Rattle.scene.specs.Scene.{SceneValue}
use Rattle.scene.specs.declared.uses.ShaderUse.{ShaderUse}
use Rattle.sl_ast.specs.declared.typed.Value.{Value}
use Rattle.sl_ast.specs.Typed.{Tree}
use Rattle.texture.specs.Images.{Image}
use Rattle.shader_binding.specs.Sets.{SetValue, AcceptedValue}
use Rattle.acceptance.specs.Causes.{Reads}
use Rattle.acceptance.specs.Shaders.{shader_tree, shader_names}
use Rattle.acceptance.specs.Bound.{bound_values}
use Rattle.acceptance.specs.Places.{place_in}
use Rattle.acceptance.specs.Textures.{names_with, texture_names, entries_in}

abbrev pub tree_in : Reads Tree → Option Tree
tree_in (Ok tree) = Some tree
tree_in (Err cause) = None

-- the trees of these shaders
abbrev pub trees_of : Files → List (List ℕ) → List Tree
trees_of files names = filter_map (λ n. tree_in (shader_tree files n)) names

abbrev pub values_in : Reads Tree → ShaderUse → List Value
values_in (Ok tree) u = bound_values tree u
values_in (Err cause) u = []

-- what the look-ups of a use name
abbrev pub names_in : Reads Tree → ShaderUse → List (List ℕ)
names_in (Ok tree) u = names_with tree (bound_values tree u)
names_in (Err cause) u = []

-- what the look-ups of each use name
abbrev pub names_of_uses : Files → List ShaderUse → List (List (List ℕ))
names_of_uses files uses = map (λ u. names_in (shader_tree files u.name) u) uses

-- the names of the textures of these uses
abbrev pub textures_named : Files → List ShaderUse → List (List ℕ)
textures_named files uses = texture_names (names_of_uses files uses)

-- the trees of the shaders by first use, and of each use the place of its tree, what its parameters are bound to and what its look-ups name; and
-- these textures
abbrev pub set_of : Files → List ShaderUse → List Image → SetValue
set_of files uses images = record {
  trees = trees_of files (shader_names uses);
  of_use = map (λ u. place_in (shader_names uses) u.name) uses;
  bound = map (λ u. values_in (shader_tree files u.name) u) uses;
  look_ups = entries_in (textures_named files uses) (names_of_uses files uses);
  textures = images;
}

-- a scene with the shaders of its uses over the files held, and with these images
abbrev pub accepted_with : Files → SceneValue → List Image → AcceptedValue
accepted_with files scene images = record { scene = scene; set = set_of files scene.uses images }
