-- The shop's set and a shader that is bound as plain data, and the leaf of a frame's primitive.
use Rattle.std.specs.Prelude.{ℕ, List, map}
use Rattle.texture.specs.Images.{Image}
use Rattle.patches.specs.Parts.{Part}
use Rattle.scene.specs.Scene.{PrimValue, FrameValue}
use Rattle.sl_ast.specs.TreeView.{tree_of}
use Rattle.shader_binding.specs.Sets.{SetValue, Bound}
use Rattle.grid_variables.specs.Points.{Leaf}
use Rattle.displace_shade.specs.declared.set.ShaderSet.{ShaderSet}
use Rattle.displace_shade.specs.declared.shop.Shop.{Shop}
use Rattle.displace_shade.specs.declared.bound.BoundShader.{BoundShader}

-- with these textures
abbrev pub set_value : ShaderSet → List Image → SetValue
set_value s images = record { trees = map (λ c. tree_of c.tree) s.compiled; of_use = s.of_use; bound = s.bound; look_ups = s.look_ups; textures = images }

-- the set of a shop with its textures
abbrev pub shop_set : Shop → SetValue
shop_set s = set_value s.set s.cache.textures

-- a shader with its values, as plain data
abbrev pub bound_value : BoundShader → Bound
bound_value b = record { tree = tree_of b.compiled.now.tree; values = b.values.now; look_ups = b.look_ups.now; textures = b.textures.now; space = b.space.now }

-- a part of a frame's primitive, cut into 2 ^ p by 2 ^ q cells
abbrev pub leaf_of : FrameValue → PrimValue → Part → ℕ → ℕ → Leaf
leaf_of f prim part p q = record { camera = f.camera; world = f.world; prim = prim; part = part; p = p; q = q }
