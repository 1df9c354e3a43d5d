-- The piece of a primitive of a frame, shaded.
use Rattle.std.specs.Prelude.{◌≡◌, ℕ, List, Some, slice_get}
use Rattle.dice.specs.declared.diced.GridRef.{GridRef}
use Rattle.patches.specs.Parts.{Part}
use Rattle.scene.specs.Scene.{PrimValue, FrameValue, SceneValue}
use Rattle.scene.specs.declared.uses.ShaderUse.{ShaderUse}
use Rattle.shader_binding.specs.Sets.{SetValue}
use Rattle.shader_binding.specs.Bindings.{FitsPrim}
use Rattle.grid_variables.specs.Closings.{closing_of, places_in}
use Rattle.displace_shade.specs.Diced.{grid_value}
use Rattle.displace_shade.specs.Shaded.{shaded}
use Rattle.displace_shade.specs.Shop.{leaf_of}

-- the variables of the piece's primitive fit its shaders
abbrev pub FitsPiece : SetValue → SceneValue → ℕ → Part → Type 0
FitsPiece s scene n part = (f : FrameValue) (prim : PrimValue) → slice_get scene.frames n ≡ Some f → slice_get f.prims part.prim ≡ Some prim → FitsPrim s scene.uses prim

-- the grid is that of the piece of a frame's primitive, with 2 ^ p + 1 columns and 2 ^ q + 1 rows, shaded
abbrev pub IsShadedIn : SetValue → List ShaderUse → FrameValue → Part → ℕ → ℕ → GridRef → Type 0
IsShadedIn s uses f part p q grid = (prim : PrimValue) → slice_get f.prims part.prim ≡ Some prim → grid_value grid ≡ shaded (leaf_of f prim part p q) s uses

-- the same of frame n of a scene
abbrev pub IsShaded : SetValue → SceneValue → ℕ → Part → ℕ → ℕ → GridRef → Type 0
IsShaded s scene n part p q grid =
    (f : FrameValue) (prim : PrimValue) → slice_get scene.frames n ≡ Some f → slice_get f.prims part.prim ≡ Some prim → grid_value grid ≡ shaded (leaf_of f prim part p q) s scene.uses

-- the grid has the closing places of its points, where the piece's primitive moves
abbrev pub ClosesIn : FrameValue → Part → ℕ → ℕ → GridRef → Type 0
ClosesIn f part p q grid = (prim : PrimValue) → slice_get f.prims part.prim ≡ Some prim → places_in grid.closing ≡ closing_of (leaf_of f prim part p q) grid.p.now

-- the same of frame n of a scene
abbrev pub Closes : SceneValue → ℕ → Part → ℕ → ℕ → GridRef → Type 0
Closes scene n part p q grid =
    (f : FrameValue) (prim : PrimValue) → slice_get scene.frames n ≡ Some f → slice_get f.prims part.prim ≡ Some prim → places_in grid.closing ≡ closing_of (leaf_of f prim part p q) grid.p.now
