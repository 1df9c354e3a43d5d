-- The scene as plain data: frames with their primitives in camera space, and the uses of shaders
-- (RenderMan Interface 3.2, sections 3 to 5).
use Rattle.std.specs.Prelude.{◌≡◌, ℕ, ◌*◌, ◌≤◌, ◌<◌, ℤ, pos, ◌≤ℤ◌, Bool, true, false, List, Option, Some, None, IfSome, All, length, slice_get, slice_index_or}
use Rattle.fixed_math.specs.declared.vec3.Vec3.{Vec3}
use Rattle.transforms.specs.Map.{Map}
use Rattle.transforms.specs.declared.view.View.{View}
use Rattle.quadrics.specs.declared.any_patch.AnyPatch.{AnyPatch}
use Rattle.quadrics.specs.AnyPatches.{IsSmallPatch}
use Rattle.scene.specs.declared.params.Kind.{Kind}
use Rattle.scene.specs.declared.params.Values.{Values}
use Rattle.scene.specs.Kinds.{count, width, is_of_kind}
use Rattle.scene.specs.Settings.{OptionValues, crop_of, IsCrop}
use Rattle.scene.specs.declared.uses.ShaderKind.{ShaderKind}
use Rattle.scene.specs.declared.uses.ShaderKind.TheVariants.{Surface, Displacement, Light, Volume}
use Rattle.scene.specs.declared.uses.ShaderUse.{ShaderUse}

-- a variable of a primitive: one value, or one at each corner of its patch
pub record VariableValue : Type 0 where
  pub name : List ℕ
  pub kind : Kind
  pub varying : Bool
  pub values : Values

abbrev pub corners : Bool → ℕ
corners true = 4
corners false = 1

-- numbers or strings by its kind, as many as one value or four have
pub record IsVariable (v : VariableValue) : Type 0 where
  pub kind : is_of_kind v.kind v.values ≡ true
  pub counted : count v.values ≡ width v.kind * corners v.varying

-- A primitive: its patch in camera space, and where it moves, its patch when the shutter closes; the flat normal of a polygon; colour and
-- opacity; the places of its shaders among the scene's uses; how far displacement may move it, and the shading rate; whether it is seen
-- from one side alone, and whether that is turned; whether colour and opacity vary over its micropolygons; its variables; the map from
-- its object space to camera space; the column c of m and row d of n that the patch has in its mesh, as c, m, d, n; and the line of its
-- request.
pub record PrimValue : Type 0 where
  pub patch : AnyPatch
  pub closing : Option AnyPatch
  pub flat : Option Vec3
  pub cs : Vec3
  pub os : Vec3
  pub surface : ℕ
  pub displacement : Option ℕ
  pub atmosphere : Option ℕ
  pub lights : List ℕ
  pub bound : ℤ
  pub rate : ℤ
  pub one_sided : Bool
  pub flip : Bool
  pub smooth : Bool
  pub vars : List VariableValue
  pub object : Map
  pub place : List ℕ
  pub line : ℕ

-- a column below the number of columns, and a row below that of rows
pub record IsPlace (place : List ℕ) : Type 0 where
  pub column : slice_index_or place 0 0 < slice_index_or place 1 0
  pub columns : slice_index_or place 1 0 ≤ 65536
  pub row : slice_index_or place 2 0 < slice_index_or place 3 0
  pub rows : slice_index_or place 3 0 ≤ 65536

pub record IsPrim (p : PrimValue) : Type 0 where
  pub small : IfSome p.closing IsSmallPatch
  pub bound_low : pos 0 ≤ℤ p.bound
  pub bound_high : p.bound ≤ℤ pos 536870912
  pub column : slice_index_or p.place 0 0 < slice_index_or p.place 1 0
  pub columns : slice_index_or p.place 1 0 ≤ 65536
  pub row : slice_index_or p.place 2 0 < slice_index_or p.place 3 0
  pub rows : slice_index_or p.place 3 0 ≤ 65536

-- a frame: the name of its picture, its options, what its camera sees, the map from world space to camera space, and its primitives
pub record FrameValue : Type 0 where
  pub name : List ℕ
  pub options : OptionValues
  pub camera : View
  pub world : Map
  pub prims : List PrimValue

-- the most primitives of a frame
abbrev pub most_prims : ℕ
most_prims = 65536

-- the picture has some pixels of what the camera sees
pub record IsFrame (f : FrameValue) : Type 0 where
  pub few : length f.prims ≤ most_prims
  pub crop : IsCrop f.camera.width f.camera.height (crop_of f.options)

-- the frames in order, and the shader requests that some primitive has, each once, in the order of their first use: frame by
-- frame, primitive by primitive, and for each its displacement, surface, atmosphere and then its lights in order
pub record SceneValue : Type 0 where
  pub frames : List FrameValue
  pub uses : List ShaderUse

abbrev pub IsOf : ShaderKind → Option ShaderUse → Type 0
IsOf kind None = ⊥
IsOf kind (Some u) = u.kind ≡ kind

-- a use of this kind stands at place n
abbrev pub IsUse : List ShaderUse → ShaderKind → ℕ → Type 0
IsUse uses kind n = IsOf kind (slice_get uses n)

-- one stands at the place, where there is one
abbrev pub IsSomeUse : List ShaderUse → ShaderKind → Option ℕ → Type 0
IsSomeUse uses kind None = Unit {0}
IsSomeUse uses kind (Some n) = IsUse uses kind n

-- the primitive names uses of the right kinds
pub record HasUses (uses : List ShaderUse) (p : PrimValue) : Type 0 where
  pub surface : IsUse uses Surface p.surface
  pub displacement : IsSomeUse uses Displacement p.displacement
  pub atmosphere : IsSomeUse uses Volume p.atmosphere
  pub lights : All (IsUse uses Light) p.lights

-- so does each primitive of each frame
abbrev pub IsScene : SceneValue → Type 0
IsScene s = All (λ f. All (HasUses s.uses) f.prims) s.frames
