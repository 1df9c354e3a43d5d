-- What each request does to the state, and the scene of a list of requests.
use Rattle.std.specs.Prelude.{ℕ, ℤ, Bool, ◌&&◌, ◌-◌, ◌==◌, List, [], ◌∷◌, length, slice_get, Option, Some, None, Result, Ok, Err, if◌then◌else◌}
use Rattle.rib_reader.specs.declared.req.Req.{Req}
use Rattle.rib_reader.specs.declared.req.Req.TheVariants as reqs
use Rattle.rib_reader.specs.Rules.{whole_at}
use Rattle.moving_maps.specs.MapPairs.{still}
use Rattle.moving_maps.specs.declared.change.When.TheVariants.{Always, First, Last}
use Rattle.rib_reader.specs.Reading.{Read}
use Rattle.transforms.specs.Map.{identity}
use Rattle.scene.specs.Scene.{SceneValue}
use Rattle.scene_parts.specs.Looks.{look_after}
use Rattle.scene_parts.specs.Bases.{bases_after}
use Rattle.scene_state.specs.declared.attributes.Attributes.{Attributes}
use Rattle.scene_state.specs.declared.state.State.{State}
use Rattle.scene_state.specs.declared.state.Block.TheVariants.{InAttributes, InTransform}
use Rattle.scene_state.specs.State.{Stepped, first_state, opened, innermost, frame_begun, frame_ended, attributes_ended, transform_ended, world_begun, world_ended, option_set, display_set, motion_begun, turned, space_of, shader_set, light_made, illuminated_by, light_named, primitive_set, first_looked_at, both_placed}
use Rattle.scene_state.specs.MotionBlocks.{Step, Alone, Begins, First as FirstOf, Both, Ends, Misplaced, is_patch, line_of, steps_of, are_closed}
use Rattle.scene_parts.specs.declared.code.StateCode.{StateCode}
use Rattle.scene_parts.specs.declared.code.StateCode.TheVariants.{N4, N6}
use Rattle.scene.specs.declared.uses.ShaderKind.TheVariants as kinds

abbrev pub with_surface : ℕ → Attributes → Attributes
with_surface k a = record a { surface = k }

abbrev pub with_displacement : ℕ → Attributes → Attributes
with_displacement k a = record a { displacement = Some k }

abbrev pub with_atmosphere : ℕ → Attributes → Attributes
with_atmosphere k a = record a { atmosphere = Some k }

-- after a request for the look of primitives
abbrev pub look_set : Read → State → Stepped
look_set r s = Ok (record s { attributes = record s.attributes { look = look_after r.name r.args r.params s.attributes.look } })

-- after `Basis`
abbrev pub bases_set : Read → State → Stepped
bases_set r s = Ok (record s { attributes = record s.attributes { bases = bases_after r.args s.attributes.bases } })

-- the state behind a request, or the fault that it gives: of its nesting first, then of its geometry, then of a limit
abbrev pub step : Req → Read → State → Stepped
step reqs.FrameBegin r s = frame_begun s
step reqs.FrameEnd r s = frame_ended (innermost s.blocks) s
step reqs.WorldBegin r s = world_begun s
step reqs.WorldEnd r s = world_ended (innermost s.blocks) s
step reqs.AttributeBegin r s = opened (InAttributes s.attributes s.current) s
step reqs.AttributeEnd r s = attributes_ended (innermost s.blocks) s
step reqs.TransformBegin r s = opened (InTransform s.current) s
step reqs.TransformEnd r s = transform_ended (innermost s.blocks) s
step reqs.Format r s = option_set r s
step reqs.Shutter r s = option_set r s
step reqs.FrameAspectRatio r s = option_set r s
step reqs.ScreenWindow r s = option_set r s
step reqs.CropWindow r s = option_set r s
step reqs.Clipping r s = option_set r s
step reqs.Projection r s = option_set r s
step reqs.PixelSamples r s = option_set r s
step reqs.PixelFilter r s = option_set r s
step reqs.Exposure r s = option_set r s
step reqs.Quantize r s = option_set r s
step reqs.Display r s = display_set r s
step reqs.Color r s = look_set r s
step reqs.Opacity r s = look_set r s
step reqs.ShadingRate r s = look_set r s
step reqs.ShadingInterpolation r s = look_set r s
step reqs.Sides r s = look_set r s
step reqs.Orientation r s = look_set r s
step reqs.ReverseOrientation r s = look_set r s
step reqs.Attribute r s = look_set r s
step reqs.Surface r s = shader_set kinds.Surface r with_surface s
step reqs.Displacement r s = shader_set kinds.Displacement r with_displacement s
step reqs.Atmosphere r s = shader_set kinds.Volume r with_atmosphere s
step reqs.LightSource r s = light_made r (space_of s) s
step reqs.Illuminate r s = illuminated_by (light_named (whole_at r.args 0) s.handles) (whole_at r.args 1) s
step reqs.Identity r s = Ok (record s { current = still identity })
step reqs.Transform r s = turned Always r s
step reqs.ConcatTransform r s = turned Always r s
step reqs.Translate r s = turned Always r s
step reqs.Scale r s = turned Always r s
step reqs.Rotate r s = turned Always r s
step reqs.Basis r s = bases_set r s
step reqs.Patch r s = primitive_set r s
step reqs.PatchMesh r s = primitive_set r s
step reqs.Polygon r s = primitive_set r s
step reqs.PointsPolygons r s = primitive_set r s
step reqs.Sphere r s = primitive_set r s
step reqs.Cylinder r s = primitive_set r s
step reqs.Cone r s = primitive_set r s
step reqs.Disk r s = primitive_set r s
step _ r s = Ok s

-- the state after a request
abbrev pub after : Read → State → Stepped
after r s = step r.name r s

-- in a motion block: a patch or a mesh, or a transformation
abbrev pub first_after : ℤ → ℤ → Read → State → Stepped
first_after from to r s = if is_patch r.name then first_looked_at from to r s else turned (First from to) r s

-- the state after both requests of a motion block
abbrev pub both_after : ℤ → ℤ → Read → Read → State → Stepped
both_after from to first last s = if is_patch first.name then both_placed from to first last s else turned (Last from to) last s

-- the state behind a step
abbrev pub taken : Step → State → Stepped
taken (Alone r) s = after r s
taken (Begins r) s = motion_begun s
taken (FirstOf from to r) s = first_after from to r s
taken (Both from to first last) s = both_after from to first last s
taken (Ends r) s = Ok s
taken (Misplaced r) s = Err N6

-- a fault with the line of its request
abbrev pub Placed : Type 0
Placed = StateCode × ℕ

abbrev pub and_then : Stepped → ℕ → (State → Result State Placed) → Result State Placed
and_then (Ok s) line go = go s
and_then (Err code) line go = Err (code, line)

-- the state behind these steps, or the first fault
abbrev pub state_from : State → List Step → Result State Placed
state_from s [] = Ok s
state_from s (x ∷ xs) = and_then (taken x s) (line_of x) (λ t. state_from t xs)

abbrev pub line_or_first : Option Read → ℕ
line_or_first (Some r) = r.line
line_or_first None = 1

-- the line of the last request, 1 where there is none
abbrev pub last_line : List Read → ℕ
last_line rs = line_or_first (slice_get rs (length rs - 1))

-- at the end no block is open, of a motion neither
abbrev pub ended : Bool → ℕ → Result State Placed → Result SceneValue Placed
ended closed line (Ok s) = if closed && (length s.blocks == 0) then Ok (record { frames = s.frames; uses = s.shaders.uses }) else Err (N4, line)
ended closed line (Err e) = Err e

-- the scene of a list of requests, or its first fault with its line
abbrev pub scene_of : List Read → Result SceneValue Placed
scene_of rs = ended (are_closed (steps_of rs)) (last_line rs) (state_from first_state (steps_of rs))
