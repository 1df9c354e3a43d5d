-- The state between two requests, and how each request changes it (RenderMan Interface 3.2, sections 3 to 5).
use Rattle.std.specs.Ordering.{int_eq}
use Rattle.std.specs.Prelude.{◌≡◌, refl, ℕ, pos, slice_index_or, ◌-◌, ◌==◌, nat_le, ℤ, List, [], ◌∷◌, ◌++◌, length, take, map, Option, Some, None, is_some, Result, Ok, Err, if◌then◌else◌, codes}
use Rattle.std.specs.List.{slice_get}
use Rattle.fixed_math.specs.declared.decimal.Decimal.{Decimal}
use Rattle.fixed_math.specs.Decimal.{num}
use Rattle.transforms.specs.Map.{Map, identity, translation, scale_map, before_of, differ}
use Rattle.transforms.specs.Rotation.{rotate_map}
use Rattle.transforms.specs.Concat.{concat_map}
use Rattle.transforms.specs.Field.{camera_of}
use Rattle.transforms.specs.declared.view.View.{View}
use Rattle.transforms.specs.declared.fault.FormFault.{FormFault}
use Rattle.transforms.specs.declared.fault.FormFault.TheVariants as forms
use Rattle.moving.specs.Moments.{steps_at}
use Rattle.moving_maps.specs.Motion.{joined}
use Rattle.moving_maps.specs.MapPairs.{MapPair, still, behind}
use Rattle.moving_maps.specs.declared.times.Times.{Times}
use Rattle.moving_maps.specs.declared.times.Times.TheVariants.{Still, Between, Mixed}
use Rattle.moving_maps.specs.declared.change.Change.{Change}
use Rattle.moving_maps.specs.declared.change.Change.TheVariants.{Before, Instead}
use Rattle.moving_maps.specs.declared.change.When.{When}
use Rattle.rib_reader.specs.declared.req.Req.{Req}
use Rattle.rib_reader.specs.declared.req.Req.TheVariants as reqs
use Rattle.rib_reader.specs.declared.args.Arg.{Arg}
use Rattle.rib_reader.specs.Rules.{word_at, raw_at, numbers_at, whole_at}
use Rattle.rib_reader.specs.Reading.{Read}
use Rattle.scene.specs.Scene.{PrimValue, FrameValue, most_prims}
use Rattle.scene_parts.specs.Choices.{ChoiceValues, first_choices, chosen, view_of, picture_of}
use Rattle.scene_parts.specs.Looks.{LookValues, is_single}
use Rattle.primitives.specs.Patches.{PatchValue, Made, patches_of}
use Rattle.primitives.specs.Moving.{moving_patches_of}
use Rattle.primitives.specs.Shifts.{ShiftValue}
use Rattle.scene_state.specs.MotionBlocks.{are_alike}
use Rattle.scene_state.specs.Shaders.{first_attributes, first_shaders, with_request, worn_by, light_of}
use Rattle.scene_parts.specs.Lights.{with_light, without_light}
use Rattle.scene_parts.specs.declared.code.StateCode.{StateCode}
use Rattle.scene_parts.specs.declared.code.StateCode.TheVariants.{N1, N2, N3, N5, N6, N7, G1, G2, G3, G4, M1, M2, M4}
use Rattle.scene.specs.declared.uses.ShaderKind.{ShaderKind}
use Rattle.scene.specs.declared.uses.ShaderKind.TheVariants as shader_kinds
use Rattle.scene.specs.declared.uses.ShaderUse.{ShaderUse}
use Rattle.scene_state.specs.declared.shaders.Handle.{Handle}
use Rattle.scene_state.specs.declared.shaders.Worn.{Worn}
use Rattle.scene_state.specs.declared.attributes.Attributes.{Attributes}
use Rattle.scene_state.specs.declared.state.Block.{Block}
use Rattle.scene_state.specs.declared.state.Block.TheVariants.{InFrame, InWorld, InAttributes, InTransform}
use Rattle.scene_state.specs.declared.state.World.{World}
use Rattle.scene_state.specs.declared.state.State.{State}

-- the state at the start
abbrev pub first_state : State
first_state = record {
  choices = first_choices;
  name = codes "out.ppm";
  attributes = first_attributes;
  current = still identity;
  blocks = [];
  world = None;
  prims = [];
  handles = [];
  shaders = first_shaders;
  frames = [];
}

-- the state after a request, or the request's fault
abbrev pub Stepped : Type 0
Stepped = Result State StateCode

-- ---- blocks

-- the most blocks that are open at once
abbrev pub most_blocks : ℕ
most_blocks = 64

-- a block more
abbrev pub opened : Block → State → Stepped
opened b s = if nat_le most_blocks (length s.blocks) then Err M1 else Ok (record s { blocks = s.blocks ++ b ∷ [] })

-- a motion block is none of those that save something
abbrev pub motion_begun : State → Stepped
motion_begun s = if nat_le most_blocks (length s.blocks) then Err M1 else Ok s

-- the block that was opened last
abbrev pub innermost : List Block → Option Block
innermost bs = slice_get bs (length bs - 1)

-- those outside it
abbrev pub outer : List Block → List Block
outer bs = take (length bs - 1) bs

-- the innermost block is closed
abbrev pub closed : State → State
closed s = record s { blocks = outer s.blocks }

-- after `FrameBegin`, which stands where no block is open
abbrev pub frame_begun : State → Stepped
frame_begun s = if length s.blocks == 0 then opened (InFrame s.attributes s.current s.choices s.name) s else Err N1

-- after `FrameEnd`: options, attributes and transformation as they were
abbrev pub frame_ended : Option Block → State → Stepped
frame_ended (Some (InFrame attributes current choices name)) s =
    Ok (record (closed s) { choices = choices; name = name; attributes = attributes; current = current })
frame_ended _ s = Err N1

-- after `AttributeEnd`
abbrev pub attributes_ended : Option Block → State → Stepped
attributes_ended (Some (InAttributes attributes current)) s = Ok (record (closed s) { attributes = attributes; current = current })
attributes_ended _ s = Err N1

-- after `TransformEnd`
abbrev pub transform_ended : Option Block → State → Stepped
transform_ended (Some (InTransform current)) s = Ok (record (closed s) { current = current })
transform_ended _ s = Err N1

abbrev pub code_of : FormFault → StateCode
code_of forms.G1 = G1
code_of forms.G2 = G2
code_of forms.G3 = G3
code_of forms.G4 = G4

-- the current transformation becomes the one from world to camera, and the world starts with none
abbrev pub world_with : Result View FormFault → State → Stepped
world_with (Err e) s = Err (code_of e)
world_with (Ok camera) s =
    opened (InWorld s.attributes s.current) (record s { world = Some (record { camera = camera; to_camera = s.current }); current = still identity })

-- after `WorldBegin`: the current transformation becomes that from world to camera, and the world begins with the identity
abbrev pub world_begun : State → Stepped
world_begun s = if is_some s.world then Err N1 else world_with (camera_of (view_of s.choices)) s

-- the most frames of a scene
abbrev pub most_frames : ℕ
most_frames = 1000

-- the frame of a world, with the options in force
abbrev pub frame_of : World → State → FrameValue
frame_of w s = record { name = s.name; options = picture_of s.choices w.camera.width w.camera.height; camera = w.camera; world = w.to_camera.first; prims = s.prims }

-- the world's primitives are a frame; no light is in force then, and none has a number
abbrev pub with_frame : World → Attributes → MapPair → State → State
with_frame w attributes current s = record s {
  attributes = record attributes { lights = [] };
  current = current;
  world = None;
  prims = [];
  handles = [];
  frames = s.frames ++ frame_of w s ∷ [];
}

-- the scene with one frame more, and the state as it was before the world
abbrev pub frame_made : Option World → Attributes → MapPair → State → Stepped
frame_made None attributes current s = Err N1
frame_made (Some w) attributes current s = if nat_le most_frames (length s.frames) then Err M2 else Ok (with_frame w attributes current s)

-- after `WorldEnd`, which makes a frame
abbrev pub world_ended : Option Block → State → Stepped
world_ended (Some (InWorld attributes current)) s = frame_made s.world attributes current (closed s)
world_ended _ s = Err N1

-- ---- options

abbrev pub with_choices : Result ChoiceValues StateCode → State → Stepped
with_choices (Ok c) s = Ok (record s { choices = c })
with_choices (Err code) s = Err code

-- a name with a plus sign in front asks for a further display, which is without effect
abbrev pub name_or : Option (List ℕ) → List ℕ → List ℕ
name_or (Some (c ∷ cs)) name = if c == 43 then name else c ∷ cs
name_or (Some []) name = []
name_or None name = name

-- options stand outside worlds alone
abbrev pub option_set : Read → State → Stepped
option_set r s = if is_some s.world then Err N2 else with_choices (chosen r s.choices) s

-- after `Display`
abbrev pub display_set : Read → State → Stepped
display_set r s = if is_some s.world then Err N2 else Ok (record s { name = name_or (word_at r.args 0) s.name })

-- ---- transformations

abbrev pub translated_by : Option ℤ → Option ℤ → Option ℤ → Result Map FormFault
translated_by (Some x) (Some y) (Some z) = Ok (translation x y z)
translated_by _ _ _ = Ok identity

abbrev pub scaled_by : Option ℤ → Option ℤ → Option ℤ → Result Map FormFault
scaled_by (Some x) (Some y) (Some z) = scale_map (record { x = x; y = y; z = z })
scaled_by _ _ _ = Ok identity

abbrev pub rotated_by : Option ℤ → Option ℤ → Option ℤ → Option ℤ → Result Map FormFault
rotated_by (Some angle) (Some x) (Some y) (Some z) = rotate_map angle (record { x = x; y = y; z = z })
rotated_by _ _ _ _ = Ok identity

abbrev pub of_rows : Option (List Decimal) → Result Map FormFault
of_rows (Some ds) = concat_map (map num ds)
of_rows None = Ok identity

-- a map that goes before the current transformation, and one that stands in its place
abbrev pub before_by : Result Map FormFault → Result Change FormFault
before_by (Ok m) = Ok (Before m)
before_by (Err e) = Err e

abbrev pub instead_by : Result Map FormFault → Result Change FormFault
instead_by (Ok m) = Ok (Instead m)
instead_by (Err e) = Err e

-- what a request does to the current transformation; other requests than those of transformations change nothing
abbrev pub change_by : Req → List Arg → Result Change FormFault
change_by reqs.Transform args = instead_by (of_rows (numbers_at args 0))
change_by reqs.ConcatTransform args = before_by (of_rows (numbers_at args 0))
change_by reqs.Translate args = before_by (translated_by (raw_at args 0) (raw_at args 1) (raw_at args 2))
change_by reqs.Scale args = before_by (scaled_by (raw_at args 0) (raw_at args 1) (raw_at args 2))
change_by reqs.Rotate args = before_by (rotated_by (raw_at args 0) (raw_at args 1) (raw_at args 2) (raw_at args 3))
change_by _ args = Ok (Before identity)

-- what a request for a transformation does to a map
abbrev pub change_of : Read → Result Change FormFault
change_of r = change_by r.name r.args

abbrev pub with_current : Result MapPair FormFault → State → Stepped
with_current (Ok m) s = Ok (record s { current = m })
with_current (Err e) s = Err (code_of e)

-- both maps of the current transformation behind a change that is of these times
abbrev pub with_change : When → Result Change FormFault → State → Stepped
with_change when (Ok change) s = with_current (behind when change s.current) s
with_change when (Err e) s = Err (code_of e)

-- after a request for a transformation, which is of both times or of one
abbrev pub turned : When → Read → State → Stepped
turned when r s = with_change when (change_of r) s

-- ---- spaces

-- from the current space to camera space: in a world, by the world's map of the same time
abbrev pub space_in : (MapPair → Map) → Option World → MapPair → Result Map FormFault
space_in at None current = Ok (at current)
space_in at (Some w) current = before_of (at w.to_camera) (at current)

-- at the first time, and at the last
abbrev pub space_of : State → Result Map FormFault
space_of s = space_in (λ p. p.first) s.world s.current

-- the map from the current space to camera space at the time when motions end
abbrev pub last_space_of : State → Result Map FormFault
last_space_of s = space_in (λ p. p.last) s.world s.current

-- the times of the motions in force
abbrev pub times_in : Option World → MapPair → Times
times_in None current = current.times
times_in (Some w) current = joined w.to_camera.times current.times

-- the times of the motions in force, the world's among them
abbrev pub times_of : State → Times
times_of s = times_in s.world s.current

-- ---- shaders and lights

abbrev pub text_or : Option (List ℕ) → List ℕ
text_or (Some t) = t
text_or None = []

-- a shader request as a use, with the space in force
abbrev pub use_of : ShaderKind → Read → Map → ShaderUse
use_of kind r space = record { name = text_or (word_at r.args 0); kind = kind; params = r.params; space = space; line = r.line }

-- the number of the next shader request
abbrev pub next_shader : State → ℕ
next_shader s = length s.shaders.slots

abbrev pub with_shader : ShaderKind → Read → (ℕ → Attributes → Attributes) → Result Map FormFault → State → Stepped
with_shader kind r wear (Err e) s = Err (code_of e)
with_shader kind r wear (Ok space) s = Ok (record s { shaders = with_request s.shaders (use_of kind r space); attributes = wear (next_shader s) s.attributes })

-- after a shader request, which keeps the space in force
abbrev pub shader_set : ShaderKind → Read → (ℕ → Attributes → Attributes) → State → Stepped
shader_set kind r wear s = with_shader kind r wear (space_of s) s

-- the most lights that are made in one world, or before it
abbrev pub most_lights : ℕ
most_lights = 64

abbrev pub handle_for : Option ℤ → ℕ → List Handle
handle_for None light = []
handle_for (Some number) light = record { number = number; light = light } ∷ []

-- the light is in force, last, and the number stands for it
abbrev pub light_added : ℕ → Option ℤ → State → State
light_added light number s = record s { attributes = record s.attributes { lights = s.attributes.lights ++ light ∷ [] }; handles = s.handles ++ handle_for number light }

-- after `LightSource`: its number stands for the new light, which is on
abbrev pub light_made : Read → Result Map FormFault → State → Stepped
light_made r (Err e) s = Err (code_of e)
light_made r (Ok space) s =
    if nat_le most_lights (length s.handles) then Err M4
    else Ok (light_added (next_shader s) (whole_at r.args 1) (record s { shaders = with_request s.shaders (use_of shader_kinds.Light r space) }))

-- a light that is put into force, or out of it
abbrev pub illuminated_by : Option ℕ → Option ℤ → State → Stepped
illuminated_by None on s = Err N3
illuminated_by (Some k) on s = Ok (record s { attributes = record s.attributes { lights = if is_single on then with_light k s.attributes.lights else without_light k s.attributes.lights } })

-- the light that a number stands for, the last one of it
abbrev pub light_named : Option ℤ → List Handle → Option ℕ
light_named (Some number) handles = light_of handles number
light_named None handles = None

-- ---- primitives

-- the primitive of a patch, with this look, whose shaders have these places among the uses
abbrev pub prim_of : Read → Map → LookValues → Worn → PatchValue → PrimValue
prim_of r object l w p = record {
  patch = p.patch;
  closing = p.closing;
  flat = p.flat;
  cs = l.cs;
  os = l.os;
  surface = w.surface;
  displacement = w.displacement;
  atmosphere = w.atmosphere;
  lights = w.lights;
  bound = l.bound;
  rate = l.rate;
  one_sided = l.one_sided;
  flip = differ l.flip object.mirrored;
  smooth = l.smooth;
  vars = p.vars;
  object = object;
  place = p.place;
  line = r.line;
}

-- patches are placed: where there is one, the shaders in force are had, in the order displacement, surface, atmosphere, lights
abbrev pub with_patches : Read → Map → List PatchValue → State → State
with_patches r object [] s = s
with_patches r object (p ∷ ps) s =
    let had = worn_by s.shaders s.attributes in
    record s { shaders = had.0; prims = s.prims ++ map (prim_of r object s.attributes.look had.1) (p ∷ ps) }

abbrev pub patches_placed : Read → Map → Made → State → Stepped
patches_placed r object (Err code) s = Err code
patches_placed r object (Ok ps) s = Ok (with_patches r object ps s)

-- how many primitives the frame may still take
abbrev pub room_left : State → ℕ
room_left s = most_prims - length s.prims

abbrev pub primitive_under : Read → Result Map FormFault → State → Stepped
primitive_under r (Err e) s = Err (code_of e)
primitive_under r (Ok object) s = patches_placed r object (patches_of r s.attributes.bases object (room_left s)) s

-- how far something that moves between two times is on its way when the shutter opens, and when it closes, if that is later
abbrev pub shift_by : ℤ → ℤ → ℤ → ℤ → ShiftValue
shift_by from to opens closes = record { opening = steps_at from to opens; closing = if int_eq opens closes then None else Some (steps_at from to closes) }

-- how far something that moves is on its way while the shutter is open
abbrev pub shift_of : ChoiceValues → ℤ → ℤ → ShiftValue
shift_of c from to = shift_by from to (slice_index_or c.shutter 0 (pos 0)) (slice_index_or c.shutter 1 (pos 0))

-- a primitive that moves, between the maps of its times; the points at the last one are those of another request, in a motion block
abbrev pub placed_between : Read → Map → Read → Map → ShiftValue → State → Stepped
placed_between r object last end shift s = patches_placed r object (moving_patches_of r s.attributes.bases object (room_left s) last end shift) s

abbrev pub moving_under : Read → Read → ShiftValue → Result Map FormFault → Result Map FormFault → State → Stepped
moving_under r last shift (Err e) end s = Err (code_of e)
moving_under r last shift (Ok object) (Err e) s = Err (code_of e)
moving_under r last shift (Ok object) (Ok end) s = placed_between r object last end shift s

-- a primitive that moves, under the maps of both times
abbrev pub moving_set : Read → Read → ℤ → ℤ → State → Stepped
moving_set r last from to s = moving_under r last (shift_of s.choices from to) (space_of s) (last_space_of s) s

-- a primitive by its times: one that stays, one that moves, or motions of different times
abbrev pub primitive_by : Times → Read → State → Stepped
primitive_by Still r s = primitive_under r (space_of s) s
primitive_by (Between from to) r s = moving_set r r from to s
primitive_by Mixed r s = Err N7

-- what is done in a world, and nowhere else
abbrev pub in_world : Stepped → State → Stepped
in_world placed s = if is_some s.world then placed else Err N5

-- primitives stand in worlds alone, under motions between the same times
abbrev pub primitive_set : Read → State → Stepped
primitive_set r s = in_world (primitive_by (times_of s) r s) s

-- ---- primitives of motion blocks

-- the first one is looked at: whether it can stand there, and what its points are
abbrev pub looked_at : Made → State → Stepped
looked_at (Err code) s = Err code
looked_at (Ok ps) s = Ok s

abbrev pub first_under : Read → Result Map FormFault → State → Stepped
first_under r (Err e) s = Err (code_of e)
first_under r (Ok object) s = looked_at (patches_of r s.attributes.bases object (room_left s)) s

abbrev pub first_by : Times → Read → State → Stepped
first_by Mixed r s = Err N7
first_by _ r s = first_under r (space_of s) s

-- in a motion block the first of two primitives is looked at by itself
abbrev pub first_looked_at : ℤ → ℤ → Read → State → Stepped
first_looked_at from to r s = in_world (first_by (joined (times_of s) (Between from to)) r s) s

-- then both are placed as one that moves, with the first one's line and variables
abbrev pub both_placed : ℤ → ℤ → Read → Read → State → Stepped
both_placed from to first last s = if are_alike first last then in_world (moving_set first last from to s) s else Err N6

-- worked values: from the time 1 to the time 3, a shutter that is open from 2 to 4, and one that is open for a moment
half_of_the_way : shift_by (pos 65536) (pos 196608) (pos 131072) (pos 262144) ≡ record { opening = 32768; closing = Some 65536 }
half_of_the_way = refl

for_a_moment : shift_by (pos 65536) (pos 196608) (pos 131072) (pos 131072) ≡ record { opening = 32768; closing = None }
for_a_moment = refl
