-- What requests change of a state: a property that each change keeps is kept by each step, and holds behind lists of steps.
use Rattle.std.proofs.Common.{◌≡◌, refl, ℕ, ℤ, Bool, true, false, ◌==◌, is_some, nat_le, List, [], ◌∷◌, ◌++◌, length, Option, Some, None, Result, Ok, Err, if◌then◌else◌}
use Rattle.rib_reader.specs.declared.req.Req.{Req}
use Rattle.rib_reader.specs.declared.req.Req.TheVariants as reqs
use Rattle.rib_reader.specs.Reading.{Read}
use Rattle.rib_reader.specs.Rules.{word_at, whole_at}
use Rattle.transforms.specs.Map.{Map, identity}
use Rattle.transforms.specs.Field.{camera_of}
use Rattle.transforms.specs.declared.view.View.{View}
use Rattle.transforms.specs.declared.fault.FormFault.{FormFault}
use Rattle.moving_maps.specs.MapPairs.{MapPair, still, behind}
use Rattle.moving_maps.specs.Motion.{joined}
use Rattle.moving_maps.specs.declared.times.Times.{Times}
use Rattle.moving_maps.specs.declared.times.Times.TheVariants.{Still, Between, Mixed}
use Rattle.moving_maps.specs.declared.change.Change.{Change}
use Rattle.moving_maps.specs.declared.change.When.{When}
use Rattle.moving_maps.specs.declared.change.When.TheVariants.{Always, First, Last}
use Rattle.primitives.specs.Patches.{PatchValue, Made, patches_of}
use Rattle.primitives.specs.Moving.{moving_patches_of}
use Rattle.primitives.specs.Shifts.{ShiftValue}
use Rattle.scene.specs.declared.uses.ShaderKind.{ShaderKind}
use Rattle.scene.specs.declared.uses.ShaderKind.TheVariants as kinds
use Rattle.scene_parts.specs.Bases.{BasisValues, bases_after}
use Rattle.scene_parts.specs.Choices.{ChoiceValues, chosen, view_of}
use Rattle.scene_parts.specs.Looks.{LookValues, look_after, is_single}
use Rattle.scene_parts.specs.Lights.{with_light, without_light}
use Rattle.scene_parts.specs.declared.code.StateCode.{StateCode}
use Rattle.scene_parts.specs.declared.code.StateCode.TheVariants.{N1, N2, N5, N6, M1, M2, M4}
use Rattle.scene_state.specs.MotionBlocks.{Step, Alone, Begins, First as FirstOf, Both, Ends, Misplaced, is_patch, line_of, are_alike}
use Rattle.scene_state.specs.Shaders.{with_request}
use Rattle.scene_state.specs.State.{Stepped, most_blocks, most_frames, most_lights, opened, innermost, closed, frame_begun, frame_ended, attributes_ended, transform_ended, world_with, world_begun, with_frame, frame_made, world_ended, with_choices, option_set, name_or, display_set, with_current, with_change, change_of, turned, space_of, last_space_of, times_of, shift_of, use_of, next_shader, with_shader, light_added, light_made, illuminated_by, light_named, with_patches, patches_placed, room_left, primitive_under, moving_under, moving_set, primitive_by, in_world, primitive_set, looked_at, first_under, first_by, first_looked_at, both_placed}
use Rattle.scene_state.specs.Steps.{with_surface, with_displacement, with_atmosphere, look_set, step, first_after, both_after, taken, Placed, and_then, state_from}
use Rattle.scene_state.specs.declared.attributes.Attributes.{Attributes}
use Rattle.scene_state.specs.declared.state.Block.{Block}
use Rattle.scene_state.specs.declared.state.Block.TheVariants.{InFrame, InWorld, InAttributes, InTransform}
use Rattle.scene_state.specs.declared.state.World.{World}
use Rattle.scene_state.specs.declared.state.State.{State}

-- the property holds of the state behind a step, if that isn't refused
abbrev pub Behind : (State → Type 0) → Stepped → Type 0
Behind P (Ok s) = P s
Behind P (Err code) = Unit {0}

-- The property holds behind each change that a request makes to this state. What is asked of the number of a light's request is
-- another parameter.
pub record IsKept (P : State → Type 0) (IsNumber : Option ℤ → Type 0) (s : State) : Type 0 where
  pub same : P s
  pub options : (c : ChoiceValues) (name : List ℕ) → P (record s { choices = c; name = name })
  pub current : (m : MapPair) → P (record s { current = m })
  pub look : (l : LookValues) (b : BasisValues) → P (record s { attributes = record s.attributes { look = l; bases = b } })
  pub frame_begins : (length s.blocks == 0) ≡ true → P (record s { blocks = s.blocks ++ InFrame s.attributes s.current s.choices s.name ∷ [] })
  pub frame_ends : (a : Attributes) (m : MapPair) (c : ChoiceValues) (name : List ℕ) → innermost s.blocks ≡ Some (InFrame a m c name)
      → P (record (closed s) { choices = c; name = name; attributes = a; current = m })
  pub world_begins : (w : World) → is_some s.world ≡ false → P (record s { world = Some w; current = still identity; blocks = s.blocks ++ InWorld s.attributes s.current ∷ [] })
  pub world_ends : (w : World) (a : Attributes) (m : MapPair) → s.world ≡ Some w → innermost s.blocks ≡ Some (InWorld a m) → nat_le most_frames (length s.frames) ≡ false
      → P (with_frame w a m (closed s))
  pub attributes_begin : P (record s { blocks = s.blocks ++ InAttributes s.attributes s.current ∷ [] })
  pub attributes_end : (a : Attributes) (m : MapPair) → innermost s.blocks ≡ Some (InAttributes a m) → P (record (closed s) { attributes = a; current = m })
  pub transform_begins : P (record s { blocks = s.blocks ++ InTransform s.current ∷ [] })
  pub transform_ends : (m : MapPair) → innermost s.blocks ≡ Some (InTransform m) → P (record (closed s) { current = m })
  pub surface : (r : Read) (m : Map) → P (record s { shaders = with_request s.shaders (use_of kinds.Surface r m); attributes = with_surface (next_shader s) s.attributes })
  pub displacement : (r : Read) (m : Map)
      → P (record s { shaders = with_request s.shaders (use_of kinds.Displacement r m); attributes = with_displacement (next_shader s) s.attributes })
  pub atmosphere : (r : Read) (m : Map) → P (record s { shaders = with_request s.shaders (use_of kinds.Volume r m); attributes = with_atmosphere (next_shader s) s.attributes })
  pub light : (r : Read) (m : Map) (number : Option ℤ) → IsNumber number
      → P (light_added (next_shader s) number (record s { shaders = with_request s.shaders (use_of kinds.Light r m) }))
  pub illuminated : (k : ℕ) (number on : Option ℤ) → light_named number s.handles ≡ Some k
      → P (record s { attributes = record s.attributes { lights = if is_single on then with_light k s.attributes.lights else without_light k s.attributes.lights } })
  pub patches : (r : Read) (object : Map) (p : PatchValue) (ps : List PatchValue) → is_some s.world ≡ true → P (with_patches r object (p ∷ ps) s)

-- two properties
pub kept_both : (P Q : State → Type 0) (N : Option ℤ → Type 0) (s : State) → IsKept P N s → IsKept Q N s → IsKept (λ t. P t × Q t) N s
kept_both P Q N s p q = record {
  same = (p.same, q.same);
  options = λ c name. (p.options c name, q.options c name);
  current = λ m. (p.current m, q.current m);
  look = λ l b. (p.look l b, q.look l b);
  frame_begins = λ e. (p.frame_begins e, q.frame_begins e);
  frame_ends = λ a m c name e. (p.frame_ends a m c name e, q.frame_ends a m c name e);
  world_begins = λ w e. (p.world_begins w e, q.world_begins w e);
  world_ends = λ w a m opens e room. (p.world_ends w a m opens e room, q.world_ends w a m opens e room);
  attributes_begin = (p.attributes_begin, q.attributes_begin);
  attributes_end = λ a m e. (p.attributes_end a m e, q.attributes_end a m e);
  transform_begins = (p.transform_begins, q.transform_begins);
  transform_ends = λ m e. (p.transform_ends m e, q.transform_ends m e);
  surface = λ r m. (p.surface r m, q.surface r m);
  displacement = λ r m. (p.displacement r m, q.displacement r m);
  atmosphere = λ r m. (p.atmosphere r m, q.atmosphere r m);
  light = λ r m number is. (p.light r m number is, q.light r m number is);
  illuminated = λ k number on e. (p.illuminated k number on e, q.illuminated k number on e);
  patches = λ r object x xs opens. (p.patches r object x xs opens, q.patches r object x xs opens);
}

either : (P : State → Type 0) (b : Bool) (x y : Stepped) → (b ≡ true → Behind P x) → (b ≡ false → Behind P y) → Behind P (if b then x else y)
either P true x y p q = p refl
either P false x y p q = q refl

-- ---- blocks

kept_opened : (P : State → Type 0) (b : Block) (s : State) → P (record s { blocks = s.blocks ++ b ∷ [] }) → Behind P (opened b s)
kept_opened P b s p = either P (nat_le most_blocks (length s.blocks)) (Err M1) (Ok (record s { blocks = s.blocks ++ b ∷ [] })) (λ e. tt) (λ e. p)

kept_frame_begun : (P : State → Type 0) (N : Option ℤ → Type 0) (s : State) → IsKept P N s → Behind P (frame_begun s)
kept_frame_begun P N s k =
    let b = InFrame s.attributes s.current s.choices s.name in
    either P (length s.blocks == 0) (opened b s) (Err N1) (λ e. kept_opened P b s (k.frame_begins e)) (λ e. tt)

kept_frame_ended : (P : State → Type 0) (N : Option ℤ → Type 0) (s : State) → IsKept P N s → (o : Option Block) → innermost s.blocks ≡ o → Behind P (frame_ended o s)
kept_frame_ended P N s k (Some (InFrame a m c name)) e = k.frame_ends a m c name e
kept_frame_ended P N s k _ e = tt

kept_attributes_ended : (P : State → Type 0) (N : Option ℤ → Type 0) (s : State) → IsKept P N s → (o : Option Block) → innermost s.blocks ≡ o → Behind P (attributes_ended o s)
kept_attributes_ended P N s k (Some (InAttributes a m)) e = k.attributes_end a m e
kept_attributes_ended P N s k _ e = tt

kept_transform_ended : (P : State → Type 0) (N : Option ℤ → Type 0) (s : State) → IsKept P N s → (o : Option Block) → innermost s.blocks ≡ o → Behind P (transform_ended o s)
kept_transform_ended P N s k (Some (InTransform m)) e = k.transform_ends m e
kept_transform_ended P N s k _ e = tt

kept_world_with : (P : State → Type 0) (N : Option ℤ → Type 0) (s : State) → IsKept P N s → (v : Result View FormFault) → is_some s.world ≡ false → Behind P (world_with v s)
kept_world_with P N s k (Err e) none = tt
kept_world_with P N s k (Ok camera) none =
    let w : World = record { camera = camera; to_camera = s.current } in
    kept_opened P (InWorld s.attributes s.current) (record s { world = Some w; current = still identity }) (k.world_begins w none)

kept_world_begun : (P : State → Type 0) (N : Option ℤ → Type 0) (s : State) → IsKept P N s → Behind P (world_begun s)
kept_world_begun P N s k =
    let v = camera_of (view_of s.choices) in
    either P (is_some s.world) (Err N1) (world_with v s) (λ e. tt) (λ e. kept_world_with P N s k v e)

kept_frame_made : (P : State → Type 0) (N : Option ℤ → Type 0) (s : State) → IsKept P N s → (o : Option World) → s.world ≡ o
    → (a : Attributes) (m : MapPair) → innermost s.blocks ≡ Some (InWorld a m) → Behind P (frame_made o a m (closed s))
kept_frame_made P N s k None opens a m e = tt
kept_frame_made P N s k (Some w) opens a m e =
    either P (nat_le most_frames (length s.frames)) (Err M2) (Ok (with_frame w a m (closed s))) (λ full. tt) (λ room. k.world_ends w a m opens e room)

kept_world_ended : (P : State → Type 0) (N : Option ℤ → Type 0) (s : State) → IsKept P N s → (o : Option Block) → innermost s.blocks ≡ o → Behind P (world_ended o s)
kept_world_ended P N s k (Some (InWorld a m)) e = kept_frame_made P N s k s.world refl a m e
kept_world_ended P N s k _ e = tt

-- ---- options and transformations

kept_choices : (P : State → Type 0) (N : Option ℤ → Type 0) (s : State) → IsKept P N s → (c : Result ChoiceValues StateCode) → Behind P (with_choices c s)
kept_choices P N s k (Ok c) = k.options c s.name
kept_choices P N s k (Err code) = tt

kept_option : (P : State → Type 0) (N : Option ℤ → Type 0) (s : State) → IsKept P N s → (r : Read) → Behind P (option_set r s)
kept_option P N s k r =
    let c = chosen r s.choices in
    either P (is_some s.world) (Err N2) (with_choices c s) (λ e. tt) (λ e. kept_choices P N s k c)

kept_display : (P : State → Type 0) (N : Option ℤ → Type 0) (s : State) → IsKept P N s → (r : Read) → Behind P (display_set r s)
kept_display P N s k r =
    let name = name_or (word_at r.args 0) s.name in
    either P (is_some s.world) (Err N2) (Ok (record s { name = name })) (λ e. tt) (λ e. k.options s.choices name)

kept_look : (P : State → Type 0) (N : Option ℤ → Type 0) (s : State) → IsKept P N s → (r : Read) → Behind P (look_set r s)
kept_look P N s k r = k.look (look_after r.name r.args r.params s.attributes.look) s.attributes.bases

kept_current : (P : State → Type 0) (N : Option ℤ → Type 0) (s : State) → IsKept P N s → (m : Result MapPair FormFault) → Behind P (with_current m s)
kept_current P N s k (Ok m) = k.current m
kept_current P N s k (Err e) = tt

kept_change : (P : State → Type 0) (N : Option ℤ → Type 0) (s : State) → IsKept P N s → (w : When) (change : Result Change FormFault) → Behind P (with_change w change s)
kept_change P N s k w (Ok change) = kept_current P N s k (behind w change s.current)
kept_change P N s k w (Err e) = tt

kept_turned : (P : State → Type 0) (N : Option ℤ → Type 0) (s : State) → IsKept P N s → (w : When) (r : Read) → Behind P (turned w r s)
kept_turned P N s k w r = kept_change P N s k w (change_of r)

-- ---- shaders and lights

kept_shader : (P : State → Type 0) (s : State) (kind : ShaderKind) (r : Read) (wear : ℕ → Attributes → Attributes) (m : Result Map FormFault)
    → ((space : Map) → P (record s { shaders = with_request s.shaders (use_of kind r space); attributes = wear (next_shader s) s.attributes }))
    → Behind P (with_shader kind r wear m s)
kept_shader P s kind r wear (Ok space) each = each space
kept_shader P s kind r wear (Err e) each = tt

kept_light : (P : State → Type 0) (N : Option ℤ → Type 0) (s : State) → IsKept P N s → (r : Read) → N (whole_at r.args 1) → (m : Result Map FormFault) → Behind P (light_made r m s)
kept_light P N s k r has (Ok m) =
    let t = record s { shaders = with_request s.shaders (use_of kinds.Light r m) } in
    either P (nat_le most_lights (length s.handles)) (Err M4) (Ok (light_added (next_shader s) (whole_at r.args 1) t)) (λ e. tt)
    (λ e. k.light r m (whole_at r.args 1) has)
kept_light P N s k r has (Err e) = tt

kept_illuminated : (P : State → Type 0) (N : Option ℤ → Type 0) (s : State) → IsKept P N s → (number on : Option ℤ) (o : Option ℕ) → light_named number s.handles ≡ o
    → Behind P (illuminated_by o on s)
kept_illuminated P N s k number on (Some n) e = k.illuminated n number on e
kept_illuminated P N s k number on None e = tt

-- ---- primitives

kept_in_world : (P : State → Type 0) (s : State) (placed : Stepped) → (is_some s.world ≡ true → Behind P placed) → Behind P (in_world placed s)
kept_in_world P s placed f = either P (is_some s.world) placed (Err N5) f (λ e. tt)

kept_made : (P : State → Type 0) (N : Option ℤ → Type 0) (s : State) → IsKept P N s → is_some s.world ≡ true → (r : Read) (object : Map) (made : Made)
    → Behind P (patches_placed r object made s)
kept_made P N s k opens r object (Ok []) = k.same
kept_made P N s k opens r object (Ok (p ∷ ps)) = k.patches r object p ps opens
kept_made P N s k opens r object (Err code) = tt

kept_under : (P : State → Type 0) (N : Option ℤ → Type 0) (s : State) → IsKept P N s → is_some s.world ≡ true → (r : Read) (m : Result Map FormFault) → Behind P (primitive_under r m s)
kept_under P N s k opens r (Ok object) = kept_made P N s k opens r object (patches_of r s.attributes.bases object (room_left s))
kept_under P N s k opens r (Err e) = tt

kept_moving : (P : State → Type 0) (N : Option ℤ → Type 0) (s : State) → IsKept P N s → is_some s.world ≡ true → (r last : Read) (shift : ShiftValue) (m end : Result Map FormFault)
    → Behind P (moving_under r last shift m end s)
kept_moving P N s k opens r last shift (Ok object) (Ok end) = kept_made P N s k opens r object (moving_patches_of r s.attributes.bases object (room_left s) last end shift)
kept_moving P N s k opens r last shift (Ok object) (Err e) = tt
kept_moving P N s k opens r last shift (Err e) end = tt

kept_moving_set : (P : State → Type 0) (N : Option ℤ → Type 0) (s : State) → IsKept P N s → is_some s.world ≡ true → (r last : Read) (from to : ℤ)
    → Behind P (moving_set r last from to s)
kept_moving_set P N s k opens r last from to = kept_moving P N s k opens r last (shift_of s.choices from to) (space_of s) (last_space_of s)

kept_by : (P : State → Type 0) (N : Option ℤ → Type 0) (s : State) → IsKept P N s → is_some s.world ≡ true → (t : Times) (r : Read) → Behind P (primitive_by t r s)
kept_by P N s k opens Still r = kept_under P N s k opens r (space_of s)
kept_by P N s k opens (Between from to) r = kept_moving_set P N s k opens r r from to
kept_by P N s k opens Mixed r = tt

kept_primitive : (P : State → Type 0) (N : Option ℤ → Type 0) (s : State) → IsKept P N s → (r : Read) → Behind P (primitive_set r s)
kept_primitive P N s k r = kept_in_world P s (primitive_by (times_of s) r s) (λ opens. kept_by P N s k opens (times_of s) r)

-- the first primitive of a motion block changes nothing
kept_looked : (P : State → Type 0) (s : State) → P s → (made : Made) → Behind P (looked_at made s)
kept_looked P s p (Ok ps) = p
kept_looked P s p (Err code) = tt

kept_first_under : (P : State → Type 0) (s : State) → P s → (r : Read) (m : Result Map FormFault) → Behind P (first_under r m s)
kept_first_under P s p r (Ok object) = kept_looked P s p (patches_of r s.attributes.bases object (room_left s))
kept_first_under P s p r (Err e) = tt

kept_first_by : (P : State → Type 0) (s : State) → P s → (t : Times) (r : Read) → Behind P (first_by t r s)
kept_first_by P s p Mixed r = tt
kept_first_by P s p _ r = kept_first_under P s p r (space_of s)

kept_first : (P : State → Type 0) (s : State) → P s → (from to : ℤ) (r : Read) → Behind P (first_looked_at from to r s)
kept_first P s p from to r =
    let t = joined (times_of s) (Between from to) in
    kept_in_world P s (first_by t r s) (λ opens. kept_first_by P s p t r)

kept_both_placed : (P : State → Type 0) (N : Option ℤ → Type 0) (s : State) → IsKept P N s → (from to : ℤ) (first last : Read) → Behind P (both_placed from to first last s)
kept_both_placed P N s k from to first last =
    either P (are_alike first last) (in_world (moving_set first last from to s) s) (Err N6)
    (λ alike. kept_in_world P s (moving_set first last from to s) (λ opens. kept_moving_set P N s k opens first last from to)) (λ e. tt)

-- ---- all steps

kept_step : (P : State → Type 0) (N : Option ℤ → Type 0) (s : State) → IsKept P N s → (name : Req) (r : Read) → (name ≡ reqs.LightSource → N (whole_at r.args 1))
    → Behind P (step name r s)
kept_step P N s k reqs.FrameBegin r has = kept_frame_begun P N s k
kept_step P N s k reqs.FrameEnd r has = kept_frame_ended P N s k (innermost s.blocks) refl
kept_step P N s k reqs.WorldBegin r has = kept_world_begun P N s k
kept_step P N s k reqs.WorldEnd r has = kept_world_ended P N s k (innermost s.blocks) refl
kept_step P N s k reqs.AttributeBegin r has = kept_opened P (InAttributes s.attributes s.current) s k.attributes_begin
kept_step P N s k reqs.AttributeEnd r has = kept_attributes_ended P N s k (innermost s.blocks) refl
kept_step P N s k reqs.TransformBegin r has = kept_opened P (InTransform s.current) s k.transform_begins
kept_step P N s k reqs.TransformEnd r has = kept_transform_ended P N s k (innermost s.blocks) refl
kept_step P N s k reqs.Format r has = kept_option P N s k r
kept_step P N s k reqs.Shutter r has = kept_option P N s k r
kept_step P N s k reqs.FrameAspectRatio r has = kept_option P N s k r
kept_step P N s k reqs.ScreenWindow r has = kept_option P N s k r
kept_step P N s k reqs.CropWindow r has = kept_option P N s k r
kept_step P N s k reqs.Clipping r has = kept_option P N s k r
kept_step P N s k reqs.Projection r has = kept_option P N s k r
kept_step P N s k reqs.PixelSamples r has = kept_option P N s k r
kept_step P N s k reqs.PixelFilter r has = kept_option P N s k r
kept_step P N s k reqs.Exposure r has = kept_option P N s k r
kept_step P N s k reqs.Quantize r has = kept_option P N s k r
kept_step P N s k reqs.Display r has = kept_display P N s k r
kept_step P N s k reqs.Color r has = kept_look P N s k r
kept_step P N s k reqs.Opacity r has = kept_look P N s k r
kept_step P N s k reqs.ShadingRate r has = kept_look P N s k r
kept_step P N s k reqs.ShadingInterpolation r has = kept_look P N s k r
kept_step P N s k reqs.Sides r has = kept_look P N s k r
kept_step P N s k reqs.Orientation r has = kept_look P N s k r
kept_step P N s k reqs.ReverseOrientation r has = kept_look P N s k r
kept_step P N s k reqs.Attribute r has = kept_look P N s k r
kept_step P N s k reqs.Surface r has = kept_shader P s kinds.Surface r with_surface (space_of s) (k.surface r)
kept_step P N s k reqs.Displacement r has = kept_shader P s kinds.Displacement r with_displacement (space_of s) (k.displacement r)
kept_step P N s k reqs.Atmosphere r has = kept_shader P s kinds.Volume r with_atmosphere (space_of s) (k.atmosphere r)
kept_step P N s k reqs.LightSource r has = kept_light P N s k r (has refl) (space_of s)
kept_step P N s k reqs.Illuminate r has = kept_illuminated P N s k (whole_at r.args 0) (whole_at r.args 1) (light_named (whole_at r.args 0) s.handles) refl
kept_step P N s k reqs.Identity r has = k.current (still identity)
kept_step P N s k reqs.Transform r has = kept_turned P N s k Always r
kept_step P N s k reqs.ConcatTransform r has = kept_turned P N s k Always r
kept_step P N s k reqs.Translate r has = kept_turned P N s k Always r
kept_step P N s k reqs.Scale r has = kept_turned P N s k Always r
kept_step P N s k reqs.Rotate r has = kept_turned P N s k Always r
kept_step P N s k reqs.Basis r has = k.look s.attributes.look (bases_after r.args s.attributes.bases)
kept_step P N s k reqs.Patch r has = kept_primitive P N s k r
kept_step P N s k reqs.PatchMesh r has = kept_primitive P N s k r
kept_step P N s k reqs.Polygon r has = kept_primitive P N s k r
kept_step P N s k reqs.PointsPolygons r has = kept_primitive P N s k r
kept_step P N s k reqs.Sphere r has = kept_primitive P N s k r
kept_step P N s k reqs.Cylinder r has = kept_primitive P N s k r
kept_step P N s k reqs.Cone r has = kept_primitive P N s k r
kept_step P N s k reqs.Disk r has = kept_primitive P N s k r
kept_step P N s k _ r has = k.same

kept_first_after : (P : State → Type 0) (N : Option ℤ → Type 0) (s : State) → IsKept P N s → (from to : ℤ) (r : Read) → Behind P (first_after from to r s)
kept_first_after P N s k from to r =
    either P (is_patch r.name) (first_looked_at from to r s) (turned (First from to) r s) (λ e. kept_first P s k.same from to r) (λ e. kept_turned P N s k (First from to) r)

kept_both_after : (P : State → Type 0) (N : Option ℤ → Type 0) (s : State) → IsKept P N s → (from to : ℤ) (first last : Read) → Behind P (both_after from to first last s)
kept_both_after P N s k from to first last =
    either P (is_patch first.name) (both_placed from to first last s) (turned (Last from to) last s) (λ e. kept_both_placed P N s k from to first last) (λ e. kept_turned P N s k (Last from to) last)

-- what is asked of a light's request
abbrev pub StepHas : (Option ℤ → Type 0) → Step → Type 0
StepHas N (Alone r) = r.name ≡ reqs.LightSource → N (whole_at r.args 1)
StepHas N _ = Unit {0}

pub kept_taken : (P : State → Type 0) (N : Option ℤ → Type 0) (s : State) → IsKept P N s → (x : Step) → StepHas N x → Behind P (taken x s)
kept_taken P N s k (Alone r) has = kept_step P N s k r.name r has
kept_taken P N s k (Begins r) has = either P (nat_le most_blocks (length s.blocks)) (Err M1) (Ok s) (λ e. tt) (λ e. k.same)
kept_taken P N s k (FirstOf from to r) has = kept_first_after P N s k from to r
kept_taken P N s k (Both from to first last) has = kept_both_after P N s k from to first last
kept_taken P N s k (Ends r) has = k.same
kept_taken P N s k (Misplaced r) has = tt

-- where nothing is asked
abbrev pub AnyNumber : Option ℤ → Type 0
AnyNumber number = Unit {0}

pub any_number : (x : Step) → StepHas AnyNumber x
any_number (Alone r) = λ e. tt
any_number _ = tt

-- ---- lists of steps

abbrev pub BehindAll : (State → Type 0) → Result State Placed → Type 0
BehindAll P (Ok s) = P s
BehindAll P (Err e) = Unit {0}

and_then_keeps : (P : State → Type 0) (t : Stepped) (line : ℕ) (go : State → Result State Placed) → Behind P t → ((s : State) → P s → BehindAll P (go s))
    → BehindAll P (and_then t line go)
and_then_keeps P (Ok s) line go p f = f s p
and_then_keeps P (Err code) line go p f = tt

pub kept_from : (P : State → Type 0) → ((s : State) → P s → IsKept P AnyNumber s) → (s : State) (xs : List Step) → P s → BehindAll P (state_from s xs)
kept_from P kept s [] p = p
kept_from P kept s (x ∷ xs) p =
    and_then_keeps P (taken x s) (line_of x) (λ t. state_from t xs) (kept_taken P AnyNumber s (kept s p) x (any_number x)) (λ t q. kept_from P kept t xs q)
