-- The shaders that attributes, lights' numbers and primitives name stay there, and keep their kinds.
use Rattle.std.proofs.Common.{◌≡◌, refl, subst, ℕ, zero, suc, ◌-◌, ℤ, Bool, true, false, List, [], ◌∷◌, ◌++◌, length, map, set, Option, Some, None, Ok, All, slice_get, slice_index_or, if◌then◌else◌, arith, not, ◌==◌}
use Rattle.std.specs.Ordering.{int_eq}
use Rattle.std.specs.Option.{option_or}
use Rattle.std.proofs.lemmas.List.Elements.{All-append, All-take, All-filter}
use Rattle.rib_reader.specs.Reading.{Read}
use Rattle.transforms.specs.Map.{Map, identity}
use Rattle.moving_maps.specs.MapPairs.{MapPair, still}
use Rattle.scene.specs.Scene.{PrimValue, FrameValue, IsUse, IsSomeUse, HasUses}
use Rattle.scene.specs.declared.uses.ShaderKind.{ShaderKind}
use Rattle.scene.specs.declared.uses.ShaderKind.TheVariants as kinds
use Rattle.scene.specs.declared.uses.ShaderUse.{ShaderUse}
use Rattle.scene_parts.specs.Bases.{BasisValues}
use Rattle.scene_parts.specs.Choices.{ChoiceValues}
use Rattle.scene_parts.specs.Lights.{with_light, without_light, is_among}
use Rattle.scene_parts.specs.Looks.{LookValues, is_single}
use Rattle.primitives.specs.Patches.{PatchValue}
use Rattle.primitives.proofs.Lists.{all_none, all_one, all_first, all_then, all_either}
use Rattle.scene_state.specs.MotionBlocks.{Step}
use Rattle.scene_state.specs.Shaders.{with_request, placed_in, placed, some_placed, all_placed, worn_by, light_of}
use Rattle.scene_state.specs.State.{with_frame, first_state, closed, innermost, frame_of, use_of, next_shader, light_added, handle_for, light_named, prim_of, with_patches}
use Rattle.scene_state.specs.Steps.{with_surface, with_displacement, with_atmosphere, taken, state_from}
use Rattle.scene_state.specs.declared.attributes.Attributes.{Attributes}
use Rattle.scene_state.specs.declared.shaders.Slot.{Slot}
use Rattle.scene_state.specs.declared.shaders.Slot.TheVariants.{Waiting, Used}
use Rattle.scene_state.specs.declared.shaders.Shaders.{Shaders}
use Rattle.scene_state.specs.declared.shaders.Handle.{Handle}
use Rattle.scene_state.specs.declared.state.Block.{Block}
use Rattle.scene_state.specs.declared.state.Block.TheVariants.{InFrame, InWorld, InAttributes, InTransform}
use Rattle.scene_state.specs.declared.state.World.{World}
use Rattle.scene_state.specs.declared.state.State.{State}
use Rattle.scene_state.proofs.Changes.{Behind, BehindAll, IsKept, AnyNumber, any_number, kept_taken, kept_from}

-- ---- lists

abbrev pub Of : {A : Type 0} → (A → Type 0) → Option A → Type 0
Of P None = Unit {0}
Of P (Some x) = P x

pub all_more : {A : Type 0} (P : A → Type 0) (xs : List A) (x : A) → All P xs → P x → All P (xs ++ x ∷ [])
all_more P xs x all p = All-append P xs (x ∷ []) all (all_one P x p)

pub all_of : {A : Type 0} (P : A → Type 0) (xs : List A) (n : ℕ) → All P xs → Of P (slice_get xs n)
all_of P [] n all = tt
all_of P (x ∷ xs) zero all = all 0 x (omega arith)
all_of P (x ∷ xs) (suc n) all = all_of P xs n (λ k d h. all (suc k) d (omega (arith, h)))

-- ---- shader requests

-- a request of that kind
abbrev pub SlotIs : List ShaderUse → ShaderKind → Option Slot → Type 0
SlotIs uses kind None = ⊥
SlotIs uses kind (Some (Waiting u)) = u.kind ≡ kind
SlotIs uses kind (Some (Used n)) = IsUse uses kind n

abbrev pub IsShader : Shaders → ShaderKind → ℕ → Type 0
IsShader s kind k = SlotIs s.uses kind (slice_get s.slots k)

abbrev pub IsSomeShader : Shaders → ShaderKind → Option ℕ → Type 0
IsSomeShader s kind None = Unit {0}
IsSomeShader s kind (Some k) = IsShader s kind k

-- whatever is named stays named
pub record Keeps (s t : Shaders) : Type 0 where
  pub shaders : (kind : ShaderKind) (k : ℕ) → IsShader s kind k → IsShader t kind k
  pub uses : (kind : ShaderKind) (n : ℕ) → IsUse s.uses kind n → IsUse t.uses kind n

pub keeps_same : (s : Shaders) → Keeps s s
keeps_same s = record { shaders = λ kind k h. h; uses = λ kind n h. h }

pub keeps_both : (s t u : Shaders) → Keeps s t → Keeps t u → Keeps s u
keeps_both s t u f g = record {
  shaders = λ kind k h. g.shaders kind k (f.shaders kind k h);
  uses = λ kind n h. g.uses kind n (f.uses kind n h);
}

pub some_keeps : (s t : Shaders) (kind : ShaderKind) (o : Option ℕ) → Keeps s t → IsSomeShader s kind o → IsSomeShader t kind o
some_keeps s t kind None f h = tt
some_keeps s t kind (Some k) f h = f.shaders kind k h

use_more : (uses : List ShaderUse) (u : ShaderUse) (kind : ShaderKind) (n : ℕ) → IsUse uses kind n → IsUse (uses ++ u ∷ []) kind n
use_more [] u kind n h = absurd h
use_more (x ∷ xs) u kind zero h = h
use_more (x ∷ xs) u kind (suc n) h = use_more xs u kind n h

use_last : (uses : List ShaderUse) (u : ShaderUse) (kind : ShaderKind) → u.kind ≡ kind → IsUse (uses ++ u ∷ []) kind (length uses)
use_last [] u kind h = h
use_last (x ∷ xs) u kind h = use_last xs u kind h

slot_more : (uses : List ShaderUse) (slots : List Slot) (w : Slot) (kind : ShaderKind) (k : ℕ) → SlotIs uses kind (slice_get slots k) → SlotIs uses kind (slice_get (slots ++ w ∷ []) k)
slot_more uses [] w kind k h = absurd h
slot_more uses (x ∷ xs) w kind zero h = h
slot_more uses (x ∷ xs) w kind (suc k) h = slot_more uses xs w kind k h

slot_last : (uses : List ShaderUse) (slots : List Slot) (u : ShaderUse) → SlotIs uses u.kind (slice_get (slots ++ Waiting u ∷ []) (length slots))
slot_last uses [] u = refl
slot_last uses (x ∷ xs) u = slot_last uses xs u

slot_keeps : (uses more : List ShaderUse) (kind : ShaderKind) (o : Option Slot) → ((n : ℕ) → IsUse uses kind n → IsUse more kind n) → SlotIs uses kind o → SlotIs more kind o
slot_keeps uses more kind None f h = h
slot_keeps uses more kind (Some (Waiting u)) f h = h
slot_keeps uses more kind (Some (Used n)) f h = f n h

-- a request that waits at place k becomes use m
slot_set : (uses more : List ShaderUse) (kind : ShaderKind) (slots : List Slot) (u : ShaderUse) (m k j : ℕ)
    → ((n : ℕ) → IsUse uses kind n → IsUse more kind n) → (u.kind ≡ kind → IsUse more kind m) → slice_get slots k ≡ Some (Waiting u)
    → SlotIs uses kind (slice_get slots j) → SlotIs more kind (slice_get (set slots k (Used m)) j)
slot_set uses more kind [] u m k j f g at h = absurd h
slot_set uses more kind (x ∷ xs) u m zero zero f g at h = g (subst (SlotIs uses kind) at h)
slot_set uses more kind (x ∷ xs) u m zero (suc j) f g at h = slot_keeps uses more kind (slice_get xs j) f h
slot_set uses more kind (x ∷ xs) u m (suc k) zero f g at h = slot_keeps uses more kind (Some x) f h
slot_set uses more kind (x ∷ xs) u m (suc k) (suc j) f g at h = slot_set uses more kind xs u m k j f g at h

pub keeps_request : (s : Shaders) (u : ShaderUse) → Keeps s (with_request s u)
keeps_request s u = record { shaders = λ kind k h. slot_more s.uses s.slots (Waiting u) kind k h; uses = λ kind n h. h }

pub request_is : (s : Shaders) (u : ShaderUse) → IsShader (with_request s u) u.kind (length s.slots)
request_is s u = slot_last s.uses s.slots u

placed_keeps_in : (s : Shaders) (k : ℕ) (o : Option Slot) → slice_get s.slots k ≡ o → Keeps s (placed_in s k o).0
placed_keeps_in s k None at = keeps_same s
placed_keeps_in s k (Some (Used n)) at = keeps_same s
placed_keeps_in s k (Some (Waiting u)) at = record {
  shaders = λ kind j h. slot_set s.uses (s.uses ++ u ∷ []) kind s.slots u (length s.uses) k j (use_more s.uses u kind) (use_last s.uses u kind) at h;
  uses = λ kind n h. use_more s.uses u kind n h;
}

pub placed_keeps : (s : Shaders) (k : ℕ) → Keeps s (placed s k).0
placed_keeps s k = placed_keeps_in s k (slice_get s.slots k) refl

placed_is_in : (s : Shaders) (kind : ShaderKind) (k : ℕ) (o : Option Slot) → SlotIs s.uses kind o → IsUse (placed_in s k o).0.uses kind (placed_in s k o).1
placed_is_in s kind k None h = absurd h
placed_is_in s kind k (Some (Used n)) h = h
placed_is_in s kind k (Some (Waiting u)) h = use_last s.uses u kind h

pub placed_is : (s : Shaders) (kind : ShaderKind) (k : ℕ) → IsShader s kind k → IsUse (placed s k).0.uses kind (placed s k).1
placed_is s kind k h = placed_is_in s kind k (slice_get s.slots k) h

pub some_placed_keeps : (s : Shaders) (o : Option ℕ) → Keeps s (some_placed s o).0
some_placed_keeps s None = keeps_same s
some_placed_keeps s (Some k) = placed_keeps s k

pub some_placed_is : (s : Shaders) (kind : ShaderKind) (o : Option ℕ) → IsSomeShader s kind o → IsSomeUse (some_placed s o).0.uses kind (some_placed s o).1
some_placed_is s kind None h = tt
some_placed_is s kind (Some k) h = placed_is s kind k h

some_use_keeps : (s t : Shaders) (kind : ShaderKind) (o : Option ℕ) → Keeps s t → IsSomeUse s.uses kind o → IsSomeUse t.uses kind o
some_use_keeps s t kind None f h = tt
some_use_keeps s t kind (Some n) f h = f.uses kind n h

pub all_placed_keeps : (s : Shaders) (ks : List ℕ) → Keeps s (all_placed s ks).0
all_placed_keeps s [] = keeps_same s
all_placed_keeps s (k ∷ ks) =
    let p = placed s k in
    keeps_both s p.0 (all_placed p.0 ks).0 (placed_keeps s k) (all_placed_keeps p.0 ks)

pub all_placed_are : (s : Shaders) (kind : ShaderKind) (ks : List ℕ) → All (IsShader s kind) ks → All (IsUse (all_placed s ks).0.uses kind) (all_placed s ks).1
all_placed_are s kind [] all = all_none (IsUse s.uses kind)
all_placed_are s kind (k ∷ ks) all =
    let p = placed s k in
    all_first (IsUse (all_placed p.0 ks).0.uses kind) p.1 (all_placed p.0 ks).1
    ((all_placed_keeps p.0 ks).uses kind p.1 (placed_is s kind k (all 0 k (omega arith))))
    (all_placed_are p.0 kind ks (λ j d h. (placed_keeps s k).shaders kind (slice_index_or ks j d) (all (suc j) d (omega (arith, h)))))

-- ---- states

pub record Wears (s : Shaders) (a : Attributes) : Type 0 where
  pub surface : IsShader s kinds.Surface a.surface
  pub displacement : IsSomeShader s kinds.Displacement a.displacement
  pub atmosphere : IsSomeShader s kinds.Volume a.atmosphere
  pub lights : All (IsShader s kinds.Light) a.lights

abbrev pub BlockWears : Shaders → Block → Type 0
BlockWears s (InFrame a m c name) = Wears s a
BlockWears s (InWorld a m) = Wears s a
BlockWears s (InAttributes a m) = Wears s a
BlockWears s (InTransform m) = Unit {0}

abbrev pub IsHandle : Shaders → Handle → Type 0
IsHandle s h = IsShader s kinds.Light h.light

abbrev pub FrameHasUses : List ShaderUse → FrameValue → Type 0
FrameHasUses uses f = All (HasUses uses) f.prims

pub record IsGood (s : State) : Type 0 where
  pub attributes : Wears s.shaders s.attributes
  pub blocks : All (BlockWears s.shaders) s.blocks
  pub handles : All (IsHandle s.shaders) s.handles
  pub prims : All (HasUses s.shaders.uses) s.prims
  pub frames : All (FrameHasUses s.shaders.uses) s.frames

wears_keeps : (s t : Shaders) (a : Attributes) → Keeps s t → Wears s a → Wears t a
wears_keeps s t a f w = record {
  surface = f.shaders kinds.Surface a.surface w.surface;
  displacement = some_keeps s t kinds.Displacement a.displacement f w.displacement;
  atmosphere = some_keeps s t kinds.Volume a.atmosphere f w.atmosphere;
  lights = all_then (IsShader s kinds.Light) (IsShader t kinds.Light) a.lights (f.shaders kinds.Light) w.lights;
}

block_keeps : (s t : Shaders) → Keeps s t → (b : Block) → BlockWears s b → BlockWears t b
block_keeps s t f (InFrame a m c name) w = wears_keeps s t a f w
block_keeps s t f (InWorld a m) w = wears_keeps s t a f w
block_keeps s t f (InAttributes a m) w = wears_keeps s t a f w
block_keeps s t f (InTransform m) w = tt

prim_keeps : (s t : Shaders) → Keeps s t → (p : PrimValue) → HasUses s.uses p → HasUses t.uses p
prim_keeps s t f p h = record {
  surface = f.uses kinds.Surface p.surface h.surface;
  displacement = some_use_keeps s t kinds.Displacement p.displacement f h.displacement;
  atmosphere = some_use_keeps s t kinds.Volume p.atmosphere f h.atmosphere;
  lights = all_then (IsUse s.uses kinds.Light) (IsUse t.uses kinds.Light) p.lights (f.uses kinds.Light) h.lights;
}

prims_keep : (s t : Shaders) → Keeps s t → (ps : List PrimValue) → All (HasUses s.uses) ps → All (HasUses t.uses) ps
prims_keep s t f ps all = all_then (HasUses s.uses) (HasUses t.uses) ps (prim_keeps s t f) all

-- a state with other shaders that keep what is named
pub state_keeps : (s : State) (t : Shaders) → Keeps s.shaders t → IsGood s → IsGood (record s { shaders = t })
state_keeps s t f g = record {
  attributes = wears_keeps s.shaders t s.attributes f g.attributes;
  blocks = all_then (BlockWears s.shaders) (BlockWears t) s.blocks (block_keeps s.shaders t f) g.blocks;
  handles = all_then (IsHandle s.shaders) (IsHandle t) s.handles (λ h. f.shaders kinds.Light h.light) g.handles;
  prims = prims_keep s.shaders t f s.prims g.prims;
  frames = all_then (FrameHasUses s.shaders.uses) (FrameHasUses t.uses) s.frames (λ x. prims_keep s.shaders t f x.prims) g.frames;
}

-- with other attributes
worn : (s : State) (a : Attributes) → Wears s.shaders a → IsGood s → IsGood (record s { attributes = a })
worn s a w g = record { attributes = w; blocks = g.blocks; handles = g.handles; prims = g.prims; frames = g.frames }

-- ---- what requests change

with_block : (b : Block) (s : State) → BlockWears s.shaders b → IsGood s → IsGood (record s { blocks = s.blocks ++ b ∷ [] })
with_block b s w g = record {
  attributes = g.attributes;
  blocks = all_more (BlockWears s.shaders) s.blocks b g.blocks w;
  handles = g.handles;
  prims = g.prims;
  frames = g.frames;
}

good_closed : (s : State) → IsGood s → IsGood (closed s)
good_closed s g = record {
  attributes = g.attributes;
  blocks = All-take (BlockWears s.shaders) (length s.blocks - 1) s.blocks g.blocks;
  handles = g.handles;
  prims = g.prims;
  frames = g.frames;
}

-- what the innermost block brings back
brought_back : (b : Block) (s : State) → innermost s.blocks ≡ Some b → IsGood s → BlockWears s.shaders b
brought_back b s e g = subst (Of (BlockWears s.shaders)) e (all_of (BlockWears s.shaders) s.blocks (length s.blocks - 1) g.blocks)

-- with a current transformation, options, name of the picture and world of any kind
changed : (s : State) (c : ChoiceValues) (name : List ℕ) (m : MapPair) (w : Option World) → IsGood s
    → IsGood (record s { choices = c; name = name; current = m; world = w })
changed s c name m w g = record { attributes = g.attributes; blocks = g.blocks; handles = g.handles; prims = g.prims; frames = g.frames }

-- the state behind an end of a block
ended : (s : State) (a : Attributes) (m : MapPair) (c : ChoiceValues) (name : List ℕ) → Wears s.shaders a → IsGood s
    → IsGood (record (closed s) { choices = c; name = name; attributes = a; current = m })
ended s a m c name w g = changed (record (closed s) { attributes = a }) c name m s.world (worn (closed s) a w (good_closed s g))

good_frame : (w : World) (a : Attributes) (m : MapPair) (s : State) → Wears s.shaders a → IsGood s → IsGood (with_frame w a m s)
good_frame world a m s w g = record {
  attributes = record { surface = w.surface; displacement = w.displacement; atmosphere = w.atmosphere; lights = all_none (IsShader s.shaders kinds.Light) };
  blocks = g.blocks;
  handles = all_none (IsHandle s.shaders);
  prims = all_none (HasUses s.shaders.uses);
  frames = all_more (FrameHasUses s.shaders.uses) s.frames (frame_of world s) g.frames g.prims;
}

good_look : (l : LookValues) (b : BasisValues) (s : State) → IsGood s → IsGood (record s { attributes = record s.attributes { look = l; bases = b } })
good_look l b s g =
    let w = g.attributes in
    worn s (record s.attributes { look = l; bases = b }) (record { surface = w.surface; displacement = w.displacement; atmosphere = w.atmosphere; lights = w.lights }) g

-- the state with one shader request more, and what its attributes wear
good_request : (s : State) (u : ShaderUse) → IsGood s → IsGood (record s { shaders = with_request s.shaders u })
good_request s u g = state_keeps s (with_request s.shaders u) (keeps_request s.shaders u) g

good_surface : (r : Read) (m : Map) (s : State) → IsGood s
    → IsGood (record s { shaders = with_request s.shaders (use_of kinds.Surface r m); attributes = with_surface (next_shader s) s.attributes })
good_surface r m s g =
    let u = use_of kinds.Surface r m in
    let h = good_request s u g in
    worn (record s { shaders = with_request s.shaders u }) (with_surface (next_shader s) s.attributes)
    (record { surface = request_is s.shaders u; displacement = h.attributes.displacement; atmosphere = h.attributes.atmosphere; lights = h.attributes.lights }) h

good_displacement : (r : Read) (m : Map) (s : State) → IsGood s
    → IsGood (record s { shaders = with_request s.shaders (use_of kinds.Displacement r m); attributes = with_displacement (next_shader s) s.attributes })
good_displacement r m s g =
    let u = use_of kinds.Displacement r m in
    let h = good_request s u g in
    worn (record s { shaders = with_request s.shaders u }) (with_displacement (next_shader s) s.attributes)
    (record { surface = h.attributes.surface; displacement = request_is s.shaders u; atmosphere = h.attributes.atmosphere; lights = h.attributes.lights }) h

good_atmosphere : (r : Read) (m : Map) (s : State) → IsGood s
    → IsGood (record s { shaders = with_request s.shaders (use_of kinds.Volume r m); attributes = with_atmosphere (next_shader s) s.attributes })
good_atmosphere r m s g =
    let u = use_of kinds.Volume r m in
    let h = good_request s u g in
    worn (record s { shaders = with_request s.shaders u }) (with_atmosphere (next_shader s) s.attributes)
    (record { surface = h.attributes.surface; displacement = h.attributes.displacement; atmosphere = request_is s.shaders u; lights = h.attributes.lights }) h

handles_more : (s : Shaders) (hs : List Handle) (number : Option ℤ) (k : ℕ) → IsShader s kinds.Light k → All (IsHandle s) hs → All (IsHandle s) (hs ++ handle_for number k)
handles_more s hs None k is all = All-append (IsHandle s) hs [] all (all_none (IsHandle s))
handles_more s hs (Some number) k is all = all_more (IsHandle s) hs (record { number = number; light = k }) all is

lit : (s : State) (lights : List ℕ) → All (IsShader s.shaders kinds.Light) lights → Wears s.shaders s.attributes → Wears s.shaders (record s.attributes { lights = lights })
lit s lights all w = record { surface = w.surface; displacement = w.displacement; atmosphere = w.atmosphere; lights = all }

good_added : (k : ℕ) (number : Option ℤ) (s : State) → IsShader s.shaders kinds.Light k → IsGood s → IsGood (light_added k number s)
good_added k number s is g = record {
  attributes = lit s (s.attributes.lights ++ k ∷ []) (all_more (IsShader s.shaders kinds.Light) s.attributes.lights k g.attributes.lights is) g.attributes;
  blocks = g.blocks;
  handles = handles_more s.shaders s.handles number k is g.handles;
  prims = g.prims;
  frames = g.frames;
}

good_light : (r : Read) (m : Map) (number : Option ℤ) (s : State) → IsGood s
    → IsGood (light_added (next_shader s) number (record s { shaders = with_request s.shaders (use_of kinds.Light r m) }))
good_light r m number s g =
    let u = use_of kinds.Light r m in
    good_added (next_shader s) number (record s { shaders = with_request s.shaders u }) (request_is s.shaders u) (good_request s u g)

some_either : (s : Shaders) (b : Bool) (x y : Option ℕ) → IsSomeShader s kinds.Light x → IsSomeShader s kinds.Light y → IsSomeShader s kinds.Light (if b then x else y)
some_either s true x y p q = p
some_either s false x y p q = q

or_is : (s : Shaders) (x y : Option ℕ) → IsSomeShader s kinds.Light x → IsSomeShader s kinds.Light y → IsSomeShader s kinds.Light (option_or x y)
or_is s None y p q = q
or_is s (Some k) y p q = p

found_is : (s : Shaders) (hs : List Handle) (number : ℤ) → All (IsHandle s) hs → IsSomeShader s kinds.Light (light_of hs number)
found_is s [] number all = tt
found_is s (h ∷ hs) number all =
    or_is s (light_of hs number) (if int_eq h.number number then Some h.light else None) (found_is s hs number (λ k d l. all (suc k) d (omega (arith, l))))
    (some_either s (int_eq h.number number) (Some h.light) None (all 0 h (omega arith)) tt)

named_is : (s : Shaders) (number : Option ℤ) (hs : List Handle) → All (IsHandle s) hs → IsSomeShader s kinds.Light (light_named number hs)
named_is s None hs all = tt
named_is s (Some number) hs all = found_is s hs number all

with_light_are : (s : Shaders) (k : ℕ) (lights : List ℕ) → IsShader s kinds.Light k → All (IsShader s kinds.Light) lights → All (IsShader s kinds.Light) (with_light k lights)
with_light_are s k lights is all = all_either (IsShader s kinds.Light) (is_among k lights) lights (lights ++ k ∷ []) all (all_more (IsShader s kinds.Light) lights k all is)

without_light_are : (s : Shaders) (k : ℕ) (lights : List ℕ) → All (IsShader s kinds.Light) lights → All (IsShader s kinds.Light) (without_light k lights)
without_light_are s k lights all = All-filter (λ n. not (n == k)) (IsShader s kinds.Light) lights all

good_illuminated : (k : ℕ) (on : Option ℤ) (s : State) → IsShader s.shaders kinds.Light k → IsGood s
    → IsGood (record s { attributes = record s.attributes { lights = if is_single on then with_light k s.attributes.lights else without_light k s.attributes.lights } })
good_illuminated k on s is g =
    let w = g.attributes in
    let put = with_light k s.attributes.lights in
    let taken = without_light k s.attributes.lights in
    let lights = if is_single on then put else taken in
    worn s (record s.attributes { lights = lights })
    (lit s lights (all_either (IsShader s.shaders kinds.Light) (is_single on) put taken (with_light_are s.shaders k s.attributes.lights is w.lights) (without_light_are s.shaders k s.attributes.lights w.lights)) w) g

-- each primitive of patches
pub all_mapped : {A B : Type 0} (P : B → Type 0) (f : A → B) (xs : List A) → ((x : A) → P (f x)) → All P (map f xs)
all_mapped P f [] each = all_none P
all_mapped P f (x ∷ xs) each = all_first P (f x) (map f xs) (each x) (all_mapped P f xs each)

pub good_patches : (r : Read) (object : Map) (q : PatchValue) (qs : List PatchValue) (s : State) → IsGood s → IsGood (with_patches r object (q ∷ qs) s)
good_patches r object q qs s g =
    let a = s.attributes in
    let w = g.attributes in
    let d = some_placed s.shaders a.displacement in
    let f = placed d.0 a.surface in
    let v = some_placed f.0 a.atmosphere in
    let l = all_placed v.0 a.lights in
    let to_d = some_placed_keeps s.shaders a.displacement in
    let d_f = placed_keeps d.0 a.surface in
    let f_v = some_placed_keeps f.0 a.atmosphere in
    let v_l = all_placed_keeps v.0 a.lights in
    let f_l = keeps_both f.0 v.0 l.0 f_v v_l in
    let d_l = keeps_both d.0 f.0 l.0 d_f f_l in
    let to_f = keeps_both s.shaders d.0 f.0 to_d d_f in
    let to_v = keeps_both s.shaders f.0 v.0 to_f f_v in
    let h = state_keeps s l.0 (keeps_both s.shaders v.0 l.0 to_v v_l) g in
    let had = worn_by s.shaders a in
    let made = prim_of r object a.look had.1 in
    let each : (p : PatchValue) → HasUses l.0.uses (made p) = λ p. record {
      surface = f_l.uses kinds.Surface f.1 (placed_is d.0 kinds.Surface a.surface (to_d.shaders kinds.Surface a.surface w.surface));
      displacement = some_use_keeps d.0 l.0 kinds.Displacement d.1 d_l (some_placed_is s.shaders kinds.Displacement a.displacement w.displacement);
      atmosphere = some_use_keeps v.0 l.0 kinds.Volume v.1 v_l (some_placed_is f.0 kinds.Volume a.atmosphere (some_keeps s.shaders f.0 kinds.Volume a.atmosphere to_f w.atmosphere));
      lights = all_placed_are v.0 kinds.Light a.lights (all_then (IsShader s.shaders kinds.Light) (IsShader v.0 kinds.Light) a.lights (to_v.shaders kinds.Light) w.lights);
    } in
    record {
      attributes = h.attributes;
      blocks = h.blocks;
      handles = h.handles;
      prims = All-append (HasUses l.0.uses) s.prims (map made (q ∷ qs)) h.prims (all_mapped (HasUses l.0.uses) made (q ∷ qs) each);
      frames = h.frames;
    }

-- ---- all requests

pub good_kept : (s : State) → IsGood s → IsKept IsGood AnyNumber s
good_kept s g =
    let a = s.attributes in
    record {
      same = g;
      options = λ c name. changed s c name s.current s.world g;
      current = λ m. changed s s.choices s.name m s.world g;
      look = λ l b. good_look l b s g;
      frame_begins = λ e. with_block (InFrame a s.current s.choices s.name) s g.attributes g;
      frame_ends = λ b m c name e. ended s b m c name (brought_back (InFrame b m c name) s e g) g;
      world_begins = λ w e. with_block (InWorld a s.current) (record s { world = Some w; current = still identity }) g.attributes
          (changed s s.choices s.name (still identity) (Some w) g);
      world_ends = λ w b m opens e room. good_frame w b m (closed s) (brought_back (InWorld b m) s e g) (good_closed s g);
      attributes_begin = with_block (InAttributes a s.current) s g.attributes g;
      attributes_end = λ b m e. ended s b m s.choices s.name (brought_back (InAttributes b m) s e g) g;
      transform_begins = with_block (InTransform s.current) s tt g;
      transform_ends = λ m e. changed (closed s) s.choices s.name m s.world (good_closed s g);
      surface = λ r m. good_surface r m s g;
      displacement = λ r m. good_displacement r m s g;
      atmosphere = λ r m. good_atmosphere r m s g;
      light = λ r m number is. good_light r m number s g;
      illuminated = λ k number on e. good_illuminated k on s (subst (IsSomeShader s.shaders kinds.Light) e (named_is s.shaders number s.handles g.handles)) g;
      patches = λ r object p ps opens. good_patches r object p ps s g;
    }

pub step_good : (x : Step) (s t : State) → taken x s ≡ Ok t → IsGood s → IsGood t
step_good x s t e g = subst (Behind IsGood) e (kept_taken IsGood AnyNumber s (good_kept s g) x (any_number x))

pub first_good : IsGood first_state
first_good = record {
  attributes = record { surface = refl; displacement = tt; atmosphere = tt; lights = all_none (IsShader first_state.shaders kinds.Light) };
  blocks = all_none (BlockWears first_state.shaders);
  handles = all_none (IsHandle first_state.shaders);
  prims = all_none (HasUses first_state.shaders.uses);
  frames = all_none (FrameHasUses first_state.shaders.uses);
}

-- the frames behind steps name uses of the right kinds
pub state_is_scene : (xs : List Step) (s : State) → state_from first_state xs ≡ Ok s → All (FrameHasUses s.shaders.uses) s.frames
state_is_scene xs s e = (subst (BehindAll IsGood) e (kept_from IsGood good_kept first_state xs first_good)).frames
