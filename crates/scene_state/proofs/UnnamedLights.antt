-- The primitives of a world begin with the places of the lights in force that have no number: each request keeps that.
use Rattle.std.proofs.Common.{◌≡◌, ◌∙◌, refl, sym, ap, subst, ℕ, zero, suc, ◌-◌, ◌<◌, ◌≤◌, ℤ, Bool, true, false, ◌==◌, not, is_some, nat_lt, take, List, [], ◌∷◌, ◌++◌, length, map, set, Option, Some, None, Ok, All, slice_get, slice_index_or, append_assoc, if◌then◌else◌, arith}
use Rattle.std.specs.Option.{option_or, option_map}
use Rattle.std.specs.Ordering.{int_eq}
use Rattle.std.proofs.lemmas.List.{append-nil}
use Rattle.std.proofs.lemmas.List.Elements.{All-append, All-take, All-filter, filter-append}
use Rattle.std.proofs.lemmas.Bool.Decides.{nat_tests}
use Rattle.rib_reader.specs.Reading.{Read}
use Rattle.transforms.specs.Map.{Map, identity}
use Rattle.moving_maps.specs.MapPairs.{MapPair, still}
use Rattle.scene.specs.Scene.{PrimValue}
use Rattle.scene.specs.declared.uses.ShaderKind.TheVariants as kinds
use Rattle.scene.specs.declared.uses.ShaderUse.{ShaderUse}
use Rattle.primitives.specs.Patches.{PatchValue}
use Rattle.primitives.proofs.Lists.{all_none, all_one, all_first, all_then}
use Rattle.scene_parts.specs.Looks.{is_single}
use Rattle.scene_parts.specs.Lights.{with_light, without_light, is_among, made_before}
use Rattle.scene_parts.proofs.BoundedLights.{all_left}
use Rattle.scene_state.specs.MotionBlocks.{Step}
use Rattle.scene_state.specs.Shaders.{with_request, placed_in, placed, some_placed, all_placed, worn_by, light_of}
use Rattle.scene_state.specs.State.{with_frame, first_state, innermost, closed, outer, use_of, next_shader, light_added, light_named, prim_of, with_patches}
use Rattle.scene_state.specs.Steps.{taken}
use Rattle.scene_state.specs.Unnamed.{first_named, AreAt, SomeAreAt, last_lights, LastAreAt}
use Rattle.scene_state.specs.declared.attributes.Attributes.{Attributes}
use Rattle.scene_state.specs.declared.shaders.Slot.{Slot}
use Rattle.scene_state.specs.declared.shaders.Slot.TheVariants.{Waiting, Used}
use Rattle.scene_state.specs.declared.shaders.Shaders.{Shaders}
use Rattle.scene_state.specs.declared.shaders.Handle.{Handle}
use Rattle.scene_state.specs.declared.state.Block.{Block}
use Rattle.scene_state.specs.declared.state.Block.TheVariants.{InFrame, InWorld, InAttributes, InTransform}
use Rattle.scene_state.specs.declared.state.World.{World}
use Rattle.scene_state.specs.declared.state.State.{State}
use Rattle.scene_state.proofs.Changes.{Behind, IsKept, StepHas, kept_taken}
use Rattle.scene_state.proofs.Keeping.{Of, all_more, all_of, all_mapped, IsShader, SlotIs, BlockWears, IsHandle, IsGood, placed_keeps, some_placed_keeps, keeps_both}

-- ---- places of requests

-- what is a use stays one, at its place
abbrev pub Stay : List Slot → List Slot → Type 0
Stay xs ys = (k n : ℕ) → slice_get xs k ≡ Some (Used n) → slice_get ys k ≡ Some (Used n)

at_more : (xs : List Slot) (w : Slot) (k n : ℕ) → slice_get xs k ≡ Some (Used n) → slice_get (xs ++ w ∷ []) k ≡ Some (Used n)
at_more [] w k n h = absurd cc
at_more (x ∷ xs) w zero n h = h
at_more (x ∷ xs) w (suc k) n h = at_more xs w k n h

at_set : (xs : List Slot) (w : ShaderUse) (m k j n : ℕ) → slice_get xs k ≡ Some (Waiting w) → slice_get xs j ≡ Some (Used n) → slice_get (set xs k (Used m)) j ≡ Some (Used n)
at_set [] w m k j n at h = absurd cc
at_set (x ∷ xs) w m zero zero n at h = absurd cc
at_set (x ∷ xs) w m zero (suc j) n at h = h
at_set (x ∷ xs) w m (suc k) zero n at h = h
at_set (x ∷ xs) w m (suc k) (suc j) n at h = at_set xs w m k j n at h

set_there : (xs : List Slot) (w : ShaderUse) (m k : ℕ) → slice_get xs k ≡ Some (Waiting w) → slice_get (set xs k (Used m)) k ≡ Some (Used m)
set_there [] w m k at = absurd cc
set_there (x ∷ xs) w m zero at = refl
set_there (x ∷ xs) w m (suc k) at = set_there xs w m k at

stay_in : (s : Shaders) (k : ℕ) (o : Option Slot) → slice_get s.slots k ≡ o → Stay s.slots (placed_in s k o).0.slots
stay_in s k None at = λ j n h. h
stay_in s k (Some (Used m)) at = λ j n h. h
stay_in s k (Some (Waiting w)) at = λ j n h. at_set s.slots w (length s.uses) k j n at h

pub placed_stay : (s : Shaders) (k : ℕ) → Stay s.slots (placed s k).0.slots
placed_stay s k = stay_in s k (slice_get s.slots k) refl

pub some_stay : (s : Shaders) (o : Option ℕ) → Stay s.slots (some_placed s o).0.slots
some_stay s None = λ j n h. h
some_stay s (Some k) = placed_stay s k

all_stay : (s : Shaders) (ks : List ℕ) → Stay s.slots (all_placed s ks).0.slots
all_stay s [] = λ j n h. h
all_stay s (k ∷ ks) = λ j n h. all_stay (placed s k).0 ks j n (placed_stay s k j n h)

are_stay : (xs ys : List Slot) → Stay xs ys → (ks ns : List ℕ) → AreAt xs ks ns → AreAt ys ks ns
are_stay xs ys f [] ns h = tt
are_stay xs ys f (k ∷ ks) [] h = h
are_stay xs ys f (k ∷ ks) (n ∷ ns) h = (f k n h.0, are_stay xs ys f ks ns h.1)

pub some_are_stay : (xs ys : List Slot) → Stay xs ys → (ks : List ℕ) (o : Option (List ℕ)) → SomeAreAt xs ks o → SomeAreAt ys ks o
some_are_stay xs ys f ks None h = tt
some_are_stay xs ys f ks (Some ns) h = are_stay xs ys f ks ns h

are_first : (xs : List Slot) (ks js ns : List ℕ) → AreAt xs (ks ++ js) ns → AreAt xs ks ns
are_first xs [] js ns h = tt
are_first xs (k ∷ ks) js [] h = h
are_first xs (k ∷ ks) js (n ∷ ns) h = (h.0, are_first xs ks js ns h.1)

placed_at_in : (s : Shaders) (k : ℕ) (o : Option Slot) → slice_get s.slots k ≡ o → SlotIs s.uses kinds.Light o
    → slice_get (placed_in s k o).0.slots k ≡ Some (Used (placed_in s k o).1)
placed_at_in s k None at is = absurd is
placed_at_in s k (Some (Used n)) at is = at
placed_at_in s k (Some (Waiting w)) at is = set_there s.slots w (length s.uses) k at

-- lights are uses at the places that they get
all_at : (s : Shaders) (ks : List ℕ) → All (IsShader s kinds.Light) ks → AreAt (all_placed s ks).0.slots ks (all_placed s ks).1
all_at s [] all = tt
all_at s (k ∷ ks) all =
    let p = placed s k in (
      all_stay p.0 ks k p.1 (placed_at_in s k (slice_get s.slots k) refl (all 0 k (omega arith))),
      all_at p.0 ks (λ j d h. (placed_keeps s k).shaders kinds.Light (slice_index_or ks j d) (all (suc j) d (omega (arith, h)))),
    )

-- what has a place has it again, and nothing changes
all_again : (s : Shaders) (ks ns : List ℕ) → AreAt s.slots ks ns → all_placed s ks ≡ (s, take (length ks) ns)
all_again s [] ns h = refl
all_again s (k ∷ ks) [] h = absurd h
all_again s (k ∷ ks) (n ∷ ns) h =
    let go : Option Slot → Shaders × List ℕ = λ o. ((all_placed (placed_in s k o).0 ks).0, (placed_in s k o).1 ∷ (all_placed (placed_in s k o).0 ks).1) in
    ap go h.0 ∙ ap (λ (x : Shaders × List ℕ). (x.0, n ∷ x.1)) (all_again s ks ns h.1)

abbrev then_placed : List ℕ → Shaders × List ℕ → Shaders × List ℕ
then_placed js x = ((all_placed x.0 js).0, x.1 ++ (all_placed x.0 js).1)

all_both : (s : Shaders) (ks js : List ℕ) → all_placed s (ks ++ js) ≡ then_placed js (all_placed s ks)
all_both s [] js = refl
all_both s (k ∷ ks) js = let p = placed s k in ap (λ (x : Shaders × List ℕ). (x.0, p.1 ∷ x.1)) (all_both p.0 ks js)

-- the first lights have the places that others begin with, and those behind them get theirs
pub front_and : (s t : Shaders) (front others lights ns ms : List ℕ) → AreAt s.slots front ns → (t, ms) ≡ all_placed s others → lights ≡ front ++ others
    → (t, take (length front) ns ++ ms) ≡ all_placed s lights
front_and s t front others lights ns ms h e is =
    ap (λ (x : Shaders × List ℕ). (x.0, take (length front) ns ++ x.1)) e
    ∙ sym (ap (then_placed others) (all_again s front ns h)) ∙ sym (all_both s front others) ∙ sym (ap (all_placed s) is)

pub shared_and : (s t : Shaders) (front others lights shared ms places : List ℕ) (n : ℕ) (o : Option (List ℕ)) → SomeAreAt s.slots front o → n ≡ length front → option_map (take n) o ≡ Some shared
    → (t, ms) ≡ all_placed s others → lights ≡ front ++ others → places ≡ shared ++ ms → (t, places) ≡ all_placed s lights
shared_and s t front others lights shared ms places n None h len first e is all = absurd cc
shared_and s t front others lights shared ms places n (Some ns) h len first e is all =
    ap (λ (ps : List ℕ). (t, ps)) (all ∙ ap (λ (ps : List ℕ). ps ++ ms) (same (take n ns) shared first) ∙ ap (λ (k : ℕ). take k ns ++ ms) len) ∙ front_and s t front others lights ns ms h e is
  where
    same : (xs ys : List ℕ) → Some xs ≡ Some ys → ys ≡ xs
    same xs ys e = cc

-- what is a use stays one while the shaders before the lights are placed
pub worn_stay : (s : Shaders) (a : Attributes) (d : Shaders × Option ℕ) (f : Shaders × ℕ) (v : Shaders × Option ℕ) → d ≡ some_placed s a.displacement → f ≡ placed d.0 a.surface
    → v ≡ some_placed f.0 a.atmosphere → Stay s.slots v.0.slots
worn_stay s a d f v ed ef ev = λ k n h.
    subst (λ (x : Shaders × Option ℕ). slice_get x.0.slots k ≡ Some (Used n)) (sym ev) (some_stay f.0 a.atmosphere k n
    (subst (λ (x : Shaders × ℕ). slice_get x.0.slots k ≡ Some (Used n)) (sym ef) (placed_stay d.0 a.surface k n
    (subst (λ (x : Shaders × Option ℕ). slice_get x.0.slots k ≡ Some (Used n)) (sym ed) (some_stay s a.displacement k n h)))))

-- ---- lights without a number, and those that have one behind them

abbrev pub Fits : Option ℕ → List ℕ → List ℕ → Type 0
Fits None es ls = ls ≡ []
Fits (Some f) es ls = All (λ n. n < f) es × All (λ n. f ≤ n) ls

pub record Front (o : Option ℕ) (es ls : List ℕ) : Type 0 where
  pub later : List ℕ
  pub is : ls ≡ es ++ later
  pub fits : Fits o es later

pub record HasFront (o : Option ℕ) (ls : List ℕ) : Type 0 where
  pub first : List ℕ
  pub front : Front o first ls

is_before : (n f : ℕ) → n < f → nat_lt n f ≡ true
is_before n f low = grind (arith, nat_tests)

not_before : (n f : ℕ) → f ≤ n → nat_lt n f ≡ false
not_before n f high = grind (arith, nat_tests)

none_made : (f : ℕ) (ls : List ℕ) → All (λ n. f ≤ n) ls → made_before (Some f) ls ≡ []
none_made f [] high = refl
none_made f (n ∷ ns) high =
    subst (λ (t : Bool). (if t then n ∷ made_before (Some f) ns else made_before (Some f) ns) ≡ []) (sym (not_before n f (high 0 n (omega arith))))
    (none_made f ns (λ i d there. high (suc i) d (omega (arith, there))))

made_first : (f : ℕ) (es ls : List ℕ) → All (λ n. n < f) es → All (λ n. f ≤ n) ls → made_before (Some f) (es ++ ls) ≡ es
made_first f [] ls low high = none_made f ls high
made_first f (n ∷ ns) ls low high =
    subst (λ (t : Bool). (if t then n ∷ made_before (Some f) (ns ++ ls) else made_before (Some f) (ns ++ ls)) ≡ n ∷ ns) (sym (is_before n f (low 0 n (omega arith))))
    (ap (λ (ms : List ℕ). n ∷ ms) (made_first f ns ls (λ i d there. low (suc i) d (omega (arith, there))) high))

made_is : (o : Option ℕ) (es ls : List ℕ) → Front o es ls → made_before o ls ≡ es
made_is None es ls f = f.is ∙ ap (λ (ms : List ℕ). es ++ ms) f.fits ∙ append-nil es
made_is (Some k) es ls f = ap (made_before (Some k)) f.is ∙ made_first k es f.later f.fits.0 f.fits.1

abbrev pub free : (ls : List ℕ) → HasFront None ls
free ls = record { first = ls; front = record { later = []; is = sym (append-nil ls); fits = refl } }

-- a light more that comes behind
front_push : (f k : ℕ) (es ls : List ℕ) → f ≤ k → Front (Some f) es ls → Front (Some f) es (ls ++ k ∷ [])
front_push f k es ls h front = record {
  later = front.later ++ k ∷ [];
  is = ap (λ (ms : List ℕ). ms ++ k ∷ []) front.is ∙ append_assoc es front.later (k ∷ []);
  fits = (front.fits.0, all_more (λ n. f ≤ n) front.later k front.fits.1 h);
}

front_without : (f k : ℕ) (es ls : List ℕ) → f ≤ k → Front (Some f) es ls → Front (Some f) es (without_light k ls)
front_without f k es ls h front = record {
  later = without_light k front.later;
  is = ap (without_light k) front.is ∙ filter-append (λ n. not (n == k)) es front.later
      ∙ ap (λ (ms : List ℕ). ms ++ without_light k front.later) (all_left f k es front.fits.0 h);
  fits = (front.fits.0, All-filter (λ n. not (n == k)) (λ n. f ≤ n) front.later front.fits.1);
}

front_either : (o : Option ℕ) (b : Bool) (es xs ys : List ℕ) → Front o es xs → Front o es ys → Front o es (if b then xs else ys)
front_either o true es xs ys p q = p
front_either o false es xs ys p q = q

-- the first light that gets a number
all_below : (k : ℕ) (es ls : List ℕ) → ls ≡ es → All (λ n. n < k) ls → All (λ n. n < k) es
all_below k es ls e low = subst (All (λ n. n < k)) e low

front_named : (k : ℕ) (es ls : List ℕ) → All (λ n. n < k) ls → Front None es ls → Front (Some k) es ls
front_named k es ls low f = record {
  later = [];
  is = f.is ∙ ap (λ (ms : List ℕ). es ++ ms) f.fits;
  fits = (all_below k es ls (f.is ∙ ap (λ (ms : List ℕ). es ++ ms) f.fits ∙ append-nil es) low, all_none (λ n. k ≤ n));
}

-- ---- blocks

abbrev pub BlockFront : Option ℕ → Block → Type 0
BlockFront o (InFrame a m c name) = HasFront o a.lights
BlockFront o (InWorld a m) = HasFront o a.lights
BlockFront o (InAttributes a m) = HasFront o a.lights
BlockFront o (InTransform m) = Unit {0}

abbrev pub BlockBelow : ℕ → Block → Type 0
BlockBelow k (InFrame a m c name) = All (λ n. n < k) a.lights
BlockBelow k (InWorld a m) = All (λ n. n < k) a.lights
BlockBelow k (InAttributes a m) = All (λ n. n < k) a.lights
BlockBelow k (InTransform m) = Unit {0}

abbrev pub NotWorld : Block → Type 0
NotWorld (InFrame a m c name) = Unit {0}
NotWorld (InWorld a m) = ⊥
NotWorld (InAttributes a m) = Unit {0}
NotWorld (InTransform m) = Unit {0}

-- a block inside a world, which brings back the same lights without a number
abbrev pub Inside : Option ℕ → List ℕ → Block → Type 0
Inside o es (InFrame a m c name) = ⊥
Inside o es (InWorld a m) = ⊥
Inside o es (InAttributes a m) = Front o es a.lights
Inside o es (InTransform m) = Unit {0}

abbrev pub Within : Option ℕ → List ℕ → List Block → Type 0
Within o es [] = ⊥
Within o es (InFrame a m c name ∷ bs) = Within o es bs
Within o es (InWorld a m ∷ bs) = All (Inside o es) bs
Within o es (InAttributes a m ∷ bs) = Within o es bs
Within o es (InTransform m ∷ bs) = Within o es bs

-- the open blocks, whether a world is among them or not
abbrev pub Nested : Bool → Option ℕ → List ℕ → List Block → Type 0
Nested false o es bs = All NotWorld bs
Nested true o es bs = Within o es bs

block_free : (b : Block) → BlockFront None b
block_free (InFrame a m c name) = free a.lights
block_free (InWorld a m) = free a.lights
block_free (InAttributes a m) = free a.lights
block_free (InTransform m) = tt

block_named : (k : ℕ) (b : Block) → BlockBelow k b → BlockFront (Some k) b
block_named k (InFrame a m c name) low = record { first = a.lights; front = front_named k a.lights a.lights low (free a.lights).front }
block_named k (InWorld a m) low = record { first = a.lights; front = front_named k a.lights a.lights low (free a.lights).front }
block_named k (InAttributes a m) low = record { first = a.lights; front = front_named k a.lights a.lights low (free a.lights).front }
block_named k (InTransform m) low = tt

inside_named : (k : ℕ) (es : List ℕ) (b : Block) → BlockBelow k b → Inside None es b → Inside (Some k) es b
inside_named k es (InFrame a m c name) low i = i
inside_named k es (InWorld a m) low i = i
inside_named k es (InAttributes a m) low i = front_named k es a.lights low i
inside_named k es (InTransform m) low i = i

all_inside : (k : ℕ) (es : List ℕ) (bs : List Block) → All (BlockBelow k) bs → All (Inside None es) bs → All (Inside (Some k) es) bs
all_inside k es bs low all = λ j d h. inside_named k es (slice_index_or bs j d) (low j d h) (all j d h)

within_named : (k : ℕ) (es : List ℕ) (bs : List Block) → All (BlockBelow k) bs → Within None es bs → Within (Some k) es bs
within_named k es [] low w = w
within_named k es (InFrame a m c name ∷ bs) low w = within_named k es bs (λ j d h. low (suc j) d (omega (arith, h))) w
within_named k es (InWorld a m ∷ bs) low w = all_inside k es bs (λ j d h. low (suc j) d (omega (arith, h))) w
within_named k es (InAttributes a m ∷ bs) low w = within_named k es bs (λ j d h. low (suc j) d (omega (arith, h))) w
within_named k es (InTransform m ∷ bs) low w = within_named k es bs (λ j d h. low (suc j) d (omega (arith, h))) w

nested_named : (t : Bool) (k : ℕ) (es : List ℕ) (bs : List Block) → All (BlockBelow k) bs → Nested t None es bs → Nested t (Some k) es bs
nested_named false k es bs low n = n
nested_named true k es bs low n = within_named k es bs low n

within_more : (o : Option ℕ) (es : List ℕ) (bs : List Block) (b : Block) → Inside o es b → Within o es bs → Within o es (bs ++ b ∷ [])
within_more o es [] b i w = absurd w
within_more o es (InFrame a m c name ∷ bs) b i w = within_more o es bs b i w
within_more o es (InWorld a m ∷ bs) b i w = all_more (Inside o es) bs b w i
within_more o es (InAttributes a m ∷ bs) b i w = within_more o es bs b i w
within_more o es (InTransform m ∷ bs) b i w = within_more o es bs b i w

-- a world begins
within_first : (o : Option ℕ) (es : List ℕ) (bs : List Block) (a : Attributes) (m : MapPair) → All NotWorld bs → Within o es (bs ++ InWorld a m ∷ [])
within_first o es [] a m all = all_none (Inside o es)
within_first o es (InFrame b n c name ∷ bs) a m all = within_first o es bs a m (λ j d h. all (suc j) d (omega (arith, h)))
within_first o es (InWorld b n ∷ bs) a m all = absurd (all 0 (InWorld b n) (omega arith))
within_first o es (InAttributes b n ∷ bs) a m all = within_first o es bs a m (λ j d h. all (suc j) d (omega (arith, h)))
within_first o es (InTransform n ∷ bs) a m all = within_first o es bs a m (λ j d h. all (suc j) d (omega (arith, h)))

inside_last : (o : Option ℕ) (es : List ℕ) (bs : List Block) (n : ℕ) (b : Block) → All (Inside o es) bs → slice_get bs n ≡ Some b → Inside o es b
inside_last o es bs n b all e = subst (Of (Inside o es)) e (all_of (Inside o es) bs n all)

-- the innermost block isn't the world's
abbrev pub IsInner : Block → Type 0
IsInner b = NotWorld b

within_back : (o : Option ℕ) (es : List ℕ) (bs : List Block) (n : ℕ) (b : Block) → suc n ≡ length bs → slice_get bs n ≡ Some b → IsInner b → Within o es bs
    → Within o es (take n bs) × Inside o es b
within_back o es [] n b l e i w = absurd w
within_back o es (InWorld a m ∷ bs) zero b l e i w = absurd (subst (λ (x : Option Block). Of NotWorld x) (sym e) i)
within_back o es (InWorld a m ∷ bs) (suc n) b l e i w = (All-take (Inside o es) n bs w, inside_last o es bs n b w e)
within_back o es (InFrame a m c name ∷ []) zero b l e i w = absurd w
within_back o es (InFrame a m c name ∷ x ∷ bs) zero b l e i w = absurd (omega (arith, l))
within_back o es (InFrame a m c name ∷ bs) (suc n) b l e i w = within_back o es bs n b (omega (arith, l)) e i w
within_back o es (InAttributes a m ∷ []) zero b l e i w = absurd w
within_back o es (InAttributes a m ∷ x ∷ bs) zero b l e i w = absurd (omega (arith, l))
within_back o es (InAttributes a m ∷ bs) (suc n) b l e i w = within_back o es bs n b (omega (arith, l)) e i w
within_back o es (InTransform m ∷ []) zero b l e i w = absurd w
within_back o es (InTransform m ∷ x ∷ bs) zero b l e i w = absurd (omega (arith, l))
within_back o es (InTransform m ∷ bs) (suc n) b l e i w = within_back o es bs n b (omega (arith, l)) e i w

-- the innermost block is the world's
within_ends : (o : Option ℕ) (es : List ℕ) (bs : List Block) (n : ℕ) (a : Attributes) (m : MapPair) → suc n ≡ length bs → slice_get bs n ≡ Some (InWorld a m) → Within o es bs
    → All NotWorld (take n bs)
within_ends o es [] n a m l e w = absurd w
within_ends o es (b ∷ bs) zero a m l e w = all_none NotWorld
within_ends o es (InWorld x y ∷ bs) (suc n) a m l e w = absurd (inside_last o es bs n (InWorld a m) w e)
within_ends o es (InFrame x y c name ∷ bs) (suc n) a m l e w = all_first NotWorld (InFrame x y c name) (take n bs) tt (within_ends o es bs n a m (omega (arith, l)) e w)
within_ends o es (InAttributes x y ∷ bs) (suc n) a m l e w = all_first NotWorld (InAttributes x y) (take n bs) tt (within_ends o es bs n a m (omega (arith, l)) e w)
within_ends o es (InTransform x ∷ bs) (suc n) a m l e w = all_first NotWorld (InTransform x) (take n bs) tt (within_ends o es bs n a m (omega (arith, l)) e w)

outer_back : (o : Option ℕ) (es : List ℕ) (bs : List Block) (b : Block) → innermost bs ≡ Some b → IsInner b → Within o es bs → Within o es (outer bs) × Inside o es b
outer_back o es [] b e i w = absurd w
outer_back o es (x ∷ bs) b e i w = within_back o es (x ∷ bs) (length (x ∷ bs) - 1) b (omega arith) e i w

outer_ends : (o : Option ℕ) (es : List ℕ) (bs : List Block) (a : Attributes) (m : MapPair) → innermost bs ≡ Some (InWorld a m) → Within o es bs → All NotWorld (outer bs)
outer_ends o es [] a m e w = absurd w
outer_ends o es (x ∷ bs) a m e w = within_ends o es (x ∷ bs) (length (x ∷ bs) - 1) a m (omega arith) e w

none_within : (o : Option ℕ) (es : List ℕ) (bs : List Block) → (length bs == 0) ≡ true → Within o es bs → ⊥
none_within o es [] h w = w
none_within o es (b ∷ bs) h w = absurd (grind (arith, nat_tests, h))

-- ---- states

abbrev pub Late : Option ℕ → ℕ → Type 0
Late None k = ⊥
Late (Some f) k = f ≤ k

pub record Lit (slots : List Slot) (hs : List Handle) (lights : List ℕ) (bs : List Block) (opens : Bool) (ps : List PrimValue) : Type 0 where
  pub handles : All (λ h. Late (first_named hs) h.light) hs
  pub first : List ℕ
  pub front : Front (first_named hs) first lights
  pub blocks : All (BlockFront (first_named hs)) bs
  pub nested : Nested opens (first_named hs) first bs
  pub prims : All (λ p. AreAt slots first p.lights) ps
  pub shut : opens ≡ false → ps ≡ []

-- the primitives of the world begin with the places of the lights without a number, which the blocks in the world bring back
abbrev pub IsLit : State → Type 0
IsLit s = Lit s.shaders.slots s.handles s.attributes.lights s.blocks (is_some s.world) s.prims

of_map : (slots : List Slot) (es : List ℕ) (o : Option PrimValue) → Of (λ p. AreAt slots es p.lights) o → SomeAreAt slots es (option_map (λ p. p.lights) o)
of_map slots es None h = tt
of_map slots es (Some p) h = h

pub last_are_at : (s : State) → IsLit s → LastAreAt s
last_are_at s l =
    let slots = s.shaders.slots in
    subst (λ es. SomeAreAt slots es (last_lights s.prims)) (sym (made_is (first_named s.handles) l.first s.attributes.lights l.front))
    (of_map slots l.first (slice_get s.prims (length s.prims - 1)) (all_of (λ p. AreAt slots l.first p.lights) s.prims (length s.prims - 1) l.prims))

-- ---- blocks that open and end

nested_more : (t : Bool) (o : Option ℕ) (es : List ℕ) (bs : List Block) (b : Block) → NotWorld b → (t ≡ true → Inside o es b) → Nested t o es bs → Nested t o es (bs ++ b ∷ [])
nested_more false o es bs b w i n = all_more NotWorld bs b n w
nested_more true o es bs b w i n = within_more o es bs b (i refl) n

lit_opened : (b : Block) (s : State) (l : IsLit s) → NotWorld b → BlockFront (first_named s.handles) b → (is_some s.world ≡ true → Inside (first_named s.handles) l.first b)
    → IsLit (record s { blocks = s.blocks ++ b ∷ [] })
lit_opened b s l w f i =
    let o = first_named s.handles in
    record {
      handles = l.handles;
      first = l.first;
      front = l.front;
      blocks = all_more (BlockFront o) s.blocks b l.blocks f;
      nested = nested_more (is_some s.world) o l.first s.blocks b w i l.nested;
      prims = l.prims;
      shut = l.shut;
    }

has : (s : State) → IsLit s → HasFront (first_named s.handles) s.attributes.lights
has s l = record { first = l.first; front = l.front }

lit_frame_begun : (s : State) → (length s.blocks == 0) ≡ true → IsLit s → IsLit (record s { blocks = s.blocks ++ InFrame s.attributes s.current s.choices s.name ∷ [] })
lit_frame_begun s e l =
    let o = first_named s.handles in
    lit_opened (InFrame s.attributes s.current s.choices s.name) s l tt (has s l)
    (λ t. absurd (none_within o l.first s.blocks e (subst (λ b. Nested b o l.first s.blocks) t l.nested)))

lit_world : (w : World) (s : State) → is_some s.world ≡ false → IsLit s
    → IsLit (record s { world = Some w; current = still identity; blocks = s.blocks ++ InWorld s.attributes s.current ∷ [] })
lit_world w s none l =
    let o = first_named s.handles in
    record {
      handles = l.handles;
      first = l.first;
      front = l.front;
      blocks = all_more (BlockFront o) s.blocks (InWorld s.attributes s.current) l.blocks (has s l);
      nested = within_first o l.first s.blocks s.attributes s.current (subst (λ b. Nested b o l.first s.blocks) none l.nested);
      prims = l.prims;
      shut = λ h. absurd cc;
    }

-- a block that isn't a world's ends, and lights come back
lit_back : (t : Bool) (slots : List Slot) (hs : List Handle) (ls ks : List ℕ) (bs : List Block) (ps : List PrimValue) (b : Block) (l : Lit slots hs ls bs t ps) → innermost bs ≡ Some b → NotWorld b
    → HasFront (first_named hs) ks → (Inside (first_named hs) l.first b → Front (first_named hs) l.first ks) → Lit slots hs ks (outer bs) t ps
lit_back false slots hs ls ks bs ps b l e w h i = record {
  handles = l.handles;
  first = h.first;
  front = h.front;
  blocks = All-take (BlockFront (first_named hs)) (length bs - 1) bs l.blocks;
  nested = All-take NotWorld (length bs - 1) bs l.nested;
  prims = subst (All (λ p. AreAt slots h.first p.lights)) (sym (l.shut refl)) (all_none (λ p. AreAt slots h.first p.lights));
  shut = l.shut;
}
lit_back true slots hs ls ks bs ps b l e w h i =
    let back = outer_back (first_named hs) l.first bs b e w l.nested in
    record {
      handles = l.handles;
      first = l.first;
      front = i back.1;
      blocks = All-take (BlockFront (first_named hs)) (length bs - 1) bs l.blocks;
      nested = back.0;
      prims = l.prims;
      shut = l.shut;
    }

block_at : (s : State) (b : Block) → innermost s.blocks ≡ Some b → IsLit s → BlockFront (first_named s.handles) b
block_at s b e l = subst (Of (BlockFront (first_named s.handles))) e (all_of (BlockFront (first_named s.handles)) s.blocks (length s.blocks - 1) l.blocks)

lit_ended : (b : Block) (ks : List ℕ) (s : State) (l : IsLit s) → innermost s.blocks ≡ Some b → NotWorld b → HasFront (first_named s.handles) ks
    → (Inside (first_named s.handles) l.first b → Front (first_named s.handles) l.first ks) → Lit s.shaders.slots s.handles ks (outer s.blocks) (is_some s.world) s.prims
lit_ended b ks s l e w h i = lit_back (is_some s.world) s.shaders.slots s.handles s.attributes.lights ks s.blocks s.prims b l e w h i

lit_frame : (w : World) (a : Attributes) (m : MapPair) (s : State) → s.world ≡ Some w → innermost s.blocks ≡ Some (InWorld a m) → IsLit s → IsLit (with_frame w a m (closed s))
lit_frame w a m s opens e l =
    let o = first_named s.handles in
    record {
      handles = all_none (λ h. Late None h.light);
      first = [];
      front = (free []).front;
      blocks = λ j d h. block_free (slice_index_or (outer s.blocks) j d);
      nested = outer_ends o l.first s.blocks a m e (subst (λ x. Nested (is_some x) o l.first s.blocks) opens l.nested);
      prims = all_none (λ p. AreAt s.shaders.slots [] p.lights);
      shut = λ h. refl;
    }

-- ---- shaders and lights

-- the requests that are uses stay where they are
lit_stays : (slots more : List Slot) (hs : List Handle) (ls : List ℕ) (bs : List Block) (t : Bool) (ps : List PrimValue) → Stay slots more → Lit slots hs ls bs t ps → Lit more hs ls bs t ps
lit_stays slots more hs ls bs t ps f l = record {
  handles = l.handles;
  first = l.first;
  front = l.front;
  blocks = l.blocks;
  nested = l.nested;
  prims = all_then (λ p. AreAt slots l.first p.lights) (λ p. AreAt more l.first p.lights) ps (λ p h. are_stay slots more f l.first p.lights h) l.prims;
  shut = l.shut;
}

lit_request : (s : State) (u : ShaderUse) → IsLit s → IsLit (record s { shaders = with_request s.shaders u })
lit_request s u l =
    lit_stays s.shaders.slots (s.shaders.slots ++ Waiting u ∷ []) s.handles s.attributes.lights s.blocks (is_some s.world) s.prims
    (λ k n h. at_more s.shaders.slots (Waiting u) k n h) l

-- a light's number and place come behind all others
lit_added : (number : ℤ) (k : ℕ) (slots : List Slot) (hs : List Handle) (ls : List ℕ) (bs : List Block) (t : Bool) (ps : List PrimValue) → All (λ n. n < k) ls → All (BlockBelow k) bs
    → All (λ h. h.light < k) hs → Lit slots hs ls bs t ps → Lit slots (hs ++ record { number = number; light = k } ∷ []) (ls ++ k ∷ []) bs t ps
lit_added number k slots [] ls bs t ps low blocks handles l = record {
  handles = all_one (λ h. Late (Some k) h.light) (record { number = number; light = k }) (omega arith);
  first = l.first;
  front = front_push k k l.first ls (omega arith) (front_named k l.first ls low l.front);
  blocks = λ j d h. block_named k (slice_index_or bs j d) (blocks j d h);
  nested = nested_named t k l.first bs blocks l.nested;
  prims = l.prims;
  shut = l.shut;
}
lit_added number k slots (x ∷ hs) ls bs t ps low blocks handles l =
    let late : x.light ≤ k = let first = handles 0 x (omega arith) in omega (arith, first) in
    record {
      handles = all_more (λ h. Late (Some x.light) h.light) (x ∷ hs) (record { number = number; light = k }) l.handles late;
      first = l.first;
      front = front_push x.light k l.first ls late l.front;
      blocks = l.blocks;
      nested = l.nested;
      prims = l.prims;
      shut = l.shut;
    }

slot_there : (uses : List ShaderUse) (slots : List Slot) (k : ℕ) → SlotIs uses kinds.Light (slice_get slots k) → k < length slots
slot_there uses [] k h = absurd h
slot_there uses (x ∷ xs) zero h = omega arith
slot_there uses (x ∷ xs) (suc k) h = let rest = slot_there uses xs k h in omega (arith, rest)

lights_there : (s : Shaders) (ls : List ℕ) → All (IsShader s kinds.Light) ls → All (λ n. n < length s.slots) ls
lights_there s ls all = all_then (IsShader s kinds.Light) (λ n. n < length s.slots) ls (λ n h. slot_there s.uses s.slots n h) all

block_there : (s : Shaders) (b : Block) → BlockWears s b → BlockBelow (length s.slots) b
block_there s (InFrame a m c name) w = lights_there s a.lights w.lights
block_there s (InWorld a m) w = lights_there s a.lights w.lights
block_there s (InAttributes a m) w = lights_there s a.lights w.lights
block_there s (InTransform m) w = tt

lit_made : (number : Option ℤ) (u : ShaderUse) (s : State) → (number ≡ None → ⊥) → IsGood s → IsLit s
    → IsLit (light_added (next_shader s) number (record s { shaders = with_request s.shaders u }))
lit_made None u s some g l = absurd (some refl)
lit_made (Some number) u s some g l =
    lit_added number (next_shader s) (s.shaders.slots ++ Waiting u ∷ []) s.handles s.attributes.lights s.blocks (is_some s.world) s.prims
    (lights_there s.shaders s.attributes.lights g.attributes.lights)
    (all_then (BlockWears s.shaders) (BlockBelow (next_shader s)) s.blocks (λ b w. block_there s.shaders b w) g.blocks)
    (all_then (IsHandle s.shaders) (λ h. h.light < next_shader s) s.handles (λ h is. slot_there s.shaders.uses s.shaders.slots h.light is) g.handles)
    (lit_request s u l)

abbrev pub SomeLate : Option ℕ → Option ℕ → Type 0
SomeLate o None = Unit {0}
SomeLate o (Some k) = Late o k

late_either : (o : Option ℕ) (b : Bool) (k : ℕ) → Late o k → SomeLate o (if b then Some k else None)
late_either o true k h = h
late_either o false k h = tt

or_late : (o x y : Option ℕ) → SomeLate o x → SomeLate o y → SomeLate o (option_or x y)
or_late o None y p q = q
or_late o (Some k) y p q = p

found_late : (o : Option ℕ) (hs : List Handle) (number : ℤ) → All (λ h. Late o h.light) hs → SomeLate o (light_of hs number)
found_late o [] number all = tt
found_late o (h ∷ hs) number all =
    or_late o (light_of hs number) (if int_eq h.number number then Some h.light else None) (found_late o hs number (λ k d l. all (suc k) d (omega (arith, l))))
    (late_either o (int_eq h.number number) h.light (all 0 h (omega arith)))

named_late : (o : Option ℕ) (number : Option ℤ) (hs : List Handle) → All (λ h. Late o h.light) hs → SomeLate o (light_named number hs)
named_late o None hs all = tt
named_late o (Some number) hs all = found_late o hs number all

front_put : (o : Option ℕ) (k : ℕ) (es ls : List ℕ) → Late o k → Front o es ls → Front o es (with_light k ls)
front_put None k es ls late f = absurd late
front_put (Some n) k es ls late f = front_either (Some n) (is_among k ls) es ls (ls ++ k ∷ []) f (front_push n k es ls late f)

front_taken : (o : Option ℕ) (k : ℕ) (es ls : List ℕ) → Late o k → Front o es ls → Front o es (without_light k ls)
front_taken None k es ls late f = absurd late
front_taken (Some n) k es ls late f = front_without n k es ls late f

lit_illuminated : (k : ℕ) (on : Option ℤ) (s : State) → Late (first_named s.handles) k → IsLit s
    → IsLit (record s { attributes = record s.attributes { lights = if is_single on then with_light k s.attributes.lights else without_light k s.attributes.lights } })
lit_illuminated k on s late l =
    let o = first_named s.handles in
    let ls = s.attributes.lights in
    record {
      handles = l.handles;
      first = l.first;
      front = front_either o (is_single on) l.first (with_light k ls) (without_light k ls) (front_put o k l.first ls late l.front) (front_taken o k l.first ls late l.front);
      blocks = l.blocks;
      nested = l.nested;
      prims = l.prims;
      shut = l.shut;
    }

-- ---- primitives

lit_patches : (r : Read) (object : Map) (q : PatchValue) (qs : List PatchValue) (s : State) → is_some s.world ≡ true → IsGood s → IsLit s → IsLit (with_patches r object (q ∷ qs) s)
unfolding lit_stays
lit_patches r object q qs s opens g l =
    let a = s.attributes in
    let w = g.attributes in
    let d = some_placed s.shaders a.displacement in
    let f = placed d.0 a.surface in
    let v = some_placed f.0 a.atmosphere in
    let had = all_placed v.0 a.lights in
    let to_v = keeps_both s.shaders f.0 v.0 (keeps_both s.shaders d.0 f.0 (some_placed_keeps s.shaders a.displacement) (placed_keeps d.0 a.surface)) (some_placed_keeps f.0 a.atmosphere) in
    let stays : Stay s.shaders.slots had.0.slots =
    λ k n h. all_stay v.0 a.lights k n (some_stay f.0 a.atmosphere k n (placed_stay d.0 a.surface k n (some_stay s.shaders a.displacement k n h))) in
    let kept = lit_stays s.shaders.slots had.0.slots s.handles a.lights s.blocks (is_some s.world) s.prims stays l in
    let made = prim_of r object a.look (worn_by s.shaders a).1 in
    let P = λ (p : PrimValue). AreAt had.0.slots l.first p.lights in
    let all = all_at v.0 a.lights (all_then (IsShader s.shaders kinds.Light) (IsShader v.0 kinds.Light) a.lights (to_v.shaders kinds.Light) w.lights) in
    let here : AreAt had.0.slots l.first had.1 = are_first had.0.slots l.first l.front.later had.1 (subst (λ ks. AreAt had.0.slots ks had.1) l.front.is all) in
    record {
      handles = l.handles;
      first = l.first;
      front = l.front;
      blocks = l.blocks;
      nested = l.nested;
      prims = All-append P s.prims (map made (q ∷ qs)) kept.prims (all_mapped P made (q ∷ qs) (λ p. here));
      shut = λ h. absurd (both_ways (is_some s.world) opens h);
    }
  where
    both_ways : (b : Bool) → b ≡ true → b ≡ false → ⊥
    both_ways true t f = cc
    both_ways false t f = cc

-- ---- all requests

-- a light's request has a number
abbrev pub IsNumber : Option ℤ → Type 0
IsNumber number = number ≡ None → ⊥

abbrev pub StepHasNumber : Step → Type 0
StepHasNumber x = StepHas IsNumber x

lit_kept : (s : State) → IsGood s → IsLit s → IsKept IsLit IsNumber s
lit_kept s g l =
    let a = s.attributes in
    let o = first_named s.handles in
    record {
      same = l;
      options = λ c name. l;
      current = λ m. l;
      look = λ looks bases. l;
      frame_begins = λ e. lit_frame_begun s e l;
      frame_ends = λ b m c name e. lit_ended (InFrame b m c name) b.lights s l e tt (block_at s (InFrame b m c name) e l) (λ i. absurd i);
      world_begins = λ w none. lit_world w s none l;
      world_ends = λ w b m opens e room. lit_frame w b m s opens e l;
      attributes_begin = lit_opened (InAttributes a s.current) s l tt (has s l) (λ e. l.front);
      attributes_end = λ b m e. lit_ended (InAttributes b m) b.lights s l e tt (block_at s (InAttributes b m) e l) (λ i. i);
      transform_begins = lit_opened (InTransform s.current) s l tt tt (λ e. tt);
      transform_ends = λ m e. lit_ended (InTransform m) a.lights s l e tt (has s l) (λ i. l.front);
      surface = λ r m. lit_request s (use_of kinds.Surface r m) l;
      displacement = λ r m. lit_request s (use_of kinds.Displacement r m) l;
      atmosphere = λ r m. lit_request s (use_of kinds.Volume r m) l;
      light = λ r m number is. lit_made number (use_of kinds.Light r m) s is g l;
      illuminated = λ k number on e. lit_illuminated k on s (subst (SomeLate o) e (named_late o number s.handles l.handles)) l;
      patches = λ r object p ps opens. lit_patches r object p ps s opens g l;
    }

pub first_lit : IsLit first_state
first_lit = record {
  handles = all_none (λ h. Late None h.light);
  first = [];
  front = (free []).front;
  blocks = all_none (BlockFront None);
  nested = all_none NotWorld;
  prims = all_none (λ p. AreAt first_state.shaders.slots [] p.lights);
  shut = λ h. refl;
}

pub step_lit : (x : Step) (s t : State) → taken x s ≡ Ok t → StepHasNumber x → IsGood s → IsLit s → IsLit t
step_lit x s t e some g l = subst (Behind IsLit) e (kept_taken IsLit IsNumber s (lit_kept s g l) x some)
