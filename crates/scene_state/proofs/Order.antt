-- The uses of a scene stand in the order in which its primitives first have them.
use Rattle.std.proofs.Common.{◌≡◌, refl, sym, ap, ◌∙◌, subst, ℕ, zero, suc, ◌<◌, Bool, true, false, ◌||◌, ◌-◌, take, List, [], ◌∷◌, ◌++◌, length, map, Option, Some, None, Ok, All, slice_get, slice_index_or, is_some, ◌==◌, append_assoc, arith}
use Rattle.std.proofs.lemmas.List.{append-nil}
use Rattle.std.proofs.lemmas.Bool.Decides.{nat_tests}
use Rattle.std.specs.List.{list_any}
use Rattle.std.proofs.lemmas.List.Elements.{All-append}
use Rattle.rib_reader.specs.Reading.{Read}
use Rattle.transforms.specs.Map.{Map, identity}
use Rattle.moving_maps.specs.MapPairs.{MapPair, still}
use Rattle.scene.specs.Scene.{PrimValue, FrameValue, IsUse, IsSomeUse, HasUses}
use Rattle.scene.specs.declared.uses.ShaderKind.{ShaderKind}
use Rattle.scene.specs.declared.uses.ShaderKind.TheVariants as kinds
use Rattle.scene.specs.declared.uses.ShaderUse.{ShaderUse}
use Rattle.primitives.specs.Patches.{PatchValue}
use Rattle.primitives.proofs.Lists.{all_none, all_one, all_first, all_then}
use Rattle.scene_state.specs.FirstUse.{place_in, places_in, places_of, all_places, firsts, below}
use Rattle.scene_state.specs.MotionBlocks.{Step}
use Rattle.scene_state.specs.Shaders.{placed_in, placed, some_placed, all_placed, worn_by}
use Rattle.scene_state.specs.State.{with_frame, first_state, innermost, closed, outer, frame_of, prim_of, with_patches}
use Rattle.scene_state.specs.Steps.{state_from}
use Rattle.scene_state.specs.declared.attributes.Attributes.{Attributes}
use Rattle.scene_state.specs.declared.shaders.Slot.{Slot}
use Rattle.scene_state.specs.declared.shaders.Slot.TheVariants.{Waiting, Used}
use Rattle.scene_state.specs.declared.shaders.Shaders.{Shaders}
use Rattle.scene_state.specs.declared.state.Block.{Block}
use Rattle.scene_state.specs.declared.state.Block.TheVariants.{InFrame, InWorld, InAttributes, InTransform}
use Rattle.scene_state.specs.declared.state.World.{World}
use Rattle.scene_state.specs.declared.state.State.{State}
use Rattle.scene_state.proofs.FirstUse.{Reaches, reaches_again, reaches_next}
use Rattle.scene_state.proofs.Changes.{BehindAll, IsKept, AnyNumber, kept_both, kept_from}
use Rattle.scene_state.proofs.Keeping.{IsShader, IsSomeShader, SlotIs, IsGood, good_kept, good_patches, first_good, some_keeps, keeps_both, placed_keeps, some_placed_keeps}

-- ---- places that are had one after another

use_there : (uses : List ShaderUse) (kind : ShaderKind) (n : ℕ) → IsUse uses kind n → n < length uses
use_there [] kind n h = absurd h
use_there (u ∷ us) kind zero h = omega arith
use_there (u ∷ us) kind (suc n) h = let rest = use_there us kind n h in omega (arith, rest)

one_longer : (us : List ShaderUse) (u : ShaderUse) → length (us ++ u ∷ []) ≡ suc (length us)
one_longer [] u = refl
one_longer (x ∷ us) u = ap suc (one_longer us u)

placed_reaches_in : (s : Shaders) (kind : ShaderKind) (k : ℕ) (o : Option Slot) (ns : List ℕ) → SlotIs s.uses kind o → Reaches ns (length s.uses)
    → Reaches (ns ++ (placed_in s k o).1 ∷ []) (length (placed_in s k o).0.uses)
placed_reaches_in s kind k None ns is r = absurd is
placed_reaches_in s kind k (Some (Used n)) ns is r = reaches_again ns (length s.uses) n r (use_there s.uses kind n is)
placed_reaches_in s kind k (Some (Waiting u)) ns is r = subst (Reaches (ns ++ length s.uses ∷ [])) (sym (one_longer s.uses u)) (reaches_next ns (length s.uses) r)

placed_reaches : (s : Shaders) (kind : ShaderKind) (k : ℕ) (ns : List ℕ) → IsShader s kind k → Reaches ns (length s.uses)
    → Reaches (ns ++ (placed s k).1 ∷ []) (length (placed s k).0.uses)
placed_reaches s kind k ns is r = placed_reaches_in s kind k (slice_get s.slots k) ns is r

no_more : (ns : List ℕ) (n : ℕ) → Reaches ns n → Reaches (ns ++ []) n
no_more ns n r = subst (λ ms. Reaches ms n) (sym (append-nil ns)) r

some_reaches : (s : Shaders) (kind : ShaderKind) (o : Option ℕ) (ns : List ℕ) → IsSomeShader s kind o → Reaches ns (length s.uses)
    → Reaches (ns ++ place_in (some_placed s o).1) (length (some_placed s o).0.uses)
some_reaches s kind None ns is r = no_more ns (length s.uses) r
some_reaches s kind (Some k) ns is r = placed_reaches s kind k ns is r

all_reaches : (s : Shaders) (kind : ShaderKind) (ks ns : List ℕ) → All (IsShader s kind) ks → Reaches ns (length s.uses)
    → Reaches (ns ++ (all_placed s ks).1) (length (all_placed s ks).0.uses)
all_reaches s kind [] ns all r = no_more ns (length s.uses) r
all_reaches s kind (k ∷ ks) ns all r =
    let p = placed s k in
    subst (λ ms. Reaches ms (length (all_placed p.0 ks).0.uses)) (append_assoc ns (p.1 ∷ []) (all_placed p.0 ks).1)
    (all_reaches p.0 kind ks (ns ++ p.1 ∷ []) (λ j d h. (placed_keeps s k).shaders kind (slice_index_or ks j d) (all (suc j) d (omega (arith, h)))) (placed_reaches s kind k ns (all 0 k (omega arith)) r))

-- ---- states

places_of-append : (ps : List PrimValue) (p : PrimValue) → places_of (ps ++ p ∷ []) ≡ places_of ps ++ places_in p
places_of-append [] p = append-nil (places_in p)
places_of-append (q ∷ ps) p = ap (λ ns. places_in q ++ ns) (places_of-append ps p) ∙ sym (append_assoc (places_in q) (places_of ps) (places_in p))

all_places-append : (fs : List FrameValue) (f : FrameValue) → all_places (fs ++ f ∷ []) ≡ all_places fs ++ places_of f.prims
all_places-append [] f = append-nil (places_of f.prims)
all_places-append (g ∷ fs) f = ap (λ ns. places_of g.prims ++ ns) (all_places-append fs f) ∙ sym (append_assoc (places_of g.prims) (all_places fs) (places_of f.prims))

-- the places that the primitives so far have
abbrev walked : State → List ℕ
walked s = all_places s.frames ++ places_of s.prims

abbrev is_world : Block → Bool
is_world (InFrame a m c name) = false
is_world (InWorld a m) = true
is_world (InAttributes a m) = false
is_world (InTransform m) = false

abbrev has_world : List Block → Bool
has_world bs = list_any is_world bs

-- the places that the primitives so far have reach just as far as the uses; where no world's block is open there are no primitives of one
abbrev pub IsOrdered : State → Type 0
IsOrdered s = Reaches (walked s) (length s.shaders.uses) × (has_world s.blocks ≡ false → s.prims ≡ []) × (is_some s.world ≡ true → has_world s.blocks ≡ true)

or_nothing : (a : Bool) → (a || false) ≡ a
or_nothing true = refl
or_nothing false = refl

has_world-append : (bs : List Block) (b : Block) → has_world (bs ++ b ∷ []) ≡ (has_world bs || is_world b)
has_world-append [] b = or_nothing (is_world b)
has_world-append (x ∷ bs) b = ap (λ t. is_world x || t) (has_world-append bs b) ∙ or_assoc (is_world x) (has_world bs) (is_world b)
  where
    or_assoc : (a b c : Bool) → (a || (b || c)) ≡ ((a || b) || c)
    or_assoc true b c = refl
    or_assoc false b c = refl

same_block : (x b : Block) → Some x ≡ Some b → x ≡ b
same_block x b e = cc

without_last : (bs : List Block) (n : ℕ) (b : Block) → suc n ≡ length bs → slice_get bs n ≡ Some b → is_world b ≡ false → has_world (take n bs) ≡ has_world bs
without_last [] n b l e w = absurd cc
without_last (x ∷ []) zero b l e w = sym (or_nothing (is_world x) ∙ ap is_world (same_block x b e) ∙ w)
without_last (x ∷ y ∷ bs) zero b l e w = absurd (omega (arith, l))
without_last (x ∷ bs) (suc n) b l e w = ap (λ t. is_world x || t) (without_last bs n b (omega (arith, l)) e w)

-- a block that isn't a world's is closed
outer_world : (bs : List Block) (b : Block) → innermost bs ≡ Some b → is_world b ≡ false → has_world (outer bs) ≡ has_world bs
outer_world [] b e w = absurd cc
outer_world (x ∷ bs) b e w = without_last (x ∷ bs) (length (x ∷ bs) - 1) b (omega arith) e w

ordered_closed : (s : State) (b : Block) → innermost s.blocks ≡ Some b → is_world b ≡ false → IsOrdered s → IsOrdered (closed s)
ordered_closed s b e w o = (o.0, λ h. o.1 (sym (outer_world s.blocks b e w) ∙ h), λ h. outer_world s.blocks b e w ∙ o.2 h)

or_first_false : (a b : Bool) → (a || b) ≡ false → a ≡ false
or_first_false true b h = absurd cc
or_first_false false b h = refl

or_first_true : (a b : Bool) → a ≡ true → (a || b) ≡ true
or_first_true true b h = refl
or_first_true false b h = absurd cc

ordered_with : (b : Block) (s : State) → Reaches (walked s) (length s.shaders.uses) → (has_world s.blocks ≡ false → s.prims ≡ [])
    → (is_some s.world ≡ true → (has_world s.blocks || is_world b) ≡ true) → IsOrdered (record s { blocks = s.blocks ++ b ∷ [] })
ordered_with b s walk shut opens =
    (walk, λ h. shut (or_first_false (has_world s.blocks) (is_world b) (sym (has_world-append s.blocks b) ∙ h)), λ h. has_world-append s.blocks b ∙ opens h)

ordered_opened : (b : Block) (s : State) → IsOrdered s → IsOrdered (record s { blocks = s.blocks ++ b ∷ [] })
ordered_opened b s o = ordered_with b s o.0 o.1 (λ h. or_first_true (has_world s.blocks) (is_world b) (o.2 h))

or_last_true : (a : Bool) → (a || true) ≡ true
or_last_true true = refl
or_last_true false = refl

none_open : (w : Option World) → w ≡ None → is_some w ≡ true → ⊥
none_open None e h = cc
none_open (Some w) e h = cc

ordered_frame : (w : World) (a : Attributes) (m : MapPair) (s : State) → Reaches (walked s) (length s.shaders.uses) → IsOrdered (with_frame w a m s)
ordered_frame w a m s walk = (
  subst (λ ns. Reaches ns (length s.shaders.uses)) (sym (append-nil (all_places (s.frames ++ frame_of w s ∷ [])) ∙ all_places-append s.frames (frame_of w s))) walk,
  λ h. refl,
  λ h. absurd (none_open None refl h),
)

-- ---- primitives

grouped : (w d : List ℕ) (f : ℕ) (v l : List ℕ) → (((w ++ d) ++ f ∷ []) ++ v) ++ l ≡ w ++ (d ++ (f ∷ (v ++ l)))
grouped w d f v l =
    append_assoc ((w ++ d) ++ f ∷ []) v l ∙ append_assoc (w ++ d) (f ∷ []) (v ++ l) ∙ append_assoc w d (f ∷ (v ++ l))

-- places that were had before, several
reaches_all : (ns ms : List ℕ) (n : ℕ) → Reaches ns n → All (λ m. m < n) ms → Reaches (ns ++ ms) n
reaches_all ns [] n r below = no_more ns n r
reaches_all ns (m ∷ ms) n r below =
    subst (λ ks. Reaches ks n) (append_assoc ns (m ∷ []) ms)
    (reaches_all (ns ++ m ∷ []) ms n (reaches_again ns n m r (below 0 m (omega arith))) (λ k d h. below (suc k) d (omega (arith, h))))

some_there : (uses : List ShaderUse) (kind : ShaderKind) (o : Option ℕ) → IsSomeUse uses kind o → All (λ m. m < length uses) (place_in o)
some_there uses kind None h = all_none (λ m. m < length uses)
some_there uses kind (Some n) h = all_one (λ m. m < length uses) n (use_there uses kind n h)

places_there : (uses : List ShaderUse) (p : PrimValue) → HasUses uses p → All (λ m. m < length uses) (places_in p)
places_there uses p h =
    let low = λ (m : ℕ). m < length uses in
    All-append low (place_in p.displacement) (p.surface ∷ (place_in p.atmosphere ++ p.lights)) (some_there uses kinds.Displacement p.displacement h.displacement)
    (all_first low p.surface (place_in p.atmosphere ++ p.lights) (use_there uses kinds.Surface p.surface h.surface)
    (All-append low (place_in p.atmosphere) p.lights (some_there uses kinds.Volume p.atmosphere h.atmosphere)
    (all_then (IsUse uses kinds.Light) low p.lights (λ n is. use_there uses kinds.Light n is) h.lights)))

-- primitives that have no shader for the first time
reaches_more : (uses : List ShaderUse) (ps : List PrimValue) (ns : List ℕ) → All (HasUses uses) ps → Reaches ns (length uses) → Reaches (ns ++ places_of ps) (length uses)
reaches_more uses [] ns all r = no_more ns (length uses) r
reaches_more uses (p ∷ ps) ns all r =
    subst (λ ks. Reaches ks (length uses)) (append_assoc ns (places_in p) (places_of ps))
    (reaches_more uses ps (ns ++ places_in p) (λ k d h. all (suc k) d (omega (arith, h)))
    (reaches_all ns (places_in p) (length uses) r (places_there uses p (all 0 p (omega arith)))))

places_of-both : (ps qs : List PrimValue) → places_of (ps ++ qs) ≡ places_of ps ++ places_of qs
places_of-both [] qs = refl
places_of-both (p ∷ ps) qs = ap (λ ns. places_in p ++ ns) (places_of-both ps qs) ∙ sym (append_assoc (places_in p) (places_of ps) (places_of qs))

ordered_patches : (r : Read) (object : Map) (q : PatchValue) (qs : List PatchValue) (s : State) → is_some s.world ≡ true → IsGood s → IsOrdered s
    → IsOrdered (with_patches r object (q ∷ qs) s)
ordered_patches r object q qs s opens g o =
    let a = s.attributes in
    let w = g.attributes in
    let d = some_placed s.shaders a.displacement in
    let f = placed d.0 a.surface in
    let v = some_placed f.0 a.atmosphere in
    let l = all_placed v.0 a.lights in
    let to_d = some_placed_keeps s.shaders a.displacement in
    let to_f = keeps_both s.shaders d.0 f.0 to_d (placed_keeps d.0 a.surface) in
    let to_v = keeps_both s.shaders f.0 v.0 to_f (some_placed_keeps f.0 a.atmosphere) in
    let ds = walked s ++ place_in d.1 in
    let fs = ds ++ f.1 ∷ [] in
    let vs = fs ++ place_in v.1 in
    let had_d = some_reaches s.shaders kinds.Displacement a.displacement (walked s) w.displacement o.0 in
    let had_f = placed_reaches d.0 kinds.Surface a.surface ds (to_d.shaders kinds.Surface a.surface w.surface) had_d in
    let had_v = some_reaches f.0 kinds.Volume a.atmosphere fs (some_keeps s.shaders f.0 kinds.Volume a.atmosphere to_f w.atmosphere) had_f in
    let had_l = all_reaches v.0 kinds.Light a.lights vs (all_then (IsShader s.shaders kinds.Light) (IsShader v.0 kinds.Light) a.lights (to_v.shaders kinds.Light) w.lights) had_v in
    let made = prim_of r object a.look (worn_by s.shaders a).1 in
    let rest = map made qs in
    let all = (good_patches r object q qs s g).prims in
    let later : All (HasUses l.0.uses) rest = λ k d h. all_behind (HasUses l.0.uses) s.prims (made q) rest all k d h in
    let first : Reaches (walked s ++ places_in (made q)) (length l.0.uses) =
    subst (λ ns. Reaches ns (length l.0.uses)) (grouped (walked s) (place_in d.1) f.1 (place_in v.1) l.1) had_l in
    let walk : (walked s ++ places_in (made q)) ++ places_of rest ≡ all_places s.frames ++ places_of (s.prims ++ made q ∷ rest) =
    append_assoc (walked s) (places_in (made q)) (places_of rest)
    ∙ append_assoc (all_places s.frames) (places_of s.prims) (places_in (made q) ++ places_of rest)
    ∙ sym (ap (λ ns. all_places s.frames ++ ns) (places_of-both s.prims (made q ∷ rest))) in
    (subst (λ ns. Reaches ns (length l.0.uses)) walk (reaches_more l.0.uses rest (walked s ++ places_in (made q)) later first), λ h. absurd (both_ways (has_world s.blocks) (o.2 opens) h), o.2)
  where
    both_ways : (b : Bool) → b ≡ true → b ≡ false → ⊥
    both_ways true t f = cc
    both_ways false t f = cc

    all_behind : (P : PrimValue → Type 0) (ps : List PrimValue) (p : PrimValue) (qs : List PrimValue) → All P (ps ++ p ∷ qs) → All P qs
    all_behind P [] p qs all = λ k d h. all (suc k) d (omega (arith, h))
    all_behind P (x ∷ ps) p qs all = all_behind P ps p qs (λ k d h. all (suc k) d (omega (arith, h)))

-- ---- all requests

ordered_kept : (s : State) → IsGood s → IsOrdered s → IsKept IsOrdered AnyNumber s
ordered_kept s g o = record {
  same = o;
  options = λ c name. o;
  current = λ m. o;
  look = λ l b. o;
  frame_begins = λ e. ordered_opened (InFrame s.attributes s.current s.choices s.name) s o;
  frame_ends = λ a m c name e. ordered_closed s (InFrame a m c name) e refl o;
  world_begins = λ w e. ordered_with (InWorld s.attributes s.current) (record s { world = Some w; current = still identity }) o.0 o.1 (λ h. or_last_true (has_world s.blocks));
  world_ends = λ w a m opens e room. ordered_frame w a m (closed s) o.0;
  attributes_begin = ordered_opened (InAttributes s.attributes s.current) s o;
  attributes_end = λ a m e. ordered_closed s (InAttributes a m) e refl o;
  transform_begins = ordered_opened (InTransform s.current) s o;
  transform_ends = λ m e. ordered_closed s (InTransform m) e refl o;
  surface = λ r m. o;
  displacement = λ r m. o;
  atmosphere = λ r m. o;
  light = λ r m number is. o;
  illuminated = λ k number on e. o;
  patches = λ r object p ps opens. ordered_patches r object p ps s opens g o;
}

abbrev IsGoodInOrder : State → Type 0
IsGoodInOrder s = IsGood s × IsOrdered s

both_kept : (s : State) → IsGoodInOrder s → IsKept IsGoodInOrder AnyNumber s
both_kept s h = kept_both IsGood IsOrdered AnyNumber s (good_kept s h.0) (ordered_kept s h.0 h.1)

no_blocks : (bs : List Block) → (length bs == 0) ≡ true → has_world bs ≡ false
no_blocks [] h = refl
no_blocks (b ∷ bs) h = absurd (grind (arith, nat_tests, h))

-- the uses of a scene stand in the order of their first use
pub scene_in_order : (xs : List Step) (s : State) → state_from first_state xs ≡ Ok s → (length s.blocks == 0) ≡ true → firsts (all_places s.frames) ≡ below (length s.shaders.uses)
scene_in_order xs s e h =
    let first : IsOrdered first_state = (refl, λ h. refl, λ h. absurd (none_open None refl h)) in
    let o = (subst (BehindAll IsGoodInOrder) e (kept_from IsGoodInOrder both_kept first_state xs (first_good, first))).1 in
    subst (λ ns. Reaches ns (length s.shaders.uses)) (ap (λ ps. all_places s.frames ++ places_of ps) (o.1 (no_blocks s.blocks h)) ∙ append-nil (all_places s.frames)) o.0
