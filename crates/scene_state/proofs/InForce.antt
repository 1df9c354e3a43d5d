-- The shaders of a primitive that is placed are the requests in force.
use Rattle.std.proofs.Common.{◌≡◌, ◌∙◌, ap, sym, refl, subst, ℕ, zero, suc, List, [], ◌∷◌, ◌++◌, length, map, set, drop, Option, Some, None, All}
use Rattle.std.specs.List.{slice_get}
use Rattle.transforms.specs.Map.{Map}
use Rattle.rib_reader.specs.Reading.{Read}
use Rattle.scene.specs.declared.uses.ShaderUse.{ShaderUse}
use Rattle.scene.specs.Scene.{PrimValue}
use Rattle.primitives.specs.Patches.{PatchValue}
use Rattle.primitives.proofs.Lists.{all_none}
use Rattle.scene_state.specs.Shaders.{placed_in, placed, some_placed, all_placed, worn_by}
use Rattle.scene_state.specs.State.{prim_of, with_patches}
use Rattle.scene_state.specs.Laws.{request_in, request_at, IsHad, IsSomeHad, AreHad, Wears, ShadersLaw}
use Rattle.scene_state.specs.declared.attributes.Attributes.{Attributes}
use Rattle.scene_state.specs.declared.shaders.Slot.{Slot}
use Rattle.scene_state.specs.declared.shaders.Slot.TheVariants.{Waiting, Used}
use Rattle.scene_state.specs.declared.shaders.Shaders.{Shaders}
use Rattle.scene_state.specs.declared.state.State.{State}
use Rattle.scene_state.proofs.Keeping.{all_mapped}

use_more : (uses : List ShaderUse) (w : ShaderUse) (n : ℕ) (u : ShaderUse) → slice_get uses n ≡ Some u → slice_get (uses ++ w ∷ []) n ≡ Some u
use_more [] w n u h = absurd cc
use_more (x ∷ xs) w zero u h = h
use_more (x ∷ xs) w (suc n) u h = use_more xs w n u h

use_last : (uses : List ShaderUse) (u : ShaderUse) → slice_get (uses ++ u ∷ []) (length uses) ≡ Some u
use_last [] u = refl
use_last (x ∷ xs) u = use_last xs u

slot_more : (uses : List ShaderUse) (w : ShaderUse) (o : Option Slot) (u : ShaderUse) → request_in uses o ≡ Some u → request_in (uses ++ w ∷ []) o ≡ Some u
slot_more uses w None u h = absurd cc
slot_more uses w (Some (Waiting v)) u h = h
slot_more uses w (Some (Used n)) u h = use_more uses w n u h

-- a request that waits at place k becomes the next use
slot_set : (uses : List ShaderUse) (slots : List Slot) (w : ShaderUse) (k j : ℕ) (u : ShaderUse) → slice_get slots k ≡ Some (Waiting w)
    → request_in uses (slice_get slots j) ≡ Some u → request_in (uses ++ w ∷ []) (slice_get (set slots k (Used (length uses))) j) ≡ Some u
slot_set uses [] w k j u at h = absurd cc
slot_set uses (x ∷ xs) w zero zero u at h = use_last uses w ∙ sym (ap (request_in uses) at) ∙ h
slot_set uses (x ∷ xs) w zero (suc j) u at h = slot_more uses w (slice_get xs j) u h
slot_set uses (x ∷ xs) w (suc k) zero u at h = slot_more uses w (Some x) u h
slot_set uses (x ∷ xs) w (suc k) (suc j) u at h = slot_set uses xs w k j u at h

-- requests and uses stay what they are
record Stays (s t : Shaders) : Type 0 where
  requests : (k : ℕ) (u : ShaderUse) → request_at s k ≡ Some u → request_at t k ≡ Some u
  uses : (n : ℕ) (u : ShaderUse) → slice_get s.uses n ≡ Some u → slice_get t.uses n ≡ Some u

stays_same : (s : Shaders) → Stays s s
stays_same s = record { requests = λ k u h. h; uses = λ n u h. h }

stays_both : (s t v : Shaders) → Stays s t → Stays t v → Stays s v
stays_both s t v f g = record {
  requests = λ k u h. g.requests k u (f.requests k u h);
  uses = λ n u h. g.uses n u (f.uses n u h);
}

placed_stays_in : (s : Shaders) (k : ℕ) (o : Option Slot) → slice_get s.slots k ≡ o → Stays s (placed_in s k o).0
placed_stays_in s k None at = stays_same s
placed_stays_in s k (Some (Used n)) at = stays_same s
placed_stays_in s k (Some (Waiting w)) at = record {
  requests = λ j u h. slot_set s.uses s.slots w k j u at h;
  uses = λ n u h. use_more s.uses w n u h;
}

placed_stays : (s : Shaders) (k : ℕ) → Stays s (placed s k).0
placed_stays s k = placed_stays_in s k (slice_get s.slots k) refl

placed_is_in : (s : Shaders) (k : ℕ) (o : Option Slot) (u : ShaderUse) → request_in s.uses o ≡ Some u → slice_get (placed_in s k o).0.uses (placed_in s k o).1 ≡ Some u
placed_is_in s k None u h = absurd cc
placed_is_in s k (Some (Used n)) u h = h
placed_is_in s k (Some (Waiting w)) u h = use_last s.uses w ∙ h

some_stays : (s : Shaders) (o : Option ℕ) → Stays s (some_placed s o).0
some_stays s None = stays_same s
some_stays s (Some k) = placed_stays s k

all_stays : (s : Shaders) (ks : List ℕ) → Stays s (all_placed s ks).0
all_stays s [] = stays_same s
all_stays s (k ∷ ks) =
    let p = placed s k in
    stays_both s p.0 (all_placed p.0 ks).0 (placed_stays s k) (all_stays p.0 ks)

-- one that is had is had later too
later : (s t v : Shaders) → Stays t v → (k n : ℕ) → IsHad s t.uses k n → IsHad s v.uses k n
later s t v stays k n h = λ u at. stays.uses n u (h u at)

some_later : (s t v : Shaders) → Stays t v → (k n : Option ℕ) → IsSomeHad s t.uses k n → IsSomeHad s v.uses k n
some_later s t v stays None None h = tt
some_later s t v stays (Some k) (Some n) h = later s t v stays k n h
some_later s t v stays None (Some n) h = absurd h
some_later s t v stays (Some k) None h = absurd h

-- what is had, of requests of before
had : (s t : Shaders) → Stays s t → (k : ℕ) → IsHad s (placed t k).0.uses k (placed t k).1
had s t stays k = λ u at. placed_is_in t k (slice_get t.slots k) u (stays.requests k u at)

some_had : (s t : Shaders) → Stays s t → (o : Option ℕ) → IsSomeHad s (some_placed t o).0.uses o (some_placed t o).1
some_had s t stays None = tt
some_had s t stays (Some k) = had s t stays k

all_had : (s t : Shaders) → Stays s t → (ks : List ℕ) → AreHad s (all_placed t ks).0.uses ks (all_placed t ks).1
all_had s t stays [] = tt
all_had s t stays (k ∷ ks) =
    let p = placed t k in
    (later s p.0 (all_placed p.0 ks).0 (all_stays p.0 ks) k p.1 (had s t stays k), all_had s p.0 (stays_both s t p.0 stays (placed_stays t k)) ks)

worn_surface : (s : Shaders) (a : Attributes) (u : ShaderUse) → request_at s a.surface ≡ Some u → slice_get (worn_by s a).0.uses (worn_by s a).1.surface ≡ Some u
worn_surface s a u h =
    let d = some_placed s a.displacement in
    let f = placed d.0 a.surface in
    let v = some_placed f.0 a.atmosphere in
    let l = all_placed v.0 a.lights in
    let here = placed_is_in d.0 a.surface (slice_get d.0.slots a.surface) u ((some_stays s a.displacement).requests a.surface u h) in
    (stays_both f.0 v.0 l.0 (some_stays f.0 a.atmosphere) (all_stays v.0 a.lights)).uses f.1 u here

none_more : {A : Type 0} (xs : List A) → drop (length xs) xs ≡ []
none_more [] = refl
none_more (x ∷ xs) = none_more xs

those_more : {A : Type 0} (xs ys : List A) → drop (length xs) (xs ++ ys) ≡ ys
those_more [] ys = refl
those_more (x ∷ xs) ys = those_more xs ys

pub surface_in_force : (r : Read) (object : Map) (ps : List PatchValue) (s : State) (u : ShaderUse) → request_at s.shaders s.attributes.surface ≡ Some u →
    All (λ p. slice_get (with_patches r object ps s).shaders.uses p.surface ≡ Some u) (drop (length s.prims) (with_patches r object ps s).prims)
surface_in_force r object [] s u h =
    let P = λ (p : PrimValue). slice_get s.shaders.uses p.surface ≡ Some u in
    subst (λ qs. All P qs) (sym (none_more s.prims)) (all_none P)
surface_in_force r object (p ∷ ps) s u h =
    let had = worn_by s.shaders s.attributes in
    let P = λ (q : PrimValue). slice_get had.0.uses q.surface ≡ Some u in
    let made = prim_of r object s.attributes.look had.1 in
    subst (λ qs. All P qs) (sym (those_more s.prims (map made (p ∷ ps)))) (all_mapped P made (p ∷ ps) (λ q. worn_surface s.shaders s.attributes u h))

worn_wears : (s : Shaders) (a : Attributes) (q : PrimValue) → q.surface ≡ (worn_by s a).1.surface → q.displacement ≡ (worn_by s a).1.displacement → q.atmosphere ≡ (worn_by s a).1.atmosphere
    → q.lights ≡ (worn_by s a).1.lights → Wears s a (worn_by s a).0.uses q
worn_wears s a q es ed ev el =
    let d = some_placed s a.displacement in
    let f = placed d.0 a.surface in
    let v = some_placed f.0 a.atmosphere in
    let l = all_placed v.0 a.lights in
    let to_d = some_stays s a.displacement in
    let to_f = stays_both s d.0 f.0 to_d (placed_stays d.0 a.surface) in
    let to_v = stays_both s f.0 v.0 to_f (some_stays f.0 a.atmosphere) in
    let to_l = all_stays v.0 a.lights in
    let from_f = stays_both f.0 v.0 l.0 (some_stays f.0 a.atmosphere) to_l in
    let from_d = stays_both d.0 f.0 l.0 (placed_stays d.0 a.surface) from_f in
    record {
      surface = subst (IsHad s l.0.uses a.surface) (sym es) (later s f.0 l.0 from_f a.surface f.1 (had s d.0 to_d a.surface));
      displacement = subst (IsSomeHad s l.0.uses a.displacement) (sym ed) (some_later s d.0 l.0 from_d a.displacement d.1 (some_had s s (stays_same s) a.displacement));
      atmosphere = subst (IsSomeHad s l.0.uses a.atmosphere) (sym ev) (some_later s v.0 l.0 to_l a.atmosphere v.1 (some_had s f.0 to_f a.atmosphere));
      lights = subst (AreHad s l.0.uses a.lights) (sym el) (all_had s v.0 to_v a.lights);
    }

pub shaders_in_force : ShadersLaw
shaders_in_force r object [] s =
    let P = Wears s.shaders s.attributes s.shaders.uses in
    subst (λ qs. All P qs) (sym (none_more s.prims)) (all_none P)
shaders_in_force r object (p ∷ ps) s =
    let had = worn_by s.shaders s.attributes in
    let P = Wears s.shaders s.attributes had.0.uses in
    let made = prim_of r object s.attributes.look had.1 in
    subst (λ qs. All P qs) (sym (those_more s.prims (map made (p ∷ ps)))) (all_mapped P made (p ∷ ps) (λ q. worn_wears s.shaders s.attributes (made q) refl refl refl refl))
