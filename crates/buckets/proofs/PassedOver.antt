-- A part of a primitive that doesn't meet a rectangle of pixels, or lies behind all that is opaque there, has no leaf that is shown.
use Rattle.std.proofs.Common.{◌≡◌, ◌-◌, arith, refl, ap, ◌∙◌, Bool, true, false, ◌&&◌, List, [], ◌∷◌, filter}
use Rattle.std.specs.Prelude.{ℤ, pos, ◌≤ℤ◌, int_lt, not}
use Rattle.std.proofs.lemmas.Bool.{and_parts}
use Rattle.std.proofs.lemmas.Int.{ints}
use Rattle.fixed_math.specs.Spots.{PixelRect}
use Rattle.patches.specs.Parts.{Part, IsPart, rect_of}
use Rattle.quadrics.specs.AnyPatches.{patch_net, patch_width}
use Rattle.transforms.specs.Field.{IsView}
use Rattle.bound_split.specs.Leaves.{depth, leaves}
use Rattle.bound_split.proofs.Fitting.{decision-fits}
use Rattle.bound_split.proofs.Meetings.{by_bool, PassesUp, meets_up, nearest_up, none_below}
use Rattle.scene.specs.Scene.{PrimValue, FrameValue}
use Rattle.hider.specs.declared.fragment.Fragment.{Fragment}
use Rattle.hider.specs.Composite.{is_opaque}
use Rattle.hider.specs.Kept.{hides, blocks}
use Rattle.buckets.specs.Culled.{leaf_meets, leaf_nearest, part_shows, HoldsBehind}
use Rattle.buckets.specs.Pictures.{decide, prim_box}
use Rattle.buckets.proofs.PrimBoxes.{prim_parts}

-- an opaque fragment before a depth lies before each that is no nearer
pub blocks_behind : (l : List Fragment) → HoldsBehind (λ z. blocks z l)
blocks_behind [] y z h e = absurd (cc)
blocks_behind (g ∷ gs) y z h e =
    by_bool (hides y g)
    (λ o.
    let both = and_parts (is_opaque g) (int_lt g.depth y) o in
    let opaque = both.0 in
    let nearer = both.1 in
    let further : int_lt g.depth z ≡ true = grind (arith, ints) in
    simp (opaque, further))
    (λ o. let rest = blocks_behind gs y z h (rw o at e) in by_bool (hides z g) (λ c. simp c) (λ c. simp (c, rest)))

not_behind : (behind : ℤ → Bool) (y z : ℤ) → (behind y ≡ true → behind z ≡ true) → not (behind z) ≡ true → not (behind y) ≡ true
not_behind behind y z up e =
    by_bool (behind y)
    (λ b. let c = up b in let no : false ≡ true = rw c at e in absurd (cc no))
    (λ b. rw b refl)

pub shows_up : (f : FrameValue) (prim : PrimValue) (r : PixelRect) (behind : ℤ → Bool) → IsView f.camera → pos 0 ≤ℤ prim.bound → HoldsBehind behind → PassesUp (part_shows f prim r behind)
shows_up f prim r behind view low up p q hp hq i e =
    let both = and_parts (leaf_meets f prim r q) (not (behind (leaf_nearest f prim q))) e in
    let meets = meets_up prim_box prim_parts prim f.camera prim.bound r view low p q hp hq i both.0 in
    let nearer = nearest_up prim_box prim_parts prim f.camera prim.bound p q hp hq i in
    let seen = not_behind behind (leaf_nearest f prim p) (leaf_nearest f prim q) (up (leaf_nearest f prim p) (leaf_nearest f prim q) nearer) both.1 in
    ap (λ b. b && not (behind (leaf_nearest f prim p))) meets ∙ seen

-- so everything below it may be passed over before it is split
pub none_shows_below : (f : FrameValue) (prim : PrimValue) (r : PixelRect) (behind : ℤ → Bool) (p : Part) → IsView f.camera → pos 0 ≤ℤ prim.bound → HoldsBehind behind → IsPart p → part_shows f prim r behind p ≡ false →
    filter (part_shows f prim r behind) (leaves (decide f.camera prim) p) ≡ []
none_shows_below f prim r behind p view low up is fails =
    none_below (part_shows f prim r behind) (decide f.camera prim) (shows_up f prim r behind view low up)
    (λ q. decision-fits f.camera prim.rate prim.bound (patch_width prim.patch) (patch_net prim.patch (rect_of q)) q) (16 - depth p) p is fails
