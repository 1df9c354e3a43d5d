-- What the sight of a piece tells, and what is known of pieces.
use Rattle.std.proofs.Common.{◌≡◌, ◌∙◌, ap, sym, subst, refl, ℕ, ◌<◌, Bool, true, false, List, [], ◌∷◌, ◌++◌, length, get_or, set, replicate, Option, Some, None, ◌+◌, ◌≤◌}
use Rattle.std.specs.Prelude.{ℤ, pos, ◌≤ℤ◌, All, slice_get, ◌&&◌, not}
use Rattle.std.proofs.lemmas.Option.{slice_get-get_or}
use Rattle.std.proofs.lemmas.List.{length-set, length-replicate}
use Rattle.std.proofs.lemmas.List.Elements.{All-replicate, All-set}
use Rattle.fixed_math.specs.Spots.{PixelRect}
use Rattle.patches.specs.Parts.{Part, IsPart, rect_of, whole_of}
use Rattle.buckets.specs.Pictures.{prim_box}
use Rattle.transforms.specs.Field.{IsView}
use Rattle.scene.specs.Scene.{PrimValue, FrameValue}
use Rattle.bound_split.specs.declared.extents.Extent.{Extent}
use Rattle.bound_split.specs.declared.sights.Sight.{Sight}
use Rattle.bound_split.specs.declared.splits.Decision.TheVariants.{Dice}
use Rattle.bound_split.specs.declared.walk.Leaf.{Leaf}
use Rattle.bound_split.specs.Culling.{Skips}
use Rattle.bound_split.specs.Leaves.{pending}
use Rattle.bound_split.specs.Extents.{extent_of, reaches}
use Rattle.bound_split.proofs.Culls.{skips-drop}
use Rattle.buckets.specs.declared.sights.Known.{Known}
use Rattle.buckets.specs.Pictures.{decide, FrameLeaf}
use Rattle.buckets.specs.Sights.{IsSight, IsKnown, AreKnown}
use Rattle.buckets.specs.Standing.{to_come, GivesNext, Skips as LeavesOut, shows_in}
use Rattle.buckets.specs.Culled.{part_shows, HoldsBehind}
use Rattle.buckets.proofs.PassedOver.{none_shows_below}
use Rattle.buckets.proofs.Coming.{gives_leaf, skips_prim}

-- the sight of a part of a primitive, by other names of these
pub sight_as : (f g : FrameValue) (p q : PrimValue) (part : Part) (s : Sight) → f ≡ g → p ≡ q → IsSight f p part s → IsSight g q part s
sight_as f g p q part s frames prims is = subst (λ (h : FrameValue). IsSight h q part s) frames (subst (λ (o : PrimValue). IsSight f o part s) prims is)

-- the decision of a piece, in a frame that is that of the sights
pub decided : (f g : FrameValue) (prim : PrimValue) (part : Part) (s : Sight) → g ≡ f → IsSight g prim part s → decide f.camera prim part ≡ s.decision
decided f g prim part s same is = ap (λ (h : FrameValue). decide h.camera prim part) (sym same) ∙ sym is.decision

-- whether a piece shows in a tile: it meets it, and doesn't lie behind
pub shows_as : (f g : FrameValue) (prim : PrimValue) (part : Part) (r : PixelRect) (back : ℤ → Bool) (s : Sight) (told b : Bool) → g ≡ f → IsSight g prim part s
    → told ≡ (reaches s.extent.reach r && not (back s.extent.nearest)) → told ≡ b → part_shows f prim r back part ≡ b
shows_as f g prim part r back s told b same is tells at' =
    let test : Extent → Bool = λ e. reaches e.reach r && not (back e.nearest) in
    ap (λ (h : FrameValue). test (extent_of h.camera prim.bound (prim_box prim (rect_of part)))) (sym same) ∙ ap test (sym is.extent) ∙ sym tells ∙ at'

-- a piece that doesn't is passed over with all below it
pub drops_piece : (f : FrameValue) (prim : PrimValue) (r : PixelRect) (back : ℤ → Bool) (all s : List Part) (p : Part) → IsView f.camera → pos 0 ≤ℤ prim.bound → HoldsBehind back → IsPart p → part_shows f prim r back p ≡ false
    → Skips (part_shows f prim r back) all (pending (decide f.camera prim) (s ++ p ∷ [])) → Skips (part_shows f prim r back) all (pending (decide f.camera prim) s)
drops_piece f prim r back all s p view low up part fails =
    let test : Part → Bool = part_shows f prim r back in
    skips-drop (λ q b. b ≡ test q) (decide f.camera prim) test all s p
    (record { computed = λ q b part is. is; inherited = λ q part none. none_shows_below f prim r back q view low up part none }) part (sym fails)

-- ---- a primitive of the frame, as the sights have it
pub next_there : (f g : FrameValue) (n : ℕ) (prim : PrimValue) → n < length f.prims → prim ≡ get_or f.prims n prim → g ≡ f → slice_get g.prims n ≡ Some prim
next_there f g n prim low is same =
    ap (λ (h : FrameValue). slice_get h.prims n) same ∙ slice_get-get_or f.prims n prim low ∙ ap Some (sym is)

-- the next leaf of a walk below it
pub gives_as_seen : (f g : FrameValue) (r : PixelRect) (back : ℤ → Bool) (n : ℕ) (prim : PrimValue) (first : List FrameLeaf) (old new : List Part) (leaf : Leaf) → n < length f.prims → prim ≡ get_or f.prims n prim → g ≡ f
    → LeavesOut (shows_in f r back) first (to_come f n old) → Skips (part_shows g prim r back) (pending (decide g.camera prim) old) (leaf.piece ∷ pending (decide g.camera prim) new)
    → part_shows g prim r back leaf.piece ≡ true → decide g.camera prim leaf.piece ≡ Dice leaf.p leaf.q → leaf.p ≤ 4 → leaf.q ≤ 4
    → GivesNext f (shows_in f r back) (Some leaf) first (to_come f n new)
gives_as_seen f g r back n prim first old new leaf low at' same before skips meets sizes p q =
    let here : (h : FrameValue) → Type 0 = λ h. Skips (part_shows h prim r back) (pending (decide h.camera prim) old) (leaf.piece ∷ pending (decide h.camera prim) new) in
    gives_leaf f r back n prim first old new leaf low at' before (subst here same skips) (subst (λ (h : FrameValue). part_shows h prim r back leaf.piece ≡ true) same meets)
    (record { part = refl; sizes = subst (λ (h : FrameValue). decide h.camera prim leaf.piece ≡ Dice leaf.p leaf.q) same sizes; p = p; q = q })

pub skips_as_seen : (f g : FrameValue) (r : PixelRect) (back : ℤ → Bool) (n : ℕ) (prim : PrimValue) (first : List FrameLeaf) (old new : List Part) → n < length f.prims → prim ≡ get_or f.prims n prim → g ≡ f
    → LeavesOut (shows_in f r back) first (to_come f n old) → Skips (part_shows g prim r back) (pending (decide g.camera prim) old) [] → new ≡ whole_of (n + 1) ∷ []
    → LeavesOut (shows_in f r back) first (to_come f (n + 1) new)
skips_as_seen f g r back n prim first old new low at' same before skips is =
    skips_prim f r back n prim first old new low at' before (subst (λ (h : FrameValue). Skips (part_shows h prim r back) (pending (decide h.camera prim) old) []) same skips) is

-- ---- what is known
pub none_known : (f : FrameValue) (n : ℕ) (ks : List (Option Known)) → ks ≡ replicate n None → n ≡ 16384 → AreKnown f ks
none_known f n ks is size =
    let none : Option Known = None in
    record { room = ap (λ (l : List (Option Known)). length l) is ∙ length-replicate n none ∙ size; each = subst (All (IsKnown f)) (sym is) (All-replicate (IsKnown f) n none tt) }

pub known_more : (f : FrameValue) (ks : List (Option Known)) (n : ℕ) (k : Option Known) → AreKnown f ks → IsKnown f k → AreKnown f (set ks n k)
known_more f ks n k is more = record { room = length-set ks n k ∙ is.room; each = All-set (IsKnown f) ks n k more is.each }

-- what was found of a piece is known of it
pub known_as : (f g : FrameValue) (n : ℕ) (prim : PrimValue) (part : Part) (s : Sight) → g ≡ f → slice_get f.prims n ≡ Some prim → IsSight g prim part s → (q : PrimValue) → slice_get f.prims n ≡ Some q → IsSight f q part s
known_as f g n prim part s same at' is q there =
    let one : prim ≡ q = cc (sym at' ∙ there) in
    subst (λ (p : PrimValue). IsSight f p part s) one (subst (λ (h : FrameValue). IsSight h prim part s) same is)
