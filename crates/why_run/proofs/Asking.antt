-- The frame that a question is about.
use Rattle.std.proofs.Common.{◌≡◌, ℕ, ◌<◌, List, [], ◌∷◌, ◌++◌, length, Bool, true, false, cond, Option, Some, None, Ok, refl, sym, ◌∙◌, subst}
use Rattle.std.specs.Prelude.{◌&&◌, nat_le, nat_lt, IsSome, slice_get}
use Rattle.std.proofs.lemmas.Bool.{ltb-true}
use Rattle.std.proofs.lemmas.Option.{slice_get_within}
use Rattle.fixed_math.specs.Spots.{PixelRect}
use Rattle.outside.specs.Causes.{Told}
use Rattle.outside.specs.Library.{Files, held_as}
use Rattle.outside.specs.Asked.{AsksAll, AsksFront}
use Rattle.outside.proofs.Asking.{asks_front-before, asks_front-behind}
use Rattle.scene.specs.Settings.{crop_of}
use Rattle.scene.specs.Scene.{FrameValue}
use Rattle.acceptance.specs.Accepting.{scene_of_text, asked_for_scene}
use Rattle.render.specs.Verdict.{text_of_held, asked_for_text}
use Rattle.why_words.specs.Question.{Question}
use Rattle.why_run.specs.Verdict.{is_in, with_pixel, frame_asked, names_for}

both : (a b : Bool) → (a && b) ≡ true → (a ≡ true) × (b ≡ true)
both true b e = (refl, e)
both false b e = absurd (cc e)

inside : (r : PixelRect) (x y : ℕ) → is_in r x y ≡ true → (x < r.right) × (y < r.bottom)
inside r x y e =
    let columns = both (nat_le r.left x) _ e in
    let right = both (nat_lt x r.right) _ columns.1 in
    let rows = both (nat_le r.top y) _ right.1 in
    (ltb-true x r.right right.0, ltb-true y r.bottom rows.1)

with_some : (x y : ℕ) (o : Option FrameValue) → IsSome (with_pixel x y o) → (f : FrameValue) × (o ≡ Some f) × (is_in (crop_of f.options) x y ≡ true)
with_some x y None some = absurd (cc some)
with_some x y (Some f) some = (f, refl, by (is_in (crop_of f.options) x y) refl)
  where
    by : (b : Bool) → is_in (crop_of f.options) x y ≡ b → is_in (crop_of f.options) x y ≡ true
    by true e = e
    by false e = absurd (cc (subst (λ b. IsSome (cond b (Some f) None)) e some))

same_some : {A : Type 0} (x y : A) → Some x ≡ Some y → x ≡ y
same_some x y e = cc e

inside_of : (q : Question) (fs : List FrameValue) (f : FrameValue) → IsSome (frame_asked q fs) → slice_get fs q.frame ≡ Some f → is_in (crop_of f.options) q.x q.y ≡ true
inside_of q fs f some is =
    let it = with_some q.x q.y (slice_get fs q.frame) some in
    subst (λ (g : FrameValue). is_in (crop_of g.options) q.x q.y ≡ true) (same_some it.0 f (sym it.1 ∙ is)) it.2

-- the pixel lies in the picture
pub right_of : (q : Question) (fs : List FrameValue) (f : FrameValue) → IsSome (frame_asked q fs) → slice_get fs q.frame ≡ Some f → q.x < (crop_of f.options).right
right_of q fs f some is = (inside (crop_of f.options) q.x q.y (inside_of q fs f some is)).0

pub bottom_of : (q : Question) (fs : List FrameValue) (f : FrameValue) → IsSome (frame_asked q fs) → slice_get fs q.frame ≡ Some f → q.y < (crop_of f.options).bottom
bottom_of q fs f some is = (inside (crop_of f.options) q.x q.y (inside_of q fs f some is)).1

-- the scene's file alone is asked for
pub file_asked : (held : Option Files) (name : List ℕ) (o p : Option (List (List ℕ))) → AsksFront (name ∷ []) o p → Told held (λ files. AsksFront (names_for name files) o p)
file_asked None name o p one = tt
file_asked (Some files) name o p one = asks_front-before (name ∷ []) (asked_for_text files (text_of_held name (held_as files name))) o p one

-- and then those of its shaders and textures
pub all_asked : (held held_then : Option Files) (name text seen : List ℕ) (o p q : Option (List (List ℕ))) → held_then ≡ held → seen ≡ text
    → Told held (λ files. text_of_held name (held_as files name) ≡ Ok text) → AsksAll (name ∷ []) o p
    → Told held_then (λ files. AsksFront (asked_for_scene files (scene_of_text seen)) p q) → Told held (λ files. AsksFront (names_for name files) o q)
all_asked None held_then name text seen o p q same reads is one others = tt
all_asked (Some files) held_then name text seen o p q same reads is one others =
    let told : Told (Some files) (λ fs. AsksFront (asked_for_scene fs (scene_of_text text)) p q) =
    subst (λ h. Told h (λ fs. AsksFront (asked_for_scene fs (scene_of_text text)) p q)) same
    (subst (λ b. Told held_then (λ fs. AsksFront (asked_for_scene fs (scene_of_text b)) p q)) reads others) in
    subst (λ r. AsksFront (name ∷ [] ++ asked_for_text files r) o q) (sym is) (asks_front-behind (name ∷ []) (asked_for_scene files (scene_of_text text)) o p q one told)

-- its place is one of the frames
pub within : (q : Question) (fs : List FrameValue) → IsSome (frame_asked q fs) → q.frame < length fs
within q fs some = let it = with_some q.x q.y (slice_get fs q.frame) some in slice_get_within fs q.frame it.0 it.1
