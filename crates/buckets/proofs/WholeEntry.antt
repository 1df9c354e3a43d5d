-- The entry that the drawing of a frame leaves.
use Rattle.std.proofs.Common.{◌≡◌, ◌∙◌, ◌++◌, sym, ap, subst, ℕ, [], ◌∷◌, List, Option, option_map, length, arith}
use Rattle.std.proofs.lemmas.List.{append-nil, take_all}
use Rattle.outside.specs.Sink.{Written, begun, with_bytes, with_end}
use Rattle.outside.specs.Frames.{Picture, Adds, AddsPart, PutsAll, PutsFront, whole}
use Rattle.outside.proofs.Puts.{puts-none, puts-more}
use Rattle.outside.proofs.Entries.{opened, adds-puts, adds-end, put-part}
use Rattle.scene.specs.Scene.{FrameValue, SceneValue}
use Rattle.shader_binding.specs.Sets.{SetValue}
use Rattle.buckets.specs.Pictures.{picture_bytes, header_of}
use Rattle.buckets.specs.TileWalk.{Drawing, picture_rect}
use Rattle.buckets.specs.Rows.{bytes_above}
use Rattle.buckets.specs.Progress.{drawing_of}
use Rattle.buckets.specs.declared.limits.Limits.{Limits}
use Rattle.buckets.proofs.RowBytes.{picture_is, front_then}

abbrev pub header_in : Drawing → List ℕ
header_in d = header_of d.frame

abbrev pub pixels_in : Drawing → List ℕ
pixels_in d = bytes_above d (picture_rect d.frame).bottom

-- a frame's name and the bytes of its picture
abbrev pub entry : Drawing → Picture
entry d = record { name = d.frame.name; bytes = picture_bytes d.accepted d.frame }

-- a front of the header
pub header_in_part : (d : Drawing) (x y z : Option (List Written)) → Adds (begun d.frame.name ∷ []) x y → PutsFront (header_in d) y z → AddsPart (entry d) x z
header_in_part d x y z begins front =
    put-part (entry d) x y z begins (front_then [] (header_in d) (pixels_in d) (picture_bytes d.accepted d.frame) y y z (picture_is d) (puts-none y) front)

-- the header and a front of the pixels
pub pixels_in_part : (d : Drawing) (x y y' z : Option (List Written)) → Adds (begun d.frame.name ∷ []) x y → PutsAll (header_in d) y y' → PutsFront (pixels_in d) y' z → AddsPart (entry d) x z
pixels_in_part d x y y' z begins head front =
    let all : picture_bytes d.accepted d.frame ≡ header_in d ++ (pixels_in d ++ []) = picture_is d ∙ ap (λ l. header_in d ++ l) (sym (append-nil (pixels_in d))) in
    put-part (entry d) x y z begins (front_then (header_in d) (pixels_in d) [] (picture_bytes d.accepted d.frame) y y' z all head front)

-- all of both
all_put : (d : Drawing) (x y y' z : Option (List Written)) → Adds (begun d.frame.name ∷ []) x y → PutsAll (header_in d) y y' → PutsAll (pixels_in d) y' z → Adds (opened d.frame.name (picture_bytes d.accepted d.frame) ∷ []) x z
all_put d x y y' z begins head pixels =
    subst (λ b. Adds (opened d.frame.name b ∷ []) x z) (sym (picture_is d))
    (adds-puts d.frame.name (header_in d ++ pixels_in d) x y z begins (puts-more (header_in d) (pixels_in d) y y' z head pixels))

-- and the end, which may fail
pub all_ended : (d : Drawing) (x y y' z w : Option (List Written)) → Adds (begun d.frame.name ∷ []) x y → PutsAll (header_in d) y y' → PutsAll (pixels_in d) y' z → w ≡ option_map with_end z → Adds (whole (entry d) ∷ []) x w
all_ended d x y y' z w begins head pixels ends = adds-end (entry d) x z w (all_put d x y y' z begins head pixels) ends

pub not_ended : (d : Drawing) (x y y' z w : Option (List Written)) → Adds (begun d.frame.name ∷ []) x y → PutsAll (header_in d) y y' → PutsAll (pixels_in d) y' z → w ≡ z → AddsPart (entry d) x w
not_ended d x y y' z w begins head pixels same =
    let p = pixels_in d in
    pixels_in_part d x y y' w begins head (length p, same ∙ pixels ∙ ap (λ b. option_map (with_bytes b) y') (sym (take_all (length p) p (omega arith))))

-- the entry of a drawing, as it's told of its scene and its frame
pub same_entry : (s s' : SceneValue) (set : SetValue) (limits : Limits) (f f' : FrameValue) → s ≡ s' → f ≡ f' → entry (drawing_of s set f limits) ≡ entry (drawing_of s' set f' limits)
same_entry s s' set limits f f' scenes frames =
    ap (λ t. entry (drawing_of t set f limits)) scenes ∙ ap (λ g. entry (drawing_of s' set g limits)) frames
