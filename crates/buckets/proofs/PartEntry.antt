-- The entry that the drawing of a part leaves.
use Rattle.std.proofs.Common.{◌≡◌, ◌∙◌, sym, ap, subst, ℕ, [], ◌∷◌, List, Option, option_map, length, arith}
use Rattle.std.proofs.lemmas.List.{take_all}
use Rattle.outside.specs.Sink.{Written, begun, with_bytes, with_end}
use Rattle.outside.specs.Frames.{Picture, Adds, AddsPart, PutsAll, PutsFront, whole}
use Rattle.outside.proofs.Entries.{opened, adds-puts, adds-end, put-part}
use Rattle.scene.specs.Scene.{FrameValue, SceneValue}
use Rattle.shader_binding.specs.Sets.{SetValue}
use Rattle.buckets.specs.declared.limits.Limits.{Limits}
use Rattle.buckets.specs.declared.share.Share.{Share}
use Rattle.buckets.specs.TileWalk.{Drawing}
use Rattle.buckets.specs.Progress.{share_of}
use Rattle.buckets.specs.FrameParts.{part_bytes}

-- the entry of a part that is drawn
abbrev pub part_entry : Drawing → ℕ → List ℕ → List ℕ → Picture
part_entry d tag part name = record { name = name; bytes = part_bytes d.accepted d.frame d.side tag part }

-- a front of its text
pub text_in_part : (p : Picture) (text : List ℕ) (x y z : Option (List Written)) → p.bytes ≡ text → Adds (begun p.name ∷ []) x y → PutsFront text y z → AddsPart p x z
text_in_part p text x y z is begins front = put-part p x y z begins (subst (λ b. PutsFront b y z) (sym is) front)

-- all of it, and the end, which may fail
pub text_ended : (p : Picture) (text : List ℕ) (x y z w : Option (List Written)) → p.bytes ≡ text → Adds (begun p.name ∷ []) x y → PutsAll text y z → w ≡ option_map with_end z → Adds (whole p ∷ []) x w
text_ended p text x y z w is begins put ends =
    adds-end p x z w (subst (λ b. Adds (opened p.name b ∷ []) x z) (sym is) (adds-puts p.name text x y z begins put)) ends

pub text_not_ended : (p : Picture) (text : List ℕ) (x y z w : Option (List Written)) → p.bytes ≡ text → Adds (begun p.name ∷ []) x y → PutsAll text y z → w ≡ z → AddsPart p x w
text_not_ended p text x y z w is begins put same =
    text_in_part p text x y w is begins (length text, same ∙ put ∙ ap (λ b. option_map (with_bytes b) y) (sym (take_all (length text) text (omega arith))))

-- the drawing, as it's told of its scene, its frame and its share
pub same_share : (s s' : SceneValue) (set : SetValue) (limits limits' : Limits) (f f' : FrameValue) (share share' : Share) → s ≡ s' → f ≡ f' → limits ≡ limits' → share ≡ share'
    → share_of s set f limits share ≡ share_of s' set f' limits' share'
same_share s s' set limits limits' f f' share share' scenes frames bounds shares =
    ap (λ t. share_of t set f limits share) scenes ∙ ap (λ g. share_of s' set g limits share) frames ∙ ap (λ (l : Limits). share_of s' set f' l share) bounds ∙ ap (λ (h : Share). share_of s' set f' limits' h) shares
