-- The parts of frames, one after another.
use Rattle.std.proofs.Common.{◌≡◌, refl, ap, ◌∙◌, subst, ℕ, zero, suc, ◌+◌, ◌<◌, ◌≤◌, arith, List, [], ◌∷◌, length, map, take, get_or, Option, Some, Result, Ok, Err}
use Rattle.std.specs.Prelude.{OnOk, OnErr, slice_get}
use Rattle.std.proofs.lemmas.List.{take_all}
use Rattle.outside.specs.Sink.{Written}
use Rattle.outside.specs.Frames.{Picture, whole, Adds, AddsPart}
use Rattle.outside.proofs.Entries.{adds-next}
use Rattle.scene.specs.Scene.{FrameValue}
use Rattle.shader_binding.specs.Sets.{AcceptedValue}
use Rattle.render.specs.declared.part_task.PartTask.{PartTask}
use Rattle.buckets.specs.FrameParts.{part_bytes}
use Rattle.part_files.specs.Parts.{part_name}
use Rattle.render.specs.Parts.{Placed, placed_from, part_picture, tag_of}
use Rattle.render.specs.Answers.{EndsSome}
use Rattle.render.proofs.Courses.{ends-part, ends-next-part}

pub placed-length : (place : ℕ) (fs : List FrameValue) → length (placed_from place fs) ≡ length fs
placed-length place [] = refl
placed-length place (f ∷ fs) = ap suc (placed-length (place + 1) fs)

-- the frame at a place, with that place
placed-at : (place : ℕ) (fs : List FrameValue) (i : ℕ) (f : FrameValue) (d : Placed) → i < length fs → f ≡ get_or fs i f → record { place = place + i; frame = f } ≡ get_or (placed_from place fs) i d
placed-at place [] i f d low is = absurd (omega (arith, low))
placed-at place (g ∷ fs) zero f d low is =
    let e : place + 0 ≡ place = omega arith in
    ap (λ p. record { place = p; frame = f }) e ∙ ap (λ h. record { place = place; frame = h }) is
placed-at place (g ∷ fs) (suc i) f d low is =
    let e : place + suc i ≡ place + 1 + i = omega arith in
    ap (λ p. record { place = p; frame = f }) e ∙ placed-at (place + 1) fs i f d (omega (arith, low)) is

pub placed-first : (fs : List FrameValue) (i : ℕ) (f : FrameValue) → i < length fs → f ≡ get_or fs i f → record { place = i; frame = f } ≡ get_or (placed_from 0 fs) i (record { place = i; frame = f })
placed-first fs i f low is =
    let e : i ≡ 0 + i = omega arith in
    let d : Placed = record { place = i; frame = f } in
    ap (λ p. record { place = p; frame = f }) e ∙ placed-at 0 fs i f d low is

-- behind those of i frames: the part of the next frame
pub next_added : (t : PartTask) (a : AcceptedValue) (fs : List FrameValue) (i : ℕ) (f : FrameValue) (x y z : Option (List Written)) → i < length fs → f ≡ get_or fs i f
    → Adds (map whole (map (part_picture t a) (take i (placed_from 0 fs)))) x y → Adds (whole (part_picture t a (record { place = i; frame = f })) ∷ []) y z
    → Adds (map whole (map (part_picture t a) (take (i + 1) (placed_from 0 fs)))) x z
next_added t a fs i f x y z low is before one =
    let l = placed-length 0 fs in
    adds-next (part_picture t a) (placed_from 0 fs) i (record { place = i; frame = f }) x y z (omega (arith, low, l)) (placed-first fs i f low is) before one

-- a front of it
pub next_in_part : {T E : Type 0} (r : Result T E) (t : PartTask) (a : AcceptedValue) (fs all : List FrameValue) (i : ℕ) (f : FrameValue) (x y z : Option (List Written)) → fs ≡ all → i < length fs → f ≡ get_or fs i f
    → Adds (map whole (map (part_picture t a) (take i (placed_from 0 fs)))) x y → AddsPart (part_picture t a (record { place = i; frame = f })) y z
    → OnErr r (EndsSome (map (part_picture t a) (placed_from 0 all)) x z)
next_in_part (Ok u) t a fs all i f x y z same low is before part = tt
next_in_part (Err e) t a fs all i f x y z same low is before part =
    let l = placed-length 0 fs in
    let p : Placed = record { place = i; frame = f } in
    subst (λ gs. EndsSome (map (part_picture t a) (placed_from 0 gs)) x z) same
    (record {
      ended = i;
      ends = ends-next-part (part_picture t a) (placed_from 0 fs) i p x y z (omega (arith, low, l)) (placed-first fs i f low is) before (ends-part (part_picture t a p) y z part);
    })

-- those of all frames
pub all_added : (t : PartTask) (a : AcceptedValue) (fs all : List FrameValue) (i : ℕ) (x y : Option (List Written)) → fs ≡ all → length fs ≤ i
    → Adds (map whole (map (part_picture t a) (take i (placed_from 0 fs)))) x y → Adds (map whole (map (part_picture t a) (placed_from 0 all))) x y
all_added t a fs all i x y same high added =
    let l = placed-length 0 fs in
    subst (λ ps. Adds (map whole (map (part_picture t a) ps)) x y) (take_all i (placed_from 0 fs) (omega (arith, high, l)) ∙ ap (placed_from 0) same) added

-- the entry that a part of a frame makes
abbrev with_name : PartTask → AcceptedValue → FrameValue → List ℕ → ℕ → ℕ → Picture
with_name t a f name side tag = record { name = name; bytes = part_bytes a f side tag (t.part ∷ t.count ∷ []) }

pub as_part : (t : PartTask) (a : AcceptedValue) (f : FrameValue) (place side tag : ℕ) (name : List ℕ) → name ≡ part_name f.name t.part → side ≡ t.side → tag ≡ tag_of t.hash place
    → record { name = name; bytes = part_bytes a f side tag (t.part ∷ t.count ∷ []) } ≡ part_picture t a (record { place = place; frame = f })
as_part t a f place side tag name named sided tagged =
    ap (λ n. with_name t a f n side tag) named ∙ ap (λ s. with_name t a f (part_name f.name t.part) s tag) sided ∙ ap (λ g. with_name t a f (part_name f.name t.part) t.side g) tagged

-- an entry added for the frame at a place
pub added_as : {T E : Type 0} (r : Result T E) (F : FrameValue → Picture) (frames : List FrameValue) (i : ℕ) (f : FrameValue) (p : Picture) (x y : Option (List Written)) → slice_get frames i ≡ Some f → F f ≡ p
    → OnOk r ((g : FrameValue) → slice_get frames i ≡ Some g → Adds (whole (F g) ∷ []) x y) → OnOk r (Adds (whole p ∷ []) x y)
added_as (Ok u) F frames i f p x y there same h = subst (λ e. Adds (whole e ∷ []) x y) same (h f there)
added_as (Err e) F frames i f p x y there same h = tt

pub in_part_as : {T E : Type 0} (r : Result T E) (F : FrameValue → Picture) (frames : List FrameValue) (i : ℕ) (f : FrameValue) (p : Picture) (x y : Option (List Written)) → slice_get frames i ≡ Some f → F f ≡ p
    → OnErr r ((g : FrameValue) → slice_get frames i ≡ Some g → AddsPart (F g) x y) → OnErr r (AddsPart p x y)
in_part_as (Ok u) F frames i f p x y there same h = tt
in_part_as (Err e) F frames i f p x y there same h = subst (λ q. AddsPart q x y) same (h f there)
