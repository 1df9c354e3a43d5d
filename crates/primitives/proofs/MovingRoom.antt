-- The patches of a primitive that moves aren't more than its frame may take.
use Rattle.std.proofs.Common.{◌≡◌, refl, subst, arith, ℕ, ◌≤◌, List, length, map, Option, Some, None, Result, Ok, Err}
use Rattle.std.specs.Prelude.{IfOk, zip, option_map}
use Rattle.std.proofs.lemmas.List.{length-map}
use Rattle.std.proofs.lemmas.Slice.Zip.{length-zip}
use Rattle.fixed_math.specs.declared.vec3.Vec3.{Vec3}
use Rattle.rib_reader.specs.declared.req.Req.{Req}
use Rattle.rib_reader.specs.declared.req.Req.TheVariants as reqs
use Rattle.primitives.specs.declared.fault.PrimitiveFault.{PrimitiveFault}
use Rattle.primitives.specs.declared.fault.PrimitiveFault.TheVariants as faults
use Rattle.primitives.specs.Shifts.{ShiftValue}
use Rattle.primitives.specs.Patches.{PatchValue, Made}
use Rattle.primitives.specs.Moving.{of_both, faces_closed, moved_patch, moved, points_on_way, moving_faces, moving_over}
use Rattle.primitives.specs.Answers.{GivesMade}

-- there are at most so many patches
abbrev HasFew : ℕ → Made → Type 0
HasFew room a = (ps : List PatchValue) → a ≡ Ok ps → length ps ≤ room

zip_short : (f : PatchValue × PatchValue → PatchValue) (ps qs : List PatchValue) (room : ℕ) → length ps ≤ room → length (map f (zip ps qs)) ≤ room
zip_short f ps qs room few =
    let all = length-map (zip ps qs) f in
    let pairs = length-zip ps qs in
    omega (arith, few, all, pairs)

pub moved_few : (s : ShiftValue) (ps qs : List PatchValue) (room : ℕ) → length ps ≤ room → length (moved s ps qs) ≤ room
moved_few s ps qs room few = zip_short (λ (ends : PatchValue × PatchValue). moved_patch s ends.0 ends.1) ps qs room few

few_both : (f : PatchValue × PatchValue → PatchValue) (a b : Made) (room : ℕ) → HasFew room a → HasFew room (of_both a b (λ ps qs. Ok (map f (zip ps qs))))
few_both f (Err e) b room few ps is = absurd cc
few_both f (Ok qs) (Err e) room few ps is = absurd cc
few_both f (Ok qs) (Ok rs) room few ps is =
    let same : map f (zip qs rs) ≡ ps = cc in
    subst (λ (l : List PatchValue). length l ≤ room) same (zip_short f qs rs room (few qs refl))

few_then : (a b c : Made) (room : ℕ) → HasFew room c → HasFew room (of_both a b (λ _ _. c))
few_then (Err e) b c room few ps is = absurd cc
few_then (Ok qs) (Err e) c room few ps is = absurd cc
few_then (Ok qs) (Ok rs) c room few ps is = few ps is

few_closed : (o : Option Made) (a : Made) (room : ℕ) → HasFew room a → HasFew room (faces_closed o a)
few_closed None a room few ps is = few ps is
few_closed (Some b) a room few ps is = few_both (λ (ends : PatchValue × PatchValue). record ends.0 { closing = Some ends.1.patch }) a b room few ps is

few_faces : (s : ShiftValue) (over : List Vec3 → Made) (first last : List Vec3) (room : ℕ) → ((ps : List Vec3) → HasFew room (over ps)) → HasFew room (moving_faces s over first last)
few_faces s over first last room few =
    let closing = option_map (λ n. over (points_on_way n first last)) s.closing in
    let opening = over (points_on_way s.opening first last) in
    few_then (over first) (over last) (faces_closed closing opening) room (few_closed closing opening room (few (points_on_way s.opening first last)))

few_over_way : (name : Req) (s : ShiftValue) (over : List Vec3 → Made) (first last : List Vec3) (room : ℕ) → ((ps : List Vec3) → HasFew room (over ps)) → HasFew room (moving_over name s over first last)
few_over_way reqs.Polygon s over first last room few = few_faces s over first last room few
few_over_way reqs.PointsPolygons s over first last room few = few_faces s over first last room few
few_over_way _ s over first last room few = few_both (λ (ends : PatchValue × PatchValue). moved_patch s ends.0 ends.1) (over first) (over last) room (few first)

-- whatever is answered
pub moving_few : (result : Result (List PatchValue) PrimitiveFault) (name : Req) (s : ShiftValue) (over : List Vec3 → Made) (first last : List Vec3) (room : ℕ) →
    ((ps : List Vec3) (qs : List PatchValue) → over ps ≡ Ok qs → length qs ≤ room) → GivesMade result (moving_over name s over first last) → IfOk result (λ qs. length qs ≤ room)
moving_few (Ok qs) name s over first last room few is = few_over_way name s over first last room few qs is
moving_few (Err (faults.Refused code)) name s over first last room few is = tt
moving_few (Err faults.NoMemory) name s over first last room few is = tt
