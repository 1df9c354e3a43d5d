use Rattle.std.proofs.Common.{◌≡◌, ◌∙◌, ap, sym, subst, arith, List, get_or}
use Rattle.fixed_math.specs.declared.vec3.Vec3.{Vec3}
use Rattle.std.specs.Prelude.{◌≤ℤ◌}
use Rattle.patches.specs.Boxes.{Box}
use Rattle.patches.specs.Parts.{rect_of}
use Rattle.bound_split.specs.Extents.{lowered, raised, extent_of}
use Rattle.bound_split.proofs.Meetings.{corner_small, widened-IsOrdered, nearest_up}
use Rattle.bound_split.proofs.extents.extent_of.Goals as goal

pub lowered-low-requires-clause-small : goal.lowered-low-requires-clause-small
lowered-low-requires-clause-small g c = corner_small 1073741824 0 c.index-box_of-0.result c.box_of.result (g.S.Surface.box_in c.args.s.now (rect_of c.args.piece.now)) c.box_of.ensures.value (omega arith) c.box_of.ensures.small

pub raised-high-requires-clause-small : goal.raised-high-requires-clause-small
raised-high-requires-clause-small g c = corner_small 1073741824 1 c.index-box_of-1.result c.box_of.result (g.S.Surface.box_in c.args.s.now (rect_of c.args.piece.now)) c.box_of.ensures.value (omega arith) c.box_of.ensures.small

pub reach_of-requires : goal.reach_of-requires
reach_of-requires g c =
    let b : Box = g.S.Surface.box_in c.args.s.now (rect_of c.args.piece.now) in
    let low : c.lowered-low.result ≡ lowered c.args.bound b.low = c.lowered-low.ensures ∙ ap (λ (ps : List Vec3). lowered c.args.bound (get_or ps 0 c.index-box_of-0.result)) c.box_of.ensures.value in
    let high : c.raised-high.result ≡ raised c.args.bound b.high = c.raised-high.ensures ∙ ap (λ (ps : List Vec3). raised c.args.bound (get_or ps 1 c.index-box_of-1.result)) c.box_of.ensures.value in
    record { ordered = rw (low, high) (widened-IsOrdered c.args.bound b.low b.high c.requires.low c.box_of.ensures.ordered) }

pub returns-clause-nearest : goal.returns-clause-nearest
returns-clause-nearest g c = λ part is inside.
    let b : Box = g.S.Surface.box_in c.args.s.now (rect_of c.args.piece.now) in
    let low : c.lowered-low.result ≡ lowered c.args.bound b.low = c.lowered-low.ensures ∙ ap (λ (ps : List Vec3). lowered c.args.bound (get_or ps 0 c.index-box_of-0.result)) c.box_of.ensures.value in
    subst (λ (p : Vec3). p.z ≤ℤ (extent_of c.args.camera.now c.args.bound (g.S.Surface.box_in c.args.s.now (rect_of part))).nearest) (sym low)
    (nearest_up g.S.Surface.box_in g.met.S.Surface.parts c.args.s.now c.args.camera.now c.args.bound c.args.piece.now part c.recall.ensures is inside)
