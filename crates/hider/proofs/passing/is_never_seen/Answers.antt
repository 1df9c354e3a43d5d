use Rattle.std.proofs.Common.{◌≡◌, ◌<◌, arith, length, slice_index_or}
use Rattle.std.proofs.lemmas.List.{get_or_default}
use Rattle.fixed_math.specs.declared.vec3.Axis.TheVariants.{Z}
use Rattle.fixed_math.specs.Axes.{origin}
use Rattle.hider.specs.CellValues.{LiesBetween}
use Rattle.hider.proofs.passing.is_never_seen.Goals as goal

pub returns-then-is_out_of_sight : goal.returns-then-is_out_of_sight
returns-then-is_out_of_sight c = λ t b corner between seen k l.
    let n = c.loop-k.k in
    let first = c.args.first.now in
    let last = c.args.last.now in
    let x = c.index-first-k.result in
    let y = c.index-last-k.result in
    let h : n < 4 = c.loop-k-test.true in
    let i : n < length first = omega (arith, h, c.type_inv.first) in
    let j : n < length last = omega (arith, h, c.type_inv.last) in
    let p : slice_index_or first n x ≡ slice_index_or first n origin = get_or_default first n x origin i in
    let q : slice_index_or last n y ≡ slice_index_or last n origin = get_or_default last n y origin j in
    let m : LiesBetween (slice_index_or first n x).z (slice_index_or last n y).z (corner n).z = rw (p, q) (between n h Z) in
    absurd (c.is_out_of_sight.ensures c.if-is_out_of_sight.true (corner n).z m (seen n h).0 (seen n h).1)
