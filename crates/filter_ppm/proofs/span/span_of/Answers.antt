use Rattle.std.proofs.Common.{◌≡◌, arith, inl, inr, w64, FitsSigned, pos, ◌+ℤ◌, ◌-ℤ◌, ◌*ℤ◌, ◌<ℤ◌, ◌≤ℤ◌}
use Rattle.std.proofs.lemmas.Int.{to_z-of_z}
use Rattle.fixed_math.specs.Whole.{floor_by}
use Rattle.filter_ppm.proofs.Spans.{reached, not_before, not_behind}
use Rattle.filter_ppm.proofs.span.span_of.Goals as goal

pub returns-clause-inside : goal.returns-clause-inside
returns-clause-inside c = λ x h k.
    let s : FitsSigned w64 c.args.s = c.ranges.s in
    let lf : FitsSigned w64 c.low_of.result = record { sfits = c.low_of.type_inv } in
    let hf : FitsSigned w64 c.high_of.result = record { sfits = c.high_of.type_inv } in
    let e : c.low_of.result ≡ floor_by (pos 2 *ℤ c.args.s -ℤ pos 256 -ℤ pos c.args.width) 512 +ℤ pos 1 = simp to_z-of_z at c.low_of.ensures.value in
    let f : c.high_of.result ≡ floor_by (pos 2 *ℤ c.args.s -ℤ pos 256 +ℤ pos c.args.width) 512 +ℤ pos 1 = simp to_z-of_z at c.high_of.ensures.value in
    let most = c.put_into-end.ensures.high in
    let p : c.low_of.result ≤ℤ pos x = simp to_z-of_z at (c.put_into-first.ensures.before x (omega (arith, k, most)) h) in
    let q : pos x <ℤ c.high_of.result = simp to_z-of_z at (c.put_into-end.ensures.behind x h k) in
    reached _ _ x (rw e at p) (rw f at q)

pub returns-clause-outside : goal.returns-clause-outside
returns-clause-outside c = λ x from to o.
    let s : FitsSigned w64 c.args.s = c.ranges.s in
    let lf : FitsSigned w64 c.low_of.result = record { sfits = c.low_of.type_inv } in
    let hf : FitsSigned w64 c.high_of.result = record { sfits = c.high_of.type_inv } in
    let e : c.low_of.result ≡ floor_by (pos 2 *ℤ c.args.s -ℤ pos 256 -ℤ pos c.args.width) 512 +ℤ pos 1 = simp to_z-of_z at c.low_of.ensures.value in
    let f : c.high_of.result ≡ floor_by (pos 2 *ℤ c.args.s -ℤ pos 256 +ℤ pos c.args.width) 512 +ℤ pos 1 = simp to_z-of_z at c.high_of.ensures.value in
    elim o [
      | inl l ↦ not_before _ _ x (let p : pos x <ℤ c.low_of.result = simp to_z-of_z at (c.put_into-first.ensures.behind x from l) in rw e at p)
      | inr l ↦ not_behind _ _ x (let q : c.high_of.result ≤ℤ pos x = simp to_z-of_z at (c.put_into-end.ensures.before x to l) in rw f at q)
    ]
