use Rattle.std.proofs.Common.{arith, sym, subst}
use Rattle.std.specs.Prelude.{◌≤ℤ◌}
use Rattle.hider.specs.CellBoxes.{low_when, high_when}
use Rattle.hider.specs.Outermost.{IsTopmost, IsBottommost}
use Rattle.hider.proofs.Passages.{above_place, below_place, seen_far, seen_low}
use Rattle.hider.proofs.Small.{place_above, place_below}
use Rattle.hider.proofs.moving_box.MovingBox.is_over.Goals as goal

pub topmost-requires-clause-near : goal.topmost-requires-clause-near
topmost-requires-clause-near c =
    let w = c.args.camera.now in
    subst (λ z. w.near ≤ℤ z) (sym c.near_at-near.ensures) (seen_low w c.args.self.now c.args.sample.now.time (omega arith) c.requires.seen)

pub topmost-requires-clause-far : goal.topmost-requires-clause-far
topmost-requires-clause-far c =
    let w = c.args.camera.now in
    subst (λ z. w.near ≤ℤ z) (sym c.far_at-far.ensures) (seen_far w c.args.self.now c.args.sample.now.time (omega arith) c.requires.seen c.requires.order)

pub bottommost-requires-clause-near : goal.bottommost-requires-clause-near
bottommost-requires-clause-near c =
    let w = c.args.camera.now in
    subst (λ z. w.near ≤ℤ z) (sym c.near_at-near.ensures) (seen_low w c.args.self.now c.args.sample.now.time (omega arith) c.requires.seen)

pub bottommost-requires-clause-far : goal.bottommost-requires-clause-far
bottommost-requires-clause-far c =
    let w = c.args.camera.now in
    subst (λ z. w.near ≤ℤ z) (sym c.far_at-far.ensures) (seen_far w c.args.self.now c.args.sample.now.time (omega arith) c.requires.seen c.requires.order)

pub returns-then-y-topmost : goal.returns-then-y-topmost
returns-then-y-topmost c = λ yes.
    let w = c.args.camera.now in
    let b = c.args.self.now in
    let s = c.args.sample.now in
    let e = c.topmost.ensures in
    let beyond = place_below c.y.result c.topmost.result s.place.y c.if-y-topmost.true c.y.ensures.value c.y.ensures.size e.bound in
    let side : IsTopmost w (high_when b s.time).y (low_when b s.time).z (high_when b s.time).z c.topmost.result = rw (c.on_way-top.ensures, c.near_at-near.ensures, c.far_at-far.ensures) at e.value in
    below_place w b s c.topmost.result (omega arith) side beyond

pub returns : goal.returns
returns c = λ yes.
    let w = c.args.camera.now in
    let b = c.args.self.now in
    let s = c.args.sample.now in
    let e = c.bottommost.ensures in
    let beyond = place_above c.y-2.result c.bottommost.result s.place.y yes c.y-2.ensures.value c.y-2.ensures.size e.bound in
    let side : IsBottommost w (low_when b s.time).y (low_when b s.time).z (high_when b s.time).z c.bottommost.result = rw (c.on_way-bottom.ensures, c.near_at-near.ensures, c.far_at-far.ensures) at e.value in
    above_place w b s c.bottommost.result (omega arith) side beyond
