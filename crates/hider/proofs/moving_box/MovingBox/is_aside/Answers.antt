use Rattle.std.proofs.Common.{arith, sym, subst}
use Rattle.std.specs.Prelude.{◌≤ℤ◌}
use Rattle.hider.specs.CellBoxes.{low_when, high_when}
use Rattle.hider.specs.Outermost.{IsLeftmost, IsRightmost}
use Rattle.hider.proofs.Passages.{left_of_place, right_of_place, seen_far, seen_low}
use Rattle.hider.proofs.Small.{place_above, place_below}
use Rattle.hider.proofs.moving_box.MovingBox.is_aside.Goals as goal

pub leftmost-requires-clause-near : goal.leftmost-requires-clause-near
leftmost-requires-clause-near c =
    let w = c.args.camera.now in
    subst (λ z. w.near ≤ℤ z) (sym c.near_at-near.ensures) (seen_low w c.args.self.now c.args.sample.now.time (omega arith) c.requires.seen)

pub leftmost-requires-clause-far : goal.leftmost-requires-clause-far
leftmost-requires-clause-far c =
    let w = c.args.camera.now in
    subst (λ z. w.near ≤ℤ z) (sym c.far_at-far.ensures) (seen_far w c.args.self.now c.args.sample.now.time (omega arith) c.requires.seen c.requires.order)

pub rightmost-requires-clause-near : goal.rightmost-requires-clause-near
rightmost-requires-clause-near c =
    let w = c.args.camera.now in
    subst (λ z. w.near ≤ℤ z) (sym c.near_at-near.ensures) (seen_low w c.args.self.now c.args.sample.now.time (omega arith) c.requires.seen)

pub rightmost-requires-clause-far : goal.rightmost-requires-clause-far
rightmost-requires-clause-far c =
    let w = c.args.camera.now in
    subst (λ z. w.near ≤ℤ z) (sym c.far_at-far.ensures) (seen_far w c.args.self.now c.args.sample.now.time (omega arith) c.requires.seen c.requires.order)

pub returns-then-x-leftmost : goal.returns-then-x-leftmost
returns-then-x-leftmost c = λ yes.
    let w = c.args.camera.now in
    let b = c.args.self.now in
    let s = c.args.sample.now in
    let e = c.leftmost.ensures in
    let beyond = place_below c.x.result c.leftmost.result s.place.x c.if-x-leftmost.true c.x.ensures.value c.x.ensures.size e.bound in
    let side : IsLeftmost w (low_when b s.time).x (low_when b s.time).z (high_when b s.time).z c.leftmost.result = rw (c.on_way-left.ensures, c.near_at-near.ensures, c.far_at-far.ensures) at e.value in
    right_of_place w b s c.leftmost.result (omega arith) side beyond

pub returns : goal.returns
returns c = λ yes.
    let w = c.args.camera.now in
    let b = c.args.self.now in
    let s = c.args.sample.now in
    let e = c.rightmost.ensures in
    let beyond = place_above c.x-2.result c.rightmost.result s.place.x yes c.x-2.ensures.value c.x-2.ensures.size e.bound in
    let side : IsRightmost w (high_when b s.time).x (low_when b s.time).z (high_when b s.time).z c.rightmost.result = rw (c.on_way-right.ensures, c.near_at-near.ensures, c.far_at-far.ensures) at e.value in
    left_of_place w b s c.rightmost.result (omega arith) side beyond
