use Rattle.std.proofs.Common.{◌-◌, arith}
use Rattle.std.specs.Prelude.{◌≤ℤ◌, ◌<ℤ◌}
use Rattle.std.proofs.lemmas.Int.{ints}
use Rattle.hider.proofs.Placing.{at_start, far_at, near_before, place_is}
use Rattle.hider.proofs.list.place_in.Goals as goal

pub loop-place-init : goal.loop-place-init
loop-place-init c = record { inside = omega arith; farther = λ h. absurd (omega (arith, h)) }

pub bounds-list-place : goal.bounds-list-place
bounds-list-place c = let i = c.loop-place.invariant.inside in omega (arith, i, c.loop-place-test.true)

pub returns-then-raw : goal.returns-then-raw
returns-then-raw c =
    let i = c.loop-place.invariant in
    let d : c.index-list-place.result.depth ≤ℤ c.args.f.now.depth = omega (arith, ints) in
    record {
      inside = i.inside;
      put = place_is c.args.f.now c.args.list.now c.loop-place.place c.requires i.inside i.farther (near_before c.args.f.now c.args.list.now c.loop-place.place c.index-list-place.result c.loop-place-test.true i.inside c.index-list-place.is d);
    }

pub loop-place-preserved : goal.loop-place-preserved
loop-place-preserved c =
    let i = c.loop-place.invariant.inside in
    let d : c.args.f.now.depth <ℤ c.index-list-place.result.depth = omega (arith, ints) in
    record {
      inside = omega (arith, i);
      farther = λ h. far_at c.args.f.now c.args.list.now (c.loop-place.place - 1) c.index-list-place.result h c.index-list-place.is d;
    }

pub returns : goal.returns
returns c =
    let i = c.loop-place.invariant in
    record { inside = omega arith; put = at_start c.args.f.now c.args.list.now c.loop-place.place (omega (arith, c.loop-place-test.false)) c.requires i.farther }
