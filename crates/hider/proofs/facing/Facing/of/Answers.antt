use Rattle.std.proofs.Common.{◌≡◌, arith, pos}
use Rattle.std.specs.Prelude.{◌<ℤ◌}
use Rattle.std.proofs.lemmas.Int.{ints}
use Rattle.fixed_math.specs.Edges.{edge}
use Rattle.fixed_math.proofs.Around.{edge_turned}
use Rattle.hider.proofs.Flats.{facing_above, facing_below, facing_none}
use Rattle.hider.proofs.facing.Facing.of.Goals as goal

pub turned-requires-then-area-lt0-clause-whole : goal.turned-requires-then-area-lt0-clause-whole
turned-requires-then-area-lt0-clause-whole c =
    let t = edge_turned c.args.a.now.place c.args.b.now.place c.args.c.now.place in
    let v = c.requires.area in
    let h = c.requires.small in
    omega (arith, ints)

pub returns-then-area-gt0 : goal.returns-then-area-gt0
returns-then-area-gt0 c =
    let v = c.requires.area in
    let h : pos 0 <ℤ edge c.args.a.now.place c.args.b.now.place c.args.c.now.place = omega (arith, ints) in
    facing_above c.args.a.now c.args.b.now c.args.c.now c.turned.result c.turned.ensures.a c.turned.ensures.b c.turned.ensures.c h

pub returns-then-area-lt0 : goal.returns-then-area-lt0
returns-then-area-lt0 c =
    let v = c.requires.area in
    let h : edge c.args.a.now.place c.args.b.now.place c.args.c.now.place <ℤ pos 0 = omega (arith, ints) in
    facing_below c.args.a.now c.args.b.now c.args.c.now c.turned-then-area-lt0.result c.turned-then-area-lt0.ensures.a c.turned-then-area-lt0.ensures.b c.turned-then-area-lt0.ensures.c h

pub returns-else-area-lt0 : goal.returns-else-area-lt0
returns-else-area-lt0 c =
    let v = c.requires.area in
    let h : edge c.args.a.now.place c.args.b.now.place c.args.c.now.place ≡ pos 0 = omega (arith, ints) in
    facing_none c.args.a.now c.args.b.now c.args.c.now h
