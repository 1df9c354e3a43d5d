use Rattle.std.proofs.Common.{◌≡◌, ◌∙◌, ap, refl}
use Rattle.fixed_math.specs.Fixed.{sat}
use Rattle.fixed_math.specs.Whole.{floor_div}
use Rattle.hider.specs.Coverage.{mean_at}
use Rattle.hider.proofs.Between.{mean_at-raw}
use Rattle.hider.proofs.list.depth_before.Goals as goal

pub returns-else-is_behind : goal.returns-else-is_behind
returns-else-is_behind c =
    let w = c.in-Some.weighed in
    let e = c.in-Some.ensures in
    let mean : floor_div w.sum w.whole ≡ mean_at c.args.areas.now c.args.a c.args.b c.args.c = rw (e.sum, e.whole) refl in
    c.mean.ensures ∙ ap sat mean ∙ mean_at-raw c.args.areas.now c.args.a c.args.b c.args.c c.requires.parts e.a e.b e.c
