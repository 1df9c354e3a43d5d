use Rattle.std.proofs.Common.{◌≡◌, ◌∙◌, ap, refl}
use Rattle.fixed_math.specs.Fixed.{sat}
use Rattle.fixed_math.specs.Whole.{floor_div}
use Rattle.hider.specs.Coverage.{mean_at}
use Rattle.hider.proofs.Between.{mean_at-raw}
use Rattle.hider.proofs.means.quick_mean_at.Goals as goal

pub returns-in-Some : goal.returns-in-Some
returns-in-Some c =
    let w = c.in-Some.weighed in
    let e = c.in-Some.ensures in
    let mean : floor_div w.sum w.whole ≡ mean_at c.args.areas.now c.args.a c.args.b c.args.c = rw (e.sum, e.whole) refl in
    c.mean.ensures ∙ ap sat mean ∙ mean_at-raw c.args.areas.now c.args.a c.args.b c.args.c c.requires.parts e.a e.b e.c
