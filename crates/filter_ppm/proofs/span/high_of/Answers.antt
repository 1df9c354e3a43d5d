use Rattle.std.proofs.Common.{◌≡◌, ◌∙◌, refl, pos, ◌+ℤ◌, ◌-ℤ◌, ◌*ℤ◌}
use Rattle.fixed_math.specs.Whole.{floor_by}
use Rattle.filter_ppm.proofs.Filters.{read_whole}
use Rattle.filter_ppm.proofs.Spans.{one_more_read}
use Rattle.filter_ppm.proofs.span.high_of.Goals as goal

pub returns-clause-value : goal.returns-clause-value
returns-clause-value c =
    let e = read_whole c.stop_of.result c.stop_of.type_inv in
    let s = read_whole c.args.s c.ranges.s.sfits in
    let f = c.stop_of.ensures.value in
    let v : c.pixels_of.result ≡ floor_by (pos 2 *ℤ c.args.s -ℤ pos 256 +ℤ pos c.args.width) 512 = c.pixels_of.ensures.value ∙ rw (e, f, s) refl in
    one_more_read c.pixels_of.result _ c.pixels_of.ensures.size v
