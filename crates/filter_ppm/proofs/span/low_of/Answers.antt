use Rattle.std.proofs.Common.{◌≡◌, ◌∙◌, refl, pos, ◌-ℤ◌, ◌*ℤ◌}
use Rattle.fixed_math.specs.Whole.{floor_by}
use Rattle.filter_ppm.proofs.Filters.{read_whole}
use Rattle.filter_ppm.proofs.Spans.{one_more_read}
use Rattle.filter_ppm.proofs.span.low_of.Goals as goal

pub returns-clause-value : goal.returns-clause-value
returns-clause-value c =
    let e = read_whole c.start_of.result c.start_of.type_inv in
    let s = read_whole c.args.s c.ranges.s.sfits in
    let f = c.start_of.ensures.value in
    let v : c.pixels_of.result ≡ floor_by (pos 2 *ℤ c.args.s -ℤ pos 256 -ℤ pos c.args.width) 512 = c.pixels_of.ensures.value ∙ rw (e, f, s) refl in
    one_more_read c.pixels_of.result _ c.pixels_of.ensures.size v
