use Rattle.filter_ppm.proofs.Filters.{read_whole}
use Rattle.filter_ppm.proofs.adding.columns_of.Goals as goal

pub returns-clause-inside : goal.returns-clause-inside
returns-clause-inside c = λ i h k.
    let e = read_whole c.x.result c.x.type_inv in
    let v = c.x.ensures.value in
    let w = c.across_width.ensures in
    rw (e, v, w) at (c.span_of.ensures.inside i h k)

pub returns-clause-outside : goal.returns-clause-outside
returns-clause-outside c = λ i a b o.
    let e = read_whole c.x.result c.x.type_inv in
    let v = c.x.ensures.value in
    let w = c.across_width.ensures in
    rw (e, v, w) at (c.span_of.ensures.outside i a b o)
