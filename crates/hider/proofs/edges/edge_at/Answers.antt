use Rattle.std.specs.Prelude.{◌-ℤ◌, ◌*ℤ◌}
use Rattle.fixed_math.specs.Edges.{edge}
use Rattle.hider.proofs.Small.{less_value, less_fits, less_bound, less_read, product_read}
use Rattle.hider.proofs.edges.edge_at.Goals as goal

pub overflow_sub-result : goal.overflow_sub-result
overflow_sub-result c = less_fits c.times-across.result c.times-down.result c.times-across.ensures.bound c.times-down.ensures.bound

pub returns-clause-value : goal.returns-clause-value
unfolding edge
returns-clause-value c =
    let a = c.args.a in let b = c.args.b in let s = c.args.s in
    let e = less_read c.x.result c.x-2.result c.less.result b.x a.x c.x.ensures.size c.x-2.ensures.size c.less.ensures.value c.x.ensures.value c.x-2.ensures.value in
    let f = less_read c.y.result c.y-2.result c.less-2.result s.y a.y c.y.ensures.size c.y-2.ensures.size c.less-2.ensures.value c.y.ensures.value c.y-2.ensures.value in
    let g = less_read c.y-3.result c.y-4.result c.less-3.result b.y a.y c.y-3.ensures.size c.y-4.ensures.size c.less-3.ensures.value c.y-3.ensures.value c.y-4.ensures.value in
    let h = less_read c.x-3.result c.x-4.result c.less-4.result s.x a.x c.x-3.ensures.size c.x-4.ensures.size c.less-4.ensures.value c.x-3.ensures.value c.x-4.ensures.value in
    let p = product_read c.less.result c.less-2.result c.times-across.result (b.x -ℤ a.x) (s.y -ℤ a.y) c.less.ensures.bound c.less-2.ensures.bound c.times-across.ensures.value e f in
    let q = product_read c.less-3.result c.less-4.result c.times-down.result (b.y -ℤ a.y) (s.x -ℤ a.x) c.less-3.ensures.bound c.less-4.ensures.bound c.times-down.ensures.value g h in
    less_value c.times-across.result c.times-down.result ((b.x -ℤ a.x) *ℤ (s.y -ℤ a.y)) ((b.y -ℤ a.y) *ℤ (s.x -ℤ a.x)) c.times-across.ensures.bound c.times-down.ensures.bound p q

pub returns-clause-bound : goal.returns-clause-bound
returns-clause-bound c = less_bound c.times-across.result c.times-down.result c.times-across.ensures.bound c.times-down.ensures.bound
