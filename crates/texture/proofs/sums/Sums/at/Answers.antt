use Rattle.std.proofs.Common.{◌∙◌, sym, subst, ◌<◌, ◌≤◌, ◌+◌, ◌*◌}
use Rattle.texture.specs.Tables.{Table, AreSums}
use Rattle.texture.proofs.Tables.{index_in, table_at, outside_right, outside_below, square_sum-most, same_default}
use Rattle.texture.proofs.sums.Sums.at.Goals as goal

pub index-requires : goal.index-requires
index-requires c =
    let s = subst (AreSums c.args.image.now c.args.m) (sym c.self.view_is) c.requires.sums in
    subst (λ n. (c.args.y * c.self.inside.width + c.args.x) * 3 + c.args.c < n) (sym c.self.inside.cells.ok.0) (index_in c.args.image.now c.args.m (record { width = c.self.inside.width; height = c.self.inside.height; cells = c.self.inside.cells.items }) c.args.c c.args.x c.args.y s c.requires.channel c.if-x-self.false c.if-y-self.false)

pub returns-clause-value : goal.returns-clause-value
returns-clause-value c =
    let s = subst (AreSums c.args.image.now c.args.m) (sym c.self.view_is) c.requires.sums in
    let t : Table = record { width = c.self.inside.width; height = c.self.inside.height; cells = c.self.inside.cells.items } in
    let k = index_in c.args.image.now c.args.m t c.args.c c.args.x c.args.y s c.requires.channel c.if-x-self.false c.if-y-self.false in
    c.index.ensures ∙ same_default c.self.inside.cells.items ((c.args.y * c.self.inside.width + c.args.x) * 3 + c.args.c) c.index.result.now 0 k
    ∙ table_at c.args.image.now c.args.m t c.args.c c.args.x c.args.y s c.requires.channel c.if-x-self.false c.if-y-self.false

pub returns-clause-bound : goal.returns-clause-bound
returns-clause-bound c =
    subst (λ n. n ≤ 65535 * 4194304) (sym (returns-clause-value c)) (square_sum-most c.args.image.now c.args.c c.args.m c.args.x c.args.y c.recall.ensures c.requires.side)

pub returns-then-x-self-clause-value : goal.returns-then-x-self-clause-value
returns-then-x-self-clause-value c =
    let s = subst (AreSums c.args.image.now c.args.m) (sym c.self.view_is) c.requires.sums in
    sym (outside_right c.args.image.now c.args.c c.args.m c.args.x c.args.y c.requires.some (subst (λ n. n ≤ c.args.x) s.width c.if-x-self.true))

pub returns-then-y-self-clause-value : goal.returns-then-y-self-clause-value
returns-then-y-self-clause-value c =
    let s = subst (AreSums c.args.image.now c.args.m) (sym c.self.view_is) c.requires.sums in
    sym (outside_below c.args.image.now c.args.c c.args.m c.args.x c.args.y c.requires.some (subst (λ n. n ≤ c.args.y) s.height c.if-y-self.true))
