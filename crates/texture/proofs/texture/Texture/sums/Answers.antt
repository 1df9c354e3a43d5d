use Rattle.std.proofs.Common.{◌≡◌, ◌∙◌, ap, sym, subst, ◌+◌, ◌-◌, ◌^◌, ◌<◌, get_or, length, arith}
use Rattle.texture.specs.Tables.{AreSums, no_table}
use Rattle.texture.proofs.Tables.{same_default}
use Rattle.texture.proofs.texture.Texture.sums.Goals as goal

pub index-requires : goal.index-requires
index-requires c =
    let size = c.self.invariant.size in
    let far = c.if-l-lt3.false in
    let whole = c.self.inside.tables.ok.0 in
    omega (arith, size, far, whole)

pub all_at-requires-clause-sums : goal.all_at-requires-clause-sums
all_at-requires-clause-sums c =
    let ts = c.self.inside.tables.items in
    let size = c.self.invariant.size in
    let far = c.if-l-lt3.false in
    let k : c.args.l - 3 < length ts = omega (arith, size, far) in
    let e : 3 + (c.args.l - 3) ≡ c.args.l = omega (arith, far) in
    let f = c.self.invariant.each (c.args.l - 3) k in
    subst (AreSums c.self.inside.image c.side_of-m.result) (sym (c.index.ensures ∙ same_default ts (c.args.l - 3) c.index.result.now no_table k))
    (subst (λ m. AreSums c.self.inside.image m (get_or ts (c.args.l - 3) no_table)) (ap (λ n. 2 ^ n) e ∙ sym c.side_of-m.ensures.value) f)
