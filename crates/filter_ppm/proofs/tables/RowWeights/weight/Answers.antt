use Rattle.std.proofs.Common.{◌≡◌, ◌∙◌, ap, sym, subst, ℕ, ◌<◌, ℤ, pos, ◌+◌, ◌*◌, ◌/◌, ◌-ℤ◌, ◌+ℤ◌, w64, FitsSigned}
use Rattle.std.proofs.lemmas.Int.{to_z-of_z}
use Rattle.filter_ppm.specs.declared.tables.RowWeights.{RowWeights}
use Rattle.filter_ppm.specs.Tables.{part, joined}
use Rattle.filter_ppm.specs.Bells.{IsBellRow}
use Rattle.filter_ppm.proofs.Folded.{number_is}
use Rattle.filter_ppm.proofs.tables.RowWeights.weight.Goals as goal

pub returns-then-kept-ne0 : goal.returns-then-kept-ne0
returns-then-kept-ne0 c =
    let fm : FitsSigned w64 c.from_middle-offset.result = record { sfits = c.from_middle-offset.type_inv } in
    let fp : FitsSigned w64 c.args.place = c.ranges.place in
    let o = c.args.self.now.options in
    let q = c.args.self.now.down in
    let d : c.from_middle-offset.result ≡ c.args.place -ℤ pos (256 * c.args.x + 128) = simp to_z-of_z at c.from_middle-offset.ensures in
    let same = ap (λ (s : RowWeights). s.options.wx) c.self.view_is in
    let v : pos c.index_of-index.result ≡ c.from_middle-offset.result +ℤ pos (o.wx / 2) =
    subst (λ (w : ℕ). pos c.index_of-index.result ≡ c.from_middle-offset.result +ℤ pos (w / 2)) same (simp to_z-of_z at c.index_of-index.ensures.value) in
    let inside : c.index_of-index.result < o.wx = subst (λ (w : ℕ). c.index_of-index.result < w) same c.index_of-index.ensures.inside in
    let n = number_is o.filter o.wx c.index_of-index.result c.from_middle-offset.result v in
    let bells = subst (λ (r : RowWeights). IsBellRow o.filter o.wx q r.side r.start r.weights.now) (sym c.self.view_is) c.requires.row.bells in
    let w = c.weight_in-kept.ensures o.filter o.wx q bells inside c.if-kept-ne0.true in
    c.num_of_short.ensures ∙ w ∙ ap (λ (p : ℤ). joined o.filter p q) (n ∙ ap (part o.filter o.wx) d)
