use Rattle.std.proofs.Common.{◌≡◌, ◌∙◌, ◌+◌, ◌*◌, pos, ◌-ℤ◌, sym, subst, ℤ}
use Rattle.scene.specs.Settings.{OptionValues}
use Rattle.filter_ppm.specs.Tables.{part, joined}
use Rattle.filter_ppm.specs.Bells.{IsRowOf}
use Rattle.filter_ppm.proofs.Filters.{read_whole}
use Rattle.filter_ppm.proofs.Joins.{weight_is, weight_low}
use Rattle.filter_ppm.proofs.adding.weight_of.Goals as goal

pub weight-requires-clause-row : goal.weight-requires-clause-row
weight-requires-clause-row c =
    let row = c.args.row.now in
    let h = c.requires.row in
    subst (λ (o : OptionValues). IsRowOf o row.down row) (sym h.options) (subst (λ (q : ℤ). IsRowOf c.args.weights.now q row) (sym h.down) h)

pub weight-requires-clause-counts : goal.weight-requires-clause-counts
weight-requires-clause-counts c =
    let h = c.requires.row in
    let e = read_whole c.x.result c.x.type_inv in
    let v = c.x.ensures.value in
    rw (h.options, e, v) c.requires.across

value_is : goal.returns-clause-value
value_is c =
    let o = c.args.weights.now in
    let s = c.args.sample.now in
    let h = c.requires.row in
    let e = read_whole c.x.result c.x.type_inv in
    let v = c.x.ensures.value in
    let w : c.weight.result ≡ joined o.filter (part o.filter o.wx (s.place.x -ℤ pos (256 * c.args.x + 128))) (part o.filter o.wy (s.place.y -ℤ pos (256 * c.args.y + 128))) =
    rw (h.options, h.down, e, v) at c.weight.ensures in
    w ∙ weight_is o c.args.x c.args.y s.place c.requires.across c.requires.down

pub returns-clause-value : goal.returns-clause-value
returns-clause-value c = value_is c

pub returns-clause-low : goal.returns-clause-low
returns-clause-low c =
    rw (value_is c) (weight_low c.args.weights.now c.args.x c.args.y c.args.sample.now.place c.requires.options.some_width c.requires.options.some_height c.requires.across c.requires.down)
