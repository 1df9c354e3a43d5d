use Rattle.std.proofs.Common.{◌∙◌, sym, pos}
use Rattle.scene.proofs.Items.{item_read, no_item}
use Rattle.scene.proofs.variable.number_at.Goals as goal

pub returns-then-value-places : goal.returns-then-value-places
returns-then-value-places c =
    item_read c.args.width c.args.numbers.now c.args.places.now c.args.k _ (pos 0) c.index-numbers-width.result c.requires.some c.if-value-places.true c.requires.there c.index-numbers-width.is

pub returns-else-value-places : goal.returns-else-value-places
returns-else-value-places c =
    let past = c.if-value-places.false in
    c.default.ensures ∙ sym (no_item c.args.width c.args.numbers.now c.args.places.now c.args.k (pos 0) past c.requires.there)
