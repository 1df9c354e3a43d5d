use Rattle.std.proofs.Common.{sym}
use Rattle.filter_ppm.proofs.Folded.{turned_bell}
use Rattle.filter_ppm.proofs.bells.next_weight.Goals as goal

pub returns-then-row-columns : goal.returns-then-row-columns
returns-then-row-columns c =
    turned_bell c.args.across.now c.args.down.now c.args.columns c.args.k c.args.weights.now (c.requires.same c.if-same.true) c.requires.each (sym c.requires.next) c.requires.across c.if-column-row.true c.if-row-columns.true
