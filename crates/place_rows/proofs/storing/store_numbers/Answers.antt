use Rattle.std.proofs.Common.{◌+◌, ◌-◌, ◌*◌, length, arith}
use Rattle.place_rows.proofs.Rows.{stored}
use Rattle.place_rows.proofs.storing.store_numbers.Goals as goal

pub returns-clause-each : goal.returns-clause-each
returns-clause-each c d =
    let P = length c.args.row.now in
    stored c.args.rows.now c.args.row.now c.store_numbers_in.new.target c.args.live.now c.args.register P (c.args.register * P + P - c.args.register * P) d (omega arith) c.requires.fits (omega arith) (c.store_numbers_in.ensures.each d)
