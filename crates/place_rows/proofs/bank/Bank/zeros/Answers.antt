use Rattle.std.proofs.Common.{sym, ◌∙◌}
use Rattle.place_rows.specs.declared.bank.Bank.{Bank}
use Rattle.place_rows.proofs.Zeroed.{zero_held}
use Rattle.place_rows.proofs.bank.Bank.zeros.Goals as goal

pub returns-clause-zero : goal.returns-clause-zero
returns-clause-zero c =
    let x = c.in_ok-zero_row-2 in
    let y = c.in_ok-zero_row-3 in
    let z = c.in_ok-zero_row-4 in
    let b : Bank = record {
      numbers = c.in_ok-zero_row.field-0;
      xs = x.field-0;
      ys = y.field-0;
      zs = z.field-0;
      words = c.in_ok-zero_words.field-0;
      ys_long = y.ensures.long ∙ sym x.ensures.long;
      zs_long = z.ensures.long ∙ sym x.ensures.long;
    } in
    zero_held b c.in_ok-zero_row.ensures.zero x.ensures.zero y.ensures.zero z.ensures.zero c.in_ok-zero_words.ensures.zero
