use Rattle.command_line.proofs.Commands.{number_read, number_unread}
use Rattle.command_line.proofs.command.number_in.Goals as goal

pub returns-in-Ok : goal.returns-in-Ok
returns-in-Ok c = record {
  number = number_read c.args.low c.args.high c.in-Ok.number c.args.text.now c.in-Ok.ensures.value.0 c.if-low-number.true c.if-number-high.true;
  within = (c.if-low-number.true, c.if-number-high.true);
}

pub returns-in_default-3 : goal.returns-in_default-3
returns-in_default-3 c = record { number = number_unread c.args.low c.args.high c.args.text.now c.in_default.ensures.value.0 c.ranges.high.fits; within = tt }
