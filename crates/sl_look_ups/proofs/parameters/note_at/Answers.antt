use Rattle.std.proofs.Common.{sym, true, arith}
use Rattle.std.proofs.lemmas.List.{set_past}
use Rattle.sl_look_ups.proofs.parameters.note_at.Goals as goal

pub returns-else-k-named : goal.returns-else-k-named
returns-else-k-named c = sym (set_past c.args.named.now c.args.index true (omega arith))
