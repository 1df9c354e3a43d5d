use Rattle.std.proofs.Common.{false}
use Rattle.place_rows.proofs.Sets.{all_default}
use Rattle.place_rows.proofs.mask.Mask.none.Goals as goal

pub returns-clause-each : goal.returns-clause-each
returns-clause-each c i = all_default 289 i false
