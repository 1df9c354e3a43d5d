use Rattle.std.proofs.Common.{true, false}
use Rattle.std.proofs.lemmas.List.{get_or-replicate}
use Rattle.place_rows.proofs.mask.Mask.full.Goals as goal

pub returns : goal.returns
returns c i l = get_or-replicate 289 i true false l
