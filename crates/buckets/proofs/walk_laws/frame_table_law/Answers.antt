use Rattle.buckets.proofs.Tables.{tables_make_pictures}
use Rattle.buckets.proofs.walk_laws.frame_table_law.Goals as goal

pub returns : goal.returns
returns c = tables_make_pictures
