use Rattle.acceptance.proofs.ImageReads.{as_read}
use Rattle.acceptance.proofs.laws.image_files_law.Goals as goal

pub returns : goal.returns
returns c = as_read
