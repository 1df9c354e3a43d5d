use Rattle.texture.proofs.FilesRead.{one_image}
use Rattle.texture.proofs.laws.one_image_law.Goals as goal

pub returns : goal.returns
returns c = one_image
