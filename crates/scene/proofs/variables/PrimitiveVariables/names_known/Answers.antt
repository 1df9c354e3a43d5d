use Rattle.std.proofs.Common.{◌∙◌, ap, subst}
use Rattle.scene.specs.Seats.{AreDistinct, names_in, names_of}
use Rattle.scene.proofs.NamesIn.{same_names}
use Rattle.scene.proofs.variables.PrimitiveVariables.names_known.Goals as goal

pub returns : goal.returns
returns c =
    let seat = c.self.inside.seat in
    let same = ap names_of c.get.ensures ∙ same_names seat c.self.inside.request ∙ ap names_in c.self.view_is in
    subst AreDistinct same c.names_known.ensures
