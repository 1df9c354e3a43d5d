use Rattle.std.proofs.Common.{sym, subst}
use Rattle.grid_rows.specs.Rows.{AreRaws}
use Rattle.grid_rows.proofs.Raws.{raws_none}
use Rattle.grid_rows.proofs.UnderWay.{zeros_room}
use Rattle.grid_rows.proofs.rows.Rows.new.Goals as goal

pub invariant_of-result : goal.invariant_of-result
invariant_of-result c =
    (subst AreRaws (sym c.in_ok-raws.ensures.items) raws_none, c.in_ok-zeros.ensures, zeros_room c.in_ok-x.x.items c.in_ok-x.ensures, zeros_room c.in_ok-y.y.items c.in_ok-y.ensures, zeros_room c.in_ok-z.z.items c.in_ok-z.ensures)
