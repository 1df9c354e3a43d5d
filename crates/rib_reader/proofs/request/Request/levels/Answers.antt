use Rattle.std.proofs.Common.{rules}
use Rattle.rib_reader.proofs.Fits.{InRange, levels_stand}
use Rattle.rib_reader.proofs.request.Request.levels.Goals as goal

pub levels_of-requires : goal.levels_of-requires
levels_of-requires c =
    let levels : InRange c.whole.result c.whole-2.result c.whole-3.result =
    levels_stand c.args.self.now.args c.args.self.now.params c.whole.result c.whole-2.result c.whole-3.result
    (rw c.requires at c.args.self.now.fits_row) (search rules) c.whole.ensures.value c.whole-2.ensures.value c.whole-3.ensures.value in
    record {
      some = search (rules, levels.some);
      small = search (rules, levels.small);
      low = search (rules, levels.low);
      ordered = search (rules, levels.ordered);
      within = search (rules, levels.within);
    }
