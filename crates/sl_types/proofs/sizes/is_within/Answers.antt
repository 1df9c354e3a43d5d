use Rattle.std.proofs.Common.{ap, ◌∙◌}
use Rattle.sl_types.specs.Sizes.{extent_program, fits}
use Rattle.sl_typing.specs.Views.{program_of}
use Rattle.sl_types.proofs.Joins.{fits_cut}
use Rattle.sl_types.proofs.Whole.{within_is}
use Rattle.sl_types.proofs.sizes.is_within.Goals as goal

pub returns : goal.returns
returns c =
    let p = program_of c.args.program.now in
    λ s. c.fits.ensures ∙ ap fits c.in_ok-whole.ensures ∙ fits_cut (extent_program p) ∙ within_is s p
