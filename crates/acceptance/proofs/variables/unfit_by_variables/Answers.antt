use Rattle.std.proofs.Common.{◌∙◌, sym}
use Rattle.sl_look_ups.specs.Naming.{binding_params}
use Rattle.acceptance.specs.PrimFit.{binds_unfit}
use Rattle.acceptance.specs.Reading.{tree_read}
use Rattle.acceptance.proofs.ByParameter.{any_at, any_next}
use Rattle.acceptance.proofs.variables.unfit_by_variables.Goals as goal

pub returns-then-binds_unfit : goal.returns-then-binds_unfit
returns-then-binds_unfit c =
    sym (any_at (binds_unfit (binding_params (tree_read c.args.shader.now))) c.args.variables.now c.loop-k.k c.at.result c.at.ensures (sym c.binds_unfit.ensures ∙ c.if-binds_unfit.true))

pub loop-k-preserved : goal.loop-k-preserved
loop-k-preserved c =
    any_next (binds_unfit (binding_params (tree_read c.args.shader.now))) c.args.variables.now c.loop-k.k c.at.result c.at.ensures (sym c.binds_unfit.ensures ∙ c.if-binds_unfit.false) ∙ c.loop-k.invariant
