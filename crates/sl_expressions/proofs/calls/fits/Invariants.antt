use Rattle.std.proofs.Common.{◌≡◌, drop, map}
use Rattle.sl_expressions.specs.Exprs.{fits}
use Rattle.sl_expressions.specs.TypedView.{typed_of}
use Rattle.sl_expressions.specs.Views.{local_of}
use Rattle.sl_expressions.proofs.calls.fits.Given as goal

abbrev pub invariant-loop-i : goal.invariant-loop-i
invariant-loop-i l = fits (map local_of (drop l.i l.formals)) (map typed_of (drop l.i l.args)) ≡ fits (map local_of l.formals) (map typed_of l.args)
