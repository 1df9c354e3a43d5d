use Rattle.std.proofs.Common.{◌∙◌, ap, sym, subst, map}
use Rattle.scene.specs.Seats.{names_of, AreDistinct}
use Rattle.primitives.proofs.Distinct.{variables_distinct}
use Rattle.primitives.proofs.variables.variables_in.Goals as goal

pub new-requires : goal.new-requires
new-requires c =
    let same = ap (map (λ p. p.now)) c.deref.ensures.value ∙ c.in_ok-held.ensures.value in
    subst AreDistinct (sym (ap names_of same)) (variables_distinct c.args.request.now.params)
