use Rattle.std.proofs.Common.{◌∙◌, ap, sym, subst, map}
use Rattle.scene.specs.Seats.{names_of, AreDistinct}
use Rattle.primitives.proofs.Spreading.{names_kept}
use Rattle.primitives.proofs.spread.spread_variables.Goals as goal

pub new-requires : goal.new-requires
new-requires c =
    let same = ap (map (λ p. p.now)) c.deref.ensures.value ∙ c.in_ok-held.ensures ∙ c.as_slice.ensures ∙ c.in_ok-spread.ensures in
    subst AreDistinct (sym (ap names_of same ∙ names_kept c.args.halves c.args.params.now)) c.requires.distinct
