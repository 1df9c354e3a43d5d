use Rattle.std.proofs.Common.{refl, subst, ℕ, List}
use Rattle.parts.specs.Joining.{IsFault}
use Rattle.part_files.proofs.Joining.{stopped_given}
use Rattle.part_files.proofs.join.joined_parts.Goals as goal

pub returns-clause-gives : goal.returns-clause-gives
returns-clause-gives g c =
    stopped_given (g.L.Library.held c.args.library.now) c.args.name.now c.args.count c.in_ok-texts.texts.items c.in-Err.fault c.stop_of.result _ refl c.in_ok-texts.ensures.gives
    (subst (λ (ts : List (List ℕ)). IsFault ts c.in-Err.fault) c.deref.ensures.value c.in-Err.ensures.joined) c.stop_of.ensures
