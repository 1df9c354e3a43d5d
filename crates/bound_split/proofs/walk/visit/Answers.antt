-- The halves have the leaves of the piece, which is a leaf itself where it is diced.
use Rattle.std.proofs.Common.{◌∙◌, refl, sym, subst}
use Rattle.patches.specs.Parts.{Part, low_u, high_u, low_v, high_v}
use Rattle.bound_split.specs.Decisions.{FitsPart}
use Rattle.bound_split.specs.declared.splits.Decision.{Decision}
use Rattle.bound_split.specs.declared.splits.Decision.TheVariants.{SplitU, SplitV}
use Rattle.bound_split.proofs.Stacks.{IsDeepFrom-pop, halved_u, halved_v, pending-halves, leaves-Dice}
use Rattle.bound_split.proofs.Culls.{visits-halves}
use Rattle.bound_split.proofs.walk.visit.Goals as goal

-- a decision of which all that is asked is told
abbrev one_of : Decision → Part → Decision
one_of d q = d

pub returns-in-SplitU-clause-split : goal.returns-in-SplitU-clause-split
returns-in-SplitU-clause-split c = λ decide is.
    let p = c.args.piece in
    let popped = IsDeepFrom-pop 0 c.args.stack.now.items p c.requires.deep in
    let items = rw c.halves.ensures at c.push_halves.ensures.items in
    let fits : FitsPart SplitU p = subst (λ (d : Decision). FitsPart d p) c.in-SplitU.is c.requires.fits in
    pending-halves decide c.args.stack.now.items c.push_halves.new.stack.items p (low_u p) (high_u p) (halved_u decide p (sym (is ∙ c.in-SplitU.is)) fits popped.3) items

pub returns-in-SplitU-clause-fewer : goal.returns-in-SplitU-clause-fewer
returns-in-SplitU-clause-fewer c =
    let p = c.args.piece in
    let popped = IsDeepFrom-pop 0 c.args.stack.now.items p c.requires.deep in
    let items = rw c.halves.ensures at c.push_halves.ensures.items in
    let fits : FitsPart SplitU p = subst (λ (d : Decision). FitsPart d p) c.in-SplitU.is c.requires.fits in
    visits-halves (one_of SplitU) c.args.stack.now.items c.push_halves.new.stack.items p (low_u p) (high_u p) (halved_u (one_of SplitU) p refl fits popped.3) items

pub returns-in-SplitV-clause-split : goal.returns-in-SplitV-clause-split
returns-in-SplitV-clause-split c = λ decide is.
    let p = c.args.piece in
    let popped = IsDeepFrom-pop 0 c.args.stack.now.items p c.requires.deep in
    let items = rw c.halves-in-SplitV.ensures at c.push_halves-in-SplitV.ensures.items in
    let fits : FitsPart SplitV p = subst (λ (d : Decision). FitsPart d p) c.in-SplitV.is c.requires.fits in
    pending-halves decide c.args.stack.now.items c.push_halves-in-SplitV.new.stack.items p (low_v p) (high_v p) (halved_v decide p (sym (is ∙ c.in-SplitV.is)) fits popped.2) items

pub returns-in-SplitV-clause-fewer : goal.returns-in-SplitV-clause-fewer
returns-in-SplitV-clause-fewer c =
    let p = c.args.piece in
    let popped = IsDeepFrom-pop 0 c.args.stack.now.items p c.requires.deep in
    let items = rw c.halves-in-SplitV.ensures at c.push_halves-in-SplitV.ensures.items in
    let fits : FitsPart SplitV p = subst (λ (d : Decision). FitsPart d p) c.in-SplitV.is c.requires.fits in
    visits-halves (one_of SplitV) c.args.stack.now.items c.push_halves-in-SplitV.new.stack.items p (low_v p) (high_v p) (halved_v (one_of SplitV) p refl fits popped.2) items

pub returns-in-Dice-clause-leaf : goal.returns-in-Dice-clause-leaf
returns-in-Dice-clause-leaf c = λ decide is. (refl, leaves-Dice decide c.args.piece c.in-Dice.p c.in-Dice.q (is ∙ c.in-Dice.is), refl)

pub returns-in-Dice-clause-deep : goal.returns-in-Dice-clause-deep
returns-in-Dice-clause-deep c = (IsDeepFrom-pop 0 c.args.stack.now.items c.args.piece c.requires.deep).0
