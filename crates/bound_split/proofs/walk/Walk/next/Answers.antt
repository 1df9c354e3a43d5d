-- Every part passes, so nothing is passed over.
use Rattle.std.proofs.Common.{true, rules}
use Rattle.bound_split.specs.Decisions.{decision_of}
use Rattle.bound_split.specs.Leaves.{pending}
use Rattle.bound_split.proofs.Culls.{all_pass, unfiltered_next, ended_before}
use Rattle.bound_split.proofs.walk.Walk.next.Goals as goal

pub returns-clause-leaf : goal.returns-clause-leaf
returns-clause-leaf g c =
    let decide = decision_of c.args.camera.now c.args.rate c.args.bound (g.S.Surface.width_of c.args.s.now) (g.S.Surface.net_of c.args.s.now) in
    unfiltered_next c.next_kept.result (pending decide c.args.self.now) (pending decide c.next_kept.new.self)
    (c.next_kept.ensures.filtered (λ _. true) (all_pass _ decide (λ p b is. search rules)))

pub returns-clause-ended : goal.returns-clause-ended
returns-clause-ended g c =
    let decide = decision_of c.args.camera.now c.args.rate c.args.bound (g.S.Surface.width_of c.args.s.now) (g.S.Surface.net_of c.args.s.now) in
    ended_before c.next_kept.result decide c.args.self.now c.next_kept.new.self (returns-clause-leaf g c) c.next_kept.ensures.ended
