use Rattle.lanes.proofs.Inverses.{steps_shifted, steps_small}
use Rattle.lanes.proofs.fine.steps.Goals as goal

pub returns-clause-small : goal.returns-clause-small
returns-clause-small c =
    rw (steps_shifted c.args.x c.args.n c.args.by.zeros c.args.by.factor c.requires.x c.requires.bound c.args.by.few c.requires.fine)
    (steps_small c.args.x c.args.n c.requires.x)
