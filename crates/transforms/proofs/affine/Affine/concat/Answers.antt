use Rattle.transforms.specs.Concat.{triple}
use Rattle.transforms.proofs.Adjugate.{rows_times_adjugate}
use Rattle.transforms.proofs.affine.Affine.concat.Goals as goal

pub returns-then-not-is_affine-clause-adjugate : goal.returns-then-not-is_affine-clause-adjugate
returns-then-not-is_affine-clause-adjugate c = rows_times_adjugate (triple c.args.m.now 0) (triple c.args.m.now 1) (triple c.args.m.now 2)

pub returns-clause-adjugate : goal.returns-clause-adjugate
returns-clause-adjugate c = rows_times_adjugate (triple c.args.m.now 0) (triple c.args.m.now 1) (triple c.args.m.now 2)
