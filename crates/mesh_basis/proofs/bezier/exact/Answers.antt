use Rattle.std.proofs.Common.{◌^◌}
use Rattle.fixed_math.proofs.Fits.{read_back}
use Rattle.mesh_basis.proofs.bezier.exact.Goals as goal

pub returns-clause-bound : goal.returns-clause-bound
returns-clause-bound c =
    rw (read_back c.blend.result c.blend.type_inv)
    (c.blend.ensures.bound (2 ^ 36)
    (rw (read_back c.across-a.result c.across-a.type_inv) c.across-a.ensures.bound)
    (rw (read_back c.across-b.result c.across-b.type_inv) c.across-b.ensures.bound)
    (rw (read_back c.across-c.result c.across-c.type_inv) c.across-c.ensures.bound)
    (rw (read_back c.across-d.result c.across-d.type_inv) c.across-d.ensures.bound))
