use Rattle.hider.specs.Flat.{flat_of}
use Rattle.hider.proofs.Flats.{flat_means}
use Rattle.hider.proofs.flat_quad.put_covered.Goals as goal

pub returns : goal.returns
returns c = rw (flat_means c.args.areas.now (flat_of c.args.cell.now) c.args.t.now.a.now c.args.t.now.b.now c.args.t.now.c.now c.requires.parts, ← c.in-Some.ensures) c.put.ensures
