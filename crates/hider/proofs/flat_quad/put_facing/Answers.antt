use Rattle.std.proofs.Common.{refl}
use Rattle.hider.specs.Flat.{flat_of}
use Rattle.hider.proofs.Flats.{facing_some, facing_beside}
use Rattle.hider.proofs.flat_quad.put_facing.Goals as goal

pub returns-in_default-areas-clause-covers : goal.returns-in_default-areas-clause-covers
returns-in_default-areas-clause-covers c =
    let n = facing_beside (flat_of c.args.cell.now) c.in-Some.t c.args.s c.in_default-areas.ensures.covers in
    rw (c.in-Some.is, n) refl

pub returns-in_default-areas-clause-put : goal.returns-in_default-areas-clause-put
returns-in_default-areas-clause-put c =
    let n = facing_beside (flat_of c.args.cell.now) c.in-Some.t c.args.s c.in_default-areas.ensures.covers in
    rw (c.in-Some.is, n) refl

pub returns-clause-covers : goal.returns-clause-covers
returns-clause-covers c =
    let i = c.in-Some-areas in
    let e = facing_some (flat_of c.args.cell.now) c.in-Some.t c.args.s i.areas i.ensures.covers i.ensures.areas in
    rw (c.in-Some.is, e) refl

pub returns-clause-put : goal.returns-clause-put
returns-clause-put c =
    let i = c.in-Some-areas in
    let e = facing_some (flat_of c.args.cell.now) c.in-Some.t c.args.s i.areas i.ensures.covers i.ensures.areas in
    rw (c.in-Some.is, e) c.in_ok-put_covered.ensures
