use Rattle.std.proofs.Common.{◌≡◌, ◌∙◌, sym}
use Rattle.hider.specs.Flat.{flat_of}
use Rattle.hider.proofs.Flats.{by_first, by_second, none_of_first}
use Rattle.hider.proofs.flat_quad.put_inside.Goals as goal

pub returns-then-branch : goal.returns-then-branch
returns-then-branch c =
    let q = c.args.quad.now in
    let e = by_first (flat_of q.cell.now) q.first q.second c.args.s q.first_is q.second_is (sym c.in_ok-put_facing.ensures.covers ∙ c.if-branch.true) in
    rw e c.in_ok-put_facing.ensures.put

pub returns : goal.returns
returns c =
    let q = c.args.quad.now in
    let f = sym c.in_ok-put_facing.ensures.covers ∙ c.if-branch.false in
    let n = none_of_first (flat_of q.cell.now) q.first c.args.s f in
    let same : c.put_facing.new.list ≡ c.args.list.now = rw n at c.in_ok-put_facing.ensures.put in
    let e = by_second (flat_of q.cell.now) q.first q.second c.args.s q.first_is q.second_is f in
    rw e (rw same at c.in_ok-put_facing-2.ensures.put)
