use Rattle.std.proofs.Common.{arith, subst, sym}
use Rattle.pixel_account.specs.declared.stacks.Stack.{Stack}
use Rattle.pixel_account.specs.Stacks.{PutIn, cells_in_grid}
use Rattle.pixel_account.proofs.Puts.{first_more}
use Rattle.pixel_account.proofs.cells.put_grid.Goals as goal

pub loop-k-preserved : goal.loop-k-preserved
loop-k-preserved g c =
    let a = g.at.accepted in
    let f = g.at.frame in
    let cells = cells_in_grid c.args.shaded.now in
    let old = c.index-stacks-k.result in
    let new = c.put_cells.new.stack in
    let long = c.loop-k.invariant.long in
    first_more a f cells c.args.stacks.now c.loop-k.stacks c.loop-k.k old new (omega (arith, c.loop-k-test.true, long)) c.index-stacks-k.is
    (subst (λ (o : Stack). PutIn a f cells o new) (sym c.index-stacks-k.is) c.in_ok-put_cells.ensures) c.loop-k.invariant
