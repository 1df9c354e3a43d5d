use Rattle.std.proofs.Common.{subst, sym, lit<}
use Rattle.bound_split.specs.Leaves.{IsDeepFrom}
use Rattle.bound_split.proofs.Stacks.{room, deeper}
use Rattle.bound_split.proofs.walk.push_halves.Goals as goal

pub push-requires : goal.push-requires
push-requires c = (lit< tt, room c.args.stack.now.items c.args.piece.now c.requires.deep)

pub push-requires-2 : goal.push-requires-2
push-requires-2 c =
    let deep = deeper c.args.stack.now.items c.push.new.self.items c.args.piece.now c.args.low c.args.high c.requires.deep c.requires.low c.requires.high c.push.ensures.items in
    (lit< tt, room c.push.new.self.items c.args.low deep)

pub returns-clause-deep : goal.returns-clause-deep
returns-clause-deep c =
    let deep = deeper c.args.stack.now.items c.push.new.self.items c.args.piece.now c.args.low c.args.high c.requires.deep c.requires.low c.requires.high c.push.ensures.items in
    subst (IsDeepFrom 0) (sym c.push-2.ensures.items) deep
