use Rattle.moving.specs.WayLaws.{place-between, place-within}
use Rattle.moving.proofs.ways.place_on_way.Goals as goal

pub returns-clause-between : goal.returns-clause-between
returns-clause-between c = λ k n a h l. rw (c.on_way.ensures, c.on_way-2.ensures, c.on_way-3.ensures) (place-between k c.args.steps n c.args.p c.args.q a h l)

pub returns-clause-within : goal.returns-clause-within
returns-clause-within c = λ a. rw (c.on_way.ensures, c.on_way-2.ensures, c.on_way-3.ensures) (place-within c.args.steps c.args.p c.args.q a c.requires)
