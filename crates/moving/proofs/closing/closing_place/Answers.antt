use Rattle.moving.specs.MovingLaws.{by_parts, closing_near}
use Rattle.moving.proofs.closing.closing_place.Goals as goal

pub returns-clause-near : goal.returns-clause-near
returns-clause-near c = λ bound near.
    rw (c.closing_number.ensures.value, c.closing_number-2.ensures.value, c.closing_number-3.ensures.value)
    (closing_near bound c.args.last c.args.before c.args.after
    (by_parts 2147483647 c.args.last c.closing_number.ensures.last c.closing_number-2.ensures.last c.closing_number-3.ensures.last) near)
