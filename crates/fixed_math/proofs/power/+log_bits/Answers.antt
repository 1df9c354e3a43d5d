use Rattle.std.proofs.Common.{rules, arith, ◌≡◌, ◌<◌, ◌∙◌}
use Rattle.fixed_math.proofs.LogBits.{before_none, before_more, before_room}
use Rattle.fixed_math.proofs.power.+log_bits.Goals as goal

pub returns-then-k-eq0-clause-value : goal.returns-then-k-eq0-clause-value
returns-then-k-eq0-clause-value t c = let none : c.args.k ≡ 0 = search rules in rw none (before_none c.args.before c.args.m)

pub log_bits-requires : goal.log_bits-requires
log_bits-requires t c =
    let above : 0 < c.args.k = omega arith in
    (search rules, (omega arith, (c.halved.ensures.bound, before_room c.args.k c.args.before c.bit_of.result 65536 above c.bit_of.ensures.bound c.requires.room)))

pub returns-clause-value : goal.returns-clause-value
returns-clause-value t c =
    let above : 0 < c.args.k = omega arith in
    let bit = c.bit_of.ensures.value in
    let half = c.halved.ensures.value in
    c.log_bits.ensures.value ∙ rw (bit, half) (before_more c.args.k c.args.m c.args.before above)
