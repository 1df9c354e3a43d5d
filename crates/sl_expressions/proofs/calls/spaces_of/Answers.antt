use Rattle.std.proofs.Common.{arith, rules, sym, subst}
use Rattle.sl_expressions.specs.Views.{Gives, spot_of}
use Rattle.sl_expressions.proofs.Operands.{two_args, three_args, other_counts}
use Rattle.sl_expressions.proofs.calls.spaces_of.Goals as goal

pub returns-in-len3 : goal.returns-in-len3
returns-in-len3 c =
    subst (λ r. Gives (λ s. s) c.both_spaces.result r)
    (sym (three_args (spot_of c.args.g.now) c.args.line c.args.es.now c.from-item.result c.into-item-then-es-lt4.result (omega arith) (omega arith) c.from-item.is c.into-item-then-es-lt4.is))
    c.both_spaces.ensures

pub returns-in_err-into-in-len2 : goal.returns-in_err-into-in-len2
returns-in_err-into-in-len2 c =
    let whole = two_args (spot_of c.args.g.now) c.args.line c.args.es.now c.into-item.result (omega arith) (omega arith) c.into-item.is in
    search rules

pub returns-in_ok-into-in-len2 : goal.returns-in_ok-into-in-len2
returns-in_ok-into-in-len2 c =
    let whole = two_args (spot_of c.args.g.now) c.args.line c.args.es.now c.into-item.result (omega arith) (omega arith) c.into-item.is in
    search rules

pub returns-in_default : goal.returns-in_default
returns-in_default c = other_counts (spot_of c.args.g.now) c.args.line c.args.es.now (omega arith) (omega arith)

pub returns-in_default-2 : goal.returns-in_default-2
returns-in_default-2 c = other_counts (spot_of c.args.g.now) c.args.line c.args.es.now (omega arith) (omega arith)
