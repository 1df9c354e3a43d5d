use Rattle.std.proofs.Common.{rules, arith, ◌≡◌}
use Rattle.fixed_math.specs.Root.{isqrt}
use Rattle.fixed_math.proofs.Root.{root_of}
use Rattle.fixed_math.proofs.roots.isqrt.Goals as goal

pub returns-then-n-lt18446744073709551616-clause-root : goal.returns-then-n-lt18446744073709551616-clause-root
returns-then-n-lt18446744073709551616-clause-root c =
    let is : c.isqrt_short.result ≡ isqrt c.args.n = search rules in root_of c.args.n c.isqrt_short.result (omega arith) is

pub returns-else-n-lt18446744073709551616-clause-root : goal.returns-else-n-lt18446744073709551616-clause-root
returns-else-n-lt18446744073709551616-clause-root c = root_of c.args.n c.isqrt_long.result (omega arith) c.isqrt_long.ensures.value
