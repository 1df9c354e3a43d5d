use Rattle.std.proofs.Common.{arith}
use Rattle.parts.proofs.Words.{word_read}
use Rattle.parts.proofs.header.word.Goals as goal

pub returns-clause-value : goal.returns-clause-value
returns-clause-value c =
    word_read c.args.bytes.now c.in-Some.front.now c.in-Some.rest.now c.from_be_bytes.result c.in-Some.ensures.cases.0 c.in-Some.ensures.cases.1 c.requires (λ i. (let h = c.type_inv.bytes i in omega (arith, h))) c.from_be_bytes.ensures
