use Rattle.std.proofs.Common.{rules, sym}
use Rattle.conformance.specs.Names.{texts}
use Rattle.conformance.proofs.Words.{words_line-split}
use Rattle.conformance.proofs.case.read_words.Goals as goal

pub returns-clause-read : goal.returns-clause-read
returns-clause-read c =
    let line = words_line-split c.in-Some.list.now (texts c.in_ok-words.words.items) c.in_ok-words.ensures in
    rw (sym line) (search rules)
