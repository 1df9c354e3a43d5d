use Rattle.sl_grammar.proofs.LocalFiles.{fault_stays as law}
use Rattle.sl_grammar.proofs.laws.fault_stays.Goals as goal

pub returns : goal.returns
returns c = λ before faulty rest_after other code e. law 64 before faulty rest_after other code e
