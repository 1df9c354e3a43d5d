use Rattle.sl_grammar.proofs.FileStarts.{parsed_whole, begins}
use Rattle.sl_grammar.proofs.FileReads.{accepted, spelled_once, refused, unspelled}
use Rattle.sl_grammar.proofs.laws.shaders_spelled_once.Goals as goal

pub returns-clause-accepted : goal.returns-clause-accepted
returns-clause-accepted c = accepted

pub returns-clause-grammatical : goal.returns-clause-grammatical
returns-clause-grammatical c = parsed_whole

pub returns-clause-once : goal.returns-clause-once
returns-clause-once c = spelled_once

pub returns-clause-unspelled : goal.returns-clause-unspelled
returns-clause-unspelled c = unspelled

pub returns-clause-first : goal.returns-clause-first
returns-clause-first c = begins

pub returns-clause-refused : goal.returns-clause-refused
returns-clause-refused c = refused
