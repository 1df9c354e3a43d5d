use Rattle.std.proofs.Common.{rules}
use Rattle.rib_reader.proofs.Fits.{word_stands, one_of, none_of}
use Rattle.rib_reader.proofs.request.Request.word.Goals as goal

pub unreachable-requires : goal.unreachable-requires
unreachable-requires c =
    word_stands c.args.self.now.name c.args.self.now.args c.args.self.now.params c.args.place c.args.self.now.fits_row c.requires (search rules)

pub returns-clause-words : goal.returns-clause-words
returns-clause-words c =
    one_of c.args.self.now.name c.args.self.now.args c.args.self.now.params c.args.place c.in-Some.text.now c.args.self.now.fits_row (search rules)

pub returns-clause-refused : goal.returns-clause-refused
returns-clause-refused c =
    none_of c.args.self.now.name c.args.self.now.args c.args.self.now.params c.args.place c.in-Some.text.now c.args.self.now.fits_row (search rules)
