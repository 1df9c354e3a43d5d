use Rattle.std.proofs.Common.{rules}
use Rattle.rib_reader.specs.Reading.{plain}
use Rattle.rib_reader.proofs.FirstWord.{first_declared}
use Rattle.rib_reader.proofs.groups.read_next.Goals as goal

pub note_declared-requires : goal.note_declared-requires
note_declared-requires c =
    search (rules, first_declared c.args.declarations.now c.args.head.now.kind c.args.head.now.line c.args.body.now (plain c.in_ok-request.request) (search rules))
