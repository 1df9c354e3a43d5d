-- What an entry that is shown says.
use Rattle.outside.specs.Sink.{Written}
use Rattle.outside.specs.declared.memory_sink.Entry.{Entry}

abbrev pub entry_of : Entry → Written
entry_of e = record { name = e.name.now; bytes = e.bytes.now; ended = e.ended }
