-- What the fields of a library in memory hold.
use Rattle.outside.specs.HeldFiles.{HeldFiles}
use Rattle.outside.specs.FilesFrom.{files_from, names_of}
use Rattle.outside.specs.declared.memory_library.MemoryLibrary.TheInside.{Inside}

abbrev pub held_in : Inside → HeldFiles
held_in m = record { files = files_from m.files.items; asked = names_of m.asked.items; log = m.calls }
