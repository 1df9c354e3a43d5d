use Rattle.std.proofs.Common.{◌≡◌}
use Rattle.std.specs.FinMap as finite
use Rattle.std.specs.VecDeque.Iter.{deque_iter_rest}
use Rattle.outside.specs.FilesFrom.{files_from}
use Rattle.outside.proofs.memory_library.find.Given as goal

abbrev pub invariant-loop-file : goal.invariant-loop-file
invariant-loop-file l = finite.get (files_from l.files.items) l.name ≡ finite.get (files_from (deque_iter_rest l.file-iterator)) l.name
