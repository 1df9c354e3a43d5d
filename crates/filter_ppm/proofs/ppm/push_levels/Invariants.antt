use Rattle.std.proofs.Common.{◌≡◌, ◌++◌, take}
use Rattle.filter_ppm.specs.Levels.{pixel_bytes}
use Rattle.filter_ppm.proofs.ppm.push_levels.Given as goal

abbrev pub invariant-loop-level : goal.invariant-loop-level
invariant-loop-level l = l.bytes.items ≡ l.initial.bytes.items ++ pixel_bytes l.one (take l.level-index l.levels)
