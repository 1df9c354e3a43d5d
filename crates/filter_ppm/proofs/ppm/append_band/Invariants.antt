use Rattle.std.proofs.Common.{◌≡◌, ◌++◌, take}
use Rattle.filter_ppm.specs.Levels.{band}
use Rattle.filter_ppm.proofs.ppm.append_band.Given as goal

abbrev pub invariant-loop-pixel : goal.invariant-loop-pixel
invariant-loop-pixel l = l.bytes.items ≡ l.initial.bytes.items ++ band l.o.one (take l.pixel-index l.pixels)
