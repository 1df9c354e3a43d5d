use Rattle.std.proofs.Common.{◌≡◌, false}
use Rattle.std.specs.Prelude.{drop}
use Rattle.texture.specs.Scans.{behind_gap}
use Rattle.texture.proofs.numbers.gap_len.Given as goal

abbrev pub invariant-loop-i : goal.invariant-loop-i
invariant-loop-i l = behind_gap false (drop 0 l.bytes) ≡ behind_gap l.comment (drop l.i l.bytes)
