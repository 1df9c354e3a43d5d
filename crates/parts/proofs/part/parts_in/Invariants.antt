use Rattle.std.proofs.Common.{◌≡◌, ◌<◌, ℕ, [], length, get_or}
use Rattle.parts.specs.Formats.{IsParsed, no_part}
use Rattle.parts.proofs.part.parts_in.Given as goal

abbrev pub invariant-loop-i : goal.invariant-loop-i
invariant-loop-i l = record {
  count : length l.parts.items ≡ l.i;
  each : (j : ℕ) → j < l.i → IsParsed (get_or l.texts j []) (get_or l.parts.items j no_part);
}
