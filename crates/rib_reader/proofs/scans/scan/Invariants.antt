use Rattle.std.proofs.Common.{◌≡◌, drop}
use Rattle.rib_reader.specs.Values.{scan_from, start}
use Rattle.rib_reader.proofs.scans.scan.Given as goal

abbrev pub invariant-loop-token : goal.invariant-loop-token
invariant-loop-token l = scan_from l.scan (drop l.token-index l.tokens) ≡ scan_from start l.tokens
