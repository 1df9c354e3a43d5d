use Rattle.std.proofs.Common.{◌≡◌, ◌++◌, drop}
use Rattle.grid_rows.specs.Given.{wanted_rows, all_rows}
use Rattle.grid_rows.proofs.given.push_all.Given as goal

abbrev pub invariant-loop-name : goal.invariant-loop-name
invariant-loop-name l = l.rows ++ all_rows (wanted_rows l.shader.kind l.shader.named.now l.leaf l.variables) (drop l.name-index l.names) ≡ l.initial.rows ++ all_rows (wanted_rows l.shader.kind l.shader.named.now l.leaf l.variables) l.names
