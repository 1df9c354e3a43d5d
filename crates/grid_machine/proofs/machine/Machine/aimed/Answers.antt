use Rattle.std.proofs.Common.{◌≡◌, ◌+◌, [], ap, ◌∙◌, arith}
use Rattle.number_rows.specs.Planes.{triple_in}
use Rattle.grid_registers.proofs.Parts.{triple_by}
use Rattle.grid_machine.proofs.machine.Machine.aimed.Goals as goal

pub returns-clause-each : goal.returns-clause-each
returns-clause-each c i l =
    let row = c.args.self.now.scratch in
    let first : 0 + i ≡ i = omega arith in
    triple_by _ (triple_in row.xs.items row.ys.items row.zs.items (0 + i)) (c.plane.ensures.each [] i l) (c.plane-2.ensures.each [] i l) (c.plane-3.ensures.each [] i l) ∙ ap (triple_in row.xs.items row.ys.items row.zs.items) first
