use Rattle.std.proofs.Common.{ℕ, subst}
use Rattle.grid_code.specs.declared.shader_code.Code.{Code}
use Rattle.grid_registers.specs.Rooms.{HasRoom}
use Rattle.grid_machine.proofs.Roomy.{roomy_more, room_next}
use Rattle.grid_machine.proofs.lamps.Lamps.room_of.Goals as goal

pub loop-n-preserved : goal.loop-n-preserved
loop-n-preserved g c =
    let codes : ℕ → Code = g.L.Lights.codes c.args.lights.now in
    let n = c.loop-n.n in
    let here = subst (λ (k : Code). HasRoom k.varying k.uniform c.args.places c.of_code.result) c.code-in-loop-n.ensures c.of_code.ensures in
    room_next (λ k. (codes k).varying) (λ k. (codes k).uniform) c.args.places n c.loop-n.room c.greater-room.result c.greater-room.ensures.first
    (roomy_more (codes n).varying (codes n).uniform c.args.places c.of_code.result c.greater-room.result c.greater-room.ensures.second here) c.loop-n.invariant
