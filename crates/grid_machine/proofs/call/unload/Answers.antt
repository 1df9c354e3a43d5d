use Rattle.std.proofs.Common.{◌*◌, sym, ap, ◌∙◌}
use Rattle.place_rows.specs.Layout.{row_length}
use Rattle.grid_machine.specs.Run.{rows_of, written_names}
use Rattle.grid_machine.specs.Run.{Leaves}
use Rattle.std.proofs.Common.{subst}
use Rattle.grid_machine.specs.Ended.{ended}
use Rattle.grid_machine.proofs.call.unload.Goals as goal

pub leave-requires-clause-out : goal.leave-requires-clause-out
leave-requires-clause-out g c = c.requires.out ∙ ap (λ p. rows_of (written_names c.args.code.now.kind) * row_length p) (sym c.in_ok-execute_lit.ensures.places)

pub returns-clause-values : goal.returns-clause-values
returns-clause-values g c =
    let code = c.args.code.now in
    let lights = c.args.lights.now in
    let end = ended (g.T.Textures.images c.args.textures.now) code c.args.inputs.now (g.L.Lights.many lights) (g.L.Lights.places lights) (g.L.Lights.codes lights) (g.L.Lights.params lights) in
    subst (λ p. Leaves code.kind p c.leave.new.out end) c.in_ok-execute_lit.ensures.places (c.leave.ensures.values _ c.in_ok-execute_lit.ensures.near)
