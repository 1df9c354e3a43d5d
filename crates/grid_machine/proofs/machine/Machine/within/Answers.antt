use Rattle.std.proofs.Common.{ap, ◌∙◌}
use Rattle.builtins.specs.Lights.{is_in_cone}
use Rattle.grid_machine.specs.Writes.{aimed_at}
use Rattle.grid_machine.proofs.HeldReads.{reads_held}
use Rattle.light_rows.specs.Seen.{cone_at}
use Rattle.grid_machine.proofs.machine.Machine.within.Goals as goal

pub returns : goal.returns
returns c i l =
    let m = c.args.self.now in
    c.mask.ensures i l ∙ ap (cone_at c.cone_of-cone.result i) (c.aimed-x.ensures.each i l) ∙ c.cone_of-cone.ensures.each i (aimed_at m i) l ∙ ap (λ vs. is_in_cone vs (aimed_at m i)) (reads_held m c.args.args.now i)
