use Rattle.std.proofs.Common.{◌+◌, ◌*◌, refl, sym, ap, ◌∙◌, arith}
use Rattle.grid_code.specs.Uses.{numbers_of}
use Rattle.place_values.specs.Cells.{value_of}
use Rattle.grid_machine.specs.State.{rank}
use Rattle.grid_machine.proofs.Zeros.{zero_is}
use Rattle.grid_machine.proofs.machine.Machine.fresh.Goals as goal

pub returns-clause-near : goal.returns-clause-near
returns-clause-near c =
    let r = c.in_ok-registers in
    let f = r.registers.frame.now in
    let ts = f.setting.texts.now in
    let few = f.few in
    record {
      rows = λ s k i h l. zero_is ts s ∙ ap (value_of ts) (sym (r.ensures.rows s (rank (numbers_of f.varying.now s) k * f.places + i)));
      shared = λ s k h. zero_is ts s ∙ ap (value_of ts) (sym (r.ensures.shared s (rank (numbers_of f.uniform.now s) k)));
      turns = refl;
      own = λ i l. sym (c.in_ok-own.ensures.each i (omega arith));
      live = λ i l. sym (c.full.ensures i (omega arith));
      staying = λ i l. sym (c.full-2.ensures i (omega arith));
    }
