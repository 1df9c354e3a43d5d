use Rattle.std.proofs.Common.{◌+◌, ◌*◌, get_or, false, refl}
use Rattle.grid_code.specs.Uses.{numbers_of}
use Rattle.place_rows.specs.Banks.{size, held}
use Rattle.grid_machine.specs.State.{rank, texts_of}
use Rattle.grid_registers.proofs.Writes.{written, stored_at}
use Rattle.grid_machine.proofs.machine.Machine.commit_row.Goals as goal

pub returns-clause-near : goal.returns-clause-near
returns-clause-near c f h =
    let m = c.args.self.now in
    let r = m.registers in
    let p = r.frame.now.places in
    let set = r.frame.now.varying.now in
    let new = c.store.new.self in
    let at = stored_at r.rows new m.scratch c.args.shape c.row_of-row.result (size m.scratch c.args.shape) p m.live.places (c.requires.whole.scratch c.args.shape) c.store.ensures.value in
    record {
      rows = λ s k i hk l.
          let q = rank (numbers_of set s) k * p + i in
          written (texts_of r) set c.args.shape c.args.number c.row_of-row.result (get_or m.live.places i false) (held m.scratch c.args.shape i) (f i) c.requires.has c.row_of-row.ensures.value (h i l) s k hk (held r.rows s q) (held new s q) (at s (rank (numbers_of set s) k) i l);
      shared = λ s k x. refl;
      turns = refl;
      own = λ i l. refl;
      live = λ i l. refl;
      staying = λ i l. refl;
    }
