use Rattle.std.proofs.Common.{◌≡◌, true, get_or, false, refl, sym, ap, ◌∙◌}
use Rattle.grid_code.specs.Masked.{any}
use Rattle.grid_code.specs.Uses.{numbers_of}
use Rattle.place_rows.specs.Banks.{held, shape_of_cell}
use Rattle.place_values.specs.Cells.{value_of}
use Rattle.grid_machine.specs.State.{rank, texts_of}
use Rattle.grid_registers.proofs.Writes.{written_one, held_shape}
use Rattle.grid_machine.proofs.machine.Machine.commit_shared.Goals as goal

pub returns-then-any-clause-near : goal.returns-then-any-clause-near
returns-then-any-clause-near c f h =
    let m = c.args.self.now in
    let r = m.registers in
    let set = r.frame.now.uniform.now in
    let ts = texts_of r in
    let live : any r.frame.now.places (λ i. get_or m.live.places i false) ≡ true = sym c.any.ensures ∙ c.if-any.true in
    record {
      rows = λ s k i hk l. refl;
      shared = λ s k hk.
          let q = rank (numbers_of set s) k in
          written_one ts set c.args.shape c.args.number c.row_of-at.result (any r.frame.now.places (λ i. get_or m.live.places i false)) c.get-cell.result (f 0) live
          (ap shape_of_cell c.get-cell.ensures ∙ held_shape m.scratch c.args.shape 0) c.requires.has c.row_of-at.ensures.value (ap (value_of ts) c.get-cell.ensures ∙ h) s k hk (held r.shared s q) (held c.set.new.self s q) (c.set.ensures.value s q);
      turns = refl;
      own = λ i l. refl;
      live = λ i l. refl;
      staying = λ i l. refl;
    }
