use Rattle.std.proofs.Common.{◌+◌, ◌*◌, length, refl, sym, ap, ◌∙◌, arith}
use Rattle.builtins.specs.declared.shape.Shape.TheVariants as shapes
use Rattle.grid_code.specs.Uses.{numbers_of}
use Rattle.place_values.specs.Cells.{value_of}
use Rattle.grid_machine.specs.State.{rank}
use Rattle.std.proofs.lemmas.List.{get_or-take, get_or_append_left}
use Rattle.grid_registers.proofs.Ranks.{rank_in}
use Rattle.grid_machine.proofs.Roomy.{within_rows}
use Rattle.grid_machine.proofs.Zeros.{zero_is}
use Rattle.grid_machine.proofs.machine.Machine.reset.Goals as goal

pub clear-requires-clause-numbers : goal.clear-requires-clause-numbers
clear-requires-clause-numbers c = omega (arith, c.counts_of-rows.ensures shapes.Number, c.requires.whole.full.rows shapes.Number)

pub clear-requires-clause-triples : goal.clear-requires-clause-triples
clear-requires-clause-triples c = omega (arith, c.counts_of-rows.ensures shapes.Triple, c.requires.whole.full.rows shapes.Triple)

pub clear-requires-clause-words : goal.clear-requires-clause-words
clear-requires-clause-words c = omega (arith, c.counts_of-rows.ensures shapes.Word, c.requires.whole.full.rows shapes.Word)

pub clear-requires-2-clause-numbers : goal.clear-requires-2-clause-numbers
clear-requires-2-clause-numbers c = omega (arith, c.counts_once-shared.ensures shapes.Number, c.requires.whole.full.shared shapes.Number)

pub clear-requires-2-clause-triples : goal.clear-requires-2-clause-triples
clear-requires-2-clause-triples c = omega (arith, c.counts_once-shared.ensures shapes.Triple, c.requires.whole.full.shared shapes.Triple)

pub clear-requires-2-clause-words : goal.clear-requires-2-clause-words
clear-requires-2-clause-words c = omega (arith, c.counts_once-shared.ensures shapes.Word, c.requires.whole.full.shared shapes.Word)

pub returns-clause-near : goal.returns-clause-near
returns-clause-near c =
    let f = c.args.self.now.registers.frame.now in
    let ts = f.setting.texts.now in
    let few = f.few in
    record {
      rows = λ s k i h l.
          let r = rank (numbers_of f.varying.now s) k in
          let many = c.counts_of-rows.ensures s in
          let within = within_rows r (length (numbers_of f.varying.now s)) f.places i (rank_in f.varying.now s k h) l in
          zero_is ts s ∙ ap (value_of ts) (sym (c.clear.ensures.zero s (r * f.places + i) (omega (arith, many, within))));
      shared = λ s k h.
          let many = c.counts_once-shared.ensures s in
          let within = rank_in f.uniform.now s k h in
          zero_is ts s ∙ ap (value_of ts) (sym (c.clear-2.ensures.zero s (rank (numbers_of f.uniform.now s) k) (omega (arith, many, within))));
      turns = refl;
      own = λ i l. sym (get_or-take _ _ i 0 (let d = c.deref_mut.ensures.len in let e = c.requires.whole.own in omega arith) ∙ get_or_append_left c.refill.new.own _ 0 i (let d = c.refill.ensures.long in let v = ap length c.deref_mut.ensures.value in let e = c.requires.whole.own in omega arith) ∙ c.refill.ensures.each i (let v = ap length c.deref_mut.ensures.value in let e = c.requires.whole.own in omega arith));
      live = λ i l. sym (c.full-self.ensures i (omega arith));
      staying = λ i l. sym (c.full-self-2.ensures i (omega arith));
    }
