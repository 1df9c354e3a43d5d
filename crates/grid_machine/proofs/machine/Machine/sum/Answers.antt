use Rattle.std.proofs.Common.{ℕ, ◌<◌, sym, ap, ◌∙◌, arith, subst}
use Rattle.fixed_math.specs.declared.vec3.Vec3.{Vec3}
use Rattle.sl_ast.specs.declared.kinds.Predefined.TheVariants as names
use Rattle.sl_ast.specs.declared.typed.Value.TheVariants.{Triple}
use Rattle.builtins.specs.Lights.{sum_of}
use Rattle.builtins.specs.Values.{triple_of}
use Rattle.grid_code.specs.Masked.{read, reads, all_answers}
use Rattle.grid_code.specs.Names.{name_at}
use Rattle.number_rows.specs.Planes.{ArePlanes}
use Rattle.builtins.specs.declared.shape.Shape.TheVariants as shapes
use Rattle.place_rows.specs.Banks.{held}
use Rattle.place_values.specs.Cells.{value_of}
use Rattle.light_rows.specs.Seen.{gain_at, IsSum}
use Rattle.light_rows.proofs.Totals.{sum_at}
use Rattle.grid_machine.specs.State.{state_of, held_by, texts_of}
use Rattle.grid_machine.specs.Writes.{row_at}
use Rattle.grid_machine.proofs.HeldReads.{reads_held}
use Rattle.grid_machine.proofs.Shapes.{read_held}
use Rattle.grid_machine.proofs.Near.{near_on, write_near, read_near, reads_near}
use Rattle.grid_machine.proofs.machine.Machine.sum.Goals as goal

pub take_totals-requires : goal.take_totals-requires
take_totals-requires t c =
    record {
      points = subst (λ n. ArePlanes n c.triples_of-points.result) (sym c.requires.places) c.triples_of-points.ensures.planes;
      sum = subst (λ n. IsSum n c.sum_of-of.result) (sym c.requires.places) c.sum_of-of.ensures.sum;
      room = c.requires.whole.scratch shapes.Triple ∙ sym c.requires.places;
    }

pub returns-clause-near : goal.returns-clause-near
returns-clause-near t c g near =
    let m = c.args.self.now in
    let r = m.registers.frame.now in
    let v = r.varying.now in
    let u = r.uniform.now in
    let some : 0 < r.places = let s = r.some in omega arith in
    let place = name_at names.P in
    let qs = c.args.args.now in
    let w = t.L.Illumination.lighting c.args.lights.now in
    let total : ℕ → Vec3 = row_at c.take_totals.new.row in
    let on = λ (i : ℕ) (l : i < w.places). subst (λ p. i < p) c.requires.places l in
    near_on r.places v u _ _ _
    (write_near r.places v u c.args.to (λ i. sum_of c.args.sum (reads g qs i) (all_answers w.lights g place i)) (λ i. Triple (total i)) g (state_of m) some near (λ i l.
    sum_at c.args.sum (reads g qs i) (reads (held_by m.registers) qs i) (gain_at c.sum_of-of.result i) w.lights g place i (total i) (reads_near r.places v u g (state_of m) qs i near c.requires.args l ∙ sym (reads_held m qs i)) (λ x. c.sum_of-of.ensures.each i x l)
    (c.take_totals.ensures.each (λ j. triple_of (read g place j)) (λ j k. ap triple_of (read_near r.places v u g (state_of m) place j near c.requires.points (on j k) ∙ sym (read_held m place j)) ∙ sym (c.triples_of-points.ensures.each j (on j k))) i (subst (λ p. i < p) (sym c.requires.places) l))))
    (c.commit.ensures.near (λ i. Triple (total i)) (λ j l. ap (λ s. value_of (texts_of m.registers) (held c.take_totals.new.row s j)) (sym c.requires.shape)))
