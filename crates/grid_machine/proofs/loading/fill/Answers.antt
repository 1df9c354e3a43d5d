use Rattle.std.proofs.Common.{◌≡◌, ℕ, ◌+◌, ◌<◌, sym, ap, subst, arith}
use Rattle.builtins.specs.Shapes.{shape}
use Rattle.builtins.specs.declared.shape.Shape.{Shape}
use Rattle.place_rows.specs.Banks.{held}
use Rattle.place_values.specs.Cells.{value_of}
use Rattle.grid_machine.specs.Run.{value_in}
use Rattle.grid_machine.proofs.loading.fill.Goals as goal

pub returns-in-Number-clause-each : goal.returns-in-Number-clause-each
returns-in-Number-clause-each c ts =
    let P : Shape → Type 0 = λ s. (j : ℕ) → j < c.args.count → value_of ts (held c.fill_numbers.new.row (shape (value_in s c.args.rows.now c.args.width (c.args.start + j))) j) ≡ value_in s c.args.rows.now c.args.width (c.args.start + j) in
    subst P (sym c.in-Number.is) (λ j l. ap (value_of ts) (c.fill_numbers.ensures.each j l))

pub returns-in-Triple-clause-each : goal.returns-in-Triple-clause-each
returns-in-Triple-clause-each c ts =
    let P : Shape → Type 0 = λ s. (j : ℕ) → j < c.args.count → value_of ts (held c.fill_triples.new.row (shape (value_in s c.args.rows.now c.args.width (c.args.start + j))) j) ≡ value_in s c.args.rows.now c.args.width (c.args.start + j) in
    subst P (sym c.in-Triple.is) (λ j l. c.fill_triples.ensures.each j l)

pub returns-in-Word-clause-each : goal.returns-in-Word-clause-each
returns-in-Word-clause-each c ts =
    let P : Shape → Type 0 = λ s. (j : ℕ) → j < c.args.count → value_of ts (held c.fill.new.self (shape (value_in s c.args.rows.now c.args.width (c.args.start + j))) j) ≡ value_in s c.args.rows.now c.args.width (c.args.start + j) in
    subst P (sym c.in-Word.is) (λ j l. ap (value_of ts) (c.fill.ensures.value j (let p = c.requires.places in let q = l in omega arith)))
