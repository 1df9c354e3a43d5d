use Rattle.std.proofs.Common.{ℕ, ℤ, ◌≤◌, pos, length, get_or, sym, ap, ◌∙◌, arith, subst}
use Rattle.std.proofs.lemmas.List.{with_items_is}
use Rattle.builtins.specs.declared.shape.Shape.TheVariants as shapes
use Rattle.sl_ast.specs.declared.typed.Value.TheVariants as values
use Rattle.grid_registers.proofs.Parts.{triple_by}
use Rattle.grid_machine.proofs.loading.fill_triples.Goals as goal

pub take_raws-requires-clause-room : goal.take_raws-requires-clause-room
take_raws-requires-clause-room c = subst (λ n. c.args.count ≤ n) (sym (ap length c.deref_mut.ensures.value)) (c.requires.places shapes.Triple)

pub take_raws-requires-2-clause-room : goal.take_raws-requires-2-clause-room
take_raws-requires-2-clause-room c = subst (λ n. c.args.count ≤ n) (sym (ap length c.deref_mut-2.ensures.value ∙ c.args.row.now.ys_long)) (c.requires.places shapes.Triple)

pub take_raws-requires-3-clause-room : goal.take_raws-requires-3-clause-room
take_raws-requires-3-clause-room c = subst (λ n. c.args.count ≤ n) (sym (ap length c.deref_mut-3.ensures.value ∙ c.args.row.now.zs_long)) (c.requires.places shapes.Triple)

pub returns-clause-each : goal.returns-clause-each
returns-clause-each c j l =
    let row = c.args.row.now in
    let x = c.take_raws in
    let y = c.take_raws-2 in
    let z = c.take_raws-3 in
    let at : ℕ → ℤ = λ k. get_or c.args.rows.now k (pos 0) in
    let ex = ap (λ xs. get_or xs j (pos 0)) (with_items_is row.xs x.new.out (x.ensures.long ∙ ap length c.deref_mut.ensures.value ∙ sym row.xs.ok.0)) ∙ x.ensures.each j l in
    let ey = ap (λ xs. get_or xs j (pos 0)) (with_items_is row.ys y.new.out (y.ensures.long ∙ ap length c.deref_mut-2.ensures.value ∙ sym row.ys.ok.0)) ∙ y.ensures.each j l ∙ ap at (omega arith) in
    let ez = ap (λ xs. get_or xs j (pos 0)) (with_items_is row.zs z.new.out (z.ensures.long ∙ ap length c.deref_mut-3.ensures.value ∙ sym row.zs.ok.0)) ∙ z.ensures.each j l ∙ ap at (omega arith) in
    ap values.Triple (triple_by _ _ ex ey ez)
