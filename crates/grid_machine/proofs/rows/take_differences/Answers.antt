use Rattle.std.proofs.Common.{◌<◌, pos, length, get_or, sym, ap, ◌∙◌, subst}
use Rattle.std.proofs.lemmas.List.{with_items_is}
use Rattle.grid_registers.proofs.Parts.{as_many, triple_by}
use Rattle.grid_machine.proofs.rows.take_differences.Goals as goal

pub parts_rows-requires-clause-a : goal.parts_rows-requires-clause-a
parts_rows-requires-clause-a c = as_many c.args.triples.now.x (length c.args.row.now.xs.items) _ c.requires.triples.x (ap length c.deref_mut.ensures.value)

pub parts_rows-requires-clause-b : goal.parts_rows-requires-clause-b
parts_rows-requires-clause-b c = as_many c.args.others.now.x (length c.args.row.now.xs.items) _ c.requires.others.x (ap length c.deref_mut.ensures.value)

pub parts_rows-requires-2-clause-a : goal.parts_rows-requires-2-clause-a
parts_rows-requires-2-clause-a c = as_many c.args.triples.now.y (length c.args.row.now.xs.items) _ c.requires.triples.y (ap length c.deref_mut-2.ensures.value ∙ c.args.row.now.ys_long)

pub parts_rows-requires-2-clause-b : goal.parts_rows-requires-2-clause-b
parts_rows-requires-2-clause-b c = as_many c.args.others.now.y (length c.args.row.now.xs.items) _ c.requires.others.y (ap length c.deref_mut-2.ensures.value ∙ c.args.row.now.ys_long)

pub parts_rows-requires-3-clause-a : goal.parts_rows-requires-3-clause-a
parts_rows-requires-3-clause-a c = as_many c.args.triples.now.z (length c.args.row.now.xs.items) _ c.requires.triples.z (ap length c.deref_mut-3.ensures.value ∙ c.args.row.now.zs_long)

pub parts_rows-requires-3-clause-b : goal.parts_rows-requires-3-clause-b
parts_rows-requires-3-clause-b c = as_many c.args.others.now.z (length c.args.row.now.xs.items) _ c.requires.others.z (ap length c.deref_mut-3.ensures.value ∙ c.args.row.now.zs_long)

pub returns-clause-each : goal.returns-clause-each
returns-clause-each c i l =
    let row = c.args.row.now in
    let x = c.parts_rows in
    let y = c.parts_rows-2 in
    let z = c.parts_rows-3 in
    let lx = ap length c.deref_mut.ensures.value in
    let ly = ap length c.deref_mut-2.ensures.value in
    let lz = ap length c.deref_mut-3.ensures.value in
    triple_by _ _ (ap (λ xs. get_or xs i (pos 0)) (with_items_is row.xs x.new.out (x.ensures.long ∙ lx ∙ sym row.xs.ok.0)) ∙ x.ensures.each i (subst (λ n. i < n) (sym lx) l))
    (ap (λ xs. get_or xs i (pos 0)) (with_items_is row.ys y.new.out (y.ensures.long ∙ ly ∙ sym row.ys.ok.0)) ∙ y.ensures.each i (subst (λ n. i < n) (sym (ly ∙ row.ys_long)) l))
    (ap (λ xs. get_or xs i (pos 0)) (with_items_is row.zs z.new.out (z.ensures.long ∙ lz ∙ sym row.zs.ok.0)) ∙ z.ensures.each i (subst (λ n. i < n) (sym (lz ∙ row.zs_long)) l))
