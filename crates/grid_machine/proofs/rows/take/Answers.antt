use Rattle.std.proofs.Common.{◌<◌, pos, length, get_or, sym, ap, ◌∙◌, subst}
use Rattle.std.proofs.lemmas.List.{with_items_is}
use Rattle.grid_registers.proofs.Parts.{as_many, triple_by}
use Rattle.grid_machine.proofs.rows.take.Goals as goal

pub copy-requires : goal.copy-requires
copy-requires c = as_many c.args.triples.now.x (length c.args.row.now.xs.items) _ c.requires.x (ap length c.deref_mut.ensures.value)

pub copy-requires-2 : goal.copy-requires-2
copy-requires-2 c = as_many c.args.triples.now.y (length c.args.row.now.xs.items) _ c.requires.y (ap length c.deref_mut-2.ensures.value ∙ c.args.row.now.ys_long)

pub copy-requires-3 : goal.copy-requires-3
copy-requires-3 c = as_many c.args.triples.now.z (length c.args.row.now.xs.items) _ c.requires.z (ap length c.deref_mut-3.ensures.value ∙ c.args.row.now.zs_long)

pub returns-clause-each : goal.returns-clause-each
returns-clause-each c i l =
    let row = c.args.row.now in
    let x = c.copy in
    let y = c.copy-2 in
    let z = c.copy-3 in
    let lx = ap length c.deref_mut.ensures.value in
    let ly = ap length c.deref_mut-2.ensures.value in
    let lz = ap length c.deref_mut-3.ensures.value in
    triple_by _ _ (ap (λ xs. get_or xs i (pos 0)) (with_items_is row.xs x.new.out (x.ensures.long ∙ lx ∙ sym row.xs.ok.0)) ∙ x.ensures.each i (subst (λ n. i < n) (sym lx) l))
    (ap (λ xs. get_or xs i (pos 0)) (with_items_is row.ys y.new.out (y.ensures.long ∙ ly ∙ sym row.ys.ok.0)) ∙ y.ensures.each i (subst (λ n. i < n) (sym (ly ∙ row.ys_long)) l))
    (ap (λ xs. get_or xs i (pos 0)) (with_items_is row.zs z.new.out (z.ensures.long ∙ lz ∙ sym row.zs.ok.0)) ∙ z.ensures.each i (subst (λ n. i < n) (sym (lz ∙ row.zs_long)) l))
