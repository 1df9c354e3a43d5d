use Rattle.std.proofs.Common.{ℤ, List, pos, length, get_or, sym, ap, ◌∙◌}
use Rattle.std.proofs.lemmas.List.{with_items_is}
use Rattle.number_rows.specs.Planes.{triple_in}
use Rattle.grid_registers.proofs.Parts.{triple_by}
use Rattle.grid_machine.proofs.rows.take_totals.Goals as goal

pub totals-requires-clause-x : goal.totals-requires-clause-x
totals-requires-clause-x g c = ap length c.deref_mut.ensures.value ∙ c.requires.room

pub totals-requires-clause-y : goal.totals-requires-clause-y
totals-requires-clause-y g c = ap length c.deref_mut-2.ensures.value ∙ c.args.row.now.ys_long ∙ c.requires.room

pub totals-requires-clause-z : goal.totals-requires-clause-z
totals-requires-clause-z g c = ap length c.deref_mut-3.ensures.value ∙ c.args.row.now.zs_long ∙ c.requires.room

pub returns-clause-each : goal.returns-clause-each
returns-clause-each g c q e i l =
    let row = c.args.row.now in
    let t = c.totals in
    let at : List ℤ → ℤ = λ xs. get_or xs i (pos 0) in
    triple_by _ (triple_in t.new.x t.new.y t.new.z i)
    (ap at (with_items_is row.xs t.new.x (t.ensures.x ∙ ap length c.deref_mut.ensures.value ∙ sym row.xs.ok.0)))
    (ap at (with_items_is row.ys t.new.y (t.ensures.y ∙ ap length c.deref_mut-2.ensures.value ∙ sym row.ys.ok.0)))
    (ap at (with_items_is row.zs t.new.z (t.ensures.z ∙ ap length c.deref_mut-3.ensures.value ∙ sym row.zs.ok.0)))
    ∙ t.ensures.each q e i l
