use Rattle.std.proofs.Common.{length, take, map, refl, sym, ap, ◌∙◌}
use Rattle.std.proofs.lemmas.List.{with_items_is, length-map}
use Rattle.fixed_math.specs.declared.vec3.Axis.TheVariants as axes
use Rattle.fixed_math.specs.Axes.{part_of}
use Rattle.place_rows.specs.Layout.{row_length}
use Rattle.grid_rows.specs.Rows.{row_of}
use Rattle.grid_variables.proofs.Results.{if_ok}
use Rattle.grid_rows.proofs.UnderWay.{row_pushed, appended, three_appended}
use Rattle.grid_rows.proofs.rows.push_triples.Goals as goal

pub returns : goal.returns
returns c =
    let ps = c.args.triples.now in
    let w = c.write_triples in
    let row_x = ap (take (row_length (length ps))) (c.deref.ensures.value ∙ with_items_is c.rows.inside.x w.new.x (w.ensures.room_x.0 ∙ sym c.rows.invariant.2.0 ∙ sym c.rows.inside.x.ok.0)) ∙ row_pushed w.new.x (map (part_of axes.X) ps) (length ps) (sym (length-map ps (part_of axes.X))) c.requires w.ensures.room_x.0 w.ensures.x in
    let row_y = ap (take (row_length (length ps))) (c.deref-2.ensures.value ∙ with_items_is c.rows.inside.y w.new.y (w.ensures.room_y.0 ∙ sym c.rows.invariant.3.0 ∙ sym c.rows.inside.y.ok.0)) ∙ row_pushed w.new.y (map (part_of axes.Y) ps) (length ps) (sym (length-map ps (part_of axes.Y))) c.requires w.ensures.room_y.0 w.ensures.y in
    let row_z = ap (take (row_length (length ps))) (c.deref-3.ensures.value ∙ with_items_is c.rows.inside.z w.new.z (w.ensures.room_z.0 ∙ sym c.rows.invariant.4.0 ∙ sym c.rows.inside.z.ok.0)) ∙ row_pushed w.new.z (map (part_of axes.Z) ps) (length ps) (sym (length-map ps (part_of axes.Z))) c.requires w.ensures.room_z.0 w.ensures.z in
    let first = appended _ c.args.rows.now c.append.new.raws.items _ (row_of (map (part_of axes.X) ps)) c.rows.view_is row_x c.in_ok-append.ensures.value in
    let second = appended c.append.new.raws.items c.append.new.raws.items c.append-2.new.raws.items _ (row_of (map (part_of axes.Y) ps)) refl row_y c.in_ok-append-2.ensures.value in
    if_ok c.append-3.result _ _
    (λ x e. three_appended c.args.rows.now c.append.new.raws.items c.append-2.new.raws.items c.append-3.new.raws.items _ _ (row_of (map (part_of axes.Z) ps)) first second
    (appended c.append-2.new.raws.items c.append-2.new.raws.items c.append-3.new.raws.items _ (row_of (map (part_of axes.Z) ps)) refl row_z e)) c.append-3.ensures.value
