use Rattle.std.proofs.Common.{◌≡◌, ◌∙◌, ap, sym, refl, true, false, to_z, of_z}
use Rattle.std.specs.Int.{w64}
use Rattle.std.specs.Prelude.{ℤ}
use Rattle.hider.specs.Cells.{is_turned_away, turn}
use Rattle.hider.specs.Flat.{flat_of, flat_quad}
use Rattle.hider.proofs.Between.{read_area}
use Rattle.hider.proofs.Flats.{away_put, facing_put, held_put, turn_is}
use Rattle.hider.proofs.Small.{read_whole}
use Rattle.hider.proofs.flat_hiding.hide_in.Goals as goal

pub returns-then-is_turned_away : goal.returns-then-is_turned_away
returns-then-is_turned_away c =
    let f = flat_of c.args.cell.now in
    let a = read_area c.edge_at-first.result c.edge_at-first.ensures.bound in
    let b = read_area c.edge_at-second.result c.edge_at-second.ensures.bound in
    let read : to_z w64 (of_z w64 c.turn_of.result) ≡ turn (flat_quad f) =
    read_whole c.turn_of.result c.turn_of.type_inv ∙ c.turn_of.ensures ∙ rw (a, b, c.edge_at-first.ensures.value, c.edge_at-second.ensures.value) refl ∙ sym (turn_is f) in
    let side : is_turned_away c.args.one_sided c.args.flip (turn (flat_quad f)) ≡ true = sym (c.if-is_turned_away.ensures ∙ ap (λ (t : ℤ). is_turned_away c.args.one_sided c.args.flip t) read) in
    λ e. away_put (flat_quad f) c.args.one_sided c.args.flip c.args.places.now.grid c.args.lists.now side

pub returns : goal.returns
returns c =
    let f = flat_of c.args.cell.now in
    let a = read_area c.edge_at-first.result c.edge_at-first.ensures.bound in
    let b = read_area c.edge_at-second.result c.edge_at-second.ensures.bound in
    let read : to_z w64 (of_z w64 c.turn_of.result) ≡ turn (flat_quad f) =
    read_whole c.turn_of.result c.turn_of.type_inv ∙ c.turn_of.ensures ∙ rw (a, b, c.edge_at-first.ensures.value, c.edge_at-second.ensures.value) refl ∙ sym (turn_is f) in
    let side : is_turned_away c.args.one_sided c.args.flip (turn (flat_quad f)) ≡ false = sym (c.if-is_turned_away.ensures ∙ ap (λ (t : ℤ). is_turned_away c.args.one_sided c.args.flip t) read) in
    λ e. facing_put (flat_quad f) c.args.one_sided c.args.flip c.args.places.now.grid c.args.lists.now c.put_rows.new.lists side
    (held_put c.args.bounds.now f c.args.places.now.grid c.args.lists.now c.put_rows.new.lists e c.in_ok-put_rows.ensures)
