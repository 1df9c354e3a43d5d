use Rattle.std.proofs.Common.{◌≡◌, ◌∙◌, ap, refl, sym, true, false}
use Rattle.std.specs.Prelude.{ℤ}
use Rattle.hider.specs.Cells.{projected, is_all_in_depth, turn, is_turned_away, quad_of}
use Rattle.hider.proofs.Small.{read_whole}
use Rattle.hider.proofs.sight.quad_of.Goals as goal

pub returns-then-is_turned_away : goal.returns-then-is_turned_away
unfolding quad_of
returns-then-is_turned_away c =
    let v = c.args.camera.now in
    let k = c.args.cell.now in
    let depth : is_all_in_depth v k ≡ true = sym c.if-not-is_all_in_depth.ensures in
    let read = read_whole c.turn_of.result c.turn_of.type_inv ∙ c.turn_of.ensures ∙ ap turn c.projected-quad.ensures in
    let side : is_turned_away c.args.one_sided c.args.flip (turn (projected v k)) ≡ true =
    sym (c.if-is_turned_away.ensures ∙ ap (λ (t : ℤ). is_turned_away c.args.one_sided c.args.flip t) read) in
    rw (depth, side) refl

pub returns-else-is_turned_away : goal.returns-else-is_turned_away
unfolding quad_of
returns-else-is_turned_away c =
    let v = c.args.camera.now in
    let k = c.args.cell.now in
    let depth : is_all_in_depth v k ≡ true = sym c.if-not-is_all_in_depth.ensures in
    let read = read_whole c.turn_of.result c.turn_of.type_inv ∙ c.turn_of.ensures ∙ ap turn c.projected-quad.ensures in
    let side : is_turned_away c.args.one_sided c.args.flip (turn (projected v k)) ≡ false =
    sym (c.if-is_turned_away.ensures ∙ ap (λ (t : ℤ). is_turned_away c.args.one_sided c.args.flip t) read) in
    rw (depth, side, c.projected-quad.ensures) refl
