use Rattle.std.proofs.Common.{◌≡◌, ◌∙◌, ap, sym, true, false, []}
use Rattle.std.specs.Prelude.{ℤ}
use Rattle.hider.specs.Cells.{is_turned_away, turn}
use Rattle.hider.specs.Coverage.{covers}
use Rattle.hider.specs.Tiles.{HavePut}
use Rattle.std.specs.List.{cons_option}
use Rattle.hider.proofs.Flats.{away_put, facing_put}
use Rattle.hider.proofs.Small.{read_whole}
use Rattle.hider.proofs.Stills.{covers_inside}
use Rattle.hider.proofs.smooth_hiding.hide_quad.Goals as goal

pub returns-then-is_turned_away : goal.returns-then-is_turned_away
returns-then-is_turned_away c =
    let q = c.args.quad in
    let read = read_whole c.turn_of.result c.turn_of.type_inv ∙ c.turn_of.ensures in
    let side : is_turned_away c.args.one_sided c.args.flip (turn q) ≡ true = sym (c.if-is_turned_away.ensures ∙ ap (λ (t : ℤ). is_turned_away c.args.one_sided c.args.flip t) read) in
    away_put q c.args.one_sided c.args.flip c.args.places.now.grid c.args.lists.now side

pub put_near-requires-clause-inside : goal.put_near-requires-clause-inside
put_near-requires-clause-inside c = covers_inside c.new-shown.result c.bounds.result.now c.bounds.ensures

pub returns : goal.returns
returns c =
    let q = c.args.quad in
    let g = c.args.places.now.grid in
    let read = read_whole c.turn_of.result c.turn_of.type_inv ∙ c.turn_of.ensures in
    let side : is_turned_away c.args.one_sided c.args.flip (turn q) ≡ false = sym (c.if-is_turned_away.ensures ∙ ap (λ (t : ℤ). is_turned_away c.args.one_sided c.args.flip t) read) in
    let put : HavePut g (λ s. cons_option (covers q s.place) []) c.args.lists.now c.put_near.new.lists = rw c.new-shown.ensures at c.in_ok-put_near.ensures in
    facing_put q c.args.one_sided c.args.flip g c.args.lists.now c.put_near.new.lists side put
