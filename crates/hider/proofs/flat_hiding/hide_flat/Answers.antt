use Rattle.std.proofs.Common.{sym}
use Rattle.hider.specs.Coverage.{covers}
use Rattle.hider.specs.Flat.{flat_of, flat_quad, held_covers}
use Rattle.hider.specs.Searching.{StaysIn}
use Rattle.hider.proofs.Flats.{unseen_placed_put, seen_flat_put, outside_put, held_inside, no_column, no_row}
use Rattle.hider.proofs.Pixels.{near_stays}
use Rattle.hider.proofs.Stills.{covers_inside}
use Rattle.hider.proofs.flat_hiding.hide_flat.Goals as goal

pub returns-then-not-are_all_seen : goal.returns-then-not-are_all_seen
returns-then-not-are_all_seen c = λ v k i h e.
    unseen_placed_put v k i (flat_of c.args.cell.now) c.args.one_sided c.args.flip c.args.places.now.grid c.args.lists.now h.placed (sym c.if-not-are_all_seen.ensures)

pub returns-then-part : goal.returns-then-part
returns-then-part c = λ v k i h e.
    let f = flat_of c.args.cell.now in
    let g = c.args.places.now.grid in
    let q = flat_quad f in
    let part = c.part_near-part.result in
    let b = c.args.bounds.now in
    let s : StaysIn part g (λ s. covers q s.place) = near_stays b part g (λ s. covers q s.place) c.args.places.now.valid c.part_near-part.ensures.near (covers_inside q b e) in
    seen_flat_put v k i f c.args.one_sided c.args.flip g c.args.lists.now c.args.lists.now h (sym c.if-not-are_all_seen.ensures)
    (outside_put q c.args.one_sided c.args.flip g part c.args.lists.now s (λ n. no_column part g n c.if-part.true))

pub returns-then-part-2 : goal.returns-then-part-2
returns-then-part-2 c = λ v k i h e.
    let f = flat_of c.args.cell.now in
    let g = c.args.places.now.grid in
    let q = flat_quad f in
    let part = c.part_near-part.result in
    let b = c.args.bounds.now in
    let s : StaysIn part g (λ s. covers q s.place) = near_stays b part g (λ s. covers q s.place) c.args.places.now.valid c.part_near-part.ensures.near (covers_inside q b e) in
    seen_flat_put v k i f c.args.one_sided c.args.flip g c.args.lists.now c.args.lists.now h (sym c.if-not-are_all_seen.ensures)
    (outside_put q c.args.one_sided c.args.flip g part c.args.lists.now s (λ n. no_row part g n c.if-part-2.true))

pub hide_in-requires-clause-beside : goal.hide_in-requires-clause-beside
hide_in-requires-clause-beside c =
    let f = flat_of c.args.cell.now in
    let b = c.args.bounds.now in
    near_stays b c.part_near-part.result c.args.places.now.grid (λ s. held_covers b f s.place) c.args.places.now.valid c.part_near-part.ensures.near (held_inside b f)

pub returns : goal.returns
returns c = λ v k i h e.
    seen_flat_put v k i (flat_of c.args.cell.now) c.args.one_sided c.args.flip c.args.places.now.grid c.args.lists.now c.hide_in.new.lists h (sym c.if-not-are_all_seen.ensures) (c.in_ok-hide_in.ensures e)
