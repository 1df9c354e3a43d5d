use Rattle.std.proofs.Common.{◌≡◌, ◌∙◌, sym, subst}
use Rattle.hider.specs.declared.cell.Cell.{Cell}
use Rattle.hider.specs.CellValues.{corners_when, micropolygon_of}
use Rattle.hider.specs.Cells.{still}
use Rattle.std.specs.Prelude.{[], ◌∷◌}
use Rattle.hider.specs.Fragments.{covering}
use Rattle.hider.specs.Tiles.{HavePut}
use Rattle.hider.proofs.Flats.{no_column, no_row}
use Rattle.hider.proofs.Moves.{moving_stays, none_put}
use Rattle.hider.proofs.Stills.{still_put}
use Rattle.hider.proofs.hiding.hide_cell.Goals as goal

pub returns-then-have_same_points : goal.returns-then-have_same_points
returns-then-have_same_points g c =
    let v = g.C.Cells.values c.args.cells.now in
    let i = c.args.cell in
    let grid = c.args.timed.now.places.grid in
    let same : corners_when v i 0 ≡ corners_when v i 65535 = sym c.corners-first.ensures ∙ c.have_same_points.ensures c.if-have_same_points.true ∙ c.corners-last.ensures in
    still_put c.args.camera.now v i c.args.one_sided c.args.flip grid c.args.lists.now c.hide_still.new.lists (g.met.C.Cells.between c.args.cells.now) c.requires.cell same
    (subst (λ (k : Cell). HavePut grid (covering c.args.camera.now (still c.args.one_sided c.args.flip k ∷ [])) c.args.lists.now c.hide_still.new.lists) c.cell_when-cell.ensures c.in_ok-hide_still.ensures)

pub returns-then-part : goal.returns-then-part
returns-then-part g c =
    let v = g.C.Cells.values c.args.cells.now in
    let i = c.args.cell in
    let grid = c.args.timed.now.places.grid in
    let part = c.part_near-part.result in
    let w = c.args.camera.now in
    let stays = moving_stays w v i c.args.one_sided c.args.flip c.passed_always-passed.result part grid c.args.timed.now.places.valid c.part_near-part.ensures.near (c.passed_always-passed.ensures c.args.one_sided c.args.flip) in
    none_put w (micropolygon_of v c.args.one_sided c.args.flip i) part grid c.args.lists.now stays (λ n. no_column part grid n c.if-part.true)

pub returns-then-part-2 : goal.returns-then-part-2
returns-then-part-2 g c =
    let v = g.C.Cells.values c.args.cells.now in
    let i = c.args.cell in
    let grid = c.args.timed.now.places.grid in
    let part = c.part_near-part.result in
    let w = c.args.camera.now in
    let stays = moving_stays w v i c.args.one_sided c.args.flip c.passed_always-passed.result part grid c.args.timed.now.places.valid c.part_near-part.ensures.near (c.passed_always-passed.ensures c.args.one_sided c.args.flip) in
    none_put w (micropolygon_of v c.args.one_sided c.args.flip i) part grid c.args.lists.now stays (λ n. no_row part grid n c.if-part-2.true)
