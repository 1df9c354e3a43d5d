use Rattle.std.proofs.Common.{◌≡◌, ◌∙◌, ap, sym, refl, [], ◌∷◌, Some}
use Rattle.transforms.specs.declared.view.View.{View}
use Rattle.hider.specs.Cells.{seen_at}
use Rattle.hider.specs.Coverage.{covers}
use Rattle.hider.specs.Fragments.{covering}
use Rattle.hider.specs.Kept.{keep_all}
use Rattle.pixel_account.specs.Traces.{fragments_in}
use Rattle.pixel_account.specs.Stacks.{cell_in_grid}
use Rattle.pixel_account.proofs.Seen.{lines_are, of_cell, covered_one}
use Rattle.pixel_account.proofs.cells.put_cell.Goals as goal

pub cell_of-requires : goal.cell_of-requires
cell_of-requires g c = (lines_are g.at.accepted g.at.frame c.args.shaded.now c.requires.1.0, c.requires.1.1)

pub returns : goal.returns
returns g c =
    let f = g.at.frame in
    let k = c.args.stack.now in
    let m = cell_in_grid c.args.shaded.now c.args.cell in
    let q = c.in-Some.seen in
    let x = c.in-Some-covers.fragment in
    let seen : seen_at f.camera k.sample.time m ≡ Some q = ap (λ (v : View). seen_at v k.sample.time m) (sym c.requires.0) ∙ sym c.seen_of.ensures ∙ c.in-Some.is in
    let shows : covers q k.sample.place ≡ Some x = sym c.covers.ensures ∙ c.in-Some-covers.is in
    let one : covering f.camera (m ∷ []) k.sample ≡ x ∷ [] = covered_one f.camera m k.sample q x seen shows in
    record {
      sample = refl;
      weight = refl;
      shown = c.in_ok-put.ensures.kept ∙ ap (keep_all (fragments_in k.traces)) (sym one);
      each = λ all. c.in_ok-put.ensures.each g.at.accepted f k.sample
          (of_cell g.at.accepted f c.args.shaded.now c.args.cell k.sample c.cell_of.result q x c.requires.1.0 c.requires.1.1 c.cell_of.ensures seen shows) all;
    }
