-- What a camera sees of a micropolygon.
use Rattle.std.proofs.Common.{◌≡◌, true}
use Rattle.std.proofs.lemmas.Bool.{and_parts}
use Rattle.std.specs.Prelude.{◌&&◌}
use Rattle.transforms.specs.declared.view.View.{View}
use Rattle.hider.specs.declared.cell.Cell.{Cell}
use Rattle.hider.specs.Cells.{is_in_depth, is_all_in_depth}

pub all_in_depth : (v : View) (k : Cell) → is_all_in_depth v k ≡ true → (is_in_depth v k.a ≡ true) × (is_in_depth v k.b ≡ true) × (is_in_depth v k.c ≡ true) × (is_in_depth v k.d ≡ true)
unfolding is_all_in_depth
all_in_depth v k e =
    let f = and_parts (is_in_depth v k.a) (is_in_depth v k.b && (is_in_depth v k.c && is_in_depth v k.d)) e in
    let g = and_parts (is_in_depth v k.b) (is_in_depth v k.c && is_in_depth v k.d) f.1 in
    let h = and_parts (is_in_depth v k.c) (is_in_depth v k.d) g.1 in
    (f.0, g.0, h.0, h.1)
