use Rattle.std.proofs.Common.{◌∙◌, ap, sym, subst, get_or, length, List, ◌<◌, Some, arith}
use Rattle.texture.specs.Images.{Image}
use Rattle.texture.specs.Slots.{no_image}
use Rattle.builtins.specs.Textures.{looked_up, image_named}
use Rattle.builtins.specs.declared.shape.Shape.TheVariants as shapes
use Rattle.place_values.specs.declared.cell.Cell.TheVariants as cells
use Rattle.grid_registers.specs.Held.{texts_of}
use Rattle.grid_registers.specs.Frames.{lines_of}
use Rattle.grid_registers.specs.LookUps.{AreSides}
use Rattle.grid_registers.specs.Operands.{operand_number}
use Rattle.grid_registers.proofs.Filled.{filled_next}
use Rattle.grid_registers.proofs.registers.Registers.fill_looks.Goals as goal

pub look-colour-requires-clause-there : goal.look-colour-requires-clause-there
look-colour-requires-clause-there t c = subst (λ ps. c.args.which < length ps) (sym c.loop-place.invariant.1.1) c.requires.there

pub set-requires : goal.set-requires
set-requires t c =
    let same = c.loop-place.invariant.0 shapes.Triple in
    let room = c.requires.room shapes.Triple in
    omega (arith, same, room, c.loop-place-test.true)

pub loop-place-preserved : goal.loop-place-preserved
loop-place-preserved t c =
    let r = c.args.self.now in
    let ps = t.T.Textures.images c.args.textures.now in
    let same = c.loop-place.invariant.1.1 in
    let image = ap (λ (xs : List Image). get_or xs c.args.which no_image) same in
    let s = operand_number r c.args.of.s in
    let q = operand_number r c.args.of.t in
    let f = looked_up (lines_of r.frame.now) (image_named ps (Some c.args.which)) s q in
    let sides : AreSides (get_or (t.T.Textures.images c.loop-place.textures) c.args.which no_image) c.new-sides.result = record {
      width = ap (λ (p : Image). p.width) image ∙ sym (c.width.ensures.value c.requires.there) ∙ sym c.new-sides.ensures.width;
      height = ap (λ (p : Image). p.height) image ∙ sym (c.height.ensures.value c.requires.there) ∙ sym c.new-sides.ensures.height;
    } in
    let is = c.look-colour.ensures.value s q sides (λ i l. record { s_is = c.spread.ensures.each i l; t_is = c.spread-2.ensures.each i l }) ∙ ap (λ x. looked_up (lines_of r.frame.now) (image_named x (Some c.args.which)) s q c.loop-place.place) same in (
      λ k. c.set.ensures.size k ∙ c.loop-place.invariant.0 k,
      (
        filled_next (texts_of r) c.loop-place.row c.set.new.self f c.loop-place.place (cells.Triple c.look-colour.result) c.loop-place.invariant.1.0 is c.set.ensures.value,
        c.look-colour.ensures.same ∙ same,
      ),
    )
