use Rattle.std.proofs.Common.{ap, get_or, ◌∙◌, pos, arith, w64, FitsSigned}
use Rattle.std.proofs.lemmas.Int.{ints, to_z-of_z}
use Rattle.texture.specs.Levels.{level_of}
use Rattle.texture.specs.Looks.{look_of}
use Rattle.texture.specs.Slots.{no_image}
use Rattle.grid_registers.specs.Frames.{lines_of}
use Rattle.grid_registers.proofs.LookUps.{looked_there}
use Rattle.grid_registers.proofs.frame.Frame.look.Goals as goal

pub returns-clause-value : goal.returns-clause-value
returns-clause-value g c s t sides here =
    let images = g.T.Textures.images c.args.textures.now in
    let image = get_or images c.args.which no_image in
    let place = c.args.place in
    let step = get_or c.args.of.now.steps.now place 0 in
    let at = here place c.requires.place in
    let fits : FitsSigned w64 c.step-step.result = omega (arith, ints, c.step-step.ensures.some, c.step-step.ensures.most) in
    let found = simp to_z-of_z at (c.colour.ensures.value c.requires.there) in
    looked_there (lines_of c.args.self.now) images c.args.which s t place step c.colour.result
    c.requires.there ((c.requires.stepped.steps place c.requires.place).value image s t sides here)
    (found ∙ ap (λ x. look_of image (level_of image x) c.number_at-s.result c.number_at-t.result) c.step-step.ensures.value
    ∙ ap (λ x. look_of image (level_of image (pos step)) x c.number_at-t.result) (c.number_at-s.ensures ∙ at.s_is)
    ∙ ap (look_of image (level_of image (pos step)) (s place)) (c.number_at-t.ensures ∙ at.t_is))
