use Rattle.std.proofs.Common.{◌≡◌, ◌+◌, ◌*◌, ap, ◌∙◌, arith}
use Rattle.builtins.specs.declared.shape.Shape.TheVariants as shapes
use Rattle.grid_machine.specs.Run.{value_in}
use Rattle.grid_machine.proofs.Elements.{same_triple_at}
use Rattle.grid_machine.proofs.machine.Machine.unload_two.Goals as goal

pub returns-clause-first : goal.returns-clause-first
returns-clause-first c i l =
    let w = c.args.width in
    let wide = c.requires.wide in
    let b = c.unload-2.ensures.before in
    same_triple_at c.unload.new.rows c.unload-2.new.rows w (0 + i) (b (0 + i) (omega arith)) (b (0 + i + w) (omega arith)) (b (0 + i + 2 * w) (omega arith)) ∙ c.unload.ensures.values i l

pub returns-clause-second : goal.returns-clause-second
returns-clause-second c i l =
    let w = c.args.width in
    let e : 0 + 3 * w ≡ 3 * w = omega arith in
    ap (λ n. value_in shapes.Triple c.unload-2.new.rows w (n + i)) e ∙ c.unload-2.ensures.values i l
