use Rattle.std.proofs.Common.{◌≡◌, ℕ, ◌<◌, ◌≤◌, sym, ap, ◌∙◌, subst, arith}
use Rattle.builtins.specs.Shapes.{shape}
use Rattle.builtins.specs.Differences.{difference}
use Rattle.grid_code.specs.Masked.{read}
use Rattle.grid_code.specs.Shapes.{register_shape}
use Rattle.place_rows.specs.Banks.{held}
use Rattle.place_values.specs.Cells.{value_of}
use Rattle.grid_machine.specs.State.{state_of, lines_of, texts_of}
use Rattle.grid_registers.specs.Operands.{operand_at}
use Rattle.grid_machine.proofs.Near.{difference_near}
use Rattle.grid_machine.proofs.Shapes.{read_shape, read_held, difference_has, reach_within}
use Rattle.grid_machine.proofs.machine.Machine.differ.Goals as goal

pub returns-clause-near : goal.returns-clause-near
returns-clause-near c =
    let m = c.args.self.now in
    let r = m.registers in
    let frame = r.frame.now in
    let lines = lines_of frame in
    let flip = frame.setting.spaces.now.flip in
    let d = c.args.difference in
    let f = read (state_of m) c.args.of in
    let g = operand_at r c.operand-operand.result in
    let same : (i : ℕ) → g i ≡ f i = λ i. c.operand-operand.ensures.same i ∙ read_held m c.args.of i in
    let some : 1 ≤ frame.places = let s = frame.some in omega arith in
    c.commit.ensures.near (difference d lines flip f) (λ j l.
    let within : j < frame.places = let b = reach_within c.args.to frame.places some in omega arith in
    let is = difference_near lines frame.places g f frame.shape frame.wide frame.tall (λ i x. same i) j within d flip in
    let at = ap shape is ∙ difference_has lines f (register_shape c.args.of) (read_shape m c.args.of) j d flip ∙ c.requires.shape in
    ap (λ s. value_of (texts_of r) (held c.fill_differences.new.row s j)) (sym at) ∙ c.fill_differences.ensures.each j (subst (λ n. j < n) (sym c.reach-count.ensures) l) ∙ is)
