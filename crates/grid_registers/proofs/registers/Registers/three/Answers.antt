use Rattle.std.proofs.Common.{sym, subst}
use Rattle.sl_ast.specs.declared.operations.ValueOperation.{ValueOperation}
use Rattle.builtins.specs.Formulas as formulas
use Rattle.builtins.specs.Values.{by_three_parts}
use Rattle.builtins.specs.Table.{of_three}
use Rattle.grid_registers.specs.declared.operand.Work.TheVariants as works
use Rattle.grid_registers.specs.Operands.{operand_at, work_at}
use Rattle.grid_registers.specs.Held.{texts_of, HoldsEach}
use Rattle.grid_registers.proofs.registers.Registers.three.Goals as goal

pub returns-in-Clamp-clause-each : goal.returns-in-Clamp-clause-each
unfolding of_three
returns-in-Clamp-clause-each c =
    let r = c.args.self.now in
    let P : ValueOperation → Type 0 = λ o. HoldsEach (texts_of r) c.by_three_parts.new.row r.frame.now.places (work_at r (works.Three o c.args.p c.args.q c.args.t)) in
    let Q : ValueOperation → Type 0 = λ o. HoldsEach (texts_of r) c.by_three_parts.new.row r.frame.now.places (λ i. by_three_parts (formulas.three_parts o) (operand_at r c.args.p i) (operand_at r c.args.q i) (operand_at r c.args.t i)) in
    subst P (sym c.in-Clamp.is) (subst Q c.in-Clamp.is c.by_three_parts.ensures.each)

pub returns-in-Mix-clause-each : goal.returns-in-Mix-clause-each
unfolding of_three
returns-in-Mix-clause-each c =
    let r = c.args.self.now in
    let P : ValueOperation → Type 0 = λ o. HoldsEach (texts_of r) c.by_three_parts-in-Mix.new.row r.frame.now.places (work_at r (works.Three o c.args.p c.args.q c.args.t)) in
    let Q : ValueOperation → Type 0 = λ o. HoldsEach (texts_of r) c.by_three_parts-in-Mix.new.row r.frame.now.places (λ i. by_three_parts (formulas.three_parts o) (operand_at r c.args.p i) (operand_at r c.args.q i) (operand_at r c.args.t i)) in
    subst P (sym c.in-Mix.is) (subst Q c.in-Mix.is c.by_three_parts-in-Mix.ensures.each)

pub returns-in-SmoothStep-clause-each : goal.returns-in-SmoothStep-clause-each
unfolding of_three
returns-in-SmoothStep-clause-each c =
    let r = c.args.self.now in
    let P : ValueOperation → Type 0 = λ o. HoldsEach (texts_of r) c.number_of_three.new.row r.frame.now.places (work_at r (works.Three o c.args.p c.args.q c.args.t)) in
    subst P (sym c.in-SmoothStep.is) c.number_of_three.ensures.each

pub returns-in-FaceForward-clause-each : goal.returns-in-FaceForward-clause-each
unfolding of_three
returns-in-FaceForward-clause-each c =
    let r = c.args.self.now in
    let P : ValueOperation → Type 0 = λ o. HoldsEach (texts_of r) c.triple_of_three.new.row r.frame.now.places (work_at r (works.Three o c.args.p c.args.q c.args.t)) in
    subst P (sym c.in-FaceForward.is) c.triple_of_three.ensures.each
