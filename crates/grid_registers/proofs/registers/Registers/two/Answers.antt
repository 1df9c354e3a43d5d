use Rattle.std.proofs.Common.{sym, subst}
use Rattle.sl_ast.specs.declared.operations.ValueOperation.{ValueOperation}
use Rattle.sl_ast.specs.declared.typed.Value.TheVariants as values
use Rattle.builtins.specs.Formulas as formulas
use Rattle.builtins.specs.Values.{number_of, by_parts}
use Rattle.number_rows.specs.Truths.{truth}
use Rattle.builtins.specs.Table.{of_two}
use Rattle.grid_registers.specs.declared.operand.Work.TheVariants as works
use Rattle.grid_registers.specs.Operands.{operand_at, work_at}
use Rattle.grid_registers.specs.Held.{texts_of, HoldsEach}
use Rattle.grid_registers.proofs.registers.Registers.two.Goals as goal

pub returns-in-Less-clause-each : goal.returns-in-Less-clause-each
unfolding of_two
returns-in-Less-clause-each c =
    let r = c.args.self.now in
    let P : ValueOperation → Type 0 = λ o. HoldsEach (texts_of r) c.order.new.row r.frame.now.places (work_at r (works.Two o c.args.p c.args.q)) in
    let Q : ValueOperation → Type 0 = λ o. HoldsEach (texts_of r) c.order.new.row r.frame.now.places (λ i. values.Number (truth (formulas.order o (number_of (operand_at r c.args.p i)) (number_of (operand_at r c.args.q i))))) in
    subst P (sym c.in-Less.is) (subst Q c.in-Less.is c.order.ensures.each)

pub returns-in-LessEqual-clause-each : goal.returns-in-LessEqual-clause-each
unfolding of_two
returns-in-LessEqual-clause-each c =
    let r = c.args.self.now in
    let P : ValueOperation → Type 0 = λ o. HoldsEach (texts_of r) c.order-in-LessEqual.new.row r.frame.now.places (work_at r (works.Two o c.args.p c.args.q)) in
    let Q : ValueOperation → Type 0 = λ o. HoldsEach (texts_of r) c.order-in-LessEqual.new.row r.frame.now.places (λ i. values.Number (truth (formulas.order o (number_of (operand_at r c.args.p i)) (number_of (operand_at r c.args.q i))))) in
    subst P (sym c.in-LessEqual.is) (subst Q c.in-LessEqual.is c.order-in-LessEqual.ensures.each)

pub returns-in-Greater-clause-each : goal.returns-in-Greater-clause-each
unfolding of_two
returns-in-Greater-clause-each c =
    let r = c.args.self.now in
    let P : ValueOperation → Type 0 = λ o. HoldsEach (texts_of r) c.order-in-Greater.new.row r.frame.now.places (work_at r (works.Two o c.args.p c.args.q)) in
    let Q : ValueOperation → Type 0 = λ o. HoldsEach (texts_of r) c.order-in-Greater.new.row r.frame.now.places (λ i. values.Number (truth (formulas.order o (number_of (operand_at r c.args.p i)) (number_of (operand_at r c.args.q i))))) in
    subst P (sym c.in-Greater.is) (subst Q c.in-Greater.is c.order-in-Greater.ensures.each)

pub returns-in-GreaterEqual-clause-each : goal.returns-in-GreaterEqual-clause-each
unfolding of_two
returns-in-GreaterEqual-clause-each c =
    let r = c.args.self.now in
    let P : ValueOperation → Type 0 = λ o. HoldsEach (texts_of r) c.order-in-GreaterEqual.new.row r.frame.now.places (work_at r (works.Two o c.args.p c.args.q)) in
    let Q : ValueOperation → Type 0 = λ o. HoldsEach (texts_of r) c.order-in-GreaterEqual.new.row r.frame.now.places (λ i. values.Number (truth (formulas.order o (number_of (operand_at r c.args.p i)) (number_of (operand_at r c.args.q i))))) in
    subst P (sym c.in-GreaterEqual.is) (subst Q c.in-GreaterEqual.is c.order-in-GreaterEqual.ensures.each)

pub returns-in-Add-clause-each : goal.returns-in-Add-clause-each
unfolding of_two
returns-in-Add-clause-each c =
    let r = c.args.self.now in
    let P : ValueOperation → Type 0 = λ o. HoldsEach (texts_of r) c.by_parts.new.row r.frame.now.places (work_at r (works.Two o c.args.p c.args.q)) in
    let Q : ValueOperation → Type 0 = λ o. HoldsEach (texts_of r) c.by_parts.new.row r.frame.now.places (λ i. by_parts (formulas.parts o) (operand_at r c.args.p i) (operand_at r c.args.q i)) in
    subst P (sym c.in-Add.is) (subst Q c.in-Add.is c.by_parts.ensures.each)

pub returns-in-Subtract-clause-each : goal.returns-in-Subtract-clause-each
unfolding of_two
returns-in-Subtract-clause-each c =
    let r = c.args.self.now in
    let P : ValueOperation → Type 0 = λ o. HoldsEach (texts_of r) c.by_parts-in-Subtract.new.row r.frame.now.places (work_at r (works.Two o c.args.p c.args.q)) in
    let Q : ValueOperation → Type 0 = λ o. HoldsEach (texts_of r) c.by_parts-in-Subtract.new.row r.frame.now.places (λ i. by_parts (formulas.parts o) (operand_at r c.args.p i) (operand_at r c.args.q i)) in
    subst P (sym c.in-Subtract.is) (subst Q c.in-Subtract.is c.by_parts-in-Subtract.ensures.each)

pub returns-in-Multiply-clause-each : goal.returns-in-Multiply-clause-each
unfolding of_two
returns-in-Multiply-clause-each c =
    let r = c.args.self.now in
    let P : ValueOperation → Type 0 = λ o. HoldsEach (texts_of r) c.by_parts-in-Multiply.new.row r.frame.now.places (work_at r (works.Two o c.args.p c.args.q)) in
    let Q : ValueOperation → Type 0 = λ o. HoldsEach (texts_of r) c.by_parts-in-Multiply.new.row r.frame.now.places (λ i. by_parts (formulas.parts o) (operand_at r c.args.p i) (operand_at r c.args.q i)) in
    subst P (sym c.in-Multiply.is) (subst Q c.in-Multiply.is c.by_parts-in-Multiply.ensures.each)

pub returns-in-Divide-clause-each : goal.returns-in-Divide-clause-each
unfolding of_two
returns-in-Divide-clause-each c =
    let r = c.args.self.now in
    let P : ValueOperation → Type 0 = λ o. HoldsEach (texts_of r) c.by_parts-in-Divide.new.row r.frame.now.places (work_at r (works.Two o c.args.p c.args.q)) in
    let Q : ValueOperation → Type 0 = λ o. HoldsEach (texts_of r) c.by_parts-in-Divide.new.row r.frame.now.places (λ i. by_parts (formulas.parts o) (operand_at r c.args.p i) (operand_at r c.args.q i)) in
    subst P (sym c.in-Divide.is) (subst Q c.in-Divide.is c.by_parts-in-Divide.ensures.each)

pub returns-in-Min-clause-each : goal.returns-in-Min-clause-each
unfolding of_two
returns-in-Min-clause-each c =
    let r = c.args.self.now in
    let P : ValueOperation → Type 0 = λ o. HoldsEach (texts_of r) c.by_parts-in-Min.new.row r.frame.now.places (work_at r (works.Two o c.args.p c.args.q)) in
    let Q : ValueOperation → Type 0 = λ o. HoldsEach (texts_of r) c.by_parts-in-Min.new.row r.frame.now.places (λ i. by_parts (formulas.parts o) (operand_at r c.args.p i) (operand_at r c.args.q i)) in
    subst P (sym c.in-Min.is) (subst Q c.in-Min.is c.by_parts-in-Min.ensures.each)

pub returns-in-Max-clause-each : goal.returns-in-Max-clause-each
unfolding of_two
returns-in-Max-clause-each c =
    let r = c.args.self.now in
    let P : ValueOperation → Type 0 = λ o. HoldsEach (texts_of r) c.by_parts-in-Max.new.row r.frame.now.places (work_at r (works.Two o c.args.p c.args.q)) in
    let Q : ValueOperation → Type 0 = λ o. HoldsEach (texts_of r) c.by_parts-in-Max.new.row r.frame.now.places (λ i. by_parts (formulas.parts o) (operand_at r c.args.p i) (operand_at r c.args.q i)) in
    subst P (sym c.in-Max.is) (subst Q c.in-Max.is c.by_parts-in-Max.ensures.each)

pub returns-in-Mod-clause-each : goal.returns-in-Mod-clause-each
unfolding of_two
returns-in-Mod-clause-each c =
    let r = c.args.self.now in
    let P : ValueOperation → Type 0 = λ o. HoldsEach (texts_of r) c.by_parts-in-Mod.new.row r.frame.now.places (work_at r (works.Two o c.args.p c.args.q)) in
    let Q : ValueOperation → Type 0 = λ o. HoldsEach (texts_of r) c.by_parts-in-Mod.new.row r.frame.now.places (λ i. by_parts (formulas.parts o) (operand_at r c.args.p i) (operand_at r c.args.q i)) in
    subst P (sym c.in-Mod.is) (subst Q c.in-Mod.is c.by_parts-in-Mod.ensures.each)

pub returns-in-Or-clause-each : goal.returns-in-Or-clause-each
unfolding of_two
returns-in-Or-clause-each c =
    let r = c.args.self.now in
    let P : ValueOperation → Type 0 = λ o. HoldsEach (texts_of r) c.number_of_two.new.row r.frame.now.places (work_at r (works.Two o c.args.p c.args.q)) in
    subst P (sym c.in-Or.is) c.number_of_two.ensures.each

pub returns-in-And-clause-each : goal.returns-in-And-clause-each
unfolding of_two
returns-in-And-clause-each c =
    let r = c.args.self.now in
    let P : ValueOperation → Type 0 = λ o. HoldsEach (texts_of r) c.number_of_two-in-And.new.row r.frame.now.places (work_at r (works.Two o c.args.p c.args.q)) in
    subst P (sym c.in-And.is) c.number_of_two-in-And.ensures.each

pub returns-in-Pow-clause-each : goal.returns-in-Pow-clause-each
unfolding of_two
returns-in-Pow-clause-each c =
    let r = c.args.self.now in
    let P : ValueOperation → Type 0 = λ o. HoldsEach (texts_of r) c.number_of_two-in-Pow.new.row r.frame.now.places (work_at r (works.Two o c.args.p c.args.q)) in
    subst P (sym c.in-Pow.is) c.number_of_two-in-Pow.ensures.each

pub returns-in-Dot-clause-each : goal.returns-in-Dot-clause-each
unfolding of_two
returns-in-Dot-clause-each c =
    let r = c.args.self.now in
    let P : ValueOperation → Type 0 = λ o. HoldsEach (texts_of r) c.number_of_triples.new.row r.frame.now.places (work_at r (works.Two o c.args.p c.args.q)) in
    subst P (sym c.in-Dot.is) c.number_of_triples.ensures.each

pub returns-in-Step-clause-each : goal.returns-in-Step-clause-each
unfolding of_two
returns-in-Step-clause-each c =
    let r = c.args.self.now in
    let P : ValueOperation → Type 0 = λ o. HoldsEach (texts_of r) c.number_of_two-in-Step.new.row r.frame.now.places (work_at r (works.Two o c.args.p c.args.q)) in
    subst P (sym c.in-Step.is) c.number_of_two-in-Step.ensures.each

pub returns-in-Distance-clause-each : goal.returns-in-Distance-clause-each
unfolding of_two
returns-in-Distance-clause-each c =
    let r = c.args.self.now in
    let P : ValueOperation → Type 0 = λ o. HoldsEach (texts_of r) c.number_of_triples-in-Distance.new.row r.frame.now.places (work_at r (works.Two o c.args.p c.args.q)) in
    subst P (sym c.in-Distance.is) c.number_of_triples-in-Distance.ensures.each

pub returns-in-Cross-clause-each : goal.returns-in-Cross-clause-each
unfolding of_two
returns-in-Cross-clause-each c =
    let r = c.args.self.now in
    let P : ValueOperation → Type 0 = λ o. HoldsEach (texts_of r) c.triple_of_two.new.row r.frame.now.places (work_at r (works.Two o c.args.p c.args.q)) in
    subst P (sym c.in-Cross.is) c.triple_of_two.ensures.each

pub returns-in-Reflect-clause-each : goal.returns-in-Reflect-clause-each
unfolding of_two
returns-in-Reflect-clause-each c =
    let r = c.args.self.now in
    let P : ValueOperation → Type 0 = λ o. HoldsEach (texts_of r) c.triple_of_two-in-Reflect.new.row r.frame.now.places (work_at r (works.Two o c.args.p c.args.q)) in
    subst P (sym c.in-Reflect.is) c.triple_of_two-in-Reflect.ensures.each
