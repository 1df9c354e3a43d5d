use Rattle.std.proofs.Common.{refl, sym, subst}
use Rattle.sl_ast.specs.declared.operations.ValueOperation.{ValueOperation}
use Rattle.sl_ast.specs.declared.typed.Value.TheVariants as values
use Rattle.builtins.specs.Formulas as formulas
use Rattle.builtins.specs.Values.{number_of, by_part}
use Rattle.builtins.specs.Table.{of_one}
use Rattle.grid_registers.specs.declared.operand.Work.TheVariants as works
use Rattle.grid_registers.specs.Operands.{operand_at, work_at}
use Rattle.grid_registers.specs.Held.{texts_of, HoldsEach}
use Rattle.grid_registers.proofs.registers.Registers.one.Goals as goal

pub returns-in-Negate-clause-each : goal.returns-in-Negate-clause-each
unfolding of_one
returns-in-Negate-clause-each c =
    let r = c.args.self.now in
    let P : ValueOperation → Type 0 = λ o. HoldsEach (texts_of r) c.by_part.new.row r.frame.now.places (work_at r (works.One o c.args.p)) in
    let Q : ValueOperation → Type 0 = λ o. HoldsEach (texts_of r) c.by_part.new.row r.frame.now.places (λ i. by_part (formulas.part o) (operand_at r c.args.p i)) in
    subst P (sym c.in-Negate.is) (subst Q c.in-Negate.is c.by_part.ensures.each)

pub returns-in-Abs-clause-each : goal.returns-in-Abs-clause-each
unfolding of_one
returns-in-Abs-clause-each c =
    let r = c.args.self.now in
    let P : ValueOperation → Type 0 = λ o. HoldsEach (texts_of r) c.by_part-in-Abs.new.row r.frame.now.places (work_at r (works.One o c.args.p)) in
    let Q : ValueOperation → Type 0 = λ o. HoldsEach (texts_of r) c.by_part-in-Abs.new.row r.frame.now.places (λ i. by_part (formulas.part o) (operand_at r c.args.p i)) in
    subst P (sym c.in-Abs.is) (subst Q c.in-Abs.is c.by_part-in-Abs.ensures.each)

pub returns-in-Sign-clause-each : goal.returns-in-Sign-clause-each
unfolding of_one
returns-in-Sign-clause-each c =
    let r = c.args.self.now in
    let P : ValueOperation → Type 0 = λ o. HoldsEach (texts_of r) c.by_part-in-Sign.new.row r.frame.now.places (work_at r (works.One o c.args.p)) in
    let Q : ValueOperation → Type 0 = λ o. HoldsEach (texts_of r) c.by_part-in-Sign.new.row r.frame.now.places (λ i. by_part (formulas.part o) (operand_at r c.args.p i)) in
    subst P (sym c.in-Sign.is) (subst Q c.in-Sign.is c.by_part-in-Sign.ensures.each)

pub returns-in-Floor-clause-each : goal.returns-in-Floor-clause-each
unfolding of_one
returns-in-Floor-clause-each c =
    let r = c.args.self.now in
    let P : ValueOperation → Type 0 = λ o. HoldsEach (texts_of r) c.by_part-in-Floor.new.row r.frame.now.places (work_at r (works.One o c.args.p)) in
    let Q : ValueOperation → Type 0 = λ o. HoldsEach (texts_of r) c.by_part-in-Floor.new.row r.frame.now.places (λ i. by_part (formulas.part o) (operand_at r c.args.p i)) in
    subst P (sym c.in-Floor.is) (subst Q c.in-Floor.is c.by_part-in-Floor.ensures.each)

pub returns-in-Ceil-clause-each : goal.returns-in-Ceil-clause-each
unfolding of_one
returns-in-Ceil-clause-each c =
    let r = c.args.self.now in
    let P : ValueOperation → Type 0 = λ o. HoldsEach (texts_of r) c.by_part-in-Ceil.new.row r.frame.now.places (work_at r (works.One o c.args.p)) in
    let Q : ValueOperation → Type 0 = λ o. HoldsEach (texts_of r) c.by_part-in-Ceil.new.row r.frame.now.places (λ i. by_part (formulas.part o) (operand_at r c.args.p i)) in
    subst P (sym c.in-Ceil.is) (subst Q c.in-Ceil.is c.by_part-in-Ceil.ensures.each)

pub returns-in-Round-clause-each : goal.returns-in-Round-clause-each
unfolding of_one
returns-in-Round-clause-each c =
    let r = c.args.self.now in
    let P : ValueOperation → Type 0 = λ o. HoldsEach (texts_of r) c.by_part-in-Round.new.row r.frame.now.places (work_at r (works.One o c.args.p)) in
    let Q : ValueOperation → Type 0 = λ o. HoldsEach (texts_of r) c.by_part-in-Round.new.row r.frame.now.places (λ i. by_part (formulas.part o) (operand_at r c.args.p i)) in
    subst P (sym c.in-Round.is) (subst Q c.in-Round.is c.by_part-in-Round.ensures.each)

pub returns-in-Sin-clause-each : goal.returns-in-Sin-clause-each
unfolding of_one
returns-in-Sin-clause-each c =
    let r = c.args.self.now in
    let P : ValueOperation → Type 0 = λ o. HoldsEach (texts_of r) c.number_by.new.row r.frame.now.places (work_at r (works.One o c.args.p)) in
    let Q : ValueOperation → Type 0 = λ o. HoldsEach (texts_of r) c.number_by.new.row r.frame.now.places (λ i. values.Number (formulas.number o (number_of (operand_at r c.args.p i)))) in
    subst P (sym c.in-Sin.is) (subst Q c.in-Sin.is c.number_by.ensures.each)

pub returns-in-Cos-clause-each : goal.returns-in-Cos-clause-each
unfolding of_one
returns-in-Cos-clause-each c =
    let r = c.args.self.now in
    let P : ValueOperation → Type 0 = λ o. HoldsEach (texts_of r) c.number_by-in-Cos.new.row r.frame.now.places (work_at r (works.One o c.args.p)) in
    let Q : ValueOperation → Type 0 = λ o. HoldsEach (texts_of r) c.number_by-in-Cos.new.row r.frame.now.places (λ i. values.Number (formulas.number o (number_of (operand_at r c.args.p i)))) in
    subst P (sym c.in-Cos.is) (subst Q c.in-Cos.is c.number_by-in-Cos.ensures.each)

pub returns-in-Tan-clause-each : goal.returns-in-Tan-clause-each
unfolding of_one
returns-in-Tan-clause-each c =
    let r = c.args.self.now in
    let P : ValueOperation → Type 0 = λ o. HoldsEach (texts_of r) c.number_by-in-Tan.new.row r.frame.now.places (work_at r (works.One o c.args.p)) in
    let Q : ValueOperation → Type 0 = λ o. HoldsEach (texts_of r) c.number_by-in-Tan.new.row r.frame.now.places (λ i. values.Number (formulas.number o (number_of (operand_at r c.args.p i)))) in
    subst P (sym c.in-Tan.is) (subst Q c.in-Tan.is c.number_by-in-Tan.ensures.each)

pub returns-in-Sqrt-clause-each : goal.returns-in-Sqrt-clause-each
unfolding of_one
returns-in-Sqrt-clause-each c =
    let r = c.args.self.now in
    let P : ValueOperation → Type 0 = λ o. HoldsEach (texts_of r) c.number_by-in-Sqrt.new.row r.frame.now.places (work_at r (works.One o c.args.p)) in
    let Q : ValueOperation → Type 0 = λ o. HoldsEach (texts_of r) c.number_by-in-Sqrt.new.row r.frame.now.places (λ i. values.Number (formulas.number o (number_of (operand_at r c.args.p i)))) in
    subst P (sym c.in-Sqrt.is) (subst Q c.in-Sqrt.is c.number_by-in-Sqrt.ensures.each)

pub returns-in-InverseSqrt-clause-each : goal.returns-in-InverseSqrt-clause-each
unfolding of_one
returns-in-InverseSqrt-clause-each c =
    let r = c.args.self.now in
    let P : ValueOperation → Type 0 = λ o. HoldsEach (texts_of r) c.number_by-in-InverseSqrt.new.row r.frame.now.places (work_at r (works.One o c.args.p)) in
    let Q : ValueOperation → Type 0 = λ o. HoldsEach (texts_of r) c.number_by-in-InverseSqrt.new.row r.frame.now.places (λ i. values.Number (formulas.number o (number_of (operand_at r c.args.p i)))) in
    subst P (sym c.in-InverseSqrt.is) (subst Q c.in-InverseSqrt.is c.number_by-in-InverseSqrt.ensures.each)

pub returns-in-Exp-clause-each : goal.returns-in-Exp-clause-each
unfolding of_one
returns-in-Exp-clause-each c =
    let r = c.args.self.now in
    let P : ValueOperation → Type 0 = λ o. HoldsEach (texts_of r) c.number_by-in-Exp.new.row r.frame.now.places (work_at r (works.One o c.args.p)) in
    let Q : ValueOperation → Type 0 = λ o. HoldsEach (texts_of r) c.number_by-in-Exp.new.row r.frame.now.places (λ i. values.Number (formulas.number o (number_of (operand_at r c.args.p i)))) in
    subst P (sym c.in-Exp.is) (subst Q c.in-Exp.is c.number_by-in-Exp.ensures.each)

pub returns-in-Log-clause-each : goal.returns-in-Log-clause-each
unfolding of_one
returns-in-Log-clause-each c =
    let r = c.args.self.now in
    let P : ValueOperation → Type 0 = λ o. HoldsEach (texts_of r) c.number_by-in-Log.new.row r.frame.now.places (work_at r (works.One o c.args.p)) in
    let Q : ValueOperation → Type 0 = λ o. HoldsEach (texts_of r) c.number_by-in-Log.new.row r.frame.now.places (λ i. values.Number (formulas.number o (number_of (operand_at r c.args.p i)))) in
    subst P (sym c.in-Log.is) (subst Q c.in-Log.is c.number_by-in-Log.ensures.each)

pub returns-in-Radians-clause-each : goal.returns-in-Radians-clause-each
unfolding of_one
returns-in-Radians-clause-each c =
    let r = c.args.self.now in
    let P : ValueOperation → Type 0 = λ o. HoldsEach (texts_of r) c.number_by-in-Radians.new.row r.frame.now.places (work_at r (works.One o c.args.p)) in
    let Q : ValueOperation → Type 0 = λ o. HoldsEach (texts_of r) c.number_by-in-Radians.new.row r.frame.now.places (λ i. values.Number (formulas.number o (number_of (operand_at r c.args.p i)))) in
    subst P (sym c.in-Radians.is) (subst Q c.in-Radians.is c.number_by-in-Radians.ensures.each)

pub returns-in-Degrees-clause-each : goal.returns-in-Degrees-clause-each
unfolding of_one
returns-in-Degrees-clause-each c =
    let r = c.args.self.now in
    let P : ValueOperation → Type 0 = λ o. HoldsEach (texts_of r) c.number_by-in-Degrees.new.row r.frame.now.places (work_at r (works.One o c.args.p)) in
    let Q : ValueOperation → Type 0 = λ o. HoldsEach (texts_of r) c.number_by-in-Degrees.new.row r.frame.now.places (λ i. values.Number (formulas.number o (number_of (operand_at r c.args.p i)))) in
    subst P (sym c.in-Degrees.is) (subst Q c.in-Degrees.is c.number_by-in-Degrees.ensures.each)

pub returns-in-Not-clause-each : goal.returns-in-Not-clause-each
unfolding of_one
returns-in-Not-clause-each c =
    let r = c.args.self.now in
    let P : ValueOperation → Type 0 = λ o. HoldsEach (texts_of r) c.number_of_one.new.row r.frame.now.places (work_at r (works.One o c.args.p)) in
    subst P (sym c.in-Not.is) c.number_of_one.ensures.each

pub returns-in-Length-clause-each : goal.returns-in-Length-clause-each
unfolding of_one
returns-in-Length-clause-each c =
    let r = c.args.self.now in
    let P : ValueOperation → Type 0 = λ o. HoldsEach (texts_of r) c.number_of_triple.new.row r.frame.now.places (work_at r (works.One o c.args.p)) in
    subst P (sym c.in-Length.is) c.number_of_triple.ensures.each

pub returns-in-Normalize-clause-each : goal.returns-in-Normalize-clause-each
unfolding of_one
returns-in-Normalize-clause-each c =
    let r = c.args.self.now in
    let P : ValueOperation → Type 0 = λ o. HoldsEach (texts_of r) c.triple_of_one.new.row r.frame.now.places (work_at r (works.One o c.args.p)) in
    subst P (sym c.in-Normalize.is) c.triple_of_one.ensures.each

pub returns-in-XComp-clause-each : goal.returns-in-XComp-clause-each
unfolding of_one
returns-in-XComp-clause-each c =
    let r = c.args.self.now in
    let P : ValueOperation → Type 0 = λ o. HoldsEach (texts_of r) c.component.new.row r.frame.now.places (work_at r (works.One o c.args.p)) in
    subst P (sym c.in-XComp.is) c.component.ensures.each

pub returns-in-YComp-clause-each : goal.returns-in-YComp-clause-each
unfolding of_one
returns-in-YComp-clause-each c =
    let r = c.args.self.now in
    let P : ValueOperation → Type 0 = λ o. HoldsEach (texts_of r) c.component-in-YComp.new.row r.frame.now.places (work_at r (works.One o c.args.p)) in
    subst P (sym c.in-YComp.is) c.component-in-YComp.ensures.each

pub returns-in-ZComp-clause-each : goal.returns-in-ZComp-clause-each
unfolding of_one
returns-in-ZComp-clause-each c =
    let r = c.args.self.now in
    let P : ValueOperation → Type 0 = λ o. HoldsEach (texts_of r) c.component-in-ZComp.new.row r.frame.now.places (work_at r (works.One o c.args.p)) in
    subst P (sym c.in-ZComp.is) c.component-in-ZComp.ensures.each

pub returns-in-Noise-clause-each : goal.returns-in-Noise-clause-each
unfolding of_one
returns-in-Noise-clause-each c =
    let r = c.args.self.now in
    let P : ValueOperation → Type 0 = λ o. HoldsEach (texts_of r) c.noise.new.row r.frame.now.places (work_at r (works.One o c.args.p)) in
    subst P (sym c.in-Noise.is) c.noise.ensures.each

pub transformed-requires-clause-op : goal.transformed-requires-clause-op
unfolding of_one
transformed-requires-clause-op c i = refl

pub transformed-requires-in-VTransform-clause-op : goal.transformed-requires-in-VTransform-clause-op
unfolding of_one
transformed-requires-in-VTransform-clause-op c i = refl

pub transformed-requires-in-NTransform-clause-op : goal.transformed-requires-in-NTransform-clause-op
unfolding of_one
transformed-requires-in-NTransform-clause-op c i = refl
