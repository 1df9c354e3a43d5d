use Rattle.std.proofs.Common.{ap₂, [], ◌∷◌, get_or, ap, ◌∙◌, arith}
use Rattle.sl_ast.specs.declared.typed.Value.{Value}
use Rattle.builtins.specs.declared.shape.Shape.TheVariants as shapes
use Rattle.builtins.specs.Table.{applied}
use Rattle.grid_code.specs.declared.code.Register.{Register}
use Rattle.grid_code.specs.declared.code.Register.TheVariants.{Uniform}
use Rattle.grid_code.specs.Masked.{read}
use Rattle.grid_code.specs.Uses.{has}
use Rattle.grid_registers.specs.Operands.{operand_at}
use Rattle.grid_registers.specs.Held.{held_by}
use Rattle.grid_registers.proofs.Operands.{item_passes}
use Rattle.grid_registers.proofs.Operands.{applied_one, applied_two, applied_three}
use Rattle.grid_registers.proofs.registers.Registers.application.Goals as goal

pub operand-requires-clause-has : goal.operand-requires-clause-has
operand-requires-clause-has c = let f = c.args.self.now.frame.now in item_passes (has f.varying.now f.uniform.now) c.args.args.now 0 (Uniform shapes.Number 0) (let l = c.in-len1.len_at_least in omega arith) c.requires.has

pub operand-requires-in-len2-clause-has : goal.operand-requires-in-len2-clause-has
operand-requires-in-len2-clause-has c = let f = c.args.self.now.frame.now in item_passes (has f.varying.now f.uniform.now) c.args.args.now 0 (Uniform shapes.Number 0) (let l = c.in-len2.len_at_least in omega arith) c.requires.has

pub operand-requires-in-len2-2-clause-has : goal.operand-requires-in-len2-2-clause-has
operand-requires-in-len2-2-clause-has c = let f = c.args.self.now.frame.now in item_passes (has f.varying.now f.uniform.now) c.args.args.now 1 (Uniform shapes.Number 0) (let l = c.in-len2.len_at_least in omega arith) c.requires.has

pub operand-requires-in-len3-clause-has : goal.operand-requires-in-len3-clause-has
operand-requires-in-len3-clause-has c = let f = c.args.self.now.frame.now in item_passes (has f.varying.now f.uniform.now) c.args.args.now 0 (Uniform shapes.Number 0) (let l = c.in-len3.len_at_least in omega arith) c.requires.has

pub operand-requires-in-len3-2-clause-has : goal.operand-requires-in-len3-2-clause-has
operand-requires-in-len3-2-clause-has c = let f = c.args.self.now.frame.now in item_passes (has f.varying.now f.uniform.now) c.args.args.now 1 (Uniform shapes.Number 0) (let l = c.in-len3.len_at_least in omega arith) c.requires.has

pub operand-requires-in-len3-3-clause-has : goal.operand-requires-in-len3-3-clause-has
operand-requires-in-len3-3-clause-has c = let f = c.args.self.now.frame.now in item_passes (has f.varying.now f.uniform.now) c.args.args.now 2 (Uniform shapes.Number 0) (let l = c.in-len3.len_at_least in omega arith) c.requires.has

pub returns-in-len1-clause-same : goal.returns-in-len1-clause-same
returns-in-len1-clause-same c i =
    let op = c.args.op in
    let sp = c.args.self.now.frame.now.setting.spaces.now in
    let f : Register → Value = λ r. read (held_by c.args.self.now) r i in
    ap (λ x. applied op sp (x ∷ [])) (c.operand.ensures.same i) ∙ applied_one op sp f c.args.args.now (let l = c.in-len1.len_at_least in let b = c.in-len1.len_below in omega arith)

pub returns-in-len2-clause-same : goal.returns-in-len2-clause-same
returns-in-len2-clause-same c i =
    let op = c.args.op in
    let sp = c.args.self.now.frame.now.setting.spaces.now in
    let f : Register → Value = λ r. read (held_by c.args.self.now) r i in
    let p = c.operand-in-len2 in
    let q = c.operand-in-len2-2 in
    ap₂ (λ x y. applied op sp (x ∷ y ∷ [])) (p.ensures.same i) (q.ensures.same i) ∙ applied_two op sp f c.args.args.now (let l = c.in-len2.len_at_least in let b = c.in-len2.len_below in omega arith)

pub returns-in-len3-clause-same : goal.returns-in-len3-clause-same
returns-in-len3-clause-same c i =
    let op = c.args.op in
    let sp = c.args.self.now.frame.now.setting.spaces.now in
    let f : Register → Value = λ r. read (held_by c.args.self.now) r i in
    let p = c.operand-in-len3 in
    let q = c.operand-in-len3-2 in
    let t = c.operand-in-len3-3 in
    ap₂ (λ x y. applied op sp (x ∷ y ∷ operand_at c.args.self.now t.result i ∷ [])) (p.ensures.same i) (q.ensures.same i)
    ∙ ap (λ z. applied op sp (f (get_or c.args.args.now 0 (Uniform shapes.Number 0)) ∷ f (get_or c.args.args.now 1 (Uniform shapes.Number 0)) ∷ z ∷ [])) (t.ensures.same i)
    ∙ applied_three op sp f c.args.args.now (let l = c.in-len3.len_at_least in let b = c.in-len3.len_below in omega arith)
