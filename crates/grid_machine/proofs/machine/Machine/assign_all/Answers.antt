use Rattle.std.proofs.Common.{◌≡◌, ◌<◌, true, length, get_or, sym, ap, ◌∙◌, subst, arith}
use Rattle.std.proofs.lemmas.List.{get_or_default}
use Rattle.builtins.specs.declared.shape.Shape.TheVariants as shapes
use Rattle.builtins.specs.Shapes.{shape}
use Rattle.grid_code.specs.declared.code.Register.{Register}
use Rattle.grid_code.specs.declared.code.Register.TheVariants.{Uniform}
use Rattle.grid_code.specs.Shapes.{register_shape}
use Rattle.grid_code.specs.Uses.{has}
use Rattle.place_values.specs.Cells.{is_known}
use Rattle.grid_machine.specs.State.{state_of}
use Rattle.grid_machine.proofs.Kept.{kept_on, has_kept, written_kept}
use Rattle.grid_machine.proofs.Loads.{same_shapes, map_length, assigning_next, assigned_all}
use Rattle.grid_registers.proofs.Operands.{item_passes}
use Rattle.grid_machine.proofs.machine.Machine.assign_all.Goals as goal

pub assign-requires-clause-shape : goal.assign-requires-clause-shape
assign-requires-clause-shape c = ap shape c.index-values-k.is ∙ same_shapes c.args.values.now c.args.to.now c.loop-k.k _ _ c.loop-k-test.true c.requires.shapes

pub assign-requires-clause-has : goal.assign-requires-clause-has
assign-requires-clause-has c =
    let m = c.args.self.now in
    let f = m.registers.frame.now in
    has_kept m c.loop-k.self (get_or c.args.to.now c.loop-k.k (Uniform shapes.Number 0)) c.loop-k.invariant.0
    (item_passes (has f.varying.now f.uniform.now) c.args.to.now c.loop-k.k (Uniform shapes.Number 0) c.loop-k-test.true c.requires.has)

pub bounds-values-k : goal.bounds-values-k
bounds-values-k c = let e = sym (map_length shape c.args.values.now) ∙ ap length c.requires.shapes ∙ map_length register_shape c.args.to.now in omega arith

pub assign-requires-clause-known : goal.assign-requires-clause-known
assign-requires-clause-known c =
    let e = sym (map_length shape c.args.values.now) ∙ ap length c.requires.shapes ∙ map_length register_shape c.args.to.now in
    subst (λ f. is_known f.now.setting.texts.now c.index-values-k.result ≡ true) (sym c.loop-k.invariant.0.frame)
    (subst (λ v. is_known c.args.self.now.registers.frame.now.setting.texts.now v ≡ true) (sym c.index-values-k.is)
    (item_passes (is_known c.args.self.now.registers.frame.now.setting.texts.now) c.args.values.now c.loop-k.k c.index-values-k.result (omega arith) c.requires.known))

pub returns-clause-kept : goal.returns-clause-kept
returns-clause-kept c = c.loop-k.invariant.0

pub loop-k-preserved : goal.loop-k-preserved
loop-k-preserved c =
    let m = c.args.self.now in
    let f = m.registers.frame.now in
    let now = c.loop-k.self in
    let new = c.assign.new.self in
    let k = c.loop-k.k in
    let rs = c.args.to.now in
    let vs = c.args.values.now in
    let inv = c.loop-k.invariant in
    let x = c.index-values-k.result in
    let q : Register = get_or rs k (Uniform shapes.Number 0) in
    let l = c.loop-k-test.true in
    let lv : k < length vs = let e = sym (map_length shape vs) ∙ ap length c.requires.shapes ∙ map_length register_shape rs in omega arith in
    let pos : 0 < f.places = let s = f.some in omega arith in (
      kept_on m now new inv.0 c.assign.ensures.kept,
      assigning_next f.places f.varying.now f.uniform.now rs vs k q x (state_of m) (state_of now) (state_of new) pos (get_or_default rs k _ q l) c.index-values-k.is l lv inv.1
          (written_kept m now q (λ i. x) (state_of new) inv.0 c.assign.ensures.near),
    )

pub returns-clause-near : goal.returns-clause-near
returns-clause-near c =
    let m = c.args.self.now in
    let f = m.registers.frame.now in
    assigned_all f.places f.varying.now f.uniform.now c.args.to.now c.args.values.now c.loop-k.k (state_of m) (state_of c.loop-k.self) (omega arith) c.loop-k.invariant.1
