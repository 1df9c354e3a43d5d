use Rattle.std.proofs.Common.{◌≡◌, ◌+◌, ◌*◌, ◌<◌, ◌≤◌, length, get_or, drop, sym, ap, ◌∙◌, arith, subst}
use Rattle.std.proofs.lemmas.List.{get_or_default}
use Rattle.builtins.specs.declared.shape.Shape.TheVariants as shapes
use Rattle.grid_code.specs.declared.code.Register.{Register}
use Rattle.grid_code.specs.declared.code.Register.TheVariants.{Uniform}
use Rattle.grid_code.specs.Shapes.{register_shape}
use Rattle.grid_code.specs.Uses.{has}
use Rattle.place_rows.specs.Layout.{height}
use Rattle.grid_machine.specs.Run.{rows_of, value_in}
use Rattle.grid_machine.specs.State.{state_of}
use Rattle.grid_machine.proofs.Kept.{kept_on, has_kept, written_kept}
use Rattle.grid_machine.proofs.Loads.{Loading, room_after, loading_next, loaded_all}
use Rattle.grid_registers.proofs.Operands.{item_passes}
use Rattle.grid_machine.proofs.machine.Machine.load_all.Goals as goal

pub load-requires : goal.load-requires
load-requires c =
    let m = c.args.self.now in
    let f = m.registers.frame.now in
    let k = c.loop-k.k in
    let rs = c.args.to.now in
    let w = c.args.width in
    let at = c.loop-k.start in
    let inv = c.loop-k.invariant in
    let q : Register = get_or rs k (Uniform shapes.Number 0) in
    let l = c.loop-k-test.true in
    let left = room_after at k w (length c.args.rows.now) rs q (get_or_default rs k _ q l) l inv.1.0 in
    record {
      whole = inv.0.whole;
      has = has_kept m c.loop-k.self q inv.0 (item_passes (has f.varying.now f.uniform.now) rs k (Uniform shapes.Number 0) l c.requires.has);
      raws = c.requires.raws;
      room = omega arith;
      wide = subst (λ x. x.now.places ≤ w) (sym inv.0.frame) c.requires.wide;
    }

pub overflow_mul-start : goal.overflow_mul-start
overflow_mul-start c =
    let rs = c.args.to.now in
    let k = c.loop-k.k in
    let q : Register = get_or rs k (Uniform shapes.Number 0) in
    let left = room_after c.loop-k.start c.loop-k.k c.args.width (length c.args.rows.now) rs q (get_or_default rs k _ q c.loop-k-test.true) c.loop-k-test.true c.loop-k.invariant.1.0 in
    let tall : height (register_shape q) ≡ c.height_of.result = sym (c.height_of.ensures ∙ ap height c.shape_of.ensures) in
    let room = subst (λ h. c.loop-k.start + h * c.args.width + rows_of (drop (k + 1) rs) * c.args.width ≡ length c.args.rows.now) tall left in
    omega arith

pub overflow_add-start : goal.overflow_add-start
overflow_add-start c =
    let rs = c.args.to.now in
    let k = c.loop-k.k in
    let q : Register = get_or rs k (Uniform shapes.Number 0) in
    let left = room_after c.loop-k.start c.loop-k.k c.args.width (length c.args.rows.now) rs q (get_or_default rs k _ q c.loop-k-test.true) c.loop-k-test.true c.loop-k.invariant.1.0 in
    let tall : height (register_shape q) ≡ c.height_of.result = sym (c.height_of.ensures ∙ ap height c.shape_of.ensures) in
    let room = subst (λ h. c.loop-k.start + h * c.args.width + rows_of (drop (k + 1) rs) * c.args.width ≡ length c.args.rows.now) tall left in
    omega arith

pub returns-clause-kept : goal.returns-clause-kept
returns-clause-kept c = c.loop-k.invariant.0

pub loop-k-preserved : goal.loop-k-preserved
loop-k-preserved c =
    let m = c.args.self.now in
    let f = m.registers.frame.now in
    let now = c.loop-k.self in
    let new = c.load.new.self in
    let k = c.loop-k.k in
    let rs = c.args.to.now in
    let w = c.args.width in
    let rows = c.args.rows.now in
    let at = c.loop-k.start in
    let inv = c.loop-k.invariant in
    let q : Register = get_or rs k (Uniform shapes.Number 0) in
    let l = c.loop-k-test.true in
    let iq : q ≡ get_or rs k q = get_or_default rs k _ q l in
    let pos : 0 < f.places = let s = f.some in omega arith in
    let tall : height (register_shape q) ≡ c.height_of.result = sym (c.height_of.ensures ∙ ap height c.shape_of.ensures) in
    let next = loading_next f.places f.varying.now f.uniform.now w rows rs k at q (state_of m) (state_of now) (state_of new) pos iq l inv.1.1
    (written_kept m now q (λ i. value_in (register_shape q) rows w (at + i)) (state_of new) inv.0 c.load.ensures.near) in
    let left = room_after at k w (length rows) rs q iq l inv.1.0 in (
      kept_on m now new inv.0 c.load.ensures.kept,
      (
        subst (λ h. at + h * w + rows_of (drop (k + 1) rs) * w ≡ length rows) tall left,
        subst (λ h. Loading f.places f.varying.now f.uniform.now w rows rs (k + 1) (at + h * w) (state_of m) (state_of new)) tall next,
      ),
    )

pub returns-clause-near : goal.returns-clause-near
returns-clause-near c =
    let m = c.args.self.now in
    let f = m.registers.frame.now in
    loaded_all f.places f.varying.now f.uniform.now c.args.width c.args.rows.now c.args.to.now c.loop-k.k c.loop-k.start (state_of m) (state_of c.loop-k.self) (omega arith) c.loop-k.invariant.1.1
