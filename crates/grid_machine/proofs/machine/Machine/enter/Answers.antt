use Rattle.std.proofs.Common.{ℕ, ap, sym, ◌∙◌}
use Rattle.sl_ast.specs.declared.kinds.Predefined.TheVariants as names
use Rattle.sl_ast.specs.declared.typed.Value.{Value}
use Rattle.sl_ast.specs.declared.typed.Value.TheVariants.{Triple}
use Rattle.builtins.specs.Names.{place_of}
use Rattle.builtins.specs.declared.shape.Shape.TheVariants as shapes
use Rattle.grid_code.specs.Masked.{State, write, towards, colour_of}
use Rattle.grid_code.specs.Names.{name_at}
use Rattle.number_rows.specs.Planes.{triple_at}
use Rattle.grid_machine.specs.State.{state_of}
use Rattle.grid_machine.proofs.Kept.{written_kept}
use Rattle.grid_machine.proofs.Live.{write_live}
use Rattle.grid_machine.proofs.Near.{near_on}
use Rattle.grid_machine.proofs.machine.Machine.enter.Goals as goal

pub returns-clause-near : goal.returns-clause-near
returns-clause-near c g f near h =
    let m0 = c.args.self.now in
    let m1 = c.set_triples.new.self in
    let m2 = c.set_triples-2.new.self in
    let r = m0.registers.frame.now in
    let p = r.places in
    let v = r.varying.now in
    let u = r.uniform.now in
    let k1 = c.set_triples.ensures.kept in
    let to : ℕ → Value = λ i. Triple (triple_at c.args.view.now.towards i) in
    let co : ℕ → Value = λ i. Triple (triple_at c.args.view.now.colours i) in
    let g1 : State = write p (name_at names.L) (λ i. towards (f i)) g in
    let n1 = near_on p v u _ _ _ (write_live p v u shapes.Triple (place_of names.L) (λ i. towards (f i)) to g (state_of m0) near (λ i l on. ap towards (h i l on))) c.set_triples.ensures.near in
    near_on p v u _ _ _ (write_live p v u shapes.Triple (place_of names.Cl) (λ i. colour_of (f i)) co g1 (state_of m1) n1 (λ i l on. ap colour_of (h i l (sym (near.live i l) ∙ n1.live i l ∙ on))))
    (written_kept m0 m1 (name_at names.Cl) co (state_of m2) k1 c.set_triples-2.ensures.near)
