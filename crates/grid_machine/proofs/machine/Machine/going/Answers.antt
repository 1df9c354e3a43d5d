use Rattle.std.proofs.Common.{false, get_or, ap, ◌∙◌, arith}
use Rattle.std.specs.Prelude.{◌&&◌, nat_lt}
use Rattle.builtins.specs.Values.{is_true}
use Rattle.std.proofs.lemmas.List.{length-set}
use Rattle.grid_code.specs.Masked.{read, going}
use Rattle.grid_machine.specs.State.{state_of}
use Rattle.place_rows.proofs.Sets.{set_next}
use Rattle.grid_machine.proofs.machine.Machine.going.Goals as goal

pub loop-place-preserved : goal.loop-place-preserved
loop-place-preserved c =
    let m = c.args.self.now in
    let s = state_of m in
    let j = c.loop-place.place in
    let inv = c.loop-place.invariant in
    let few = m.registers.frame.now.few in
    let is = c.both.ensures ∙ ap (λ b. get_or m.live.places j false && b)
    (c.both-pays.ensures ∙ ap (λ b. b && c.is_positive.result) (c.tests-set.ensures j c.loop-place-test.true)
    ∙ ap (λ b. is_true (read s c.args.test j) && b) (c.is_positive.ensures ∙ ap (nat_lt 0) c.budget.ensures)) in
    (length-set _ _ _ ∙ inv.0, set_next c.loop-place.mask.places j c.both.result false (going c.args.uniform c.args.test s) (let z = inv.0 in omega arith) is inv.1)
