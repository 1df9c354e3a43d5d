use Rattle.std.proofs.Common.{sym, subst}
use Rattle.shader_binding.specs.Sets.{bound_for}
use Rattle.displace_shade.specs.Diced.{Hold}
use Rattle.displace_shade.specs.Shaded.{displaced}
use Rattle.displace_shade.specs.Stages.{set_in, uses_in}
use Rattle.displace_shade.proofs.Stages.{stays_hold}
use Rattle.displace_shade.proofs.leaves.placed.Goals as goal

pub returns-in-None-clause-hold : goal.returns-in-None-clause-hold
returns-in-None-clause-hold c =
    let l = c.args.leaf.now in
    let d = c.args.first.now in
    let s = c.args.shaders.now in
    λ before. subst (λ o. Hold l d (displaced l (bound_for (set_in s) (uses_in s) o))) (sym c.in-None.is) (stays_hold l d c.bound-bound.ensures.least before)
