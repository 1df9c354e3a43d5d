use Rattle.std.proofs.Common.{rules, subst, sym, ◌^◌}
use Rattle.fixed_math.specs.declared.vec3.Vec3.{Vec3}
use Rattle.fixed_math.specs.Axes.{AreWithin}
use Rattle.moving.specs.Ways.{place_on_way}
use Rattle.primitives.proofs.OnWays.{all_zipped, ways_within}
use Rattle.primitives.proofs.ways.array_on_way.Goals as goal

pub returns-clause-value : goal.returns-clause-value
returns-clause-value g c =
    all_zipped (λ (ends : Vec3 × Vec3). place_on_way c.args.steps ends.0 ends.1) c.loop-k.points c.args.first.now c.args.last.now (search rules) (search rules) (λ k d h. c.loop-k.invariant.1 k d (search rules))

pub returns-clause-small : goal.returns-clause-small
returns-clause-small g c =
    subst (AreWithin (2 ^ 30)) (sym (returns-clause-value g c)) (ways_within c.args.steps (2 ^ 30) c.args.first.now c.args.last.now c.requires.steps c.requires.first c.requires.last)
