use Rattle.std.proofs.Common.{◌≡◌, ◌∙◌, ap, refl, arith}
use Rattle.std.specs.List.{range_with_len}
use Rattle.mesh_basis.proofs.Runs.{list_next}
use Rattle.scene_parts.proofs.Runs.{map_same}
use Rattle.scene_parts.proofs.faces.below.Goals as goal

pub loop-k-preserved : goal.loop-k-preserved
loop-k-preserved c = list_next (λ j. j) c.loop-k.k c.loop-k.all.items _ c.loop-k.k c.in_ok-push.ensures.items refl c.loop-k.invariant

pub returns : goal.returns
returns c =
    let last : c.loop-k.k ≡ c.args.n = omega arith in
    c.loop-k.invariant ∙ map_same (range_with_len 0 c.loop-k.k) ∙ ap (range_with_len 0) last
