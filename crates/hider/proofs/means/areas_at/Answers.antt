use Rattle.std.proofs.Common.{◌≡◌, ◌∙◌, to_z, of_z}
use Rattle.std.specs.Int.{w64}
use Rattle.fixed_math.specs.Edges.{edge}
use Rattle.hider.specs.Coverage.{areas_at}
use Rattle.hider.proofs.Between.{areas_weigh, read_area}
use Rattle.hider.proofs.means.areas_at.Goals as goal

pub returns-clause-parts : goal.returns-clause-parts
unfolding areas_at
returns-clause-parts c =
    let a = c.args.a in let b = c.args.b in let d = c.args.c in let s = c.args.s in
    let at_a : to_z w64 (of_z w64 c.edge_at.result) ≡ edge b d s = read_area c.edge_at.result c.edge_at.ensures.bound ∙ c.edge_at.ensures.value in
    let at_b : to_z w64 (of_z w64 c.edge_at-2.result) ≡ edge d a s = read_area c.edge_at-2.result c.edge_at-2.ensures.bound ∙ c.edge_at-2.ensures.value in
    let at_c : to_z w64 (of_z w64 c.edge_at-3.result) ≡ edge a b s = read_area c.edge_at-3.result c.edge_at-3.ensures.bound ∙ c.edge_at-3.ensures.value in
    let whole : to_z w64 (of_z w64 c.edge_at-4.result) ≡ edge a b d = read_area c.edge_at-4.result c.edge_at-4.ensures.bound ∙ c.edge_at-4.ensures.value in
    rw (at_a, at_b, at_c, whole) (areas_weigh a b d s c.requires.inside c.requires.area)
