use Rattle.std.proofs.Common.{◌∙◌, ap, sym, ◌*◌}
use Rattle.mesh_basis.specs.Meshes.{patch_at, or_far}
use Rattle.mesh_basis.proofs.Runs.{run_next, run_none, run_end}
use Rattle.mesh_basis.proofs.meshes.patches.Goals as goal

pub returns-in_default : goal.returns-in_default
returns-in_default c =
    let f = patch_at c.args.points.now c.args.shape.now c.args.counts.along_u in
    ap or_far (run_none f c.loop-k.k (c.args.counts.along_u * c.args.counts.along_v) c.loop-k.patches.items _ c.loop-k-test.true (sym c.patch_at.ensures ∙ c.in_default.is) c.loop-k.invariant)

pub loop-k-preserved : goal.loop-k-preserved
loop-k-preserved c =
    let f = patch_at c.args.points.now c.args.shape.now c.args.counts.along_u in
    run_next f c.loop-k.k (c.args.counts.along_u * c.args.counts.along_v) c.loop-k.patches.items _ c.in-Some.patch _ c.loop-k-test.true (sym c.patch_at.ensures ∙ c.in-Some.is) c.in_ok-push.ensures.items c.loop-k.invariant

pub returns : goal.returns
returns c =
    let f = patch_at c.args.points.now c.args.shape.now c.args.counts.along_u in
    ap or_far (run_end f c.loop-k.k (c.args.counts.along_u * c.args.counts.along_v) c.loop-k.patches.items _ c.loop-k-test.false c.loop-k.invariant)
