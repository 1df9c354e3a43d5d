use Rattle.std.proofs.Common.{◌∙◌}
use Rattle.bound_split.proofs.Meetings.{reach-everywhere, reach-within}
use Rattle.bound_split.proofs.extents.reach_of.Goals as goal

pub returns-then-is_before : goal.returns-then-is_before
returns-then-is_before c =
    reach-everywhere c.args.camera.now c.view-view.result.now record { low = c.args.low; high = c.args.high } c.view-view.ensures.value c.if-is_unseen.ensures c.if-is_before.ensures

pub returns : goal.returns
returns c =
    c.reach_within.ensures ∙ reach-within c.args.camera.now c.view-view.result.now record { low = c.args.low; high = c.args.high } c.view-view.ensures.value c.if-is_unseen.ensures c.if-is_before.ensures
