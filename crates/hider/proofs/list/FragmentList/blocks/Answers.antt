use Rattle.std.proofs.Common.{◌∙◌, ap}
use Rattle.hider.specs.Kept.{blocks}
use Rattle.hider.proofs.Placing.{blocks_back}
use Rattle.hider.proofs.list.FragmentList.blocks.Goals as goal

pub returns : goal.returns
returns c =
    let l = c.self.inside in
    c.blocks_by.ensures ∙ blocks_back c.args.z l.front.items l.back c.self.invariant ∙ ap (blocks c.args.z) c.self.view_is
