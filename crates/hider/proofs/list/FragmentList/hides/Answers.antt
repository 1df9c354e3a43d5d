use Rattle.std.proofs.Common.{◌∙◌, sym}
use Rattle.hider.proofs.Placing.{kept_behind, behind_further}
use Rattle.hider.proofs.list.FragmentList.hides.Goals as goal

pub returns : goal.returns
returns c = λ t f h.
    let l = c.self.inside in
    rw (← c.self.view_is) (kept_behind f l.front.items l.back c.self.invariant (behind_further l.back c.args.z f.depth (sym c.is_behind.ensures ∙ t) h))
