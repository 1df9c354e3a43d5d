use Rattle.std.proofs.Common.{◌≡◌, ◌∙◌, ap, Some, None}
use Rattle.std.specs.Prelude.{ℤ, Option, MatchOption, true}
use Rattle.hider.specs.declared.fragment.Fragment.{Fragment}
use Rattle.hider.specs.Coverage.{mean_at}
use Rattle.hider.specs.Kept.{IsKeptIn, kept_list, keep, is_behind}
use Rattle.hider.proofs.Placing.{kept_behind}
use Rattle.hider.proofs.list.FragmentList.visible_depth.Goals as goal
use Rattle.std.proofs.Common.{List}

behind_all : (m : ℤ) (r : Option ℤ) (front : List Fragment) (back : Option Fragment) → IsKeptIn front back → MatchOption r (is_behind back m ≡ true) (λ z. z ≡ m) →
    MatchOption r ((f : Fragment) → f.depth ≡ m → keep f (kept_list front back) ≡ kept_list front back) (λ z. z ≡ m)
behind_all m None front back k h = λ f e. kept_behind f front back k (ap (is_behind back) e ∙ h)
behind_all m (Some z) front back k h = h

pub returns : goal.returns
returns c =
    let l = c.self.inside in
    rw (← c.self.view_is) (behind_all (mean_at c.args.areas.now c.args.a c.args.b c.args.c) c.depth_before.result l.front.items l.back c.self.invariant c.depth_before.ensures)
